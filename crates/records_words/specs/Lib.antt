-- Words read, written and laid over others.
pub mod Words
