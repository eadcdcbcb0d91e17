-- What lent words carry, what the readers answer, and the word-level steps of the leaves.
pub mod Words
pub mod Readers
pub mod Carries
