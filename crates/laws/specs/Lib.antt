-- Laws of document 01's definitions, in the order in which they are read.
pub mod Lists
pub mod Numbers
pub mod Records
pub mod Combined
pub mod WellFormed
pub mod Totalizer
pub mod Queue
pub mod Buckets
pub mod Refinement
pub mod Encode
pub mod Coarse
