-- What the promises on pairs cite beside the rules and the relation of records.
pub mod Spread
