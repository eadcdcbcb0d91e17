-- What the contracts of appending cite beside the relation.
pub mod Fresh
pub mod Made
