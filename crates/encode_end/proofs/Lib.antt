-- How an encode ends: the order of its refusals, the room it needs, the state it leaves.
pub mod Ends
pub mod Room
pub mod States
pub mod Finals
pub mod Determined
