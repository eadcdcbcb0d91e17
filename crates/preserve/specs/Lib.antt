-- What accepted calls leave is well formed again.
pub mod Starts
pub mod Begins
pub mod Sets
pub mod Given
pub mod Gathered
pub mod FirstBuild
pub mod Arenas
pub mod Refinement
pub mod RefinementWhole
pub mod Encodes
pub mod Reaches
pub mod Altered
pub mod Sounds
pub mod Sizes
