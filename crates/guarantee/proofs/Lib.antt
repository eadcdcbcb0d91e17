-- What an answer promises, proved: over builds, of one input and of more; what each input weighs; over words, after any run of calls; the
-- totals that are reported, the divisor that a build starts at, and instances.
pub mod Answers
pub mod Answered
pub mod Single
pub mod Demand3
pub mod Weights
pub mod Words
pub mod Admitted
pub mod Demand3Words
pub mod Totals
pub mod Starting
pub mod Instances
