-- Words against builds: where calls lead memory, its clauses, what enforce answers.
pub mod Goes
pub mod Reads
pub mod Enforced
