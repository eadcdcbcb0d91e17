-- What an answer reads of a build in words.
use Rattle.std.specs.Prelude.{◌≡◌, List, ℕ}
use Rattle.rules.specs.Records.{Record, node_at, entries}
use Rattle.rules.specs.Totalizer.{number_of}
use Rattle.rules.specs.Build.{Build}
use Rattle.records.specs.Carries.{Stores}

-- the words store records with the nodes, outputs and entries of the build
pub record Stored (b : Build) (store : List ℕ) (records : ℕ) : Type 0 where
  pub rs : List Record
  pub stores : Stores store records rs
  pub node_is : (n : ℕ) → node_at b.arena.records n ≡ node_at rs n
  pub number_is : (n v : ℕ) → number_of b.arena.records n v ≡ number_of rs n v
  pub queue_is : b.queue ≡ entries rs
