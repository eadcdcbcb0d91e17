-- Entries by their words: a node at a, its weight at b, the next ones `apart` words further on.
use Rattle.std.specs.Prelude.{List, [], ◌∷◌, ◌++◌, map, ℕ, zero, suc, ◌+◌, ◌≤◌, get_or}
use Rattle.rules.specs.Records.{Entry, waiting}
use Rattle.rules.specs.Totalizer.{Arena}
use Rattle.rules.specs.Build.{Build}
use Rattle.records.specs.Carries.{with_records}
use Rattle.encode_outputs.specs.declared.Places.{Places}

unfoldable pub entries_by : List ℕ → ℕ → ℕ → ℕ → ℕ → List Entry
entries_by ws a b apart zero = []
entries_by ws a b apart (suc k) = record { node = get_or ws a 0; weight = get_or ws b 0 } ∷ entries_by ws (a + apart) (b + apart) apart k

unfoldable pub entries_at : List ℕ → Places → List Entry
unfolding entries_by
entries_at ws p = entries_by ws p.node p.weight p.apart p.many

-- places within a work slice
pub record Near (p : Places) : Type 0 where
  pub node_low : p.node ≤ 16384
  pub weight_low : p.weight ≤ 16384
  pub apart_few : p.apart ≤ 8
  pub many_few : p.many ≤ 512

-- the arena with these entries behind its records
unfoldable pub with_waiting : List Entry → Arena → Arena
unfolding with_records
with_waiting es t = with_records t (t.records ++ map waiting es)

-- the nodes and outputs of a build, and then what waits
unfoldable pub whole : Build → Arena
unfolding with_waiting
whole c = with_waiting c.queue c.arena
