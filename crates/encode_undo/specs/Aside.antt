-- What an encode sets aside, so that it can be put back.
use Rattle.std.specs.Prelude.{◌≡◌, List, ℕ, ◌+◌, ◌*◌, ◌-◌, ◌/◌, ◌≤◌, ◌<◌, length, get_or, take, drop}
use Rattle.rules.specs.declared.State.{State}
use Rattle.rules.specs.Build.{buckets_of}
use Rattle.laws.specs.Lists.Facts.{All, occurs}
use Rattle.encode_undo.specs.Copies.{Saved}

-- the waiting records, from record n on, and the buckets lie within the store, and the work slice has room for them
pub record Roomy (s : State) (store work : List ℕ) (n : ℕ) : Type 0 where
  pub begins : n ≤ s.records
  pub few : s.records ≤ n + 256
  pub within : 8 * s.records ≤ length store
  pub long : 16384 ≤ length work
  pub buckets_few : s.buckets_used ≤ 20
  pub buckets_within : All (λ b. 8 * b + 8 ≤ length store) (buckets_of s)

-- the words of the waiting records of o, which begin at record n, stand at the front of the work slice, and behind them those of the
-- buckets
pub record Aside (s : State) (o work : List ℕ) (n : ℕ) : Type 0 where
  pub long : 16384 ≤ length work
  pub words : take (8 * (s.records - n)) work ≡ take (8 * (s.records - n)) (drop (8 * n) o)
  pub saved : Saved o work s.buckets s.buckets_used

-- the words before those of the waiting records are those of o, but for the buckets' records
pub record Kept (s : State) (o store : List ℕ) (n : ℕ) : Type 0 where
  pub same_length : length store ≡ length o
  pub others : (i : ℕ) → i < 8 * n → occurs (i / 8) (buckets_of s) ≡ 0 → get_or store i 0 ≡ get_or o i 0
