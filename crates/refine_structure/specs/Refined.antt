-- What a refinement needs and what it promises.
use Rattle.std.specs.Prelude.{◌≡◌, ◌≢◌, true, Option, IfSome, List, map, reverse, ℕ, ◌+◌, ◌-◌, ◌≤◌, ◌<◌, length, take, ℤ}
use Rattle.rules.specs.declared.State.{State}
use Rattle.rules.specs.Lists.{sort, in_turn}
use Rattle.rules.specs.Digits.{top_bit}
use Rattle.rules.specs.Records.{Record, outputs}
use Rattle.rules.specs.Totalizer.{Arena}
use Rattle.rules.specs.Build.{Build, largest, build_of}
use Rattle.rules.specs.Queue.{heavier}
use Rattle.rules.specs.Refinement.{relink, former_half, extend_bucket, merge_structures}
use Rattle.laws.specs.Lists.Facts.{All, occurs}
use Rattle.laws.specs.Records.Places.{place}
use Rattle.laws.specs.WellFormed.Plain.{WellFormed}
use Rattle.records.specs.declared.Marks.{Marks}
use Rattle.records.specs.Carries.{St, Fits, Carries, with_records}
use Rattle.build_line.specs.Work.{line, count_at}
use Rattle.build_begin.specs.declared.Structure.{Structure}
use Rattle.build_begin.specs.Named.{marks_at, Named}
use Rattle.refine_structure.specs.Based.{Based}

-- how many powers a refinement adds below the old ones; each gets a new tare
unfoldable pub added : State → ℕ
unfolding top_bit
added s = top_bit s.built - top_bit s.set

-- how many tares have no bucket
unfoldable pub spare : State → ℕ
spare s = s.tares_used + 1 - s.buckets_used

-- the state's powers, tares and buckets lie within the slots, with those that a refinement adds
pub record Spans (s : State) : Type 0 where
  pub finer : top_bit s.set ≤ top_bit s.built
  pub low : top_bit s.built + s.tares_used ≤ 19
  pub some : 1 ≤ s.buckets_used
  pub few : s.buckets_used ≤ s.tares_used + 1

-- the buckets bs linked, from the last to the first, the last to `below`; then each output of theirs that was defined when the records
-- were `before` extended
unfoldable pub renew : List Record → List ℕ → ℕ → Arena → Arena
unfolding with_records relink in_turn extend_bucket
renew before bs below t = in_turn (extend_bucket before) (with_records t (relink t.records below (reverse bs))) (reverse bs)

-- what renewing the buckets bs of t reads is right: the first `old` records have the outputs of `before`
pub record Right (bs : List ℕ) (old below : ℕ) (halves : List ℕ) (before : List Record) (d : ℕ) (t : Arena) : Type 0 where
  pub there : All (λ b. place t.records b ≡ true) bs
  pub once : (n : ℕ) → occurs n bs ≤ 1
  pub enough : old ≤ length t.records
  pub same : outputs (take old t.records) ≡ outputs before
  pub halves_are : halves ≡ map (former_half before) bs
  pub below_is : below ≡ d

-- where t fits it is; and t fits where it does renewed
pub record Renewable (bs : List ℕ) (e σ : St) (old below : ℕ) (halves : List ℕ) (before : List Record) (d : ℕ) (t : Arena) : Type 0 where
  pub carries : Carries e σ t
  pub fits : Fits e (renew before bs d t) → Fits e t
  pub right : Fits e t → Right bs old below halves before d t

-- τ carries t over an entry that is e but for the buckets' records, changed in place
pub record Renews (bs : List ℕ) (e τ : St) (t : Arena) : Type 0 where
  pub entry : St
  pub places : ℕ
  pub based : Based bs e entry places
  pub within : places ≤ length t.records
  pub carries : Carries entry τ t

-- a well formed build that is due for a refinement; its queue is the line at h of the work words, and no bucket has a member yet
pub record Refinable (s : State) (store : List ℕ) (clauses : List ℤ) (work : List ℕ) (m : Marks) (h : ℕ) : Type 0 where
  pub well : WellFormed s store clauses
  pub built : s.built ≢ 0
  pub reach : s.set ≤ largest (build_of s store).queue
  pub marks_are : m ≡ marks_at s (length (build_of s store).arena.records)
  pub long : 13312 ≤ length work
  pub head : h ≤ 512
  pub queue_is : line work h ≡ sort heavier (build_of s store).queue
  pub none : (k : ℕ) → k < 20 → count_at work k ≡ 0

-- the refinement of b is carried, and what is answered names it where it fits
pub record Refines (b : Build) (e τ : St) (work : List ℕ) (x : Option Structure) : Type 0 where
  pub renews : Renews b.buckets e τ (merge_structures b).arena
  pub named : Fits renews.entry (merge_structures b).arena → IfSome x (λ z. Named work z (merge_structures b))
