-- What an encode reaches, over the memory it was lent.
use Rattle.std.specs.Prelude.{◌≡◌, true, Option, IfSome, List, ℕ, ◌*◌, ◌/◌, ◌<◌, length, get_or, take}
use Rattle.rules.specs.declared.State.{State}
use Rattle.rules.specs.Build.{Build}
use Rattle.laws.specs.Lists.Facts.{occurs}
use Rattle.records.specs.Carries.{St, store_of, buffer_of, marks_of, Fits, Holds}
use Rattle.encode_outputs.specs.Taken.{whole}
use Rattle.rules.specs.Encode.{prepared}
use Rattle.build_begin.specs.declared.Structure.{Structure}
use Rattle.build_begin.specs.Named.{marks_at, Slots, Named}
use Rattle.refine_structure.specs.Refined.{Renews}

-- the first build, the refinement or what stands of b is carried, over an entry that is e but for the buckets' records; what is answered
-- names it where it fits
abbrev pub Structured : Build → St → St → List ℕ → Option Structure → Type 0
Structured b e τ work x =
    (renews : Renews b.buckets e τ (prepared b).arena) × (Fits renews.entry (prepared b).arena → IfSome x (λ z. Named work z (prepared b)))

-- what stands of a state whose waiting entries begin at record n
unfoldable pub standing : State → ℕ → Structure
unfolding marks_at
standing s n = record { marks = marks_at s n; head = 512; tares = s.tares; tares_used = s.tares_used; buckets = s.buckets; buckets_used = s.buckets_used }

-- from e to τ the build c was reached: exactly where it fits, else the room has ended; of the words that e used only those of the
-- buckets' records may differ
pub record Reached (buckets : List ℕ) (e τ : St) (c : Build) (x : Option Structure) : Type 0 where
  pub same_store : length (store_of τ) ≡ length (store_of e)
  pub same_buffer : length (buffer_of τ) ≡ length (buffer_of e)
  pub kept_store : (i : ℕ) → i < 8 * (marks_of e).records → occurs (i / 8) buckets ≡ 0 → get_or (store_of τ) i 0 ≡ get_or (store_of e) i 0
  pub kept_buffer : take (marks_of e).words (buffer_of τ) ≡ take (marks_of e).words (buffer_of e)
  pub fit : Fits e (whole c) → Holds e τ (whole c) × IfSome x (λ z. Slots z c)
  pub full : (Fits e (whole c) → ⊥) → (marks_of τ).full ≡ true
