-- What was built or refined is completed and reached.
use mathlib.Core.Path.{◌≡◌, sym, ap, ◌∙◌}
use mathlib.Core.Bool.{true}
use mathlib.Core.List.{List, [], ◌++◌, append-nil}
use Prim.Native.Nat.{ℕ, ◌+◌, ◌-◌, ◌≤◌}
use native.Mathlib.Omega.{arith}
use lib.ListN.{length, take, drop, length-drop, drop_of_length-le}
use lib.Seq.{drop_at, length-take-le}
use borrow.Rule.Slice.PartMut.{put_mid}
use Rattle.rules.specs.Build.{Build}
use Rattle.rules.specs.Encode.{prepared, encode_outputs}
use lib.IntN.{ℤ}
use Rattle.std.specs.Prelude.{Option, Some, None, IfSome}
use Rattle.records.specs.Carries.{St, st, marks_of, Fits, Carries}
use Rattle.encode_outputs.specs.declared.Range.{Range}
use Rattle.encode_outputs.specs.Taken.{entries_at, whole}
use Rattle.build_begin.specs.declared.Structure.{Structure}
use Rattle.build_begin.specs.Answer.{structure_marks}
use Rattle.build_begin.specs.Named.{with_marks, Slots}
use Rattle.encode_reach.specs.Reached.{Structured, Reached}
use Rattle.encode_reach.proofs.Reaching.{reached, reached_full, line_by}
use Rattle.encode_reach.proofs.Stands.{marked_slots}

-- the words from 3072 on, put back
pub tail_put : (ws us : List ℕ) → 3072 ≤ length ws → us ≡ drop 3072 (put_mid 3072 (length ws - 3072) ws us)
tail_put ws us h =
    let none : drop (length ws - 3072) (drop 3072 ws) ≡ [] = drop_of_length-le (drop 3072 ws) {i = length ws - 3072} (omega (arith, length-drop 3072 ws)) in
    sym (drop_at (take 3072 ws) (us ++ drop (length ws - 3072) (drop 3072 ws)) 3072 (length-take-le 3072 ws h) ∙ (ap (λ (xs : List ℕ). us ++ xs) none ∙ append-nil us))

pub rebuilt_reached : (b : Build) (e σ : St) (s' : List ℕ) (c' : List ℤ) (ws us : List ℕ) (z : Structure) (x : Option Structure) (range : Range) → us ≡ drop 3072 ws → IfSome x (λ y. y ≡ with_marks z y.marks) →
    Structured b e σ us (Some z) →
    ((e : St) (p : Build) → Carries e σ p.arena →
    (Fits e p.arena → Slots z p × (entries_at ws (record { node = 3072 + z.head; weight = 3584 + z.head; apart = 1; many = 512 - z.head }) ≡ p.queue)) →
    Carries e (st s' c' (structure_marks x)) (whole (encode_outputs p range.lo range.end))) →
    Reached b.buckets e (st s' c' (structure_marks x)) (encode_outputs (prepared b) range.lo range.end) x
unfolding entries_at
rebuilt_reached b e σ s' c' ws us z x range tail em (r, named) finish =
    reached b.buckets e r.entry (st s' c' (structure_marks x)) r.places r.based (prepared b) range.lo range.end x r.within
    (finish r.entry (prepared b) r.carries (λ f. ((named f).slots, line_by ws us 3072 z.head tail ∙ (named f).queue_is)))
    (λ f. marked_slots z (prepared b) x em (named f).slots)

-- the room ended before the outputs
pub ended_reached : (b : Build) (e τ : St) (us : List ℕ) (range : Range) → (marks_of τ).full ≡ true → Structured b e τ us None →
    Reached b.buckets e τ (encode_outputs (prepared b) range.lo range.end) None
ended_reached b e τ us range full (r, named) = reached_full b.buckets e r.entry τ r.places r.based (prepared b) range.lo range.end None r.within r.carries full (λ f. tt)
