-- Outputs and then what waits, over a build whose root, tares and queue are named.
use mathlib.Core.Path.{◌≡◌, refl, ap, ap₂, ◌∙◌, subst}
use mathlib.Core.Logic.{◌⊎◌, inl, inr}
use mathlib.Core.List.{List, [], ◌∷◌, map}
use Prim.Native.Nat.{ℕ, zero, suc, ◌-◌}
use lib.ListN.{length, get_or, replicate}
use Rattle.rules.specs.Lists.{padded}
use Rattle.rules.specs.Records.{Entry, waiting, node_at}
use Rattle.rules.specs.Totalizer.{Arena, define_output}
use Rattle.rules.specs.Build.{Build, root, root_node, output_weight, with_arena, restructured}
use Rattle.rules.specs.Encode.{root_values, encode_outputs}
use Rattle.records.specs.Carries.{St, Fits, Carries, Steps}
use Rattle.records.proofs.Grow.{Grows, grows_trans, fits_less, fits_or, records_more}
use Rattle.records.proofs.Step.{over}
use Rattle.totalizer_define.proofs.Growth.{turns_grow, output_grows}
use Rattle.encode_outputs.specs.Values.{values, outputs_of}
use Rattle.build_begin.specs.declared.Structure.{Structure}
use Rattle.build_begin.specs.Named.{Slots}
use Rattle.encode_outputs.specs.Taken.{with_waiting, whole}

outputs_grow : (root tares lo end : ℕ) (t : Arena) → Grows t (outputs_of root tares lo end t)
unfolding outputs_of
outputs_grow root tares lo end t =
    turns_grow (λ s v. define_output s root v) (λ s v. output_grows root v s) (values (node_at t.records root).maximum tares lo end) t

pub waiting_grows : (es : List Entry) (t : Arena) → Grows t (with_waiting es t)
unfolding with_waiting
waiting_grows es t = records_more t (map waiting es)

-- the root outputs of a build
outputs_are : (p : Build) (lo end : ℕ) → outputs_of (root p) (length p.tares) lo end p.arena ≡ (encode_outputs p lo end).arena
unfolding outputs_of values encode_outputs with_arena restructured root_values root_node output_weight
outputs_are p lo end = refl

-- the root is the first bucket
padded_first : (n : ℕ) (xs : List ℕ) → get_or (padded 0 n xs) 0 0 ≡ get_or xs 0 0
unfolding padded
padded_first n [] = go (n - 0)
  where
    go : (k : ℕ) → ◌≡◌ {A = ℕ} (get_or (replicate k 0) 0 0) 0
    go zero = refl
    go (suc k) = refl
padded_first n (x ∷ xs) = refl

pub finished : (e σ τ υ : St) (p : Build) (z : Structure) (lo end : ℕ) (es : List Entry) → Steps σ τ (outputs_of (get_or z.buckets 0 0) z.tares_used lo end) →
    Steps τ υ (with_waiting es) → Carries e σ p.arena → (Fits e p.arena → Slots z p × (es ≡ p.queue)) → Carries e υ (whole (encode_outputs p lo end))
unfolding whole encode_outputs with_arena restructured root
finished e σ τ υ p z lo end es f g h named = go (fits_or e p.arena)
  where
    r : ℕ
    r = get_or z.buckets 0 0

    n : ℕ
    n = z.tares_used

    done : Arena
    done = with_waiting es (outputs_of r n lo end p.arena)

    carried : Carries e υ done
    carried = g.go e (outputs_of r n lo end p.arena) (f.go e p.arena h)

    grown : (r n : ℕ) (es : List Entry) → Grows p.arena (with_waiting es (outputs_of r n lo end p.arena))
    grown r n es =
        grows_trans p.arena (outputs_of r n lo end p.arena) (with_waiting es (outputs_of r n lo end p.arena)) (outputs_grow r n lo end p.arena)
        (waiting_grows es (outputs_of r n lo end p.arena))

    target : with_waiting p.queue (outputs_of (root p) (length p.tares) lo end p.arena) ≡ with_waiting p.queue (encode_outputs p lo end).arena
    target = ap (with_waiting p.queue) (outputs_are p lo end)

    go : Fits e p.arena ⊎ (Fits e p.arena → ⊥) → Carries e υ (with_waiting p.queue (encode_outputs p lo end).arena)
    go (inl k) =
        let (slots, queue) = named k in
        let top : r ≡ root p = ap (λ (xs : List ℕ). get_or xs 0 0) slots.buckets_are ∙ padded_first 20 p.buckets in
        subst (Carries e υ)
        (ap₂ (λ (x y : ℕ). with_waiting es (outputs_of x y lo end p.arena)) top slots.tares_many ∙
        (ap (λ (q : List Entry). with_waiting q (outputs_of (root p) (length p.tares) lo end p.arena)) queue ∙ target)) carried
    go (inr k) =
        subst (Carries e υ) target
        (over e υ done (with_waiting p.queue (outputs_of (root p) (length p.tares) lo end p.arena)) carried
        (λ q. k (fits_less e p.arena done (grown r n es) q))
        (λ q. k (fits_less e p.arena (with_waiting p.queue (outputs_of (root p) (length p.tares) lo end p.arena)) (grown (root p) (length p.tares) p.queue) q)))

-- what is reached grows from what was prepared
pub whole_grows : (p : Build) (lo end : ℕ) → Grows p.arena (whole (encode_outputs p lo end))
unfolding whole encode_outputs with_arena restructured
whole_grows p lo end =
    let t : Arena = outputs_of (root p) (length p.tares) lo end p.arena in
    subst (λ (u : Arena). Grows p.arena (with_waiting p.queue u)) (outputs_are p lo end)
    (grows_trans p.arena t (with_waiting p.queue t) (outputs_grow (root p) (length p.tares) lo end p.arena) (waiting_grows p.queue t))
