-- The root among the used buckets, and nodes and outputs once what waits is left out.
use mathlib.Core.Path.{◌≡◌, refl, sym, ap, ◌∙◌}
use mathlib.Core.Bool.{not}
use mathlib.Core.List.{List, [], ◌∷◌, ◌++◌, map}
use Prim.Native.Nat.{ℕ}
use native.Mathlib.Omega.{arith}
use lib.ListN.{get_or, take}
use lib.Seq.{get_or-take}
use Rattle.rules.specs.Lists.{keep}
use Rattle.rules.specs.Records.{Record, node, output, waiting, unknown, node_at, waits, entries, outputs}
use Rattle.rules.specs.Totalizer.{number_in, number_of}
use Rattle.laws.specs.Records.Places.{nodes_same, waiting_none}

-- the first of the used buckets
pub root_none : (bs : List ℕ) (used : ℕ) → used ≡ 0 → 0 ≡ get_or (take used bs) 0 0
root_none bs used e = ap (λ (n : ℕ). get_or (take n bs) 0 0) (sym e)

pub root_first : (bs : List ℕ) (used : ℕ) → (used ≡ 0 → ⊥) → get_or bs 0 0 ≡ get_or (take used bs) 0 0
root_first bs used e = sym (get_or-take used bs 0 0 (omega arith))

-- outputs do not wait
pub outputs_kept : (rs : List Record) → outputs (keep (λ r. not (waits r)) rs) ≡ outputs rs
unfolding outputs keep waits
outputs_kept [] = refl
outputs_kept (node n ∷ rs) = outputs_kept rs
outputs_kept (output o ∷ rs) = ap (λ os. o ∷ os) (outputs_kept rs)
outputs_kept (waiting e ∷ rs) = outputs_kept rs
outputs_kept (unknown ∷ rs) = outputs_kept rs

pub number_kept : (rs : List Record) (n v : ℕ) → number_of (keep (λ r. not (waits r)) rs) n v ≡ number_of rs n v
unfolding number_of
number_kept rs n v = ap (λ os. number_in os n v) (outputs_kept rs)

-- where the waiting entries stand last, the nodes are the same
pub node_kept : (rs : List Record) (n : ℕ) → rs ≡ keep (λ r. not (waits r)) rs ++ map waiting (entries rs) →
    node_at (keep (λ r. not (waits r)) rs) n ≡ node_at rs n
node_kept rs n e =
    sym (ap (λ z. node_at z n) e ∙ ap (λ f. f n) (nodes_same (keep (λ r. not (waits r)) rs) (map waiting (entries rs)) (waiting_none (entries rs))))
