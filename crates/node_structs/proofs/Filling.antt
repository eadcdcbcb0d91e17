-- A slice of nodes, filled one by one from the first on.
use mathlib.Core.Path.{◌≡◌, refl, sym, ap, ◌∙◌}
use mathlib.Core.Bool.{Bool, true, false}
use mathlib.Core.List.{List}
use Prim.Native.Nat.{ℕ, zero, suc, ◌+◌, ◌/◌, ◌≤◌, ◌<◌, min}
use native.Mathlib.Omega.{arith}
use lib.Dec.{eqb}
use lib.ListN.{length, set, length-set}
use Rattle.std.proofs.Common.{add-one}
use lib.Seq.{get_or-set_same, get_or-set_other}
use borrow.Author.Tests.{eqb-true, eqb-false}
use Rattle.node_structs.specs.declared.Node.{Node}
use Rattle.node_structs.specs.Nodes.{node_of, node_in, read_node, Copies}
use Rattle.node_structs.proofs.Reading.{among}

-- the first k nodes are those of the words
unfoldable pub filled : List Node → List ℕ → ℕ → ℕ → List Node
filled ns s records zero = ns
filled ns s records (suc k) = set (filled ns s records k) k (read_node s records k)

module _ (ns : List Node) (s : List ℕ) (records : ℕ) where
  pub filled_start : ns ≡ filled ns s records 0
  unfolding filled
  filled_start = refl

  pub filled_next : (k : ℕ) (x : Node) → x ≡ read_node s records k → set (filled ns s records k) k x ≡ filled ns s records (suc k)
  unfolding filled
  filled_next k x e = ap (set (filled ns s records k) k) e

  pub filled_length : (k : ℕ) → length (filled ns s records k) ≡ length ns
  unfolding filled
  filled_length zero = refl
  filled_length (suc k) = length-set (filled ns s records k) k (read_node s records k) ∙ filled_length k

  kept : (k n : ℕ) → k ≤ n → node_in (filled ns s records k) n ≡ node_in ns n
  unfolding filled
  kept zero n h = refl
  kept (suc k) n h =
      get_or-set_other (filled ns s records k) k n (read_node s records k) (node_of 0 0) (omega arith) ∙ kept k n (omega arith)

  held : (k n : ℕ) → k ≤ length ns → n < k → node_in (filled ns s records k) n ≡ read_node s records n
  unfolding filled
  held zero n low h = absurd (omega arith)
  held (suc k) n low h = go (eqb n k) refl (λ less. held k n (omega arith) less)
    where
      go : (b : Bool) → eqb n k ≡ b → (n < k → node_in (filled ns s records k) n ≡ read_node s records n) →
          node_in (filled ns s records (suc k)) n ≡ read_node s records n
      go true e before =
          let same : n ≡ k = eqb-true n k e in
          ap (node_in (filled ns s records (suc k))) same ∙
          (get_or-set_same (filled ns s records k) k (read_node s records k) (node_of 0 0) (omega (arith, filled_length k)) ∙
          ap (read_node s records) (sym same))
      go false e before =
          let ne : n ≡ k → ⊥ = eqb-false n k e in
          get_or-set_other (filled ns s records k) k n (read_node s records k) (node_of 0 0) ne ∙ before (omega (arith, ne))

  pub copies : (r : ℕ) → r ≡ min (length ns) (min records (length s / 8)) → Copies ns (filled ns s records r) s records r
  copies r e =
      let low : r ≤ length ns = omega arith in
      record {
        count_is = e;
        same_length = filled_length r;
        copied = λ n h. held r n low h;
        means = λ rs at n h. held r n low h ∙ among s records rs at n;
        kept = λ n h. kept r n h;
      }

pub filled_turn : (ns ms : List Node) (s : List ℕ) (records i : ℕ) (x : Node) → ms ≡ filled ns s records i → x ≡ read_node s records i →
    set ms i x ≡ filled ns s records (i + 1)
filled_turn ns ms s records i x e is =
    ap (λ (zs : List Node). set zs i x) e ∙ filled_next ns s records i x is ∙ ap (filled ns s records) (sym (add-one i))
