-- Link and maximum of a record by its words, and what they are among the records.
use mathlib.Core.Path.{◌≡◌, refl, sym, ap, ap₂, ◌∙◌}
use mathlib.Core.Bool.{Bool, true, false, cond}
use mathlib.Core.List.{List}
use Prim.Native.Nat.{ℕ}
use native.Mathlib.Omega.{arith}
use lib.Dec.{eqb}
use borrow.Author.Tests.{eq-eqb, ne_eqb}
use Rattle.rules.specs.Records.{Record, node_at, right_link, node_of as record-node}
use Rattle.records.specs.Words.{field_at, held_at}
use Rattle.records.specs.Carries.{Stores}
use Rattle.records.proofs.Read.{maximum_is, right_held, held_tells}
use Rattle.node_structs.specs.Nodes.{node_of, read_node, node_among}

module _ (s : List ℕ) (records n m x : ℕ) (em : m ≡ field_at s records n 4) (ex : x ≡ field_at s records n 0) where
  by_kind : (b : Bool) → eqb x 2 ≡ b → node_of (cond b (field_at s records n 2) 0) m ≡ read_node s records n
  unfolding read_node
  by_kind b e =
      ap₂ node_of (ap (λ (k : Bool). cond k (field_at s records n 2) 0) (sym e ∙ ap (λ (z : ℕ). eqb z 2) ex)) em

  pub stored_none : (x ≡ 2 → ⊥) → node_of 0 m ≡ read_node s records n
  stored_none other = by_kind false (ne_eqb x 2 other)

  pub stored_some : x ≡ 2 → (y : ℕ) → y ≡ field_at s records n 2 → node_of y m ≡ read_node s records n
  stored_some joins y ey = ap (λ (z : ℕ). node_of z m) ey ∙ by_kind true (eq-eqb x 2 joins)

-- where the records lie in the words
pub among : (s : List ℕ) (records : ℕ) (rs : List Record) → Stores s records rs → (n : ℕ) → read_node s records n ≡ node_among rs n
unfolding read_node node_among node_at held_at
among s records rs h n =
    ap₂ node_of (held_tells s records rs h (λ r. right_link (record-node r).kind) 2 2 right_held (omega arith) n (held_at s records n 2 2) refl)
    (maximum_is s records rs h n)
