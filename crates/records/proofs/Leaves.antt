-- One law for each way through a leaf function.
use mathlib.Core.Path.{◌≡◌, refl, sym, ap, ◌∙◌}
use mathlib.Core.Bool.{Bool, cond}
use mathlib.Core.List.{List, ◌++◌}
use Prim.Native.Nat.{ℕ, ◌+◌, ◌*◌, ◌/◌, ◌<◌, ◌≤◌}
use lib.ListN.{length, get_or, take, drop}
use lib.Seq.{drop-drop}
use borrow.Rule.Slice.PartMut.{put_mid}
use borrow.Author.Tests.{lt-ltb, le-ltb, eq-eqb, ne_eqb}
use denote.Enum.Declared.{tag_of}
use Rattle.records.specs.contracts.Kind.{the_type}
use Rattle.records.specs.declared.Kind.{Kind}
use Rattle.records.specs.declared.Kind.TheVariants.{Leaf, Join, Dummy, Output, Waiting}
use Rattle.records.specs.Words.{kind_word, field_at, held_at, put_record}

module _ (s : List ℕ) (records n k : ℕ) where
  pub field_past : records ≤ n → 0 ≡ field_at s records n k
  unfolding field_at
  field_past h = simp (le-ltb n records h)

  module _ (i : n < records) where
    pub field_beyond : length s / 8 ≤ n → 0 ≡ field_at s records n k
    unfolding field_at
    field_beyond h = simp (lt-ltb n records i, le-ltb n (length s / 8) h)

    pub field_none : n < length s / 8 → 8 ≤ k → 0 ≡ field_at s records n k
    unfolding field_at
    field_none h j = simp (lt-ltb n records i, lt-ltb n (length s / 8) h, le-ltb k 8 j)

    pub field_some : n < length s / 8 → k < 8 → get_or s (8 * n + k) 0 ≡ field_at s records n k
    unfolding field_at
    field_some h j = simp (lt-ltb n records i, lt-ltb n (length s / 8) h, lt-ltb k 8 j)

-- a kind as a number is its word
pub kind_is : (k : Kind) → tag_of the_type k + 1 ≡ kind_word k
kind_is Leaf = refl
kind_is Join = refl
kind_is Dummy = refl
kind_is Output = refl
kind_is Waiting = refl

-- a word of a record of one kind
module _ (s : List ℕ) (records n k j x : ℕ) (e : x ≡ field_at s records n 0) where
  pub held_none : (x ≡ k → ⊥) → 0 ≡ held_at s records n k j
  unfolding held_at
  held_none other = ap (λ (b : Bool). cond b (field_at s records n j) 0) (sym (ne_eqb (field_at s records n 0) k (λ q. other (e ∙ q))))

  pub held_some : x ≡ k → (y : ℕ) → y ≡ field_at s records n j → y ≡ held_at s records n k j
  unfolding held_at
  held_some is y f = f ∙ ap (λ (b : Bool). cond b (field_at s records n j) 0) (sym (eq-eqb (field_at s records n 0) k (sym e ∙ is)))

pub record_none : (s : List ℕ) (n : ℕ) (ws : List ℕ) → length s / 8 ≤ n → s ≡ put_record s n ws
unfolding put_record
record_none s n ws h = simp (le-ltb n (length s / 8) h)

pub record_some : (s : List ℕ) (n m : ℕ) (ws ys : List ℕ) → n < length s / 8 → m ≡ 8 → ys ≡ ws → put_mid (8 * n) m s ys ≡ put_record s n ws
unfolding put_record
record_some s n m ws ys h e f =
    rw (e, f) (ap (λ (z : List ℕ). take (8 * n) s ++ (ws ++ z)) (drop-drop 8 (8 * n) s ∙ refl) ∙ sym (ap (λ (b : Bool). cond b (take (8 * n) s ++ (ws ++ drop (8 * n + 8) s)) s) (lt-ltb n (length s / 8) h)))
