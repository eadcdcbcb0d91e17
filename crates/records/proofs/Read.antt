-- What the fields of a record are, where the words store records.
use mathlib.Core.Path.{◌≡◌, refl, sym, ap, ap₂, ◌∙◌}
use mathlib.Core.Bool.{Bool, true, false, not, cond, ◌&&◌, false≢true}
use mathlib.Core.List.{List}
use Prim.Native.Nat.{ℕ, ◌+◌, ◌*◌, ◌/◌, ◌≤◌, ◌<◌, max}
use native.Mathlib.Omega.{arith}
use lib.Dec.{eqb, ltb, leb}
use lib.ListN.{length, get_or, length-take, get_or-eq_default, get_or-replicate}
use lib.Seq.{get_or-take}
use borrow.Author.Tests.{ltb-true, ltb-false, lt-ltb, le-leb, lt-leb}
use lib.IntN.{ℤ}
use Rattle.rules.specs.Records.{Kind, leaf, join, dummy, Output, Entry, Record, node, output, waiting, unknown, node_image, record_image, node_of, node_at, dummy_node, left_link, right_link, waits}
use Rattle.rules.specs.WellFormed.{is_node, is_leaf, is_dummy}
use Rattle.laws.specs.Records.Words.{image_length}
use Rattle.laws.specs.Records.Places.{place}
use Rattle.records.specs.Words.{field_at, held_at}
use Rattle.records.specs.Readers.{is_join, is_halved, leaf_word, is_output, output_node, output_value, output_number, entry_node, entry_weight}
use Rattle.records.specs.Carries.{Stores, size}
use Rattle.records.proofs.Image.{image_word}

-- the fifth word of any record is its maximum, the sixth its height
node_maximum : (k : Kind) (m h : ℕ) → get_or (node_image k m h) 4 0 ≡ m
unfolding node_image
node_maximum (leaf x) m h = refl
node_maximum (join half l r) m h = refl
node_maximum dummy m h = refl

node_height : (k : Kind) (m h : ℕ) → get_or (node_image k m h) 5 0 ≡ h
unfolding node_image
node_height (leaf x) m h = refl
node_height (join half l r) m h = refl
node_height dummy m h = refl

pub maximum_word : (r : Record) → get_or (record_image r) 4 0 ≡ (node_of r).maximum
unfolding record_image node_of
maximum_word (node n) = node_maximum n.kind n.maximum n.height
maximum_word (output o) = refl
maximum_word (waiting e) = refl
maximum_word unknown = refl

pub height_word : (r : Record) → get_or (record_image r) 5 0 ≡ (node_of r).height
unfolding record_image node_of
height_word (node n) = node_height n.kind n.maximum n.height
height_word (output o) = refl
height_word (waiting e) = refl
height_word unknown = refl

-- the size of a record by its words
pub size_words : (r : Record) (ws : List ℕ) → record_image r ≡ ws → size r ≡ max (get_or ws 4 0) (get_or ws 5 0)
unfolding size
size_words r ws e =
    ap₂ max (sym (maximum_word r)) (sym (height_word r)) ∙
    ap (λ (z : List ℕ). max (get_or z 4 0) (get_or z 5 0)) e

-- a join is made of its halving and its links
pub join_parts : (k : Kind) → is_join k ≡ true → k ≡ join (is_halved k) (left_link k) (right_link k)
unfolding is_join is_halved left_link right_link
join_parts (join half l r) e = refl
join_parts (leaf x) e = absurd (false≢true e)
join_parts dummy e = absurd (false≢true e)

-- a dummy is neither a join nor a leaf
pub dummy_join : (k : Kind) → is_join k ≡ true → false ≡ is_dummy k
unfolding is_join is_dummy
dummy_join (leaf x) e = absurd (false≢true e)
dummy_join (join half l r) e = refl
dummy_join dummy e = absurd (false≢true e)

pub dummy_other : (k : Kind) → is_join k ≡ false → not (is_leaf k) ≡ is_dummy k
unfolding is_join is_dummy is_leaf
dummy_other (leaf x) e = refl
dummy_other (join half l r) e = absurd (false≢true (sym e))
dummy_other dummy e = refl

-- a record that its readers call an output is one
pub output_of : (r : Record) → is_output r ≡ true → (o : Output) × (r ≡ output o)
unfolding is_output
output_of (node n) e = absurd (false≢true e)
output_of (output o) e = (o, refl)
output_of (waiting w) e = absurd (false≢true e)
output_of unknown e = absurd (false≢true e)

-- what holds of every kind of record holds of any
module _ (P : Record → Type 0) (of-leaf : (x : ℤ) (m h : ℕ) → P (node (record { kind = leaf x; maximum = m; height = h })))
    (of-join : (half : Bool) (l r m h : ℕ) → P (node (record { kind = join half l r; maximum = m; height = h })))
    (of-dummy : (m h : ℕ) → P (node (record { kind = dummy; maximum = m; height = h })))
    (of_output : (o : Output) → P (output o)) (of_entry : (e : Entry) → P (waiting e)) (of_none : P unknown) where
  of_node : (k : Kind) (m h : ℕ) → P (node (record { kind = k; maximum = m; height = h }))
  of_node (leaf x) m h = of-leaf x m h
  of_node (join half l r) m h = of-join half l r m h
  of_node dummy m h = of-dummy m h

  pub by_kind : (r : Record) → P r
  by_kind (node n) = of_node n.kind n.maximum n.height
  by_kind (output o) = of_output o
  by_kind (waiting e) = of_entry e
  by_kind unknown = of_none

-- f says whether a record's first word is k
abbrev pub Kinded : (Record → Bool) → ℕ → Type 0
Kinded f k = (r : Record) → eqb (get_or (record_image r) 0 0) k ≡ f r

-- f is word j of the records of kind k, and 0 of all others
abbrev pub Held : (Record → ℕ) → ℕ → ℕ → Type 0
Held f k j = (r : Record) → cond (eqb (get_or (record_image r) 0 0) k) (get_or (record_image r) j 0) 0 ≡ f r

pub leaf_kinded : Kinded (λ r. is_leaf (node_of r).kind) 1
unfolding record_image node_image node_of dummy_node is_leaf
leaf_kinded = by_kind (λ r. eqb (get_or (record_image r) 0 0) 1 ≡ is_leaf (node_of r).kind)
    (λ x m h. refl) (λ half l r m h. refl) (λ m h. refl) (λ o. refl) (λ e. refl) refl

pub join_kinded : Kinded (λ r. is_join (node_of r).kind) 2
unfolding record_image node_image node_of dummy_node is_join
join_kinded = by_kind (λ r. eqb (get_or (record_image r) 0 0) 2 ≡ is_join (node_of r).kind)
    (λ x m h. refl) (λ half l r m h. refl) (λ m h. refl) (λ o. refl) (λ e. refl) refl

pub output_kinded : Kinded is_output 4
unfolding record_image node_image is_output
output_kinded = by_kind (λ r. eqb (get_or (record_image r) 0 0) 4 ≡ is_output r)
    (λ x m h. refl) (λ half l r m h. refl) (λ m h. refl) (λ o. refl) (λ e. refl) refl

pub waits_kinded : Kinded waits 5
unfolding record_image node_image waits
waits_kinded = by_kind (λ r. eqb (get_or (record_image r) 0 0) 5 ≡ waits r)
    (λ x m h. refl) (λ half l r m h. refl) (λ m h. refl) (λ o. refl) (λ e. refl) refl

pub literal_held : Held (λ r. leaf_word (node_of r).kind) 1 1
unfolding record_image node_image node_of dummy_node leaf_word
literal_held = by_kind (λ r. cond (eqb (get_or (record_image r) 0 0) 1) (get_or (record_image r) 1 0) 0 ≡ leaf_word (node_of r).kind)
    (λ x m h. refl) (λ half l r m h. refl) (λ m h. refl) (λ o. refl) (λ e. refl) refl

pub left_held : Held (λ r. left_link (node_of r).kind) 2 1
unfolding record_image node_image node_of dummy_node left_link
left_held = by_kind (λ r. cond (eqb (get_or (record_image r) 0 0) 2) (get_or (record_image r) 1 0) 0 ≡ left_link (node_of r).kind)
    (λ x m h. refl) (λ half l r m h. refl) (λ m h. refl) (λ o. refl) (λ e. refl) refl

pub right_held : Held (λ r. right_link (node_of r).kind) 2 2
unfolding record_image node_image node_of dummy_node right_link
right_held = by_kind (λ r. cond (eqb (get_or (record_image r) 0 0) 2) (get_or (record_image r) 2 0) 0 ≡ right_link (node_of r).kind)
    (λ x m h. refl) (λ half l r m h. refl) (λ m h. refl) (λ o. refl) (λ e. refl) refl

-- the halving as a word
halving : Kind → ℕ
unfolding is_halved
halving k = cond (is_halved k) 1 0

halving_held : Held (λ r. halving (node_of r).kind) 2 3
unfolding record_image node_image node_of dummy_node halving is_halved
halving_held = by_kind (λ r. cond (eqb (get_or (record_image r) 0 0) 2) (get_or (record_image r) 3 0) 0 ≡ halving (node_of r).kind)
    (λ x m h. refl) (λ half l r m h. refl) (λ m h. refl) (λ o. refl) (λ e. refl) refl

pub output_node_held : Held output_node 4 1
unfolding record_image node_image output_node
output_node_held = by_kind (λ r. cond (eqb (get_or (record_image r) 0 0) 4) (get_or (record_image r) 1 0) 0 ≡ output_node r)
    (λ x m h. refl) (λ half l r m h. refl) (λ m h. refl) (λ o. refl) (λ e. refl) refl

pub output_value_held : Held output_value 4 2
unfolding record_image node_image output_value
output_value_held = by_kind (λ r. cond (eqb (get_or (record_image r) 0 0) 4) (get_or (record_image r) 2 0) 0 ≡ output_value r)
    (λ x m h. refl) (λ half l r m h. refl) (λ m h. refl) (λ o. refl) (λ e. refl) refl

pub output_number_held : Held output_number 4 3
unfolding record_image node_image output_number
output_number_held = by_kind (λ r. cond (eqb (get_or (record_image r) 0 0) 4) (get_or (record_image r) 3 0) 0 ≡ output_number r)
    (λ x m h. refl) (λ half l r m h. refl) (λ m h. refl) (λ o. refl) (λ e. refl) refl

pub entry_node_held : Held entry_node 5 1
unfolding record_image node_image entry_node
entry_node_held = by_kind (λ r. cond (eqb (get_or (record_image r) 0 0) 5) (get_or (record_image r) 1 0) 0 ≡ entry_node r)
    (λ x m h. refl) (λ half l r m h. refl) (λ m h. refl) (λ o. refl) (λ e. refl) refl

pub entry_weight_held : Held entry_weight 5 2
unfolding record_image node_image entry_weight
entry_weight_held = by_kind (λ r. cond (eqb (get_or (record_image r) 0 0) 5) (get_or (record_image r) 2 0) 0 ≡ entry_weight r)
    (λ x m h. refl) (λ half l r m h. refl) (λ m h. refl) (λ o. refl) (λ e. refl) refl

-- a node's first word is from 1 to 3
node_word : (r : Record) → (leb 1 (get_or (record_image r) 0 0) && leb (get_or (record_image r) 0 0) 3) ≡ is_node r
unfolding record_image node_image is_node
node_word = by_kind (λ r. (leb 1 (get_or (record_image r) 0 0) && leb (get_or (record_image r) 0 0) 3) ≡ is_node r)
    (λ x m h. refl) (λ half l r m h. refl) (λ m h. refl) (λ o. refl) (λ e. refl) refl

-- the words s store rs
module _ (s : List ℕ) (records : ℕ) (rs : List Record) (h : Stores s records rs) where
  within : 8 * records ≤ length s
  within = omega (arith, ap length h.image_is, length-take (8 * records) s, image_length rs, h.count_is)

  inside : (n k : ℕ) → n < length rs → k < 8 → get_or s (8 * n + k) 0 ≡ get_or (record_image (get_or rs n unknown)) k 0
  inside n k i j =
      sym (get_or-take (8 * records) s (8 * n + k) 0 (omega (arith, h.count_is))) ∙
      (ap (λ z. get_or z (8 * n + k) 0) h.image_is ∙ image_word rs n k i j)

  outside : (n k : ℕ) → length rs ≤ n → k < 8 → 0 ≡ get_or (record_image (get_or rs n unknown)) k 0
  unfolding record_image
  outside n k i j = sym (ap (λ (r : Record). get_or (record_image r) k 0) (get_or-eq_default rs unknown i) ∙ get_or-replicate {A = ℕ} 8 k 0 0 j)

  -- a field is a word of the record's image
  pub field_is : (n k : ℕ) → k < 8 → field_at s records n k ≡ get_or (record_image (get_or rs n unknown)) k 0
  unfolding field_at
  field_is n k j = go (ltb n records) refl
    where
      go : (b : Bool) → ltb n records ≡ b →
          cond b (cond (ltb n (length s / 8)) (cond (ltb k 8) (get_or s (8 * n + k) 0) 0) 0) 0 ≡ get_or (record_image (get_or rs n unknown)) k 0
      go true e =
          let i : n < records = ltb-true n records e in
          let c : records ≡ length rs = h.count_is in
          rw (lt-ltb n (length s / 8) (omega (arith, within)), lt-ltb k 8 j) (inside n k (omega arith) j)
      go false e =
          let i : records ≤ n = ltb-false n records e in
          let c : records ≡ length rs = h.count_is in
          outside n k (omega arith) j

  pub maximum_is : (n : ℕ) → field_at s records n 4 ≡ (node_at rs n).maximum
  unfolding node_at
  maximum_is n = field_is n 4 (omega arith) ∙ maximum_word (get_or rs n unknown)

  pub height_is : (n : ℕ) → field_at s records n 5 ≡ (node_at rs n).height
  unfolding node_at
  height_is n = field_is n 5 (omega arith) ∙ height_word (get_or rs n unknown)

  -- a reader of the kind, and one of a word of records of a kind
  pub kind_tells : (f : Record → Bool) (k : ℕ) → Kinded f k → (n x : ℕ) → x ≡ field_at s records n 0 → eqb x k ≡ f (get_or rs n unknown)
  kind_tells f k p n x e = ap (λ (y : ℕ). eqb y k) (e ∙ field_is n 0 (omega arith)) ∙ p (get_or rs n unknown)

  pub held_tells : (f : Record → ℕ) (k j : ℕ) → Held f k j → j < 8 → (n x : ℕ) → x ≡ held_at s records n k j → x ≡ f (get_or rs n unknown)
  unfolding held_at
  held_tells f k j p i n x e =
      e ∙ (ap₂ (λ (y z : ℕ). cond (eqb y k) z 0) (field_is n 0 (omega arith)) (field_is n j i) ∙ p (get_or rs n unknown))

  pub halved_tells : (n x : ℕ) → x ≡ held_at s records n 2 3 → eqb x 1 ≡ is_halved (node_at rs n).kind
  unfolding node_at halving
  halved_tells n x e =
      ap (λ (y : ℕ). eqb y 1) (held_tells (λ r. halving (node_of r).kind) 2 3 halving_held (omega arith) n x e) ∙
      back (is_halved (node_of (get_or rs n unknown)).kind)
    where
      back : (b : Bool) → eqb (cond b 1 0) 1 ≡ b
      back true = refl
      back false = refl

  module _ (n x : ℕ) (ex : x ≡ field_at s records n 0) where
    first : x ≡ get_or (record_image (get_or rs n unknown)) 0 0
    first = ex ∙ field_is n 0 (omega arith)

    both : (leb 1 x && leb x 3) ≡ place rs n
    unfolding place
    both = ap (λ (y : ℕ). leb 1 y && leb y 3) first ∙ node_word (get_or rs n unknown)

    pub node_none : x < 1 → leb 1 x ≡ place rs n
    node_none i = let e : leb 1 x ≡ false = lt-leb 1 x i in e ∙ (sym (ap (λ (b : Bool). b && leb x 3) e) ∙ both)

    pub node_some : 1 ≤ x → leb x 3 ≡ place rs n
    node_some i = sym (ap (λ (b : Bool). b && leb x 3) (le-leb 1 x i)) ∙ both
