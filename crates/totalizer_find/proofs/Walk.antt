-- A walk from the first record on finds the first output of a node and value.
use Rattle.std.specs.Prelude.{Some, None}
use Rattle.std.specs.Option.{unwrap_or}
use mathlib.Core.Path.{◌≡◌, refl, sym, ap, ◌∙◌}
use mathlib.Core.Bool.{Bool, true, false, cond, ◌&&◌, false≢true}
use mathlib.Core.List.{List, [], ◌∷◌}
use Prim.Native.Nat.{ℕ, zero, suc, ◌+◌, ◌<◌, ◌≤◌}
use native.Mathlib.Omega.{arith}
use lib.Dec.{eqb}
use lib.ListN.{length, get_or, drop, drop_of_length-le}
use lib.Seq.{drop-cons}
use lib.IntN.{ℤ, pos, neg_ℤ}
use Rattle.rules.specs.Records.{Kind, leaf, join, dummy, Record, node, output, waiting, unknown, node_at, node_image, record_image, literal_word, word_literal, outputs}
use Rattle.rules.specs.WellFormed.{is_leaf}
use Rattle.rules.specs.Totalizer.{number_in, number_of, literal_of, side}
use Rattle.laws.specs.Records.Words.{literal_word_literal}
use Rattle.records.specs.Words.{field_at}
use Rattle.records.specs.Readers.{leaf_word}
use Rattle.records_clauses.specs.Clauses.{side_of}
use Rattle.records.specs.Carries.{Stores}
use Rattle.records.proofs.Read.{field_is}
use Rattle.totalizer_find.specs.Hit.{hit_at}
use Rattle.totalizer_find.specs.Found.{number_word, side_word}

-- the record is output v of node n
hits : Record → ℕ → ℕ → Bool
hits (node m) n v = false
hits (output o) n v = eqb o.node n && eqb o.value v
hits (waiting e) n v = false
hits unknown n v = false

-- the number of an output, 0 for any other record
number : Record → ℕ
number (node m) = 0
number (output o) = o.number
number (waiting e) = 0
number unknown = 0

number_first : (r : Record) (rs : List Record) (n v : ℕ) → number_of (r ∷ rs) n v ≡ cond (hits r n v) (number r) (number_of rs n v)
unfolding number_of number_in outputs hits number
number_first (node m) rs n v = refl
number_first (output o) rs n v = refl
number_first (waiting e) rs n v = refl
number_first unknown rs n v = refl

hits_words : (r : Record) (n v : ℕ) →
    cond (eqb (get_or (record_image r) 0 0) 4) (cond (eqb (get_or (record_image r) 1 0) n) (eqb (get_or (record_image r) 2 0) v) false) false ≡ hits r n v
unfolding record_image node_image hits
hits_words (node m) n v = go m.kind m.maximum m.height
  where
    go : (k : Kind) (x h : ℕ) →
        cond (eqb (get_or (node_image k x h) 0 0) 4) (cond (eqb (get_or (node_image k x h) 1 0) n) (eqb (get_or (node_image k x h) 2 0) v) false) false ≡ false
    go (leaf x) y h = refl
    go (join half l r) y h = refl
    go dummy y h = refl
hits_words (output o) n v = go (eqb o.node n)
  where
    go : (b : Bool) → cond b (eqb o.value v) false ≡ b && eqb o.value v
    go true = refl
    go false = refl
hits_words (waiting e) n v = refl
hits_words unknown n v = refl

-- where a record is hit, its fourth word is its number's
hit_number : (r : Record) (n v : ℕ) → hits r n v ≡ true → get_or (record_image r) 3 0 ≡ literal_word (pos (number r))
unfolding hits number record_image
hit_number (node m) n v h = let z : ◌≡◌ {A = ℕ} 0 1 = cc in absurd (omega arith)
hit_number (output o) n v h = refl
hit_number (waiting e) n v h = let z : ◌≡◌ {A = ℕ} 0 1 = cc in absurd (omega arith)
hit_number unknown n v h = let z : ◌≡◌ {A = ℕ} 0 1 = cc in absurd (omega arith)

-- a word of a number, where it is 0 and where it is not
pub word_none : (n x : ℕ) → x ≡ 0 → x ≡ literal_word (pos n) → None ≡ number_word n
unfolding number_word literal_word
word_none zero x z e = refl
word_none (suc n) x z e = absurd (omega arith)

pub word_some : (n x : ℕ) → (x ≡ 0 → ⊥) → x ≡ literal_word (pos n) → Some x ≡ number_word n
unfolding number_word literal_word
word_some zero x s e = absurd (s e)
word_some (suc n) x s e = ap Some e

-- the word of a number, 0 where it is 0
pub word_or : (n x : ℕ) → x ≡ unwrap_or (number_word n) 0 → x ≡ literal_word (pos n)
unfolding number_word literal_word
word_or zero x e = e
word_or (suc n) x e = e

-- words that store records, and where the walk stands
module _ (s : List ℕ) (records : ℕ) (rs : List Record) (h : Stores s records rs) (n v : ℕ) where
  hit_is : (i : ℕ) → hit_at s records i n v ≡ hits (get_or rs i unknown) n v
  unfolding hit_at
  hit_is i =
      rw (field_is s records rs h i 0 (omega arith), field_is s records rs h i 1 (omega arith), field_is s records rs h i 2 (omega arith))
      (hits_words (get_or rs i unknown) n v)

  from : (i : ℕ) → i < records → number_of (drop i rs) n v ≡ cond (hits (get_or rs i unknown) n v) (number (get_or rs i unknown)) (number_of (drop (i + 1) rs) n v)
  from i k =
      let up : suc i ≡ i + 1 = omega arith in
      let c : records ≡ length rs = h.count_is in
      ap (λ (z : List Record). number_of z n v) (drop-cons rs i unknown (omega arith)) ∙
      (number_first (get_or rs i unknown) (drop (suc i) rs) n v ∙
      ap (λ (j : ℕ). cond (hits (get_or rs i unknown) n v) (number (get_or rs i unknown)) (number_of (drop j rs) n v)) up)

  -- not hit: the rest is searched
  pub walk_on : (i : ℕ) → i < records → false ≡ hit_at s records i n v → number_of (drop i rs) n v ≡ number_of rs n v → number_of (drop (i + 1) rs) n v ≡ number_of rs n v
  walk_on i k e p =
      let no : hits (get_or rs i unknown) n v ≡ false = sym (hit_is i) ∙ sym e in
      sym (from i k ∙ ap (λ (b : Bool). cond b (number (get_or rs i unknown)) (number_of (drop (i + 1) rs) n v)) no) ∙ p

  -- hit: this is its number
  walk_number : (i x : ℕ) → i < records → true ≡ hit_at s records i n v → number_of (drop i rs) n v ≡ number_of rs n v → x ≡ field_at s records i 3 →
      x ≡ literal_word (pos (number_of rs n v))
  walk_number i x k e p ex =
      let yes : hits (get_or rs i unknown) n v ≡ true = sym (hit_is i) ∙ sym e in
      ex ∙ (field_is s records rs h i 3 (omega arith) ∙ (hit_number (get_or rs i unknown) n v yes ∙
      ap (λ (w : ℕ). literal_word (pos w))
      (sym (from i k ∙ ap (λ (b : Bool). cond b (number (get_or rs i unknown)) (number_of (drop (i + 1) rs) n v)) yes) ∙ p)))

  pub walk_hit : (i x : ℕ) → i < records → true ≡ hit_at s records i n v → number_of (drop i rs) n v ≡ number_of rs n v → x ≡ field_at s records i 3 →
      (x ≡ 0 → ⊥) → Some x ≡ number_word (number_of rs n v)
  walk_hit i x k e p ex some = word_some (number_of rs n v) x some (walk_number i x k e p ex)

  pub walk_zero : (i x : ℕ) → i < records → true ≡ hit_at s records i n v → number_of (drop i rs) n v ≡ number_of rs n v → x ≡ field_at s records i 3 →
      x ≡ 0 → None ≡ number_word (number_of rs n v)
  walk_zero i x k e p ex none = word_none (number_of rs n v) x none (walk_number i x k e p ex)

  -- past the last record nothing is found
  pub walk_end : (i : ℕ) → records ≤ i → number_of (drop i rs) n v ≡ number_of rs n v → None ≡ number_word (number_of rs n v)
  unfolding number_of number_in outputs number_word
  walk_end i k p =
      let c : records ≡ length rs = h.count_is in
      let past : length rs ≤ i = omega arith in
      ap number_word (sym (ap (λ (z : List Record). number_of z n v) (drop_of_length-le rs past)) ∙ p)

-- a leaf's word is its literal's, any other node's the number found
module _ (k : Kind) (n x : ℕ) where
  pub literal_leaf : is_leaf k ≡ true → x ≡ leaf_word k → x ≡ literal_word (literal_of k n)
  unfolding is_leaf leaf_word literal_of
  literal_leaf is ex = ex ∙ go k is
    where
      go : (k : Kind) → is_leaf k ≡ true → leaf_word k ≡ literal_word (literal_of k n)
      go (leaf y) e = refl
      go (join half l r) e = absurd (false≢true e)
      go dummy e = absurd (false≢true e)

  pub literal_found : is_leaf k ≡ false → x ≡ literal_word (pos n) → x ≡ literal_word (literal_of k n)
  unfolding is_leaf literal_of
  literal_found other ex = ex ∙ go k other
    where
      go : (k : Kind) → is_leaf k ≡ false → literal_word (pos n) ≡ literal_word (literal_of k n)
      go (leaf y) e = absurd (false≢true (sym e))
      go (join half l r) e = refl
      go dummy e = refl

pub side_none : (rs : List Record) (n v : ℕ) → v ≡ 0 → None ≡ side_word (side rs n v)
unfolding side_word side
side_none rs n v e = rw e refl

pub side_some : (rs : List Record) (n v w x : ℕ) → (v ≡ 0 → ⊥) → w ≡ literal_word (literal_of (node_at rs n).kind (number_of rs n v)) →
    x ≡ literal_word (neg_ℤ (word_literal w)) → Some x ≡ side_word (side rs n v)
unfolding side_word side
side_some rs n zero w x h e f = absurd (h refl)
side_some rs n (suc v) w x h e f =
    ap Some (f ∙ ap (λ (z : ℤ). literal_word (neg_ℤ z)) (ap word_literal e ∙ literal_word_literal (literal_of (node_at rs n).kind (number_of rs n (suc v)))))

-- the word of what a side adds, read again, is what it adds
pub side_read : (rs : List Record) (n v : ℕ) → side_of (side_word (side rs n v)) ≡ side rs n v
unfolding side_of side_word side
side_read rs n zero = refl
side_read rs n (suc v) = ap (λ (z : ℤ). z ∷ []) (literal_word_literal (neg_ℤ (literal_of (node_at rs n).kind (number_of rs n (suc v)))))
