-- What the readers say of a record, test by test.
use mathlib.Core.Path.{◌≡◌, refl, sym, ap, ap₂, ◌∙◌}
use mathlib.Core.Bool.{Bool, true, false, not, ◌&&◌, ◌||◌, false≢true}
use mathlib.Core.List.{List}
use Prim.Native.Nat.{ℕ}
use lib.Dec.{eqb}
use lib.ListN.{length}
use lib.IntN.{ℤ, pos, nat_abs}
use Rattle.std.specs.List.{list_all, range_with_len}
use Rattle.rules.specs.Lists.{all, among, rising}
use Rattle.rules.specs.Records.{Kind, leaf, join, dummy, Record, node, output, waiting, unknown, waits, node_of, word_literal, left_link, right_link, dummy_node}
use Rattle.rules.specs.WellFormed.{is_leaf, spares_buckets, above}
use Rattle.laws.specs.Records.Words.{literal_word_literal}
use Rattle.records.specs.Readers.{is_join, is_halved, leaf_word, is_output, output_node, output_value, output_number, entry_node, entry_weight}
use Rattle.records.proofs.Read.{join_parts}
use Rattle.check_records.specs.declared.Limits.{Limits}
use Rattle.check_records.specs.Tests.{kind_right, output_right, entry_right, record_right, place_right, records_right}
use Rattle.check_arrays.proofs.Chains.{range_all}

-- a node, by what the readers say of it
module _ (rs : List Record) (k : Kind) (m h : ℕ) (x y : ℕ) (ex : x ≡ m) (ey : y ≡ h) where
  pub right_leaf : is_leaf k ≡ true → (w : ℕ) → w ≡ leaf_word k → kind_right rs (leaf (word_literal w)) x y ≡ kind_right rs k m h
  unfolding is_leaf leaf_word
  right_leaf is w ew = ap (λ (w : ℕ). kind_right rs (leaf (word_literal w)) x y) ew ∙ (ap₂ (kind_right rs (leaf (word_literal (leaf_word k)))) ex ey ∙ go k is)
    where
      go : (k : Kind) → is_leaf k ≡ true → kind_right rs (leaf (word_literal (leaf_word k))) m h ≡ kind_right rs k m h
      go (leaf z) e = ap (λ (z : ℤ). kind_right rs (leaf z) m h) (literal_word_literal z)
      go (join half l r) e = absurd (false≢true e)
      go dummy e = absurd (false≢true e)

  pub right_join : is_join k ≡ true → (half : Bool) (l r : ℕ) → half ≡ is_halved k → l ≡ left_link k → r ≡ right_link k →
      kind_right rs (join half l r) x y ≡ kind_right rs k m h
  right_join is half l r eh el er =
      ap (λ (b : Bool). kind_right rs (join b l r) x y) eh ∙
      (ap₂ (λ (l r : ℕ). kind_right rs (join (is_halved k) l r) x y) el er ∙
      (ap (λ (k : Kind). kind_right rs k x y) (sym (join_parts k is)) ∙ ap₂ (kind_right rs k) ex ey))

  pub right_dummy : is_leaf k ≡ false → is_join k ≡ false → (eqb x 0 && eqb y 0) ≡ kind_right rs k m h
  unfolding is_leaf is_join kind_right
  right_dummy no_leaf no_join = ap₂ (λ (x y : ℕ). eqb x 0 && eqb y 0) ex ey ∙ go k no_leaf no_join
    where
      go : (k : Kind) → is_leaf k ≡ false → is_join k ≡ false → (eqb m 0 && eqb h 0) ≡ kind_right rs k m h
      go (leaf z) e f = absurd (false≢true (sym e))
      go (join half l r) e f = absurd (false≢true (sym f))
      go dummy e f = refl

-- a record, by what the readers say of it
module _ (rs : List Record) (tares buckets : List ℕ) (lim : Limits) (r : Record) where
  pub right_output : is_output r ≡ true → (n v w x : ℕ) → n ≡ output_node r → v ≡ output_value r → w ≡ output_number r → x ≡ nat_abs (word_literal w) →
      output_right rs tares lim n v x ≡ record_right rs tares buckets lim r
  unfolding is_output output_node output_value output_number record_right
  right_output is n v w x en ev ew ex =
      ap₂ (λ (n v : ℕ). output_right rs tares lim n v x) en ev ∙
      (ap (output_right rs tares lim (output_node r) (output_value r)) (ex ∙ ap (λ (w : ℕ). nat_abs (word_literal w)) ew) ∙ go r is)
    where
      go : (r : Record) → is_output r ≡ true →
          output_right rs tares lim (output_node r) (output_value r) (nat_abs (word_literal (output_number r))) ≡ record_right rs tares buckets lim r
      go (node n) e = absurd (false≢true e)
      go (output o) e = ap (output_right rs tares lim o.node o.value) (ap nat_abs (literal_word_literal (pos o.number)))
      go (waiting w) e = absurd (false≢true e)
      go unknown e = absurd (false≢true e)

  pub right_entry : waits r ≡ true → (n w : ℕ) → n ≡ entry_node r → w ≡ entry_weight r → entry_right rs buckets lim n w ≡ record_right rs tares buckets lim r
  unfolding waits entry_node entry_weight record_right
  right_entry is n w en ew = ap₂ (entry_right rs buckets lim) en ew ∙ go r is
    where
      go : (r : Record) → waits r ≡ true → entry_right rs buckets lim (entry_node r) (entry_weight r) ≡ record_right rs tares buckets lim r
      go (node n) e = absurd (false≢true e)
      go (output o) e = absurd (false≢true e)
      go (waiting w) e = refl
      go unknown e = absurd (false≢true e)

  pub right_node : is_output r ≡ false → waits r ≡ false → kind_right rs (node_of r).kind (node_of r).maximum (node_of r).height ≡ record_right rs tares buckets lim r
  unfolding is_output waits record_right node_of dummy_node kind_right
  right_node no_output no_entry = go r no_output no_entry
    where
      go : (r : Record) → is_output r ≡ false → waits r ≡ false →
          kind_right rs (node_of r).kind (node_of r).maximum (node_of r).height ≡ record_right rs tares buckets lim r
      go (node n) e f = refl
      go (output o) e f = absurd (false≢true (sym e))
      go (waiting w) e f = absurd (false≢true (sym f))
      go unknown e f = refl

-- links and buckets
module _ (buckets : List ℕ) (i : ℕ) (k : Kind) where
  pub spare_other : is_join k ≡ false → true ≡ spares_buckets buckets i k
  unfolding is_join spares_buckets
  spare_other e = go k e
    where
      go : (k : Kind) → is_join k ≡ false → true ≡ spares_buckets buckets i k
      go (leaf x) e = refl
      go (join half l r) e = absurd (false≢true (sym e))
      go dummy e = refl

  pub spare_join : is_join k ≡ true → (l r : ℕ) → l ≡ left_link k → r ≡ right_link k →
      (not (among buckets l) && (not (among buckets r) || above buckets i r)) ≡ spares_buckets buckets i k
  unfolding spares_buckets
  spare_join is l r el er =
      ap₂ (λ (y z : ℕ). not (among buckets y) && (not (among buckets z) || above buckets i z)) el er ∙
      ap (spares_buckets buckets i) (sym (join_parts k is))

-- the pass over every record
pub pass_is : (rs : List Record) (tares buckets : List ℕ) (lim : Limits) (records : ℕ) → records ≡ length rs →
    list_all (place_right rs tares buckets lim) (range_with_len 0 records) ≡ records_right rs tares buckets lim
unfolding records_right
pass_is rs tares buckets lim records e =
    range_all (place_right rs tares buckets lim) records 0 ∙ ap (λ (n : ℕ). all (place_right rs tares buckets lim) (rising n 0)) e
