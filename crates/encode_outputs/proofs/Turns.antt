-- The values of a range, outputs found in turn, entries taken in turn.
use mathlib.Core.Path.{◌≡◌, refl, sym, ap, ap₂, ◌∙◌}
use mathlib.Core.Bool.{Bool, false, not, ◌&&◌}
use mathlib.Core.List.{List, [], ◌∷◌, map, append_assoc, append-nil}
use Prim.Native.Nat.{ℕ, zero, suc, ◌+◌, ◌*◌, ◌-◌, ◌/◌, ◌%◌, ◌^◌, ◌≤◌, ◌<◌, min}
use native.Mathlib.Omega.{arith}
use native.Mathlib.Nat.{div-lt_iff_lt-mul}
use lib.Dec.{eqb}
use lib.ListN.{get_or}
use Rattle.std.specs.List.{list_all, range_with_len}
use Rattle.std.specs.Prelude.{Option, is_some}
use borrow.Author.Tests.{ne_eqb}
use Rattle.rules.specs.Lists.{all, in_turn, rising}
use Rattle.rules.specs.Records.{Record, Entry, waiting, node_at}
use Rattle.rules.specs.Totalizer.{Arena, number_of, define_output}
use Rattle.numbers.proofs.Bits.{power_whole}
use Rattle.records_words.specs.Words.{word_at}
use Rattle.records.specs.Carries.{Held, St, st, Steps, Stores, with_record, with_records}
use Rattle.records.proofs.Step.{Rest, rest_start, rest_turn, held}
use Rattle.totalizer_find.specs.Found.{number_word}
use Rattle.encode_outputs.specs.Values.{values, outputs_of, all_defined}
use Rattle.encode_outputs.specs.Taken.{entries_by, with_waiting}

module _ (most tares lo end w : ℕ) (few : tares ≤ 19) (is : w ≡ 2 ^ tares % 2 ^ 64) where
  -- the range begins at or above the maximum
  pub values_none : most ≤ lo / w → rising 0 1 ≡ values most tares lo end
  unfolding values rising
  values_none h =
      let a : lo / w ≡ lo / 2 ^ tares = ap (λ (n : ℕ). lo / n) (power_whole tares w (omega arith) is) in
      let b : 0 ≡ min (suc ((end - 1) / 2 ^ tares)) most - lo / 2 ^ tares = nil (suc ((end - 1) / 2 ^ tares)) (lo / 2 ^ tares) (omega arith) in
      ap (λ (n : ℕ). rising n (suc (lo / 2 ^ tares))) b
    where
      nil : (x y : ℕ) → most ≤ y → 0 ≡ min x most - y
      nil x y h = omega arith

  -- it begins below
  pub values_some : (high : ℕ) → high ≡ min ((end - 1) / w + 1) most → rising (high - lo / w) (lo / w + 1) ≡ values most tares lo end
  unfolding values
  values_some high e =
      let p : w ≡ 2 ^ tares = power_whole tares w (omega arith) is in
      ap₂ rising
      (ap (λ (n : ℕ). n - lo / w) (e ∙ ap (λ (n : ℕ). min n most) (plus ((end - 1) / w))) ∙
      ap (λ (n : ℕ). min (suc ((end - 1) / n)) most - lo / n) p)
      (plus (lo / w) ∙ ap (λ (n : ℕ). suc (lo / n)) p)
    where
      plus : (x : ℕ) → x + 1 ≡ suc x
      plus x = omega arith

-- a lower number divided is no higher
pub divided_low : (x y w : ℕ) → 1 ≤ w → x ≤ y → x / w ≤ y / w
divided_low x y w some h =
    let a : y < suc (y / w) * w = (div-lt_iff_lt-mul {x = y} {y = suc (y / w)} some).0 (omega arith) in
    let b : x / w < suc (y / w) = (div-lt_iff_lt-mul {x = x} {y = suc (y / w)} some).1 (omega arith) in
    omega arith

-- the root outputs of a range, through the words
pub outputs_done : (s : List ℕ) (c : _) (m : Held) (τ : St) (root tares lo end most first many : ℕ) → m.full ≡ false →
    ((rs : List Record) → Stores s m.records rs → most ≡ (node_at rs root).maximum) → rising many first ≡ values most tares lo end →
    Steps (st s c m) τ (λ t. in_turn (λ t v. define_output t root v) t (rising many first)) → Steps (st s c m) τ (outputs_of root tares lo end)
unfolding outputs_of
outputs_done s c m τ root tares lo end most first many k top is p =
    held s c m τ (outputs_of root tares lo end) k
    (λ t stores fresh. (
      (λ t. in_turn (λ t v. define_output t root v) t (rising many first)),
      p,
      ap (λ vs. in_turn (λ t v. define_output t root v) t vs) (is ∙ ap (λ (n : ℕ). values n tares lo end) (top t.records stores)),
    ))

-- a number that was looked for
pub tested : (x : Option ℕ) (n : ℕ) (b : Bool) → x ≡ number_word n → b ≡ is_some x → b ≡ not (eqb n 0)
unfolding number_word
tested x zero b p q = q ∙ ap is_some p
tested x (suc n) b p q = q ∙ (ap is_some p ∙ sym (ap not (ne_eqb (suc n) 0 (λ z. absurd (omega arith)))))

-- values that are looked for by their distance from the first
module _ (rs : List Record) (node first : ℕ) where
  defined_from : (a n : ℕ) → list_all (λ i. not (eqb (number_of rs node (first + i)) 0)) (range_with_len a n) ≡ all_defined rs node (rising n (first + a))
  unfolding all_defined all rising
  defined_from a zero = refl
  defined_from a (suc n) =
      let next : first + (a + 1) ≡ suc (first + a) = omega arith in
      ap (λ (b : Bool). not (eqb (number_of rs node (first + a)) 0) && b) (defined_from (a + 1) n ∙ ap (λ (v : ℕ). all_defined rs node (rising n v)) next)

  pub defined_values : (n : ℕ) → list_all (λ i. not (eqb (number_of rs node (first + i)) 0)) (range_with_len 0 n) ≡ all_defined rs node (rising n first)
  defined_values n = let start : first + 0 ≡ first = omega arith in defined_from 0 n ∙ ap (λ (v : ℕ). all_defined rs node (rising n v)) start

-- entries that are left to append, after k of n
module _ (ws : List ℕ) (a b apart n : ℕ) where
  pub waiting_start : (σ : St) → Rest σ σ (with_waiting (entries_by ws a b apart n)) (with_waiting (entries_by ws (a + 0 * apart) (b + 0 * apart) apart (n - 0)))
  waiting_start σ =
      let x : a + 0 * apart ≡ a = omega arith in
      let y : b + 0 * apart ≡ b = omega arith in
      let z : n - 0 ≡ n = omega arith in
      rw (x, y, z) (rest_start σ (with_waiting (entries_by ws a b apart n)))

  pub waiting_end : (k : ℕ) → n ≤ k → (t : Arena) → with_waiting (entries_by ws (a + k * apart) (b + k * apart) apart (n - k)) t ≡ t
  unfolding with_waiting entries_by with_records
  waiting_end k h t = let none : n - k ≡ 0 = omega arith in rw none (ap (with_records t) (append-nil t.records))

  waiting_on : (k : ℕ) → k < n → (t : Arena) →
      with_waiting (entries_by ws (a + k * apart) (b + k * apart) apart (n - k)) t ≡
      with_waiting (entries_by ws (a + (k + 1) * apart) (b + (k + 1) * apart) apart (n - (k + 1)))
      (with_record (waiting (record { node = get_or ws (a + k * apart) 0; weight = get_or ws (b + k * apart) 0 })) t)
  unfolding with_waiting entries_by with_records with_record
  waiting_on k h t =
      let more : n - k ≡ suc (n - (k + 1)) = omega arith in
      let x : a + (k + 1) * apart ≡ a + k * apart + apart = omega arith in
      let y : b + (k + 1) * apart ≡ b + k * apart + apart = omega arith in
      let first : Entry = record { node = get_or ws (a + k * apart) 0; weight = get_or ws (b + k * apart) 0 } in
      rw (more, x, y)
      (ap (with_records t)
      (sym (append_assoc t.records (waiting first ∷ []) (map waiting (entries_by ws (a + k * apart + apart) (b + k * apart + apart) apart (n - (k + 1)))))))

  pub waiting_turn : (σ₀ σ τ : St) (f : Arena → Arena) (k x y : ℕ) → k < n → x ≡ word_at ws (a + k * apart) → y ≡ word_at ws (b + k * apart) →
      Steps σ τ (with_record (waiting (record { node = x; weight = y }))) → Rest σ₀ σ f (with_waiting (entries_by ws (a + k * apart) (b + k * apart) apart (n - k))) →
      Rest σ₀ τ f (with_waiting (entries_by ws (a + (k + 1) * apart) (b + (k + 1) * apart) apart (n - (k + 1))))
  unfolding word_at
  waiting_turn σ₀ σ τ f k x y h p q s r =
      rest_turn σ₀ σ τ f (with_waiting (entries_by ws (a + k * apart) (b + k * apart) apart (n - k)))
      (with_waiting (entries_by ws (a + (k + 1) * apart) (b + (k + 1) * apart) apart (n - (k + 1)))) (with_record (waiting (record { node = x; weight = y }))) s
      (λ t. waiting_on k h t ∙
      ap₂ (λ (n' w : ℕ). with_waiting (entries_by ws (a + (k + 1) * apart) (b + (k + 1) * apart) apart (n - (k + 1))) (with_record (waiting (record { node = n'; weight = w })) t)) (sym p) (sym q)) r
