-- Eight words are a record's image exactly if the test of their kind says so.
use mathlib.Core.Path.{◌≡◌, refl, sym, ap, ◌∙◌}
use mathlib.Core.Bool.{Bool, true, false, not, cond, ◌&&◌, false≢true}
use mathlib.Core.List.{List, [], ◌∷◌}
use Prim.Native.Nat.{ℕ, zero, suc, ◌+◌, ◌*◌, ◌/◌, ◌%◌, ◌≤◌, ◌<◌}
use native.Mathlib.Omega.{arith}
use lib.Dec.{eqb, leb}
use lib.ListN.{length, get_or, take, drop}
use lib.Seq.{drop-cons, drop-drop}
use borrow.Author.Tests.{eqb-true, eqb-false, eq-eqb, ne_eqb, leb-true, le-leb, lt-ltb, not-true}
use Rattle.rules.specs.Lists.{all, same, rising}
use Rattle.rules.specs.Records.{leaf, join, dummy, Record, node, output, waiting, unknown, literal_word, word_literal, node_image, record_image, reading, record_of, records_of}
use Rattle.rules.specs.WellFormed.{known, kinds_known}
use Rattle.laws.specs.Records.Words.{same_self, same_true, both, word_not_one}
use Rattle.laws.specs.Lists.Facts.{and_true}
use Rattle.laws.specs.WellFormed.Whole.{records_length}
use Rattle.numbers.proofs.Literals.{word_literal_word}
use Rattle.records.specs.declared.Kind.{Kind}
use Rattle.records.specs.declared.Kind.TheVariants.{Leaf, Join, Dummy, Output, Waiting}
use Rattle.records.specs.Words.{kind_word, field_at}
use Rattle.check_kinds.specs.Words.{zeros, kind_known, words_known, known_at}
use Rattle.check_arrays.proofs.Walk.{same_truth, and_false, all_same, all_places}

-- what three zeros say
zeros_of : (a b c : ℕ) → zeros a b c ≡ true → (a ≡ 0) × (b ≡ 0) × (c ≡ 0)
unfolding zeros
zeros_of a b c e =
    let (x, rest) = both (eqb a 0) (eqb b 0 && eqb c 0) e in
    let (y, z) = both (eqb b 0) (eqb c 0) rest in
    (eqb-true a 0 x, eqb-true b 0 y, eqb-true c 0 z)

of_zeros : (a b c : ℕ) → a ≡ 0 → b ≡ 0 → c ≡ 0 → zeros a b c ≡ true
unfolding zeros
of_zeros a b c x y z = and_true (eq-eqb a 0 x) (and_true (eq-eqb b 0 y) (eq-eqb c 0 z))

-- eight words
module _ (k a b c m h x y : ℕ) where
  ws : List ℕ
  ws = k ∷ a ∷ b ∷ c ∷ m ∷ h ∷ x ∷ y ∷ []

  -- they are known exactly if they are the image of what they say, and that is known
  known_of : (r : Record) → reading k a b c m h ≡ r → known (record_of ws) ≡ true → (record_image r ≡ ws) × (known r ≡ true)
  unfolding ws record_of known
  known_of r e t = go (same (record_image r) ws) refl (ap (λ (z : Record). known (cond (same (record_image z) ws) z unknown)) (sym e) ∙ t)
    where
      go : (b : Bool) → same (record_image r) ws ≡ b → known (cond b r unknown) ≡ true → (record_image r ≡ ws) × (known r ≡ true)
      go true p q = (same_true (record_image r) ws p, q)
      go false p q = absurd (false≢true q)

  of_known : (r : Record) → reading k a b c m h ≡ r → record_image r ≡ ws → known r ≡ true → known (record_of ws) ≡ true
  unfolding ws record_of
  of_known r e i t =
      ap (λ (z : Record). known (cond (same (record_image z) ws) z unknown)) e ∙
      (ap (λ (b : Bool). known (cond b r unknown)) (ap (same (record_image r)) (sym i) ∙ same_self (record_image r)) ∙ t)

  known_by : (r : Record) → reading k a b c m h ≡ r → known r ≡ true → (p : Bool) →
      (record_image r ≡ ws → p ≡ true) → (x ≡ 0 → y ≡ 0 → p ≡ true → record_image r ≡ ws) →
      get_or (record_image r) 6 0 ≡ 0 → get_or (record_image r) 7 0 ≡ 0 → known (record_of ws) ≡ (eqb x 0 && (eqb y 0 && p))
  unfolding ws
  known_by r e t p f g zx zy = same_truth (known (record_of ws)) (eqb x 0 && (eqb y 0 && p))
      (λ q. let (i, _) = known_of r e q in
      and_true (eq-eqb x 0 (sym (ap (λ (l : List ℕ). get_or l 6 0) i) ∙ zx))
      (and_true (eq-eqb y 0 (sym (ap (λ (l : List ℕ). get_or l 7 0) i) ∙ zy)) (f i)))
      (λ q. let (ex, more) = both (eqb x 0) (eqb y 0 && p) q in
      let (ey, ep) = both (eqb y 0) p more in
      of_known r e (g (eqb-true x 0 ex) (eqb-true y 0 ey) ep) t)

  known_none : reading k a b c m h ≡ unknown → known (record_of ws) ≡ false
  unfolding known
  known_none e = same_truth (known (record_of ws)) false (λ q. (known_of unknown e q).1) (λ q. absurd (false≢true q))

none_known : (k a b c m h x y : ℕ) → (k ≡ 1 → ⊥) → (k ≡ 2 → ⊥) → (k ≡ 3 → ⊥) → (k ≡ 4 → ⊥) → (k ≡ 5 → ⊥) → words_known k a b c m h x y ≡ false
unfolding words_known kind_known
none_known k a b c m h x y n1 n2 n3 n4 n5 =
    simp (ne_eqb k 1 n1, ne_eqb k 2 n2, ne_eqb k 3 n3, ne_eqb k 4 n4, ne_eqb k 5 n5) (and_false (eqb x 0) (eqb y 0 && false) (and_false (eqb y 0) false refl))

pub known_is : (k a b c m h x y : ℕ) → known (record_of (k ∷ a ∷ b ∷ c ∷ m ∷ h ∷ x ∷ y ∷ [])) ≡ words_known k a b c m h x y
unfolding words_known kind_known reading record_image node_image known literal_word ws
known_is zero a b c m h x y =
    known_none 0 a b c m h x y refl ∙
    sym (none_known 0 a b c m h x y (λ e. omega arith) (λ e. omega arith) (λ e. omega arith) (λ e. omega arith) (λ e. omega arith))
known_is (suc zero) a b c m h x y = known_by 1 a b c m h x y
    (node (record { kind = leaf (word_literal a); maximum = m; height = h })) refl refl (not (eqb a 1) && zeros b c 0)
    (λ i. and_true (ap not (ne_eqb a 1 (λ q. word_not_one (word_literal a) (ap (λ (l : List ℕ). get_or l 1 0) i ∙ q))))
    (of_zeros b c 0 (sym (ap (λ (l : List ℕ). get_or l 2 0) i)) (sym (ap (λ (l : List ℕ). get_or l 3 0) i)) refl))
    (λ ex ey p.
    let (na, z) = both (not (eqb a 1)) (zeros b c 0) p in
    let (eb, ec, _) = zeros_of b c 0 z in
    let ea : literal_word (word_literal a) ≡ a = word_literal_word a (eqb-false a 1 (not-true _ na)) in
    cc)
    refl refl
known_is (suc (suc zero)) a b c m h x y = known_by 2 a b c m h x y
    (node (record { kind = join (eqb c 1) a b; maximum = m; height = h })) refl refl (leb c 1)
    (λ i. le-leb c 1 (small (eqb c 1) (ap (λ (l : List ℕ). get_or l 3 0) i)))
    (λ ex ey p.
    let ec : cond (eqb c 1) 1 0 ≡ c = bit (eqb c 1) refl (leb-true c 1 p) in
    cc)
    refl refl
  where
    small : (t : Bool) → cond t 1 0 ≡ c → c ≤ 1
    small true e = omega arith
    small false e = omega arith

    bit : (t : Bool) → eqb c 1 ≡ t → c ≤ 1 → cond t 1 0 ≡ c
    bit true e l = sym (eqb-true c 1 e)
    bit false e l = omega (arith, eqb-false c 1 e)
known_is (suc (suc (suc zero))) a b c m h x y = known_by 3 a b c m h x y
    (node (record { kind = dummy; maximum = m; height = h })) refl refl (zeros a b c)
    (λ i. of_zeros a b c (sym (ap (λ (l : List ℕ). get_or l 1 0) i)) (sym (ap (λ (l : List ℕ). get_or l 2 0) i)) (sym (ap (λ (l : List ℕ). get_or l 3 0) i)))
    (λ ex ey p. let (ea, eb, ec) = zeros_of a b c p in cc)
    refl refl
known_is (suc (suc (suc (suc zero)))) a b c m h x y = known_by 4 a b c m h x y
    (output (record { node = a; value = b; number = c / 2 })) refl refl (zeros (c % 2) m h)
    (λ i. let even : 2 * (c / 2) ≡ c = ap (λ (l : List ℕ). get_or l 3 0) i in
    of_zeros (c % 2) m h (omega arith) (sym (ap (λ (l : List ℕ). get_or l 4 0) i)) (sym (ap (λ (l : List ℕ). get_or l 5 0) i)))
    (λ ex ey p.
    let (e, em, eh) = zeros_of (c % 2) m h p in
    let ec : 2 * (c / 2) ≡ c = omega arith in
    cc)
    refl refl
known_is (suc (suc (suc (suc (suc zero))))) a b c m h x y = known_by 5 a b c m h x y
    (waiting (record { node = a; weight = b })) refl refl (zeros c m h)
    (λ i. of_zeros c m h (sym (ap (λ (l : List ℕ). get_or l 3 0) i)) (sym (ap (λ (l : List ℕ). get_or l 4 0) i)) (sym (ap (λ (l : List ℕ). get_or l 5 0) i)))
    (λ ex ey p. let (ec, em, eh) = zeros_of c m h p in cc)
    refl refl
known_is (suc (suc (suc (suc (suc (suc n)))))) a b c m h x y =
    known_none (suc (suc (suc (suc (suc (suc n)))))) a b c m h x y refl ∙
    sym (none_known (suc (suc (suc (suc (suc (suc n)))))) a b c m h x y (λ e. omega arith) (λ e. omega arith) (λ e. omega arith) (λ e. omega arith)
    (λ e. omega arith))

-- the words from o + k on
words_from : List ℕ → ℕ → ℕ → ℕ → List ℕ
words_from s o k zero = []
words_from s o k (suc n) = get_or s (o + k) 0 ∷ words_from s o (suc k) n

take_words : (n : ℕ) (s : List ℕ) (o k : ℕ) → o + k + n ≤ length s → take n (drop (o + k) s) ≡ words_from s o k n
unfolding words_from
take_words zero s o k h = refl
take_words (suc n) s o k h =
    let up : suc (o + k) ≡ o + suc k = omega arith in
    ap (take (suc n)) (drop-cons s (o + k) 0 (omega arith)) ∙
    ap (λ (t : List ℕ). get_or s (o + k) 0 ∷ t) (ap (λ (j : ℕ). take n (drop j s)) up ∙ take_words n s o (suc k) (omega arith))

-- record i is that of its eight words
record_at : (ws : List ℕ) (n i : ℕ) → i < n → get_or (records_of ws n) i unknown ≡ record_of (take 8 (drop (8 * i) ws))
unfolding records_of
record_at ws zero i h = absurd (omega arith)
record_at ws (suc n) zero h = refl
record_at ws (suc n) (suc i) h =
    let up : 8 + 8 * i ≡ 8 * suc i = omega arith in
    record_at (drop 8 ws) n i (omega arith) ∙ ap (λ (t : List ℕ). record_of (take 8 t)) (drop-drop (8 * i) 8 ws ∙ ap (λ (j : ℕ). drop j ws) up)

words_cong : {k k' a a' b b' c c' m m' h h' x x' y y' : ℕ} → k ≡ k' → a ≡ a' → b ≡ b' → c ≡ c' → m ≡ m' → h ≡ h' → x ≡ x' → y ≡ y' →
    words_known k a b c m h x y ≡ words_known k' a' b' c' m' h' x' y'
words_cong ek ea eb ec em eh ex ey = cc

module _ (s : List ℕ) (records : ℕ) (room : 8 * records ≤ length s) where
  word : (i k : ℕ) → i < records → k < 8 → get_or s (8 * i + k) 0 ≡ field_at s records i k
  unfolding field_at
  word i k h j = sym (rw (lt-ltb i records h, lt-ltb i (length s / 8) (omega arith), lt-ltb k 8 j) refl)

  at : (i : ℕ) → i < records → known_at s records i ≡ known (get_or (records_of s records) i unknown)
  unfolding known_at words_from
  at i h =
      let none : 8 * i + 0 ≡ 8 * i = omega arith in
      sym (ap known (record_at s records i h ∙
      ap record_of (ap (λ (j : ℕ). take 8 (drop j s)) (sym none) ∙ take_words 8 s (8 * i) 0 (omega arith))) ∙
      (known_is (get_or s (8 * i + 0) 0) (get_or s (8 * i + 1) 0) (get_or s (8 * i + 2) 0) (get_or s (8 * i + 3) 0) (get_or s (8 * i + 4) 0)
      (get_or s (8 * i + 5) 0) (get_or s (8 * i + 6) 0) (get_or s (8 * i + 7) 0) ∙
      words_cong (word i 0 h (omega arith)) (word i 1 h (omega arith)) (word i 2 h (omega arith)) (word i 3 h (omega arith))
      (word i 4 h (omega arith)) (word i 5 h (omega arith)) (word i 6 h (omega arith)) (word i 7 h (omega arith))))

  pub all_known : all (known_at s records) (rising records 0) ≡ kinds_known (records_of s records)
  unfolding kinds_known
  all_known =
      all_same (known_at s records) (λ i. known (get_or (records_of s records) i unknown)) records 0 (λ i a b. at i (omega arith)) ∙
      (ap (λ (n : ℕ). all (λ i. known (get_or (records_of s records) i unknown)) (rising n 0)) (sym (records_length s records)) ∙
      all_places known unknown (records_of s records))

-- a word that says no kind
pub none_at : (s : List ℕ) (records i k : ℕ) → k ≡ field_at s records i 0 → ((kind : Kind) → kind_word kind ≡ k → ⊥) → false ≡ known_at s records i
unfolding known_at
none_at s records i k e none =
    let at : ℕ → ℕ = field_at s records i in
    sym (none_known (at 0) (at 1) (at 2) (at 3) (at 4) (at 5) (at 6) (at 7) (λ q. none Leaf (sym (e ∙ q))) (λ q. none Join (sym (e ∙ q))) (λ q. none Dummy (sym (e ∙ q)))
    (λ q. none Output (sym (e ∙ q))) (λ q. none Waiting (sym (e ∙ q))))
