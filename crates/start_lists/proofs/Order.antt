-- The refusals of start in their order, from the tests of the lists.
use mathlib.Core.Path.{◌≡◌, refl, sym, ap, ap₂, ◌∙◌}
use mathlib.Core.Bool.{Bool, true, false, not, cond, ◌&&◌, ◌||◌}
use mathlib.Core.List.{List, [], ◌∷◌, map}
use Prim.Native.Nat.{ℕ, zero, suc, ◌*◌, ◌/◌, ◌≤◌, ◌<◌, min}
use native.Mathlib.Omega.{arith}
use borrow.Author.Tests.{eq-eqb, ne_eqb, lt-ltb, le-ltb, eqb-true, ltb-false}
use lib.Dec.{eqb, ltb, leb}
use lib.ListN.{length}
use lib.IntN.{ℤ, nat_abs}
use Rattle.std.specs.Prelude.{Result, Ok, Err}
use Rattle.rules.specs.declared.Combined.{Combined}
use Rattle.rules.specs.declared.Refusal.{Refusal}
use Rattle.rules.specs.declared.Refusal.TheVariants.{ListsDiffer, LiteralUnlawful, WeightUnlawful, FreshUnlawful, NoRoom}
use Rattle.rules.specs.Lists.{all}
use Rattle.rules.specs.Numbers.{lawful, lawful_weight, capacity}
use Rattle.rules.specs.Records.{literal_word, word_literal}
use Rattle.rules.specs.Combined.{combined_literals, combined_weights}
use Rattle.rules.specs.Refusals.{first_true, lists_differ, literal_unlawful, weight_unlawful, fresh_unlawful, answer_of, refusal_of, refusals}
use Rattle.rules.specs.Start.{list_refusal, list_of, checked_end, checked, start_no_room, start_refusal}
use Rattle.laws.specs.Combined.{combined_few}
use Rattle.laws.specs.Lists.Facts.{not_not, neither}
use Rattle.laws.specs.Records.Words.{both, literal_word_literal}
use Rattle.numbers.specs.Signed.{word_or_none}
use Rattle.start_lists.specs.Literals.{words}
use Rattle.start_lists.specs.Lines.{Lines, lines_refusal}

-- where all literals are lawful their words are those of the rules
pub lawful_words : (lits : List ℤ) → all lawful lits ≡ true → words lits ≡ map literal_word lits
unfolding words all word_or_none
lawful_words [] h = refl
lawful_words (x ∷ lits) h =
    let (a, b) = both (lawful x) (all lawful lits) h in
    ap₂ (λ (w : ℕ) ws. w ∷ ws) (ap (λ (t : Bool). cond t (literal_word x) 0) a) (lawful_words lits b)

-- a test of the variables of words is one of the literals
variables : (first : ℕ) (lits : List ℤ) → all (λ w. ltb (nat_abs (word_literal w)) first) (map literal_word lits) ≡ all (λ x. ltb (nat_abs x) first) lits
unfolding all
variables first [] = refl
variables first (x ∷ lits) =
    ap₂ (λ (a b : Bool). a && b) (ap (λ y. ltb (nat_abs y) first) (literal_word_literal x)) (variables first lits)

module _ (lits : List ℤ) (first : ℕ) where
  pub fresh_none : first ≡ 0 → true ≡ fresh_unlawful lits first
  unfolding fresh_unlawful
  fresh_none h = sym (ap (λ (b : Bool). b || ltb 1000000000 first || not (all (λ x. ltb (nat_abs x) first) lits)) (eq-eqb first 0 h))

  pub fresh_high : (first ≡ 0 → ⊥) → 1000000000 < first → true ≡ fresh_unlawful lits first
  unfolding fresh_unlawful
  fresh_high z h =
      sym (ap₂ (λ (a b : Bool). a || b || not (all (λ x. ltb (nat_abs x) first) lits)) (ne_eqb first 0 z) (lt-ltb 1000000000 first h))

  pub fresh_rest : (b : Bool) → (first ≡ 0 → ⊥) → first ≤ 1000000000 → b ≡ not (all (λ w. ltb (nat_abs (word_literal w)) first) (words lits)) →
      all lawful lits ≡ true → b ≡ fresh_unlawful lits first
  unfolding fresh_unlawful
  fresh_rest b z h e l =
      e ∙ (ap not (ap (all (λ w. ltb (nat_abs (word_literal w)) first)) (lawful_words lits l) ∙ variables first lits) ∙
      sym (ap₂ (λ (p q : Bool). p || q || not (all (λ x. ltb (nat_abs x) first) lits)) (ne_eqb first 0 z) (le-ltb 1000000000 first h)))

-- the variable of a word is below a number
abbrev pub Below : ℕ → ℕ → Bool
Below first w = ltb (nat_abs (word_literal w)) first

pub below_no : (w x y first : ℕ) → w ≡ x → y ≡ x → (v : ℕ) → v ≡ nat_abs (word_literal y) → first ≤ v → Below first w ≡ false
below_no w x y first p q v e h = ap (Below first) (p ∙ sym q) ∙ (ap (λ (n : ℕ). ltb n first) (sym e) ∙ le-ltb v first h)

pub below_yes : (w x y first : ℕ) → w ≡ x → y ≡ x → (v : ℕ) → v ≡ nat_abs (word_literal y) → v < first → Below first w ≡ true
below_yes w x y first p q v e h = ap (Below first) (p ∙ sym q) ∙ (ap (λ (n : ℕ). ltb n first) (sym e) ∙ lt-ltb v first h)

-- the lines one by one
module _ (lits : List ℤ) (weights : List ℕ) where
  -- lines that are refused one by one are a refused list
  pub lines_list : (n : ℕ) → n ≡ lines_refusal lits weights → (n ≡ 0 → ⊥) → list_refusal lits weights ≡ n
  unfolding lines_refusal list_refusal first_true weight_unlawful
  lines_list n e z = go (lists_differ lits weights) (literal_unlawful lits) (all lawful_weight weights) (not (all (λ w. leb w 1048575) (combined_weights lits weights))) e
    where
      go : (a b c d : Bool) → n ≡ cond a 1 (cond b 2 (cond (not c) 4 0)) → cond a 1 (cond b 2 (cond (not c || d) 4 0)) ≡ n
      go true b c d e = sym e
      go false true c d e = sym e
      go false false false d e = sym e
      go false false true d e = absurd (z e)

  -- so is the answer of the lines
  pub lines_1 : lists_differ lits weights ≡ true → Err ListsDiffer ≡ answer_of (lines_refusal lits weights)
  unfolding lines_refusal first_true answer_of refusal_of refusals
  lines_1 a = sym (ap (λ (x : Bool). answer_of (cond x 1 (cond (literal_unlawful lits) 2 (cond (not (all lawful_weight weights)) 4 0)))) a)

  pub lines_2 : lists_differ lits weights ≡ false → literal_unlawful lits ≡ true → Err LiteralUnlawful ≡ answer_of (lines_refusal lits weights)
  unfolding lines_refusal first_true answer_of refusal_of refusals
  lines_2 a b = sym (ap₂ (λ (x y : Bool). answer_of (cond x 1 (cond y 2 (cond (not (all lawful_weight weights)) 4 0)))) a b)

  lines_rest : (c : Bool) → lists_differ lits weights ≡ false → literal_unlawful lits ≡ false → not (all lawful_weight weights) ≡ c → answer_of (cond c 4 0) ≡ answer_of (lines_refusal lits weights)
  unfolding lines_refusal first_true
  lines_rest c a b e = sym (ap₂ (λ (x y : Bool). answer_of (cond x 1 (cond y 2 (cond (not (all lawful_weight weights)) 4 0)))) a b ∙ ap (λ (z : Bool). answer_of (cond z 4 0)) e)

  pub lines_4 : lists_differ lits weights ≡ false → literal_unlawful lits ≡ false → not (all lawful_weight weights) ≡ true → Err WeightUnlawful ≡ answer_of (lines_refusal lits weights)
  unfolding answer_of refusal_of refusals
  lines_4 a b e = lines_rest true a b e

  pub lines_0 : lists_differ lits weights ≡ false → literal_unlawful lits ≡ false → not (all lawful_weight weights) ≡ false → Ok tt ≡ answer_of (lines_refusal lits weights)
  unfolding answer_of
  lines_0 a b e = lines_rest false a b e

  pub lines_refused : (r : Refusal) → Err r ≡ answer_of (lines_refusal lits weights) → Err r ≡ checked lits weights
  unfolding answer_of checked checked_end
  lines_refused r e = go (lines_refusal lits weights) refl e
    where
      go : (n : ℕ) → n ≡ lines_refusal lits weights → Err r ≡ answer_of n → Err r ≡ checked lits weights
      go zero q p = absurd (cc)
      go (suc n) q p =
          let r-is : r ≡ refusal_of (suc n) = cc in
          ap (λ (x : Refusal). Err x) r-is ∙
          sym (ap (λ (k : ℕ). checked_end k (combined_literals lits) (combined_weights lits weights)) (lines_list (suc n) q (λ (z : suc n ≡ 0). omega arith)))

  pub lines_sent : Ok tt ≡ answer_of (lines_refusal lits weights) → lines_refusal lits weights ≡ 0
  unfolding answer_of
  lines_sent e = go (lines_refusal lits weights) e
    where
      go : (n : ℕ) → Ok tt ≡ answer_of n → n ≡ 0
      go zero p = refl
      go (suc n) p = absurd (cc)

  -- and where they are not, the combined weights decide
  pub record Sent : Type 0 where
    pub unequal : lists_differ lits weights ≡ false
    pub unlawful : literal_unlawful lits ≡ false
    pub light : all lawful_weight weights ≡ true

  pub sent : Ok tt ≡ answer_of (lines_refusal lits weights) → Sent
  unfolding lines_refusal first_true
  sent e = go (lists_differ lits weights) refl (literal_unlawful lits) refl (all lawful_weight weights) refl (lines_sent e)
    where
      go : (a : Bool) → lists_differ lits weights ≡ a → (b : Bool) → literal_unlawful lits ≡ b → (c : Bool) → all lawful_weight weights ≡ c → ◌≡◌ {A = ℕ} (cond a 1 (cond b 2 (cond (not c) 4 0))) 0 → Sent
      go true a b p c q e = absurd (omega arith)
      go false a true p c q e = absurd (omega arith)
      go false a false p false q e = absurd (omega arith)
      go false a false p true q e = record { unequal = a; unlawful = p; light = q }

  pub lines_are : Sent → Lines lits weights
  unfolding lists_differ
  lines_are s =
      let (p, q) = neither (not (eqb (length lits) (length weights))) (ltb 256 (length lits)) s.unequal in
      record { lengths = eqb-true (length lits) (length weights) (not_not _ p); few = ltb-false 256 (length lits) q; lawful = s.light }

  pub list_decided : (h : Bool) → Sent → not (all (λ w. leb w 1048575) (combined_weights lits weights)) ≡ h → list_refusal lits weights ≡ cond h 4 0
  unfolding list_refusal first_true weight_unlawful
  list_decided h s e =
      ap₂ (λ (x y : Bool). cond x 1 (cond y 2 (cond (not (all lawful_weight weights) || not (all (λ w. leb w 1048575) (combined_weights lits weights))) 4 0))) s.unequal s.unlawful ∙
      ap₂ (λ (x y : Bool). cond (not x || y) 4 0) s.light e

  -- a list with a heavy weight, and one that is not refused
  pub heavy_list : list_refusal lits weights ≡ 4 → Err WeightUnlawful ≡ checked lits weights
  unfolding checked checked_end refusal_of refusals
  heavy_list e = sym (ap (λ (k : ℕ). checked_end k (combined_literals lits) (combined_weights lits weights)) e)

  pub accepted_list : (r : Combined) → list_refusal lits weights ≡ 0 → r ≡ list_of (combined_literals lits) (combined_weights lits weights) → Ok r ≡ checked lits weights
  unfolding checked checked_end
  accepted_list r e p = ap (λ (x : Combined). Ok x) p ∙ sym (ap (λ (k : ℕ). checked_end k (combined_literals lits) (combined_weights lits weights)) e)

  -- what the answer of a checked list says of its refusal
  pub list_refused : (r : Refusal) → Err r ≡ checked lits weights → (list_refusal lits weights ≡ 0 → ⊥) × (r ≡ refusal_of (list_refusal lits weights))
  unfolding checked checked_end
  list_refused r e = go (list_refusal lits weights) e
    where
      go : (n : ℕ) → Err r ≡ checked_end n (combined_literals lits) (combined_weights lits weights) → (n ≡ 0 → ⊥) × (r ≡ refusal_of n)
      go zero p = absurd (cc)
      go (suc n) p = ((λ (z : suc n ≡ 0). omega arith), cc)

  pub list_accepted : (r : Combined) → Ok r ≡ checked lits weights → (list_refusal lits weights ≡ 0) × (r ≡ list_of (combined_literals lits) (combined_weights lits weights))
  unfolding checked checked_end
  list_accepted r e = go (list_refusal lits weights) e
    where
      go : (n : ℕ) → Ok r ≡ checked_end n (combined_literals lits) (combined_weights lits weights) → (n ≡ 0) × (r ≡ list_of (combined_literals lits) (combined_weights lits weights))
      go zero p = (refl, cc)
      go (suc n) p = absurd (cc)

  pub list_used : (r : Combined) → Ok r ≡ checked lits weights → r.used ≡ length (combined_literals lits)
  unfolding list_of
  list_used r e = ap (λ (x : Combined). x.used) (list_accepted r e).1

  module _ (first : ℕ) (store : List ℕ) where
    -- the list's refusal comes before 5 and 7
    behind : (a b c d e : Bool) → ◌≡◌ {A = ℕ} (cond a 1 (cond b 2 (cond c 4 (cond d 5 (cond e 7 0))))) (cond (eqb (cond a 1 (cond b 2 (cond c 4 0))) 0) (cond d 5 (cond e 7 0)) (cond a 1 (cond b 2 (cond c 4 0))))
    behind true b c d e = refl
    behind false true c d e = refl
    behind false false true d e = refl
    behind false false false d e = refl

    in_order : (n : ℕ) → list_refusal lits weights ≡ n → start_refusal lits weights first store ≡ cond (eqb n 0) (cond (fresh_unlawful lits first) 5 (cond (start_no_room lits store) 7 0)) n
    unfolding start_refusal list_refusal first_true
    in_order n e =
        behind (lists_differ lits weights) (literal_unlawful lits) (weight_unlawful lits weights) (fresh_unlawful lits first) (start_no_room lits store) ∙
        ap (λ (k : ℕ). cond (eqb k 0) (cond (fresh_unlawful lits first) 5 (cond (start_no_room lits store) 7 0)) k) e

    abbrev start_is : Result Combined Refusal
    start_is = checked_end (start_refusal lits weights first store) (combined_literals lits) (combined_weights lits weights)

    at : (n : ℕ) → start_refusal lits weights first store ≡ n → checked_end n (combined_literals lits) (combined_weights lits weights) ≡ start_is
    at n e = sym (ap (λ (k : ℕ). checked_end k (combined_literals lits) (combined_weights lits weights)) e)

    pub by_list : (r : Refusal) → Err r ≡ checked lits weights → Err r ≡ start_is
    unfolding checked
    by_list r e =
        let n : ℕ = list_refusal lits weights in
        e ∙ at n (in_order n refl ∙ ap (λ (b : Bool). cond b (cond (fresh_unlawful lits first) 5 (cond (start_no_room lits store) 7 0)) n) (ne_eqb n 0 (list_refused r e).0))

    behind_list : (f g : Bool) → list_refusal lits weights ≡ 0 → fresh_unlawful lits first ≡ f → start_no_room lits store ≡ g → start_refusal lits weights first store ≡ cond f 5 (cond g 7 0)
    behind_list f g z p q = in_order 0 z ∙ ap₂ (λ (x y : Bool). cond x 5 (cond y 7 0)) p q

    pub by_fresh : list_refusal lits weights ≡ 0 → fresh_unlawful lits first ≡ true → Err FreshUnlawful ≡ start_is
    unfolding checked_end refusal_of refusals
    by_fresh z f = at 5 (behind_list true (start_no_room lits store) z f refl)

    pub by_room : list_refusal lits weights ≡ 0 → fresh_unlawful lits first ≡ false → start_no_room lits store ≡ true → Err NoRoom ≡ start_is
    unfolding checked_end refusal_of refusals
    by_room z f g = at 7 (behind_list false true z f g)

    pub by_none : (r : Combined) → Ok r ≡ checked lits weights → fresh_unlawful lits first ≡ false → start_no_room lits store ≡ false → Ok r ≡ start_is
    unfolding checked_end
    by_none r e f g =
        let (z, p) = list_accepted r e in
        ap (λ (x : Combined). Ok x) p ∙ at 0 (behind_list false false z f g)

  -- an accepted list has lawful literals, and few
  pub list_lawful : list_refusal lits weights ≡ 0 → (all lawful lits ≡ true) × (length lits ≤ 256)
  unfolding list_refusal first_true literal_unlawful lists_differ
  list_lawful e =
      let (one, e₁) = first_not 0 (lists_differ lits weights) _ e in
      let (two, e₂) = first_not 1 (literal_unlawful lits) _ e₁ in
      (not_not (all lawful lits) two, ltb-false 256 (length lits) (neither (not (eqb (length lits) (length weights))) (ltb 256 (length lits)) one).1)
    where
      first_not : (k : ℕ) (b : Bool) (rest : ℕ) → cond b (suc k) rest ≡ 0 → (b ≡ false) × (rest ≡ 0)
      first_not k true rest e = absurd (omega arith)
      first_not k false rest e = (refl, e)

-- so it has few inputs
pub list_few : (lits : List ℤ) (weights : List ℕ) (r : Combined) → Ok r ≡ checked lits weights → r.used ≤ 256
list_few lits weights r e =
    omega (arith, list_used lits weights r e, combined_few lits, (list_lawful lits weights (list_accepted lits weights r e).0).1)

-- 7 where there are few inputs, which never pass the largest count of records
pub no_room : (lits : List ℤ) (store : List ℕ) (k n : ℕ) → k ≡ length store / 8 → n ≡ length (combined_literals lits) → length lits ≤ 256 → k < 2 * n → start_no_room lits store ≡ true
unfolding start_no_room capacity
no_room lits store k n e f h p =
    lt-ltb (min (length store / 8) 4294967296) (2 * length (combined_literals lits)) (omega (arith, combined_few lits))

pub room : (lits : List ℤ) (store : List ℕ) (k n : ℕ) → k ≡ length store / 8 → n ≡ length (combined_literals lits) → length lits ≤ 256 → 2 * n ≤ k → start_no_room lits store ≡ false
unfolding start_no_room capacity
room lits store k n e f h p =
    le-ltb (min (length store / 8) 4294967296) (2 * length (combined_literals lits)) (omega (arith, combined_few lits))

-- no unlawful literal
pub lawful_all : (lits : List ℤ) → literal_unlawful lits ≡ false → all lawful lits ≡ true
unfolding literal_unlawful
lawful_all lits e = not_not (all lawful lits) e
