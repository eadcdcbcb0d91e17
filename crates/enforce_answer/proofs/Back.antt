-- Tares laid from the back stand highest power first.
use mathlib.Core.Path.{◌≡◌, refl, sym, ap, ap₂, ◌∙◌, subst}
use mathlib.Core.Bool.{Bool, true, false, cond}
use mathlib.Core.List.{List, [], ◌∷◌, ◌++◌, append-nil, append_assoc}
use Prim.Native.Nat.{ℕ, suc, ◌+◌, ◌*◌, ◌-◌, ◌/◌, ◌%◌, ◌^◌, ◌≤◌, ◌<◌}
use native.Mathlib.Omega.{arith}
use Rattle.std.proofs.Math.Nat.{div-div-eq-div-mul, pow-suc}
use lib.Dec.{eqb}
use lib.ListN.{length, get_or, set, take, drop, length-append, length-set, take-append-drop, drop_of_length-le}
use lib.Seq.{drop-cons, set_split, drop_at, length-take-le, take-set-le}
use lib.IntN.{ℤ, pos}
use borrow.Author.Tests.{eqb-true, eqb-false, eq-eqb, ne_eqb}
use Rattle.rules.specs.Records.{literal_word, word_literal}
use Rattle.rules.specs.Enforce.{set_tares}
use Rattle.laws.specs.Records.Words.{literal_word_literal}
use Rattle.laws.specs.Lists.Facts.{All, All_get_or}
use Rattle.numbers.specs.Signed.{put_signed}
use Rattle.records_clauses.specs.Clauses.{Buf, buf}
use Rattle.enforce_answer.specs.Tares.{tare_step, tares_back}

-- one law for each way of a step
module _ (c : List ℤ) (at t x : ℕ) where
  pub step_clear : (x % 2 ≡ 1 → ⊥) → buf c at ≡ tare_step (buf c at) t x
  unfolding tare_step
  step_clear h =
      sym (ap (λ (b : Bool). cond b (cond (eqb at 0) (buf c at) (buf (put_signed c (at - 1) (pos t)) (at - 1))) (buf c at)) (ne_eqb (x % 2) 1 h))

  pub step_none : x % 2 ≡ 1 → at ≡ 0 → buf c at ≡ tare_step (buf c at) t x
  unfolding tare_step
  step_none h z =
      sym (ap₂ (λ (a b : Bool). cond a (cond b (buf c at) (buf (put_signed c (at - 1) (pos t)) (at - 1))) (buf c at)) (eq-eqb (x % 2) 1 h) (eq-eqb at 0 z))

  step_put : x % 2 ≡ 1 → (at ≡ 0 → ⊥) → buf (put_signed c (at - 1) (pos t)) (at - 1) ≡ tare_step (buf c at) t x
  unfolding tare_step
  step_put h z =
      sym (ap₂ (λ (a b : Bool). cond a (cond b (buf c at) (buf (put_signed c (at - 1) (pos t)) (at - 1))) (buf c at)) (eq-eqb (x % 2) 1 h) (ne_eqb at 0 z))

  pub step_set : (d : List ℤ) → x % 2 ≡ 1 → (at ≡ 0 → ⊥) → d ≡ put_signed c (at - 1) (word_literal (2 * t)) → buf d (at - 1) ≡ tare_step (buf c at) t x
  unfolding literal_word
  step_set d h z e =
      ap (λ (l : List ℤ). buf l (at - 1)) (e ∙ ap (put_signed c (at - 1)) (literal_word_literal (pos t))) ∙ step_put h z

-- the walk over the tares
module _ (b : Buf) (ts : List ℕ) (i x : ℕ) (whole : Buf) where
  halved : x / 2 ^ i / 2 ≡ x / 2 ^ (i + 1)
  halved =
      let up : suc i ≡ i + 1 = omega arith in
      div-div-eq-div-mul x (2 ^ i) 2 ∙ (ap (λ (n : ℕ). x / n) (sym (pow-suc 2 i)) ∙ ap (λ (n : ℕ). x / 2 ^ n) up)

  pub back_on : (d : Buf) → i < length ts → d ≡ tare_step b (get_or ts i 0) (x / 2 ^ i) → tares_back b (drop i ts) (x / 2 ^ i) ≡ whole →
      tares_back d (drop (i + 1) ts) (x / 2 ^ (i + 1)) ≡ whole
  unfolding tares_back
  back_on d h f p =
      let up : suc i ≡ i + 1 = omega arith in
      ap₂ (λ (z : Buf) (n : ℕ). tares_back z (drop (i + 1) ts) n) f (sym halved) ∙
      (sym (ap (λ (l : List ℕ). tares_back b l (x / 2 ^ i)) (drop-cons ts i 0 h ∙ ap (λ (j : ℕ). get_or ts i 0 ∷ drop j ts) up)) ∙ p)

  pub back_end : length ts ≤ i → tares_back b (drop i ts) x ≡ whole → b ≡ whole
  unfolding tares_back
  back_end h p = sym (ap (λ (l : List ℕ). tares_back b l x) (drop_of_length-le ts h)) ∙ p

-- what is left from a word that was set
drop_set : (c : List ℤ) (i : ℕ) (z : ℤ) → i < length c → drop i (set c i z) ≡ z ∷ drop (suc i) c
drop_set c i z h = ap (drop i) (set_split c i z h) ∙ drop_at (take i c) (z ∷ drop (suc i) c) i (length-take-le i c (omega arith))

-- tares laid from the back up to a place stand highest power first before it
tares_laid : (ts : List ℕ) (from at x : ℕ) (c : List ℤ) → at ≡ from + length (set_tares ts x) → at ≤ length c →
    tares_back (buf c at) ts x ≡ buf (take from c ++ (set_tares ts x ++ drop at c)) from
unfolding tares_back set_tares put_signed
tares_laid [] from at x c e h =
    let z : at ≡ from = omega arith in
    ap₂ buf (sym (take-append-drop from c) ∙ ap (λ (k : ℕ). take from c ++ drop k c) (sym z)) z
tares_laid (t ∷ ts) from at x c e h =
    go (eqb (x % 2) 1) refl (tares_laid ts from at (x / 2) c) (tares_laid ts from (at - 1) (x / 2) (put_signed c (at - 1) (pos t))) e
  where
    rest : List ℤ
    rest = set_tares ts (x / 2)

    go : (b : Bool) → eqb (x % 2) 1 ≡ b →
        (at ≡ from + length rest → at ≤ length c → tares_back (buf c at) ts (x / 2) ≡ buf (take from c ++ (rest ++ drop at c)) from) →
        (at - 1 ≡ from + length rest → at - 1 ≤ length (put_signed c (at - 1) (pos t)) →
        tares_back (buf (put_signed c (at - 1) (pos t)) (at - 1)) ts (x / 2) ≡
        buf (take from (put_signed c (at - 1) (pos t)) ++ (rest ++ drop (at - 1) (put_signed c (at - 1) (pos t)))) from) →
        at ≡ from + length (rest ++ cond b (pos t ∷ []) []) →
        tares_back (tare_step (buf c at) t x) ts (x / 2) ≡ buf (take from c ++ ((rest ++ cond b (pos t ∷ []) []) ++ drop at c)) from
    go false q clear put l =
        let n : length (rest ++ []) ≡ length rest = ap length (append-nil rest) in
        ap (λ (z : Buf). tares_back z ts (x / 2)) (sym (step_clear c at t x (eqb-false (x % 2) 1 q))) ∙
        (clear (omega arith) h ∙ ap (λ (z : List ℤ). buf (take from c ++ (z ++ drop at c)) from) (sym (append-nil rest)))
    go true q clear put l =
        let n : length (rest ++ (pos t ∷ [])) ≡ length rest + 1 = length-append rest (pos t ∷ []) in
        let same : length (set c (at - 1) (pos t)) ≡ length c = length-set c (at - 1) (pos t) in
        let up : suc (at - 1) ≡ at = omega arith in
        ap (λ (z : Buf). tares_back z ts (x / 2)) (sym (step_put c at t x (eqb-true (x % 2) 1 q) (λ z. omega arith))) ∙
        (put (omega arith) (omega arith) ∙
        (ap₂ (λ (y z : List ℤ). buf (y ++ (rest ++ z)) from) (take-set-le from c (at - 1) (pos t) (omega arith))
        (drop_set c (at - 1) (pos t) (omega arith) ∙ ap (λ (k : ℕ). pos t ∷ drop k c) up) ∙
        ap (λ (z : List ℤ). buf (take from c ++ z) from) (sym (append_assoc rest (pos t ∷ []) (drop at c)))))

pub back_laid : (ts : List ℕ) (from at x j : ℕ) (c d : List ℤ) → at ≡ from + length (set_tares ts x) → at ≤ length c →
    buf d j ≡ tares_back (buf c at) ts x → d ≡ take from c ++ (set_tares ts x ++ drop at c)
back_laid ts from at x j c d e h p = let q : buf d j ≡ buf (take from c ++ (set_tares ts x ++ drop at c)) from = p ∙ tares_laid ts from at x c e h in cc

-- a tare among those that fit a word
pub tare_small : (ts : List ℕ) (i t : ℕ) → t ≡ get_or ts i 0 → All (λ t. t < 2147483648) ts → t < 2147483648
tare_small ts i t e a = subst (λ (n : ℕ). n < 2147483648) (sym e) (All_get_or (λ t. t < 2147483648) ts i 0 a (omega arith))
