-- An answer laid over the front of the scratch, or refused for want of room.
use mathlib.Core.Path.{◌≡◌, refl, sym, ap, ◌∙◌}
use mathlib.Core.Bool.{Bool, true, false, false≢true}
use mathlib.Core.Option.{Option, none, some}
use mathlib.Core.List.{List, [], ◌∷◌, ◌++◌}
use Prim.Native.Nat.{ℕ, suc, ◌+◌, ◌≤◌, ◌<◌}
use native.Mathlib.Omega.{arith}
use lib.Dec.{ltb}
use lib.ListN.{length, take, drop, length-set}
use lib.IntN.{ℤ}
use borrow.Author.Tests.{lt-ltb, le-ltb}
use Rattle.std.specs.Prelude.{Result, Ok, Err}
use Rattle.rules.specs.declared.Refusal.{Refusal}
use Rattle.rules.specs.declared.Refusal.TheVariants.{NotEncoded, NoRoom}
use Rattle.rules.specs.Refusals.{answer_number, answer_value}
use Rattle.rules.specs.Enforce.{EnforceEnd, refused_end, scratch_short, enforce_end}
use Rattle.numbers.specs.Signed.{put_signed}
use Rattle.enforce_answer.specs.Ends.{Answers, Ended}

ended : (o : Option (List ℤ)) (c : List ℤ) (e : EnforceEnd) (r : Result ℕ Refusal) → enforce_end o c ≡ e → Answers e r → Ended o c e.scratch r
ended o c e r p h = (ap (λ (z : EnforceEnd). z.scratch) (sym p), (h.0 ∙ ap (λ (z : EnforceEnd). z.refusal) (sym p), h.1 ∙ ap (λ (z : EnforceEnd). length z.answer) (sym p)))

pub ended_refused : (c : List ℤ) → Ended none c c (Err NotEncoded)
unfolding enforce_end refused_end answer_number answer_value
ended_refused c = (refl, (refl, refl))

-- the scratch is shorter than the answer
end_short : (a c : List ℤ) → length c < length a → enforce_end (some a) c ≡ refused_end 7 c
unfolding enforce_end scratch_short
end_short a c h = go (ltb (length c) (length a)) (lt-ltb (length c) (length a) h)
  where
    go : (b : Bool) → b ≡ true →
        elim b [ true ↦ refused_end 7 c | false ↦ record { answer = a; scratch = a ++ drop (length a) c; refusal = 0 } ] ≡ refused_end 7 c
    go true e = refl
    go false e = absurd (false≢true e)

end_room : (a c : List ℤ) → length a ≤ length c → enforce_end (some a) c ≡ record { answer = a; scratch = a ++ drop (length a) c; refusal = 0 }
unfolding enforce_end scratch_short
end_room a c h = go (ltb (length c) (length a)) (le-ltb (length c) (length a) h)
  where
    go : (b : Bool) → b ≡ false →
        ◌≡◌ {A = EnforceEnd} (elim b [ true ↦ refused_end 7 c | false ↦ record { answer = a; scratch = a ++ drop (length a) c; refusal = 0 } ])
        (record { answer = a; scratch = a ++ drop (length a) c; refusal = 0 })
    go true e = absurd (false≢true (sym e))
    go false e = refl

pub ended_empty : (c : List ℤ) → Ended (some []) c c (Ok 0)
unfolding answer_number answer_value
ended_empty c = ended (some []) c (record { answer = []; scratch = c; refusal = 0 }) (Ok 0) (end_room [] c (omega arith)) (refl, refl)

-- a literal, then tares
module _ (z : ℤ) (ts c : List ℤ) (n : ℕ) where
  pub ended_short : n ≡ length ts → length c < n + 1 → Ended (some (z ∷ ts)) c c (Err NoRoom)
  unfolding refused_end answer_number answer_value
  ended_short e h = ended (some (z ∷ ts)) c (refused_end 7 c) (Err NoRoom) (end_short (z ∷ ts) c (omega arith)) (refl, refl)

  first_laid : (c : List ℤ) → n ≡ length ts → n + 1 ≤ length c →
      take 1 (put_signed c 0 z) ++ (ts ++ drop (n + 1) (put_signed c 0 z)) ≡ (z ∷ ts) ++ drop (suc (length ts)) c
  unfolding put_signed
  first_laid [] e h = absurd (omega arith)
  first_laid (y ∷ c) e h =
      let up : n + 1 ≡ suc (length ts) = omega arith in
      ap (λ (k : ℕ). z ∷ (ts ++ drop k (z ∷ c))) up

  pub ended_room : (d f : List ℤ) → n ≡ length ts → n + 1 ≤ length c → d ≡ put_signed c 0 z →
      ((from : ℕ) → n + 1 ≡ from + length ts → n + 1 ≤ length d → f ≡ take from d ++ (ts ++ drop (n + 1) d)) →
      Ended (some (z ∷ ts)) c f (Ok (n + 1))
  unfolding answer_number answer_value put_signed
  ended_room d f e h p laid =
      let same : length d ≡ length c = ap length p ∙ length-set c 0 z in
      let q : f ≡ take 1 d ++ (ts ++ drop (n + 1) d) = laid 1 (omega arith) (omega arith) in
      let up : n + 1 ≡ suc (length ts) = omega arith in
      let r : enforce_end (some (z ∷ ts)) c ≡ record { answer = z ∷ ts; scratch = (z ∷ ts) ++ drop (suc (length ts)) c; refusal = 0 }
      = end_room (z ∷ ts) c (omega arith) in (
        (q ∙ (ap (λ (l : List ℤ). take 1 l ++ (ts ++ drop (n + 1) l)) p ∙ first_laid c e h)) ∙ ap (λ (w : EnforceEnd). w.scratch) (sym r),
        (ap (λ (w : EnforceEnd). w.refusal) (sym r), up ∙ ap (λ (w : EnforceEnd). length w.answer) (sym r)),
      )
