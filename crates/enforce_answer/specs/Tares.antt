-- Tares laid from the back, the lowest power last.
use Rattle.std.specs.Prelude.{cond, List, [], ◌∷◌, ℕ, zero, suc, ◌+◌, ◌-◌, ◌/◌, ◌%◌, eqb, pos}
use Rattle.numbers.specs.Signed.{put_signed}
use Rattle.records_clauses.specs.Clauses.{Buf, buf}

-- where the lowest bit is set, the tare in the word before
unfoldable pub tare_step : Buf → ℕ → ℕ → Buf
unfolding put_signed
tare_step (buf c at) t x = cond (eqb (x % 2) 1) (cond (eqb at 0) (buf c at) (buf (put_signed c (at - 1) (pos t)) (at - 1))) (buf c at)

-- the tares of the set bits, lowest power first, each in the word before
unfoldable pub tares_back : Buf → List ℕ → ℕ → Buf
unfolding tare_step
tares_back b [] x = b
tares_back b (t ∷ ts) x = tares_back (tare_step b t x) ts (x / 2)

-- the set bits among the lowest n
unfoldable pub bits : ℕ → ℕ → ℕ
bits zero x = 0
bits (suc n) x = x % 2 + bits n (x / 2)
