-- Writing clauses and taking a number only grow what is needed.
use mathlib.Core.Path.{ap}
use mathlib.Core.Bool.{Bool}
use mathlib.Core.List.{List, map}
use Prim.Native.Nat.{ℕ}
use native.Mathlib.Omega.{arith}
use lib.ListN.{length, length-append}
use Rattle.rules.specs.Totalizer.{Arena, clause, write, take_number}
use Rattle.rules.specs.Build.{clause_words}
use Rattle.records.proofs.Image.{words_append}
use Rattle.records.proofs.Grow.{Grows, grows_trans}
use Rattle.records_append.proofs.Appending.{number_grows}

pub write_grows : (half : Bool) (l r number : ℕ) (ps : List (ℕ × ℕ)) (t : Arena) → Grows t (write half l r number ps t)
unfolding write
write_grows half l r number ps t = record {
  records_grow = omega arith;
  words_grow = omega (
    arith,
    ap length (words_append t.clauses (map (clause t.records half l r number) ps)),
    length-append (clause_words t.clauses) (clause_words (map (clause t.records half l r number) ps)),
  );
  fresh_grow = omega arith;
  sizes_grow = omega arith;
}

pub finish_grows : (n v : ℕ) (half : Bool) (l r : ℕ) (ps : List (ℕ × ℕ)) (t : Arena) → Grows t (take_number n v (write half l r t.fresh ps t))
finish_grows n v half l r ps t =
    let u : Arena = write half l r t.fresh ps t in
    grows_trans t u (take_number n v u) (write_grows half l r t.fresh ps t) (number_grows n v u)
