-- `before_waiting` finds the first waiting record.
use mathlib.Core.Path.{◌≡◌, refl, ◌∙◌}
use mathlib.Core.Bool.{Bool, true, false}
use mathlib.Core.List.{List, ◌++◌, map}
use Prim.Native.Nat.{ℕ}
use native.Mathlib.Omega.{arith}
use borrow.Author.Tests.{tests}
use lib.ListN.{get_or}
use Rattle.std.proofs.Common.{rules}
use Rattle.rules.specs.Records.{Record, waiting, unknown, waits}
use Rattle.records.specs.Carries.{Reads}
use Rattle.build_line.proofs.Firsts.{found_first}
use Rattle.build_begin.proofs.Found.{first_waiting}
use Rattle.build_begin.proofs.before_waiting.Goals as goal

pub returns : goal.returns
returns c =
    let test : Bool → ℕ → Type 0 = λ b i. (rs : List Record) → Reads c.args.store rs → b ≡ waits (get_or rs i unknown) in
    let found = found_first (test true) (test false) 0 c.args.store.records (omega arith) _ _ c.find.result refl c.find.ensures.ran (λ x q k. search (rules, tests)) (λ x q k. search (rules, tests)) in
    λ rs es h a. c.unwrap_or.ensures ∙ first_waiting rs es _ a (omega (arith, h.count_is, found.high)) (λ i p. found.before i (omega arith) p (rs ++ map waiting es) h) (λ p. found.here (omega (arith, h.count_is, p)) (rs ++ map waiting es) h)
