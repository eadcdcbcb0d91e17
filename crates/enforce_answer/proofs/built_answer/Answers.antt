-- `built_answer` refuses what is not encoded and divides the bound.
use mathlib.Core.Path.{sym, subst}
use native.Mathlib.Omega.{arith}
use lib.ListN.{length-take}
use Prim.Native.Nat.{ℕ}
use Rattle.std.proofs.Common.{inl, inr}
use Rattle.records.specs.Carries.{Stores}
use Rattle.enforce_answer.specs.Stored.{Stored}
use Rattle.enforce_answer.proofs.Held.{quotient, small, ask_unbuilt, ask_waits, ask_root}
use Rattle.enforce_answer.proofs.built_answer.Goals as goal

pub returns-then-s-eq0 : goal.returns-then-s-eq0
returns-then-s-eq0 c =
    let read = c.requires.0 in
    elim c.then-s-eq0.either [
      | inl e ↦ ask_unbuilt _ _ read _ _ e
      | inr h ↦ ask_waits _ _ read _ _ h.0 _ (λ rs k. c.largest-most.ensures rs (subst (λ (n : ℕ). Stores c.args.store.words.now n rs) (sym c.requires.1) k)) h.1
    ]

pub root_answer-requires : goal.root_answer-requires
root_answer-requires c =
    let pre = c.requires.0 in
    (omega (arith, length-take c.args.s.tares_used c.args.s.tares, pre.laid.tares_few), small _ _ pre)

pub returns : goal.returns
returns c =
    ask_root _ _ c.requires.0 _ _ c.if-s-eq0.false _ (λ rs k. c.largest-most.ensures rs (subst (λ (n : ℕ). Stores c.args.store.words.now n rs) (sym c.requires.1) k)) _ _ _ c.if-s-most.false c.root-top.ensures
    (λ b k. c.root_answer.ensures b (subst (λ (n : ℕ). Stored b c.args.store.words.now n) (sym c.requires.1) k))

pub nonzero_div-u : goal.nonzero_div-u
nonzero_div-u c = omega (arith, quotient _ _ c.requires.0 c.if-s-eq0.false)
