-- `root_answer` asks for the output above the bound's share, and for the tares of what is left of its weight.
use mathlib.Core.Path.{◌≡◌, sym, ◌∙◌}
use Prim.Native.Nat.{ℕ}
use Rattle.std.specs.Prelude.{Option, Some, None, Err}
use Rattle.std.specs.Option.{ok_or}
use Rattle.std.proofs.lemmas.Result.{err_from_is_err_and}
use Rattle.rules.specs.declared.Refusal.{Refusal}
use Rattle.enforce_answer.proofs.Answers.{most_is, found_is, weight_is, root_empty, root_undefined, root_output}
use Rattle.enforce_answer.proofs.root_answer.Goals as goal

pub returns-then-maximum-j : goal.returns-then-maximum-j
returns-then-maximum-j c =
    λ b h t a. root_empty b _ _ _ (weight_is b _ _ c.power-w.ensures c.requires.0 t) a _ (most_is b _ _ h _ _ (c.maximum.ensures h.rs h.stores)) _ c.if-maximum-j.true

-- the refusal in place of what was not found
refusal_is : (o : Option ℕ) (e r : Refusal) → Err e ≡ ok_or o r → o ≡ None → e ≡ r
refusal_is (Some x) e r p q = absurd (cc)
refusal_is None e r p q = cc

pub returns-in_err-o : goal.returns-in_err-o
returns-in_err-o c =
    let e = err_from_is_err_and c.from_residual.result c.from_residual.ensures.1 in
    λ b h t a. rw (e.1, e.2, refusal_is _ _ _ c.in_err-o.ensures.value c.in_err-o.ensures.ok_part)
    (root_undefined b _ _ _ (weight_is b _ _ c.power-w.ensures c.requires.0 t) a _ (most_is b _ _ h _ _ (c.maximum.ensures h.rs h.stores)) _ c.if-maximum-j.false
    (sym c.in_err-o.ensures.ok_part ∙ (c.find.ensures h.rs h.stores ∙ found_is b _ _ h _ _)))

pub returns : goal.returns
returns c =
    λ b h t a. root_output b _ _ _ (weight_is b _ _ c.power-w.ensures c.requires.0 t) a _ (most_is b _ _ h _ _ (c.maximum.ensures h.rs h.stores)) _ c.if-maximum-j.false _ _ _ _ _
    (sym c.in_ok-o.ensures.ok_part ∙ (c.find.ensures h.rs h.stores ∙ found_is b _ _ h _ _)) c.negated.ensures t c.put_answer.ensures
