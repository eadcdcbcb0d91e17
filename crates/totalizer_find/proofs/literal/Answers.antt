-- `literal` reads a leaf's literal and finds any other output.
use Rattle.std.proofs.Common.{sym, ap, ◌∙◌, ℕ, Option}
use Rattle.std.specs.Option.{unwrap_or}
use Rattle.totalizer_find.proofs.Walk.{literal_leaf, literal_found, word_or}
use Rattle.totalizer_find.proofs.literal.Goals as goal

pub returns-then-is_leaf : goal.returns-then-is_leaf
returns-then-is_leaf c =
    λ rs h. literal_leaf _ _ _ (sym (c.is_leaf.ensures rs h) ∙ c.if-is_leaf.true) (c.literal.ensures rs h)

pub returns-else-is_leaf : goal.returns-else-is_leaf
returns-else-is_leaf c =
    λ rs h. literal_found _ _ _ (sym (c.is_leaf.ensures rs h) ∙ c.if-is_leaf.false) (word_or _ _ (c.unwrap_or.ensures ∙ ap (λ (x : Option ℕ). unwrap_or x 0) (c.find.ensures rs h)))
