-- `join` looks among the words listed, and puts a new one behind them.
use mathlib.Core.Path.{sym, ◌∙◌}
use Rattle.start_lists.proofs.Walk.{word_there}
use Rattle.start_lists.proofs.Listing.{join_none, join_one}
use Rattle.start_lists.proofs.join.Goals as goal

pub returns-then-not-among-clause-by_index : goal.returns-then-not-among-clause-by_index
returns-then-not-among-clause-by_index c =
    λ xs l. join_one _ _ _ _ _ _ _ _ l (c.word_at-w.ensures ∙ sym (word_there _ _)) _ (sym c.among.ensures ∙ c.if-not-among.true) c.requires.1 c.weight_named.ensures

pub returns-else-not-among-clause-by_index : goal.returns-else-not-among-clause-by_index
returns-else-not-among-clause-by_index c =
    λ xs l. join_none _ _ _ _ _ _ _ _ l (c.word_at-w.ensures ∙ sym (word_there _ _)) (sym c.among.ensures ∙ c.if-not-among.false)
