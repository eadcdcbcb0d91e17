-- `read_text` has read n bytes, as many as have a place.
use Rattle.std.proofs.Common.{◌≤◌, length}
use Rattle.history_play.proofs.read_text.Given as goal

abbrev pub invariant-loop : goal.invariant-loop
invariant-loop g l = l.n ≤ length l.text
