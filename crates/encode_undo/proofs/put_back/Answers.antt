-- `put_back` restores the buckets and copies the waiting records.
use mathlib.Core.Path.{◌∙◌}
use native.Mathlib.Omega.{arith}
use borrow.Author.Rules.{rules}
use lib.ListN.{length-take}
use Rattle.rules.specs.Build.{buckets_of}
use Rattle.encode_undo.proofs.Backs.{back}
use Rattle.encode_undo.proofs.put_back.Goals as goal

pub restore_buckets-requires : goal.restore_buckets-requires
unfolding buckets_of
restore_buckets-requires c =
    let pre = c.requires in
    (omega (arith, pre.buckets_few, length-take c.args.s.buckets_used c.args.s.buckets), omega (arith, pre.long), pre.buckets_within)

pub returns : goal.returns
unfolding buckets_of
returns c =
    (back _ _ _ _ _ _ c.requires (search rules) c.restore_buckets.ensures c.copy.ensures, c.copy.auto.to ∙ c.restore_buckets.auto.store)
