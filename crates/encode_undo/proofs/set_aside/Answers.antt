-- `set_aside` copies the waiting records and saves the buckets.
use native.Mathlib.Omega.{arith}
use borrow.Author.Rules.{rules}
use lib.ListN.{length-take}
use Rattle.rules.specs.Build.{buckets_of}
use Rattle.encode_undo.proofs.Backs.{aside}
use Rattle.encode_undo.proofs.set_aside.Goals as goal

pub save_buckets-requires : goal.save_buckets-requires
unfolding buckets_of
save_buckets-requires c =
    let pre = c.requires in
    (omega (arith, pre.buckets_few, length-take c.args.s.buckets_used c.args.s.buckets), omega (arith, pre.long, c.copy.auto), pre.buckets_within)

pub returns : goal.returns
unfolding buckets_of
returns c = aside _ _ _ _ _ _ c.requires c.copy.ensures (search rules) c.save_buckets.ensures
