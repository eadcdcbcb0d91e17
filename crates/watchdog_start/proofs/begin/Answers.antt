-- `begin` writes the new build's records over what was there and zeroes the rest.
use mathlib.Core.Path.{ap, ◌∙◌}
use native.Mathlib.Omega.{arith}
use lib.ListN.{length, length-map}
use Rattle.rules.specs.Records.{literal_word}
use Rattle.watchdog_start.proofs.Begun.{begun}
use Rattle.watchdog_start.proofs.begin.Goals as goal

pub put_inputs-requires : goal.put_inputs-requires
put_inputs-requires c =
    let pre = c.requires in
    (pre.0, pre.1)

pub overflow_mul-literals : goal.overflow_mul-literals
overflow_mul-literals c =
    let pre = c.requires in
    omega (arith, pre.1, pre.2)

pub overflow_cast-literals : goal.overflow_cast-literals
overflow_cast-literals c =
    let pre = c.requires in
    omega (arith, pre.1, pre.2)

pub sum-requires : goal.sum-requires
sum-requires c =
    let pre = c.requires in
    (pre.0, pre.1)

pub returns : goal.returns
returns c =
    record {
      begun = λ lits e l. begun _ _ _ _ l _ _ _ _ _ _ _ _ (ap length e ∙ length-map lits literal_word) c.sum.ensures c.starting_divisor-divisor.ensures c.state.ensures c.blank.ensures (c.put_inputs.ensures lits e) c.zero_words.ensures;
      clauses = c.zero_signed.ensures;
    }
