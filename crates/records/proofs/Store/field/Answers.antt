-- `field` reads a word of a record that is used and whole.
use native.Mathlib.Omega.{arith}
use Rattle.records.proofs.Leaves.{field_past, field_beyond, field_none, field_some}
use Rattle.records.proofs.Store.field.Goals as goal
use Rattle.records.proofs.Store.field.Goals.{else-n-self-via-then-n-self+then-n-capacity+else-k-lt-WORDS, else-n-self-via-then-n-self+else-n-capacity, else-n-self-via-else-n-self}

pub returns-then-k-lt-WORDS : goal.returns-then-k-lt-WORDS
returns-then-k-lt-WORDS c =
    field_some c.args.self.words.now _ _ _ c.if-n-self.true (omega arith) c.if-k-lt-WORDS.true

pub returns-else-n-self : goal.returns-else-n-self
returns-else-n-self c =
    elim c.else-n-self.branch [
      | else-n-self-via-then-n-self+then-n-capacity+else-k-lt-WORDS w ↦ field_none c.args.self.words.now _ _ _ w.if-n-self.true (omega arith) w.if-k-lt-WORDS.false
      | else-n-self-via-then-n-self+else-n-capacity w ↦ field_beyond c.args.self.words.now _ _ _ w.if-n-self.true (omega arith)
      | else-n-self-via-else-n-self w ↦ field_past c.args.self.words.now _ _ _ w.if-n-self.false
    ]
