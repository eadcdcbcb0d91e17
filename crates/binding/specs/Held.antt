-- The answers as the binding's structs hold them.
use Rattle.std.specs.Prelude.{Bool, false, cond, ℕ, Result}
use Rattle.rules.specs.declared.Started.{Started}
use Rattle.rules.specs.declared.Set.{Set}
use Rattle.rules.specs.declared.Encoded as rules
use Rattle.rules.specs.declared.Refusal.{Refusal}
use Rattle.rules.specs.Refusals.{answer_number, answer_value}
use Rattle.binding.specs.declared.Answered.{Answered}
use Rattle.binding.specs.declared.Encoded.{Encoded}
use Rattle.binding.specs.declared.Value.{Value}

-- start's answer: its number and its state
unfoldable pub started : Started → Answered
unfolding answer_number
started r = record { refusal = answer_number r.answer; state = r.state }

-- set's answer
unfoldable pub set_to : Set → Answered
unfolding answer_number
set_to r = record { refusal = answer_number r.answer; state = r.state }

-- encode's answer: its number, its totals and its state
unfoldable pub encoded : rules.Encoded → Encoded
unfolding answer_number
encoded r = record { refusal = answer_number r.answer; variables = r.variables; clauses = r.clauses; state = r.state }

-- a number, or the refusal
unfoldable pub number_value : Result ℕ Refusal → Value
unfolding answer_number answer_value
number_value r = record { refusal = answer_number r; value = answer_value 0 r }

-- the next divisor
abbrev pub divisor_value : Result ℕ Refusal → Value
divisor_value p = number_value p

-- whether nothing waits: 1 for yes
unfoldable pub yes_value : Result Bool Refusal → Value
unfolding answer_number answer_value
yes_value r = record { refusal = answer_number r; value = cond (answer_value false r) 1 0 }

-- a coarse bound
abbrev pub bound_value : Result ℕ Refusal → Value
bound_value c = number_value c
