-- What a call of encode finds before it writes: a refusal, nothing to do, or the case in which something is left.
use Rattle.std.specs.Prelude.{◌≡◌, Option, Some, None, Result, Ok, Err, ⊤}
use Rattle.rules.specs.declared.Refusal.{Refusal}
use Rattle.rules.specs.Encode.{EncodeEnd}
use Rattle.encode_case.specs.declared.Case.{Case}
use Rattle.encode_case.specs.Case.{case_of}
use Rattle.encode_case.specs.Call.{Call, found, ended, Works}
use Rattle.encode_end.specs.Settled.{totalled}

-- the answer where nothing is written
abbrev pub unwritten : Call → Result ⊤ Refusal → EncodeEnd
unwritten k answer = record { answer = totalled answer k.s; store = k.store; clauses = k.clauses; work = k.work }

abbrev pub Before : Call → Result (Option Case) Refusal → Type 0
Before k (Err r) = unwritten k (Err r) ≡ ended k
Before k (Ok None) = unwritten k (Ok tt) ≡ ended k
Before k (Ok (Some case)) = Works k × (Ok case ≡ case_of (found k))
