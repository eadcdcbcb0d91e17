-- What is well formed can be read.
use mathlib.Core.Path.{◌≡◌, sym, subst}
use mathlib.Core.Bool.{true}
use mathlib.Core.List.{List, map}
use Prim.Native.Nat.{ℕ}
use lib.IntN.{ℤ}
use Rattle.rules.specs.declared.State.{State}
use Rattle.rules.specs.Records.{waiting, entries}
use Rattle.rules.specs.Build.{records, held, build_over, build_of}
use Rattle.rules.specs.WellFormed.{known}
use Rattle.laws.specs.Lists.Facts.{All, All_append, facts_all}
use Rattle.laws.specs.Records.Words.{image_of_records}
use Rattle.laws.specs.WellFormed.ToClauses.{waiting_known}
use Rattle.laws.specs.WellFormed.Whole.{records_length}
use Rattle.laws.specs.WellFormed.Plain.{WellFormed}
use Rattle.records_waiting.specs.Read.{Readable}

pub readable : (s : State) (store : List ℕ) (clauses : List ℤ) → WellFormed s store clauses → Readable s store
unfolding held build_of build_over records
readable s store clauses w =
    record {
      stores = record {
        image_is = sym (image_of_records store s.records (facts_all {P = λ r. known r ≡ true} known (λ r e. e) (held s store) all_known));
        count_is = sym (records_length store s.records);
      };
      laid = w.laid;
      formed = w.formed;
    }
  where
    all_known : All (λ r. known r ≡ true) (held s store)
    all_known =
        subst (All (λ r. known r ≡ true)) (sym w.laid.waiting_last)
        (All_append (λ r. known r ≡ true) (build_of s store).arena.records (map waiting (entries (held s store))) w.formed.all_known
        (waiting_known (entries (held s store))))
