-- Ends of an encode that write nothing.
use mathlib.Core.Path.{◌≡◌, refl, sym, ap, ap₂, ◌∙◌, subst}
use mathlib.Core.Bool.{Bool, true, false, not, ◌&&◌}
use mathlib.Core.List.{List}
use Prim.Native.Nat.{ℕ, ◌≤◌, ◌<◌}
use lib.ListN.{length}
use lib.IntN.{ℤ}
use borrow.Author.Tests.{eq-eqb}
use Rattle.std.specs.Prelude.{Result, Ok, Err}
use Rattle.rules.specs.declared.State.{State}
use Rattle.rules.specs.declared.Refusal.{Refusal}
use Rattle.rules.specs.declared.Refusal.TheVariants.{WorkShort, NotWellFormed}
use Rattle.rules.specs.Refusals.{answer_of, refusal_of, refusals}
use Rattle.rules.specs.Build.{Build}
use Rattle.rules.specs.WellFormed.{well_formed}
use Rattle.rules.specs.Encode.{prepared, encode_outputs, nothing_asked, encode, nothing_done, divisor_above, no_room, encoded, untouched}
use Rattle.laws.specs.WellFormed.Plain.{WellFormed}
use Rattle.laws.specs.WellFormed.Whole.{well_formed_facts}
use Rattle.encode_outputs.specs.declared.Range.{Range}
use Rattle.encode_case.specs.declared.Case.{Case}
use Rattle.encode_case.specs.Case.{reaches, case_of}
use Rattle.encode_case.specs.Call.{Call, found, reached, ended, Begins, Works}
use Rattle.encode_case.proofs.Tests.{unchanged, case_found, case_refused}
use Rattle.encode_end.specs.Settled.{totalled}
use Rattle.watchdog_encode.specs.Before.{unwritten}
use Rattle.encode_end.proofs.Ends.{refused_12, refused_6, refused_10, accepted_idle, self_room}

abbrev pub call : State → List ℕ → List ℤ → List ℕ → Range → Call
call s store clauses work range = record { s = s; store = store; clauses = clauses; work = work; range = range }

module _ (k : Call) where
  plain_end : (n : ℕ) → untouched n k.s k.store k.clauses k.work ≡ ended k → unwritten k (answer_of n) ≡ ended k
  unfolding untouched encoded totalled
  plain_end n p = p

  pub ends_12 : well_formed k.s k.store k.clauses ≡ false → unwritten k (Err NotWellFormed) ≡ ended k
  unfolding answer_of refusal_of refusals
  ends_12 f = plain_end 12 (refused_12 k f)

  module _ (formed : well_formed k.s k.store k.clauses ≡ true) where
    well : WellFormed k.s k.store k.clauses
    well = well_formed_facts k.s k.store k.clauses formed

    pub ends_6 : length k.work < 16384 → unwritten k (Err WorkShort) ≡ ended k
    unfolding answer_of refusal_of refusals
    ends_6 h = plain_end 6 (refused_6 k formed h)

    module _ (long : 16384 ≤ length k.work) where
      -- nothing was asked
      pub unasked : nothing_asked (found k) k.range.lo k.range.end ≡ true → unwritten k (Ok tt) ≡ ended k
      unfolding encode nothing_done answer_of
      unasked a =
          let b : Build = found k in
          let way : reached k ≡ b = ap (λ (t : Bool). elim t [ true ↦ b | false ↦ encode_outputs (prepared b) k.range.lo k.range.end ]) a in
          plain_end 0 (accepted_idle k formed long (ap (λ (t : Bool). not t && divisor_above b) a)
          (subst (λ (x : Build). no_room x k.store k.clauses ≡ false) (sym way) (self_room k.s k.store k.clauses well))
          (subst (λ (x : Build). nothing_done b x ≡ true) (sym way)
          (ap₂ (λ (x y : Bool). x && y) (eq-eqb b.built b.built refl) (eq-eqb b.arena.fresh b.arena.fresh refl))))

-- Something is asked ----------------------------------------------------------------------------------------------------------------

-- the tests before 10 are passed, and r is what says which case it is
pub record Asks (k : Call) (r : Result Case Refusal) : Type 0 where
  pub formed : well_formed k.s k.store k.clauses ≡ true
  pub long : 16384 ≤ length k.work
  pub asked : nothing_asked (found k) k.range.lo k.range.end ≡ false
  pub case_is : r ≡ case_of (found k)

pub asks : (k : Call) (r : Result Case Refusal) → well_formed k.s k.store k.clauses ≡ true → 16384 ≤ length k.work → nothing_asked (found k) k.range.lo k.range.end ≡ false →
    ((c : List ℤ) → WellFormed k.s k.store c → r ≡ case_of (found k)) → Asks k r
asks k r f l a is = record { formed = f; long = l; asked = a; case_is = is k.clauses (well k f) }

pub ends_10 : (k : Call) (r : Refusal) → Asks k (Err r) → unwritten k (Err r) ≡ ended k
unfolding answer_of refusal_of refusals
ends_10 k r p =
    let (is, above) = case_refused (found k) r p.case_is in
    ap (λ (x : Refusal). unwritten k (Err x)) is ∙ plain_end k 10 (refused_10 k p.formed p.long p.asked above)

module _ (k : Call) (case : Case) (p : Asks k (Ok case)) where
  pub due_is : case.due ≡ reaches (found k)
  due_is = (case_found (found k) case p.case_is).due_is

  pub begins : Begins k.s k.store k.clauses k.range
  begins = record { well = well k p.formed; asked = p.asked; reached = (case_found (found k) case p.case_is).not_above }

  -- nothing was left to do
  pub idled : nothing_done (found k) (reached k) ≡ true → unwritten k (Ok tt) ≡ ended k
  unfolding answer_of
  idled n =
      plain_end k 0 (accepted_idle k p.formed p.long (ap₂ (λ (x y : Bool). not x && y) p.asked begins.reached)
      (subst (λ (x : Build). no_room x k.store k.clauses ≡ false) (sym (unchanged k.s k.store k.clauses k.range begins n))
      (self_room k.s k.store k.clauses begins.well)) n)

  -- something was
  pub works : nothing_done (found k) (reached k) ≡ false → Works k
  works n = record { formed = p.formed; long = p.long; begins = begins; left = n }
