-- An accepted start holds exactly the new build of the combined list; a refused one holds what it was lent.
use mathlib.Core.Path.{◌≡◌, refl, sym, ap, ap₂, ◌∙◌, subst}
use mathlib.Core.List.{List, [], ◌++◌, map}
use Prim.Native.Nat.{ℕ, zero, suc, ◌*◌, ◌-◌, ◌≤◌, max}
use native.Mathlib.Omega.{arith}
use borrow.Author.Tests.{le-leb}
use lib.ListN.{length, take, replicate, length-append, length-map}
use lib.Seq.{take_at}
use lib.IntN.{ℤ, pos}
use Rattle.rules.specs.declared.State.{State}
use Rattle.rules.specs.declared.Combined.{Combined}
use Rattle.rules.specs.declared.Refusal.{Refusal}
use Rattle.std.specs.Prelude.{Result, Ok, Err, ⊤}
use Rattle.rules.specs.Lists.{all, total, padded}
use Rattle.rules.specs.Numbers.{lawful_weight, capacity}
use Rattle.rules.specs.Records.{image_of, records_of, literal_word}
use Rattle.rules.specs.Totalizer.{Arena}
use Rattle.rules.specs.Combined.{combined_literals, combined_weights}
use Rattle.rules.specs.Refusals.{answer_of, refusal_of}
use Rattle.rules.specs.Build.{Build, records, state_of, clause_words, clause_mark, clause_total, variable_total}
use Rattle.rules.specs.Start.{list_of, checked_end, starting_divisor, new_build, zero_state, start_refusal, start_end, start}
use Rattle.laws.specs.Lists.Facts.{and_true, facts_all}
use Rattle.preserve.specs.Starts.{Lent as Lent-lists, lent}
use Rattle.records.specs.declared.Marks.{Marks}
use Rattle.records.specs.Carries.{Held, at, St, st, Fits, Carries, Steps, Lent, written, peak, read_arena, with_records}
use Rattle.records.proofs.Grow.{peak_append}
use Rattle.records.proofs.Entry.{begins, held_zeroed}
use Rattle.watchdog_start.specs.Writing.{with_more, leaf_records, wait_records, with_inputs, blank_marks, state_with, Begun, Inputs}
use Rattle.watchdog_start.proofs.Written.{leaves_length, waits_length, leaves_peak, waits_peak}

module _ (lits : List ℤ) (weights : List ℕ) (first : ℕ) (store : List ℕ) (facts : Lent-lists lits weights first store) where
  -- the memory as start finds it: nothing is used
  entry : St
  entry = st store [] (at (blank_marks first))

  unused : Lent entry
  unfolding entry blank_marks records_of image_of peak
  unused = record {
    image = refl;
    records_in = omega arith;
    words_in = omega arith;
    fresh_in = omega (arith, facts.first_few);
    count_in = omega arith;
    places_in = omega arith;
    sizes_in = omega arith;
    not_full = refl;
  }

  -- what it leaves
  left_behind : Arena
  left_behind = with_inputs lits weights (read_arena entry)

  records_are : left_behind.records ≡ leaf_records lits ++ wait_records weights
  unfolding left_behind with_inputs with_more with_records read_arena entry records_of blank_marks
  records_are = refl

  many : length left_behind.records ≡ 2 * length lits
  many =
      ap length records_are ∙
      (length-append (leaf_records lits) (wait_records weights) ∙ omega (arith, leaves_length lits, waits_length weights, facts.lengths))

  small_peak : peak left_behind.records ≤ 1
  small_peak =
      let e : peak left_behind.records ≡ max (peak (leaf_records lits)) (peak (wait_records weights))
      = ap peak records_are ∙ peak_append (leaf_records lits) (wait_records weights) in
      omega (arith, e, leaves_peak lits, waits_peak weights)

  room : 2 * length lits ≤ capacity store → (8 * (2 * length lits) ≤ length store)
  unfolding capacity
  room h = omega arith

  enough : Fits entry left_behind
  unfolding written left_behind with_inputs with_more with_records read_arena entry blank_marks clause_words
  enough = record {
    records_fit = omega (arith, many, room facts.room);
    words_fit = omega arith;
    fresh_fit = omega (arith, facts.first_few);
    places_fit = omega (arith, many, facts.few);
    sizes_fit = omega (arith, small_peak);
  }

  as_built : leaf_records lits ++ wait_records weights ≡ records (new_build lits weights first)
  unfolding leaf_records wait_records records new_build
  as_built = refl

  -- the store of an accepted start, n being its inputs
  begun_store : (n : ℕ) (m₀ : Marks) (m : Held) (s : List ℕ) → n ≡ length lits → m₀ ≡ blank_marks first →
      ((c : List ℤ) → Steps (st store c (at m₀)) (st s c m) (with_inputs lits weights)) →
      padded 0 (length s) (take (16 * n) s) ≡ padded 0 (length store) (image_of (records (new_build lits weights first)))
  unfolding entry left_behind
  begun_store n m₀ m s is e p =
      let p' : Steps entry (st s [] m) (with_inputs lits weights) = subst (λ k. Steps (st store [] (at k)) (st s [] m) (with_inputs lits weights)) e (p []) in
      let h : Carries entry (st s [] m) left_behind = p'.go entry _ (begins entry unused) in
      let held = h.fit enough in
      let k : 16 * n ≡ 8 * m.records = omega (arith, held.records_is, many) in
      ap (λ (j : ℕ). padded 0 (length s) (take j s)) k ∙
      ((held_zeroed entry (st s [] m) left_behind enough held).0 ∙ ap (λ rs. padded 0 (length store) (image_of rs)) (records_are ∙ as_built))

  -- its state
  begun_state : (t d : ℕ) → t ≡ total weights → d ≡ starting_divisor weights → state_with (length lits) t d (2 * length lits) first ≡ state_of (new_build lits weights first)
  unfolding state_of new_build state_with clause_mark clause_total clause_words variable_total padded
  begun_state t d e f =
      let n : 2 * length lits ≡ length (records (new_build lits weights first)) = sym many ∙ ap length (records_are ∙ as_built) in
      let v : 0 ≡ first - first = omega arith in
      ap₂ (λ (x y : ℕ). state_with (length lits) x d y first) e n ∙
      ap (λ (x : ℕ). state_with (length lits) (total weights) x (length (records (new_build lits weights first))) first) f ∙
      ap (λ (x : ℕ). record {
        inputs = length lits;
        sum = total weights;
        set = starting_divisor weights;
        built = 0;
        records = length (records (new_build lits weights first));
        words = 0;
        clauses = 0;
        variables = x;
        fresh = first;
        tares = replicate 19 0;
        tares_used = 0;
        buckets = replicate 20 0;
        buckets_used = 0;
      }) v

  -- both, from what each part promises
  pub begun : (n t d : ℕ) (a : State) (m₀ : Marks) (m : Held) (s s' : List ℕ) → n ≡ length lits → t ≡ total weights → d ≡ starting_divisor weights → a ≡ state_with n t d (2 * n) first → m₀ ≡ blank_marks first →
      ((c : List ℤ) → Steps (st store c (at m₀)) (st s c m) (with_inputs lits weights)) →
      s' ≡ padded 0 (length s) (take (16 * n) s) → Begun (new_build lits weights first) store a s'
  begun n t d a m₀ m s s' is all div e b p z = record {
    state_is = e ∙ (ap (λ (k : ℕ). state_with k t d (2 * k) first) is ∙ begun_state t d all div);
    store_is = z ∙ begun_store n m₀ m s is b p;
  }

-- the used slots of a list
front : {A : Type 0} (z : A) (xs : List A) (n : ℕ) → n ≡ length xs → take n (padded z 256 xs) ≡ xs
unfolding padded
front z xs n e = take_at xs (replicate (256 - length xs) z) n (sym e)

pub listed : (list : Combined) (lits : List ℤ) (weights : List ℕ) → list ≡ list_of lits weights → length lits ≡ length weights →
    (take list.used list.literals ≡ map literal_word lits) × (take list.used list.weights ≡ weights)
unfolding list_of
listed list lits weights e same = (
  ap (λ (l : Combined). take l.used l.literals) e ∙ front 0 (map literal_word lits) (length lits) (sym (length-map lits literal_word)),
  ap (λ (l : Combined). take l.used l.weights) e ∙ front 0 weights (length lits) same,
)

pub begun_list : (list : Combined) (lits : List ℤ) (weights : List ℕ) (first : ℕ) (store : List ℕ) (a : State) (s : List ℕ) → list ≡ list_of lits weights → Lent-lists lits weights first store →
    ((xs : List ℤ) → take list.used list.literals ≡ map literal_word xs → Lent-lists xs (take list.used list.weights) first store →
    Begun (new_build xs (take list.used list.weights) first) store a s) → Begun (new_build lits weights first) store a s
begun_list list lits weights first store a s e l f =
    let (ls, ws) = listed list lits weights e l.lengths in
    subst (λ (v : List ℕ). Begun (new_build lits v first) store a s) ws (f lits ls (subst (λ (v : List ℕ). Lent-lists lits v first store) (sym ws) l))

-- what a checked list says of the refusals of start
ended_ok : (n : ℕ) (lits : List ℤ) (weights : List ℕ) (list : Combined) → Ok list ≡ checked_end n lits weights → (n ≡ 0) × (list ≡ list_of lits weights)
unfolding checked_end
ended_ok zero lits weights list e = (refl, cc)
ended_ok (suc n) lits weights list e = absurd (cc)

ended_err : (n : ℕ) (lits : List ℤ) (weights : List ℕ) (r : Refusal) → Err r ≡ checked_end n lits weights → (k : ℕ) × (n ≡ suc k) × (Err r ≡ answer_of (suc k))
unfolding checked_end answer_of
ended_err zero lits weights r e = absurd (cc)
ended_err (suc n) lits weights r e = let same : r ≡ refusal_of (suc n) = cc in (n, refl, ap (λ (q : Refusal). Err q) same)

-- the list of an accepted start
module _ (lits : List ℤ) (weights : List ℕ) (first : ℕ) (store : List ℕ) (list : Combined) (is : Ok list ≡ checked_end (start_refusal lits weights first store) (combined_literals lits) (combined_weights lits weights)) where
  pub none : start_refusal lits weights first store ≡ 0
  none = (ended_ok (start_refusal lits weights first store) (combined_literals lits) (combined_weights lits weights) list is).0

  pub list_is : list ≡ list_of (combined_literals lits) (combined_weights lits weights)
  list_is = (ended_ok (start_refusal lits weights first store) (combined_literals lits) (combined_weights lits weights) list is).1

  pub given : Lent-lists (combined_literals lits) (combined_weights lits weights) first store
  given = lent lits weights first store none

  pub inputs : Inputs list
  unfolding list_of lawful_weight padded
  inputs =
      let (ls, ws) = listed list (combined_literals lits) (combined_weights lits weights) list_is given.lengths in
      let used : list.used ≡ length (combined_literals lits) = ap (λ (l : Combined). l.used) list_is in
      record {
        few = omega (arith, used, given.few);
        in_literals = inside (map literal_word (combined_literals lits)) list.literals (ap (λ (l : Combined). l.literals) list_is) (omega (arith, length-map (combined_literals lits) literal_word));
        in_weights = inside (combined_weights lits weights) list.weights (ap (λ (l : Combined). l.weights) list_is) (omega (arith, used, given.lengths));
        weights_lawful = ap (all lawful_weight) ws ∙ facts_all lawful_weight (λ w h. and_true (le-leb 1 w h.0) (le-leb w 1048575 h.1)) (combined_weights lits weights) given.weights;
      }
    where
      inside : (xs slots : List ℕ) → slots ≡ padded 0 256 xs → list.used ≤ length xs → list.used ≤ length slots
      inside xs slots e h = omega (arith, ap length e, length-append xs (replicate (256 - length xs) 0))

-- the answers
pub accepted : (lits : List ℤ) (weights : List ℕ) (first : ℕ) (store s : List ℕ) (clauses c : List ℤ) (a : State) → start_refusal lits weights first store ≡ 0 →
    Begun (new_build (combined_literals lits) (combined_weights lits weights) first) store a s → c ≡ padded (pos 0) (length clauses) [] →
    record { answer = record { answer = Ok tt; state = a }; store = s; clauses = c } ≡ start lits weights first store clauses
unfolding start start_end answer_of
accepted lits weights first store s clauses c a z h r =
    let b : Build = new_build (combined_literals lits) (combined_weights lits weights) first in
    ap (λ (x : State). record { answer = record { answer = Ok tt; state = x }; store = s; clauses = c }) h.state_is ∙
    (ap₂ (λ x y. record { answer = record { answer = Ok tt; state = state_of b }; store = x; clauses = y }) h.store_is r ∙
    sym (ap (λ (k : ℕ). start_end k b store clauses) z))

pub refused : (lits : List ℤ) (weights : List ℕ) (first : ℕ) (store : List ℕ) (clauses : List ℤ) (a : State) (r : Refusal) →
    Err r ≡ checked_end (start_refusal lits weights first store) (combined_literals lits) (combined_weights lits weights) → a ≡ state_with 0 0 0 0 0 →
    record { answer = record { answer = Err r; state = a }; store = store; clauses = clauses } ≡ start lits weights first store clauses
unfolding start start_end zero_state state_with
refused lits weights first store clauses a r e p =
    let (n, z, f) = ended_err (start_refusal lits weights first store) (combined_literals lits) (combined_weights lits weights) r e in
    ap₂ (λ (x : State) (y : Result ⊤ Refusal). record { answer = record { answer = y; state = x }; store = store; clauses = clauses }) p f ∙
    sym (ap (λ (k : ℕ). start_end k (new_build (combined_literals lits) (combined_weights lits weights) first) store clauses) z)
