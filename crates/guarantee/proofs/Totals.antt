-- The totals that are reported are those that the memory bears out, after any run of calls.
use Rattle.std.specs.Prelude.{◌≡◌, refl, Bool, true, false, eqb, length}
use Rattle.std.proofs.Common.{sym, ap, ap₂, ◌∙◌, arith}
use Rattle.std.proofs.Math.Path.{subst}
use mathlib.Core.List.{List, ◌++◌, map, append-nil}
use Prim.Native.Nat.{ℕ, zero, suc, ◌+◌, ◌-◌}
use Rattle.std.proofs.Math.IntN.{ℤ}
use Rattle.rules.specs.declared.State.{State}
use Rattle.rules.specs.declared.Encoded.{Encoded}
use Rattle.rules.specs.Records.{Output, waiting, outputs, records_of}
use Rattle.rules.specs.Build.{Build, records, clause_total, variable_total, state_of, build_of, held}
use Rattle.rules.specs.Combined.{combined_literals, combined_weights}
use Rattle.rules.specs.Start.{start_refusal, new_build}
use Rattle.rules.specs.Encode.{encode, nothing_done, encode_refusal, EncodeEnd, encoded, untouched, no_room_end, encoded_end, encode_end, encode_ub_change}
use Rattle.laws.specs.Records.Words.{records_of_image}
use Rattle.laws.specs.Records.Places.{outputs_append, outputs_of_waiting}
use Rattle.preserve.specs.Starts.{lent}
use Rattle.guarantee.specs.Histories.Worlds.{World}
use Rattle.guarantee.specs.Histories.Reached.{started_world, leads_world}
use Rattle.guarantee.specs.Histories.Numbered.{Numbered, leads_numbered, new_numbered, leads_first}
use Rattle.guarantee.specs.Calls.{Memory, started, encode_call, Run, next_encode}
use Rattle.guarantee.specs.Words.Shows.{Shows}
use Rattle.guarantee.specs.Words.Goes.{Goes}
use Rattle.guarantee.proofs.Words.Goes.{run_goes, start_shows}
use Rattle.guarantee.proofs.Words.Reads.{shows_clauses}
use Rattle.guarantee.specs.Totals.{Totals}

-- the outputs in the store are those of the build that it shows
shown_outputs : (m : Memory) (b : Build) → Shows m b → outputs (held m.state m.store) ≡ outputs b.arena.records
unfolding held state_of records
shown_outputs m b s =
    ap₂ (λ (st : State) (ws : List ℕ). outputs (records_of ws st.records)) s.state_is s.store_is ∙
    (ap outputs (records_of_image (records b) s.rest) ∙
    (outputs_append b.arena.records (map waiting b.queue) ∙
    (ap (λ (os : List Output). outputs b.arena.records ++ os) (outputs_of_waiting b.queue) ∙ append-nil (outputs b.arena.records))))

shown_totals : (xs : List ℤ) (ws : List ℕ) (b : Build) → World xs ws b → Numbered b → (m : Memory) → Shows m b → Totals b.first m.state.clauses m.state.variables m
unfolding state_of clause_total variable_total
shown_totals xs ws b w h m s =
    let clauses : m.state.clauses ≡ b.clauses_before + length b.arena.clauses = ap (λ (st : State). st.clauses) s.state_is in
    let variables : m.state.variables ≡ b.arena.fresh - b.first = ap (λ (st : State). st.variables) s.state_is in
    let fresh : m.state.fresh ≡ b.arena.fresh = ap (λ (st : State). st.fresh) s.state_is in
    let tares : m.state.tares_used ≡ length b.tares = ap (λ (st : State). st.tares_used) s.state_is in
    record {
      clauses_are = omega (arith, s.no_clauses, ap length (shows_clauses xs ws b w m s));
      taken = omega (arith, h);
      variables_are = omega (arith, h, ap length (shown_outputs m b s));
    }

-- what stands beside an encode's answer is read off its state
reported : (m : Memory) (work : List ℕ) (lo end : ℕ) →
    let e : Encoded = (encode_ub_change m.state m.store m.clauses work lo end).answer in
    (e.clauses ≡ e.state.clauses) × (e.variables ≡ e.state.variables)
unfolding encode_ub_change encode_end untouched no_room_end encoded_end encoded
reported m work lo end = go (encode_refusal m.state m.store m.clauses work lo end)
  where
    b : Build
    b = build_of m.state m.store

    c : Build
    c = encode b lo end

    Read : EncodeEnd → Type 0
    Read e = (e.answer.clauses ≡ e.answer.state.clauses) × (e.answer.variables ≡ e.answer.state.variables)

    done : (t : Bool) → Read (elim t [ true ↦ untouched 0 m.state m.store m.clauses work | false ↦ encoded_end m.state c m.store m.clauses work ])
    done true = (refl, refl)
    done false = (refl, refl)

    refused : (n : ℕ) (t : Bool) → Read (elim t [ true ↦ no_room_end m.state m.store m.clauses work | false ↦ untouched (suc n) m.state m.store m.clauses work ])
    refused n true = (refl, refl)
    refused n false = (refl, refl)

    go : (n : ℕ) → Read (encode_end n m.state b c m.store m.clauses work)
    go zero = done (nothing_done b c)
    go (suc n) = refused n (eqb (suc n) 7)

module _ (lits : List ℤ) (weights : List ℕ) (first : ℕ) (store : List ℕ) (clauses : List ℤ) (accepted_start : start_refusal lits weights first store ≡ 0) where
  -- the totals of the state that any run of calls reaches
  pub state_totals : (m : Memory) → Run (started lits weights first store clauses) m → Totals first m.state.clauses m.state.variables m
  unfolding new_build
  state_totals m run =
      let xs : List ℤ = combined_literals lits in
      let ws : List ℕ = combined_weights lits weights in
      let new : Build = new_build xs ws first in
      let begun : World xs ws new = started_world xs ws first store (lent lits weights first store accepted_start) in
      let g : Goes new m = run_goes xs ws new begun (started lits weights first store clauses) m (start_shows lits weights first store clauses accepted_start) run in
      subst (λ (k : ℕ). Totals k m.state.clauses m.state.variables m) (leads_first new g.build g.leads)
      (shown_totals xs ws g.build (leads_world xs ws new g.build begun g.leads) (leads_numbered xs ws new g.build begun (new_numbered xs ws first) g.leads) m g.shows)

  -- the totals that an encode reports after any run of calls, accepted or refused, are those of what it leaves
  pub encode_totals : (m : Memory) → Run (started lits weights first store clauses) m → (work : List ℕ) (lo end : ℕ) →
      let e : Encoded = (encode_ub_change m.state m.store m.clauses work lo end).answer in
      Totals first e.clauses e.variables (encode_call m work lo end)
  unfolding encode_call
  encode_totals m run work lo end =
      let (c, v) = reported m work lo end in
      let n : Memory = encode_call m work lo end in
      subst (λ (k : ℕ). Totals first k (encode_ub_change m.state m.store m.clauses work lo end).answer.variables n) (sym c)
      (subst (λ (k : ℕ). Totals first n.state.clauses k n) (sym v) (state_totals n (next_encode work lo end run)))
