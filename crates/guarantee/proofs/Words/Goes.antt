-- Any run of calls on words goes along with accepted calls on the build that they show.
use Rattle.std.specs.Prelude.{◌≡◌, Bool, true, false, not, ◌&&◌, ℕ, zero, suc, eqb, take, ℤ}
use Rattle.std.proofs.Math.Path.{refl, sym, ap, subst}
use Rattle.std.proofs.Common.{◌∙◌, inl, inr, arith}
use mathlib.Core.List.{List, ◌++◌}
use Rattle.rules.specs.declared.State.{State}
use Rattle.rules.specs.Lists.{padded}
use Rattle.rules.specs.Numbers.{divisor_of}
use Rattle.rules.specs.Refusals.{divisor_unlawful}
use Rattle.rules.specs.Records.{image_of}
use Rattle.rules.specs.Build.{Build, restructured, with_arena, records, clause_words, clause_total, clause_mark, state_of, build_of, unbuilt}
use Rattle.rules.specs.WellFormed.{not_well_formed}
use Rattle.rules.specs.Combined.{combined_literals, combined_weights}
use Rattle.rules.specs.Start.{start_refusal, new_build, StartEnd, start_end, start}
use Rattle.rules.specs.Precision.{divisor_coarser, set_refusal, with_set, set_end, set_precision}
use Rattle.rules.specs.Encode.{encode, nothing_asked, nothing_done, divisor_above, encode_refusal, EncodeEnd, encoded, untouched, no_room_end, encoded_end, encode_end, encode_ub_change}
use Rattle.laws.specs.Encode.Appends.{after, earlier, recounted}
use Rattle.preserve.specs.Starts.{not_first}
use Rattle.preserve.specs.Encodes.{Accepted, accepted}
use Rattle.preserve.specs.Sets.{set_to}
use Rattle.guarantee.specs.Histories.Worlds.{Leads, here, then_set, then_encode, World}
use Rattle.guarantee.specs.Histories.Reached.{leads_world}
use Rattle.guarantee.specs.Calls.{Memory, started, set_call, encode_call, lend_anew, Run, none_yet, next_set, next_encode, next_lend}
use Rattle.guarantee.specs.Words.Shows.{Shows, bare, shows_read, words_append, recounted_state, counts_kept, fresh_part, encode_listed, encode_counted, front_clauses, kept_shows}
use Rattle.guarantee.specs.Words.Goes.{Goes, Encodes}

-- tests that look at neither clauses nor their counts
same_coarser : (n m : ℕ) (b : Build) (d : ℕ) → divisor_coarser (recounted n m (bare b)) d ≡ divisor_coarser b d
unfolding divisor_coarser unbuilt recounted bare with_arena restructured
same_coarser n m b d = refl

pub same_ten : (n m : ℕ) (b : Build) (lo end : ℕ) → (not (nothing_asked (recounted n m (bare b)) lo end) && divisor_above (recounted n m (bare b))) ≡ (not (nothing_asked b lo end) && divisor_above b)
unfolding nothing_asked divisor_above unbuilt recounted bare with_arena restructured
same_ten n m b lo end = refl

module _ (xs : List ℤ) (ws : List ℕ) (b : Build) (w : World xs ws b) (m : Memory) (s : Shows m b) where
  pub read_is : build_of m.state m.store ≡ recounted (clause_total b) (clause_mark b) (bare b)
  read_is = shows_read m b s w.formed

  -- a set
  set_goes : (d : ℕ) → Goes b (set_call m d)
  unfolding set_call set_precision set_end state_of set_to
  set_goes d = go (set_refusal m.state m.store m.clauses d) refl
    where
      lawful : set_refusal m.state m.store m.clauses d ≡ 0 → (divisor_unlawful d ≡ false) × (divisor_coarser b d ≡ false)
      lawful e =
          let (twelve, e₁) = not_first 11 (not_well_formed m.state m.store m.clauses) _ e in
          let (eight, e₂) = not_first 7 (divisor_unlawful d) _ e₁ in
          let (nine, e₃) = not_first 8 (divisor_coarser (build_of m.state m.store) d) _ e₂ in
          (eight, sym (same_coarser (clause_total b) (clause_mark b) b d) ∙ (ap (λ (x : Build). divisor_coarser x d) (sym read_is) ∙ nine))

      go : (n : ℕ) → set_refusal m.state m.store m.clauses d ≡ n → Goes b (record { state = (set_end n m.state d).state; store = m.store; clauses = m.clauses })
      go zero e = record {
        build = set_to b (divisor_of d);
        leads = then_set d here (lawful e).0 (lawful e).1;
        shows = record {
          state_is = ap (λ (st : State). with_set st (divisor_of d)) s.state_is;
          no_clauses = s.no_clauses;
          no_words = s.no_words;
          rest = s.rest;
          store_is = s.store_is;
          signed_rest = s.signed_rest;
          clauses_is = s.clauses_is;
        };
      }
      go (suc n) e = record { build = b; leads = here; shows = s }

  module _ (lo end : ℕ) where
    c : Build
    c = encode (build_of m.state m.store) lo end

    c_is : c ≡ recounted (clause_total b) (clause_mark b) (fresh_part b lo end)
    unfolding c
    c_is = ap (λ (x : Build). encode x lo end) read_is ∙ encode_counted b lo end

    fresh_same : (encode b lo end).arena.fresh ≡ c.arena.fresh
    unfolding recounted earlier after with_arena restructured
    fresh_same = ap (λ (x : Build). x.arena.fresh) (encode_listed b lo end) ∙ sym (ap (λ (x : Build). x.arena.fresh) c_is)

    counts : ((fresh_part b lo end).clauses_before ≡ 0) × ((fresh_part b lo end).words_before ≡ 0)
    unfolding fresh_part bare with_arena restructured
    counts = counts_kept (bare b) lo end s.no_clauses s.no_words

    -- what an encode that reaches x leaves, where it builds, refines or defines
    abbrev written : Build → List ℕ → List ℤ → Memory
    written x words signed = record {
      state = state_of x;
      store = image_of (records x) ++ words;
      clauses = (take m.state.words m.clauses ++ clause_words x.arena.clauses) ++ signed;
    }

    written_shows : (words : List ℕ) (signed : List ℤ) → Shows (written c words signed) (encode b lo end)
    unfolding recounted earlier after with_arena restructured records
    written_shows words signed =
        let cs : List (List ℤ) = b.arena.clauses in
        let e : Build = fresh_part b lo end in
        subst (λ (x : Build). Shows (written x words signed) (encode b lo end)) (sym c_is)
        (subst (Shows (written (recounted (clause_total b) (clause_mark b) e) words signed)) (sym (encode_listed b lo end))
        (record {
          state_is = recounted_state b e s.no_clauses s.no_words counts.0 counts.1;
          no_clauses = counts.0;
          no_words = counts.1;
          rest = words;
          store_is = refl;
          signed_rest = signed;
          clauses_is =
              ap (λ (zs : List ℤ). zs ++ signed)
              (ap (λ (zs : List ℤ). zs ++ clause_words e.arena.clauses) (front_clauses m b s) ∙ sym (words_append cs e.arena.clauses));
        }))

    -- an encode, accepted or refused
    pub encode_goes : (work : List ℕ) → Encodes b lo end (encode_call m work lo end)
    unfolding encode_call encode_ub_change encode_end untouched no_room_end encoded_end encoded padded c
    encode_goes work = go (encode_refusal m.state m.store m.clauses work lo end) refl
      where
        st : State
        st = m.state

        after_end : EncodeEnd → Memory
        after_end e = record { state = e.answer.state; store = e.store; clauses = e.clauses }

        done : (t : Bool) → encode_refusal st m.store m.clauses work lo end ≡ 0 →
            Encodes b lo end (after_end (elim t [ true ↦ untouched 0 st m.store m.clauses work | false ↦ encoded_end st c m.store m.clauses work ]))
        done true e = record { build = b; how = inl refl; leads = here; shows = s }
        done false e =
            let a : Accepted st m.store m.clauses lo end = accepted st m.store m.clauses work lo end e in
            record {
              build = encode b lo end;
              how = inr refl;
              leads = then_encode lo end here
                  (sym (same_ten (clause_total b) (clause_mark b) b lo end) ∙ (ap (λ (x : Build). not (nothing_asked x lo end) && divisor_above x) (sym read_is) ∙ a.divisor))
                  (omega (arith, fresh_same, a.fresh_fits));
              shows = written_shows _ _;
            }

        refused : (n : ℕ) (t : Bool) →
            Encodes b lo end (after_end (elim t [ true ↦ no_room_end st m.store m.clauses work | false ↦ untouched (suc n) st m.store m.clauses work ]))
        refused n true = record { build = b; how = inl refl; leads = here; shows = kept_shows m _ b s refl _ refl _ refl }
        refused n false = record { build = b; how = inl refl; leads = here; shows = s }

        go : (n : ℕ) → encode_refusal st m.store m.clauses work lo end ≡ n → Encodes b lo end (after_end (encode_end n st (build_of st m.store) c m.store m.clauses work))
        go zero e = done (nothing_done (build_of st m.store) c) e
        go (suc n) e = refused n (eqb (suc n) 7)

pub leads_then : (a b c : Build) → Leads a b → Leads b c → Leads a c
leads_then a b c l here = l
leads_then a b c l (then_set {c = m} d k e h) = then_set d (leads_then a b m l k) e h
leads_then a b c l (then_encode {c = m} lo end k e h) = then_encode lo end (leads_then a b m l k) e h

goes_then : (b : Build) (m n : Memory) (g : Goes b m) → Goes g.build n → Goes b n
goes_then b m n g h = record { build = h.build; leads = leads_then b g.build h.build g.leads h.leads; shows = h.shows }

-- any run of calls goes along with accepted calls on the build that the memory shows
pub run_goes : (xs : List ℤ) (ws : List ℕ) (b : Build) → World xs ws b → (m n : Memory) → Shows m b → Run m n → Goes b n
unfolding lend_anew
run_goes xs ws b w m n s none_yet = record { build = b; leads = here; shows = s }
run_goes xs ws b w m n s (next_set {n = k} d r) =
    let g : Goes b k = run_goes xs ws b w m k s r in
    goes_then b k n g (set_goes xs ws g.build (leads_world xs ws b g.build w g.leads) k g.shows d)
run_goes xs ws b w m n s (next_encode {n = k} work lo end r) =
    let g : Goes b k = run_goes xs ws b w m k s r in
    let e : Encodes g.build lo end n = encode_goes xs ws g.build (leads_world xs ws b g.build w g.leads) k g.shows lo end work in
    goes_then b k n g (record { build = e.build; leads = e.leads; shows = e.shows })
run_goes xs ws b w m n s (next_lend {n = k} words signed r) =
    let g : Goes b k = run_goes xs ws b w m k s r in
    record { build = g.build; leads = g.leads; shows = kept_shows k n g.build g.shows refl words refl signed refl }

-- an accepted start shows its build
pub start_shows : (lits : List ℤ) (weights : List ℕ) (first : ℕ) (store : List ℕ) (clauses : List ℤ) → start_refusal lits weights first store ≡ 0 → Shows (started lits weights first store clauses) (new_build (combined_literals lits) (combined_weights lits weights) first)
unfolding started start start_end padded new_build clause_words
start_shows lits weights first store clauses e =
    subst (λ (n : ℕ). Shows (at n) (new_build (combined_literals lits) (combined_weights lits weights) first)) (sym e) (record {
      state_is = refl;
      no_clauses = refl;
      no_words = refl;
      rest = _;
      store_is = refl;
      signed_rest = _;
      clauses_is = refl;
    })
  where
    at : ℕ → Memory
    at n =
        let x : StartEnd = start_end n (new_build (combined_literals lits) (combined_weights lits weights) first) store clauses in
        record { state = x.answer.state; store = x.store; clauses = x.clauses }
