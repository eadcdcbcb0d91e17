-- Outputs defined over a well formed build leave it well formed.
use Rattle.std.specs.Prelude.{◌≡◌, refl, Bool, true, ℤ, pos}
use Rattle.std.proofs.Math.Path.{sym, subst}
use Rattle.std.proofs.Math.Bool.{not}
use mathlib.Core.List.{List, [], ◌∷◌, ◌++◌, map}
use Prim.Native.Nat.{ℕ, ◌+◌, ◌≤◌, ◌<◌}
use Rattle.std.proofs.Common.{arith}
use Rattle.std.proofs.Math.ListN.{length, length-append}
use Rattle.rules.specs.Records.{leaf, Node, Output, Record, output, waits, node_at, left_link, outputs}
use Rattle.rules.specs.Totalizer.{Arena}
use Rattle.rules.specs.Build.{Build, restructured, with_arena, clause_total, clause_mark, clause_words, some_wait}
use Rattle.rules.specs.WellFormed.{known}
use Rattle.laws.specs.Lists.Facts.{All, All_append, All_first, All_source}
use Rattle.laws.specs.Records.Places.{place}
use Rattle.laws.specs.WellFormed.Plain.{Sound, Defined, Taken, variables_of, Waits, Spares, Linked, Unbuilt, Built, Formed}
use Rattle.laws.specs.Totalizer.Outputs.{Counted}
use Rattle.laws.specs.Refinement.Extends.{Goes}
use Rattle.preserve.specs.Given.{Ahead, taken_positive}

-- a well formed build's arena, ready for defining
pub counted_of : (b : Build) → Formed b → Ahead b → 1 ≤ b.inputs →
    Counted (node_at b.arena.records) (place b.arena.records) b.tares (variables_of (node_at b.arena.records) b.inputs)
    b.arena
counted_of b f ahead some =
    record {
      over = record { at_is = refl; place_is = refl };
      defined = f.defined;
      taken = f.taken;
      variables_low = ahead;
      numbered = All_source (λ n. 1 ≤ n) (λ (o : Output). o.number) (outputs b.arena.records)
          (All_first (λ n. 1 ≤ n) (map (λ (o : Output). o.number) (outputs b.arena.records)) b.tares (taken_positive b f some));
      fresh_low = omega (arith, f.first_low, f.first_high);
    }

-- every clause has a word
words_append : (cs ds : List (List ℤ)) → length (clause_words (cs ++ ds)) ≡ length (clause_words cs) + length (clause_words ds)
unfolding clause_words
words_append [] ds = omega arith
words_append (c ∷ cs) ds = omega (
  arith,
  length-append c (pos 0 ∷ clause_words (cs ++ ds)),
  length-append c (pos 0 ∷ clause_words cs),
  words_append cs ds,
)

words_enough : (cs : List (List ℤ)) → length cs ≤ length (clause_words cs)
unfolding clause_words
words_enough [] = omega arith
words_enough (c ∷ cs) = omega (arith, length-append c (pos 0 ∷ clause_words cs), words_enough cs)

outputs_known : (os : List Output) → All (λ r. known r ≡ true) (map output os)
unfolding known
outputs_known [] = tt
outputs_known (o ∷ os) = (refl, outputs_known os)

outputs_stay : (os : List Output) → All (λ r. not (waits r) ≡ true) (map output os)
unfolding waits
outputs_stay [] = tt
outputs_stay (o ∷ os) = (refl, outputs_stay os)

module _ (b : Build) (f : Formed b) where
  abbrev at : ℕ → Node
  at = node_at b.arena.records

  abbrev pl : ℕ → Bool
  pl = place b.arena.records

  abbrev vs : List ℕ
  vs = variables_of at b.inputs

  pub goes_ahead : (t : Arena) → Goes at pl f.sound b.tares vs b.arena t → Ahead (with_arena b t)
  unfolding with_arena restructured
  goes_ahead t (k, (c, a)) = subst (λ (a : ℕ → Node). All (λ v. v < t.fresh) (variables_of a b.inputs)) (sym c.over.at_is)
      c.variables_low

  pub goes_formed : (t : Arena) → Goes at pl f.sound b.tares vs b.arena t → t.fresh ≤ 1000000001 → Formed (with_arena b t)
  unfolding with_arena restructured clause_total clause_mark
  goes_formed t (k, (c, a)) room =
      let A : at ≡ node_at t.records = sym c.over.at_is in
      let P : pl ≡ place t.records = sym c.over.place_is in
      let both : (F : (ℕ → Node) → (ℕ → Bool) → Type 0) → F at pl → F (node_at t.records) (place t.records) =
      λ F h. subst (λ (p : ℕ → Bool). F (node_at t.records) p) P (subst (λ (a : ℕ → Node). F a pl) A h) in
      record {
        all_known = subst (λ (rs : List Record). All (λ r. known r ≡ true) rs) (sym a.records_are)
            (All_append (λ r. known r ≡ true) b.arena.records (map output a.more) f.all_known (outputs_known a.more));
        none_waits = subst (λ (rs : List Record). All (λ r. not (waits r) ≡ true) rs) (sym a.records_are)
            (All_append (λ r. not (waits r) ≡ true) b.arena.records (map output a.more) f.none_waits (outputs_stay a.more));
        first_low = f.first_low;
        first_high = omega (arith, f.first_high, a.fresh_is);
        fresh_few = room;
        clauses_few = clauses_more a.further a.clauses_are;
        inputs_few = f.inputs_few;
        inputs_first = subst (λ (a : ℕ → Node). (i : ℕ) → i < b.inputs → (x : ℤ) × ((a i).kind ≡ leaf x)) A f.inputs_first;
        sound = both Sound f.sound;
        defined = both (λ a p. Defined a p (outputs t.records)) c.defined;
        taken = subst (λ (a : ℕ → Node). Taken (variables_of a b.inputs) t.fresh
            (map (λ (o : Output). o.number) (outputs t.records) ++ b.tares)) A c.taken;
        waiting_are = both (λ a p. Waits a p b.queue) f.waiting_are;
        spares = subst (λ (a : ℕ → Node). Spares a b.buckets) A f.spares;
        entries_spare = f.entries_spare;
        set_power = f.set_power;
        if_unbuilt = λ z. let u : Unbuilt b = f.if_unbuilt
            z in record {
              no_tare = u.no_tare;
              no_bucket = u.no_bucket;
              count = u.count;
              each_waits = u.each_waits;
              sum_is =
                  u.sum_is;
            };
        if_built = λ n.
            let u : Built b = f.if_built n in
            record {
              two = u.two;
              power = u.power;
              coarser = u.coarser;
              times_weight = u.times_weight;
              some = u.some;
              few = u.few;
              linked = subst (λ (a : ℕ → Node). Linked a (some_wait b.queue) b.buckets) A u.linked;
              lefts = subst (λ (a : ℕ → Node). All (λ n. (a (left_link (a n).kind)).maximum ≤ 257) b.buckets) A u.lefts;
              below_built = u.below_built;
            };
      }
    where
      clauses_more : (cs : List (List ℤ)) → t.clauses ≡ b.arena.clauses ++ cs →
          b.clauses_before + length t.clauses ≤ b.words_before + length (clause_words t.clauses)
      clauses_more cs e =
          let old : b.clauses_before + length b.arena.clauses ≤ b.words_before + length (clause_words b.arena.clauses) =
          f.clauses_few in
          rw e (omega (arith, length-append b.arena.clauses cs, words_append b.arena.clauses cs, words_enough cs))
