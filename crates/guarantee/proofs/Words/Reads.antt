-- The words in the clause buffer, read as clauses, are the clauses of the build.
use Rattle.std.specs.Prelude.{◌≡◌, refl, Bool, List, [], ◌∷◌, ◌++◌, ℕ, zero, suc, ◌≤◌, ℤ, pos, negsuc, neg_ℤ, nat_abs}
use Rattle.std.proofs.Common.{sym, ap, ◌∙◌, subst, append_assoc, append-nil, arith}
use Rattle.rules.specs.Records.{Kind, leaf, join, dummy, Record, node_at, outputs}
use Rattle.rules.specs.Totalizer.{asks, number_of, literal_of, side, clause}
use Rattle.rules.specs.Build.{Build, clause_words}
use Rattle.laws.specs.Lists.Facts.{All, All_map, All_append}
use Rattle.laws.specs.Records.Places.{place}
use Rattle.laws.specs.WellFormed.Plain.{Sound, Rise}
use Rattle.guarantee.specs.Meaning.Truth.{member_all}
use Rattle.guarantee.specs.Meaning.Derived.{ClaimedKind, Claimed, Derived, rise_high, lawful_positive}
use Rattle.guarantee.specs.Histories.Worlds.{World}
use Rattle.guarantee.specs.Calls.{Memory, clauses_from, clauses_in}
use Rattle.guarantee.specs.Words.Shows.{Shows, front_clauses}

-- a clause of literals
abbrev Proper : List ℤ → Type 0
Proper c = All (λ x. 1 ≤ nat_abs x) c

clause_read : (c d : List ℤ) (ws : List ℤ) → Proper d → clauses_from c (d ++ (pos 0 ∷ ws)) ≡ (c ++ d) ∷ clauses_from [] ws
unfolding clauses_from
clause_read c [] ws p = ap (λ (x : List ℤ). x ∷ clauses_from [] ws) (sym (append-nil c))
clause_read c (pos zero ∷ d) ws p = absurd (omega (arith, p.0))
clause_read c (pos (suc n) ∷ d) ws p = clause_read (c ++ (pos (suc n) ∷ [])) d ws p.1 ∙ ap (λ (x : List ℤ). x ∷ clauses_from [] ws) (append_assoc c (pos (suc n) ∷ []) d)
clause_read c (negsuc n ∷ d) ws p = clause_read (c ++ (negsuc n ∷ [])) d ws p.1 ∙ ap (λ (x : List ℤ). x ∷ clauses_from [] ws) (append_assoc c (negsuc n ∷ []) d)

clauses_read : (cs : List (List ℤ)) → All Proper cs → clauses_from [] (clause_words cs) ≡ cs
unfolding clause_words clauses_from
clauses_read [] a = refl
clauses_read (c ∷ cs) a = clause_read [] c (clause_words cs) a.0 ∙ ap (λ (x : List (List ℤ)). c ∷ x) (clauses_read cs a.1)

-- the literals of derived clauses are none of them 0
neg_proper : (x : ℤ) → 1 ≤ nat_abs x → 1 ≤ nat_abs (neg_ℤ x)
neg_proper (pos zero) h = absurd (omega arith)
neg_proper (pos (suc n)) h = omega arith
neg_proper (negsuc n) h = omega arith

side_proper : (rs : List Record) (place : ℕ → Bool) → Sound (node_at rs) place → (n v : ℕ) → (1 ≤ v → Claimed rs n v) → Proper (side rs n v)
unfolding side literal_of
side_proper rs place sound n zero c = tt
side_proper rs place sound n (suc v) c = (neg_proper (literal_of (node_at rs n).kind (number_of rs n (suc v))) (go (node_at rs n).kind refl (c (omega arith))), tt)
  where
    go : (k : Kind) → (node_at rs n).kind ≡ k → ClaimedKind k (number_of rs n (suc v)) → 1 ≤ nat_abs (literal_of k (number_of rs n (suc v)))
    go (leaf x) e h = lawful_positive x ((sound n).leaf_is x e).0
    go (join half l r) e h = h
    go dummy e h = absurd h

derived_proper : (rs : List Record) (place : ℕ → Bool) → Sound (node_at rs) place → Rise 1 (outputs rs) → (c : List ℤ) → Derived rs c → Proper c
unfolding clause
derived_proper rs place sound rise c d =
    subst Proper (sym d.is)
    (All_append (λ x. 1 ≤ nat_abs x) (side rs d.l d.p.0) _ (side_proper rs place sound d.l d.p.0 d.sides.0)
    (All_append (λ x. 1 ≤ nat_abs x) (side rs d.r (asks d.half d.p.1)) _ (side_proper rs place sound d.r (asks d.half d.p.1) d.sides.1)
    (member_all (λ o. 1 ≤ o.number) d.o (outputs rs) d.claimed (rise_high 1 (outputs rs) rise), tt)))

-- the words in the buffer, read as clauses, are the clauses of the build
pub shows_clauses : (xs : List ℤ) (ws : List ℕ) (b : Build) → World xs ws b → (m : Memory) → Shows m b → clauses_in m ≡ b.arena.clauses
unfolding clauses_in
shows_clauses xs ws b w m s =
    ap (clauses_from []) (front_clauses m b s) ∙
    clauses_read b.arena.clauses (All_map (derived_proper b.arena.records (place b.arena.records) w.formed.sound w.told.means.rise) b.arena.clauses w.told.means.derived)
