-- What enforce answers over words, it answers over the build.
use Rattle.std.specs.Prelude.{◌≡◌, Bool, true, false, cond, ◌&&◌, List, [], ◌∷◌, ◌++◌, ℕ, zero, suc, ◌/◌, eqb, leb, length, drop, ℤ}
use Rattle.std.proofs.Math.Path.{refl}
use Rattle.std.proofs.Common.{sym, ap, ◌∙◌, arith}
use Rattle.std.proofs.Math.Option.{Option, none, some}
use Rattle.rules.specs.Totalizer.{number_of}
use Rattle.rules.specs.Build.{Build, restructured, with_arena, clause_total, clause_mark, build_of, unbuilt, output_weight, root, root_node, largest}
use Rattle.rules.specs.WellFormed.{well_formed}
use Rattle.rules.specs.Enforce.{one_answer, built_answer, root_answer, output_answer, enforce, EnforceEnd, refused_end, scratch_short, enforce_end, enforce_ub}
use Rattle.laws.specs.Encode.Appends.{recounted}
use Rattle.guarantee.specs.Histories.Worlds.{World}
use Rattle.guarantee.specs.Calls.{Memory}
use Rattle.guarantee.specs.Words.Shows.{Shows, bare, shows_read}

same_output : (n m : ℕ) (b : Build) (q number : ℕ) → output_answer (recounted n m (bare b)) q number ≡ output_answer b q number
unfolding output_answer output_weight recounted bare with_arena restructured
same_output n m b q zero = refl
same_output n m b q (suc number) = refl

same_enforce : (n m : ℕ) (b : Build) (u : ℕ) → enforce (recounted n m (bare b)) u ≡ enforce b u
unfolding enforce one_answer built_answer root_answer unbuilt output_weight root root_node recounted bare with_arena restructured
same_enforce n m b u =
    let q : ℕ = u / (b.built / b.set) in
    let j : ℕ = q / output_weight b in
    ap (λ (x : Option (List ℤ)). cond (leb b.sum u && eqb b.set 1) (some []) (cond (eqb b.inputs 0) (some []) (cond (eqb b.inputs 1) (some (one_answer b u))
    (cond (unbuilt b) none (cond (leb b.set (largest b.queue)) none (cond (leb (root_node b).maximum j) (some []) x))))))
    (same_output n m b q (number_of b.arena.records (root b) (suc j)))

-- what enforce answered over words, it answered over the build
module _ (xs : List ℤ) (ws : List ℕ) (b : Build) (w : World xs ws b) (m : Memory) (s : Shows m b) (scratch : List ℤ) (u : ℕ) where
  told_by : (o : Option (List ℤ)) → enforce (build_of m.state m.store) u ≡ o → enforce b u ≡ o
  told_by o e = sym (same_enforce (clause_total b) (clause_mark b) b u) ∙ (ap (λ (x : Build). enforce x u) (sym (shows_read m b s w.formed)) ∙ e)

  -- an answer that is not refused
  pub answer_told : (enforce_ub m.state m.store m.clauses scratch u).refusal ≡ 0 → enforce b u ≡ some (enforce_ub m.state m.store m.clauses scratch u).answer
  unfolding enforce_ub enforce_end refused_end
  answer_told = go (well_formed m.state m.store m.clauses) (enforce (build_of m.state m.store) u) refl
    where
      Told : EnforceEnd → Type 0
      Told e = e.refusal ≡ 0 → enforce b u ≡ some e.answer

      room : (short : Bool) (answer : List ℤ) → enforce (build_of m.state m.store) u ≡ some answer →
          Told (elim short [ true ↦ refused_end 7 scratch | false ↦ record { answer = answer; scratch = answer ++ drop (length answer) scratch; refusal = 0 } ])
      room true answer e r = absurd (omega arith)
      room false answer e r = told_by (some answer) e

      ended : (o : Option (List ℤ)) → enforce (build_of m.state m.store) u ≡ o → Told (enforce_end o scratch)
      ended none e r = absurd (omega arith)
      ended (some answer) e r = room (scratch_short scratch answer) answer e r

      go : (t : Bool) (o : Option (List ℤ)) → enforce (build_of m.state m.store) u ≡ o → Told (elim t [ true ↦ enforce_end o scratch | false ↦ refused_end 12 scratch ])
      go true o e r = ended o e r
      go false o e r = absurd (omega arith)

-- a refused enforce answers nothing
pub answer_accepted : (m : Memory) (scratch : List ℤ) (u : ℕ) (l : ℤ) (ls : List ℤ) → (enforce_ub m.state m.store m.clauses scratch u).answer ≡ l ∷ ls →
    (enforce_ub m.state m.store m.clauses scratch u).refusal ≡ 0
unfolding enforce_ub enforce_end refused_end
answer_accepted m scratch u l ls = go (well_formed m.state m.store m.clauses) (enforce (build_of m.state m.store) u)
  where
    Accepts : EnforceEnd → Type 0
    Accepts e = e.answer ≡ l ∷ ls → e.refusal ≡ 0

    nothing : ◌≡◌ {A = List ℤ} [] (l ∷ ls) → ⊥
    nothing q = let z : ◌≡◌ {A = ℕ} 0 1 = cc in omega arith

    room : (short : Bool) (answer : List ℤ) →
        Accepts (elim short [ true ↦ refused_end 7 scratch | false ↦ record { answer = answer; scratch = answer ++ drop (length answer) scratch; refusal = 0 } ])
    room true answer k = absurd (nothing k)
    room false answer k = refl

    ended : (o : Option (List ℤ)) → Accepts (enforce_end o scratch)
    ended none k = absurd (nothing k)
    ended (some answer) k = room (scratch_short scratch answer) answer k

    go : (t : Bool) (o : Option (List ℤ)) → Accepts (elim t [ true ↦ enforce_end o scratch | false ↦ refused_end 12 scratch ])
    go true o k = ended o k
    go false o k = absurd (nothing k)
