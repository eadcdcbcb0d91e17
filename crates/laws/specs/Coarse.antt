-- Coarse bounds: never above u, and less than W lost.
use Rattle.std.specs.Prelude.{◌≡◌, Bool, true, false, cond, ◌||◌, List, ℕ, suc, ◌*◌, ◌-◌, ◌/◌, ◌^◌, ◌≤◌, ◌<◌, ltb, eqb, length, ℤ, Result, Ok, Err}
use Rattle.std.proofs.Common.{subst, arith, div-add-mod', mod-lt, pow_pos}
use Rattle.rules.specs.declared.State.{State}
use Rattle.rules.specs.declared.Refusal.{Refusal}
use Rattle.rules.specs.declared.Refusal.TheVariants.{NotWellFormed}
use Rattle.rules.specs.Build.{Build, build_of, unbuilt, output_weight}
use Rattle.rules.specs.WellFormed.{well_formed}
use Rattle.rules.specs.Coarse.{coarse_at, coarse, coarse_ub}

-- v is never above u, and u at least w loses less than w
pub record Coarsens (w u v : ℕ) : Type 0 where
  pub never_above : v ≤ u
  pub loses_less : w ≤ u → u - v < w

kept : (w u : ℕ) → 1 ≤ w → Coarsens w u u
kept w u h = record { never_above = omega arith; loses_less = λ k. omega arith }

pub coarse_at_law : (w u : ℕ) → 1 ≤ w → Coarsens w u (coarse_at w u)
unfolding coarse_at
coarse_at_law w u h = go (eqb w 1 || ltb u w)
  where
    go : (t : Bool) → Coarsens w u (cond t u (suc u / w * w - 1))
    go true = kept w u h
    go false = record {
      never_above = omega (arith, div-add-mod' (suc u) w);
      loses_less = λ k. omega (arith, div-add-mod' (suc u) w, mod-lt (suc u) h);
    }

pub coarse_law : (b : Build) (u : ℕ) → Coarsens (output_weight b) u (coarse b u)
unfolding coarse output_weight
coarse_law b u = go (unbuilt b)
  where
    go : (t : Bool) → Coarsens (2 ^ length b.tares) u (cond t u (coarse_at (2 ^ length b.tares) u))
    go true = kept (2 ^ length b.tares) u (pow_pos (length b.tares))
    go false = coarse_at_law (2 ^ length b.tares) u (pow_pos (length b.tares))

-- what coarse_ub answers is never above u, and u at least W loses less than W
pub coarse_ub_law : (s : State) (store : List ℕ) (clauses : List ℤ) (u v : ℕ) → coarse_ub s store clauses u ≡ Ok v → Coarsens (output_weight (build_of s store)) u v
unfolding coarse_ub
coarse_ub_law s store clauses u v e = go (well_formed s store clauses) e
  where
    same : (x y : ℕ) → ◌≡◌ {A = Result ℕ Refusal} (Ok x) (Ok y) → x ≡ y
    same x y k = cc

    go : (t : Bool) → (elim t as (λ x. Result ℕ Refusal) [ true ↦ Ok (coarse (build_of s store) u) | false ↦ Err NotWellFormed ]) ≡ Ok v → Coarsens (output_weight (build_of s store)) u v
    go true k = subst (Coarsens (output_weight (build_of s store)) u) (same (coarse (build_of s store) u) v k) (coarse_law (build_of s store) u)
    go false k = cc
