-- Every world that accepted calls reach counts its inputs.
use Rattle.std.specs.Prelude.{◌≡◌, refl, ◌≢◌, Bool, false, not, ◌&&◌, ℕ, zero, suc, ◌+◌, ◌*◌, ◌/◌, ◌^◌, ◌≤◌, ◌<◌, ltb, length, get_or, ℤ, pos, nat_abs}
use Rattle.std.proofs.Common.{sym, ap, ap₂, ◌∙◌, subst, arith, ltb-false, ne_eqb}
use mathlib.Core.List.{List, [], ◌∷◌, zip_with}
use Rattle.rules.specs.Lists.{total, rising}
use Rattle.rules.specs.Numbers.{divisor_of}
use Rattle.rules.specs.Records.{leaf, dummy, Output, node_at, node_of, outputs, leaf_node}
use Rattle.rules.specs.Build.{Build, unbuilt}
use Rattle.rules.specs.Start.{new_build}
use Rattle.rules.specs.Precision.{divisor_coarser}
use Rattle.laws.specs.Lists.Facts.{All}
use Rattle.laws.specs.Records.Places.{place}
use Rattle.laws.specs.WellFormed.Plain.{Rise, Formed}
use Rattle.preserve.specs.Starts.{leaves, no_outputs, Lent, new_formed}
use Rattle.preserve.specs.Sets.{divisor_power}
use Rattle.preserve.specs.Reaches.{new_ahead}
use Rattle.guarantee.specs.Meaning.Truth.{Truths}
use Rattle.guarantee.specs.Meaning.Values.{bit, value, value_leaf}
use Rattle.guarantee.specs.Meaning.Derived.{every, CompleteAt, Claim}
use Rattle.guarantee.specs.Counting.Queues.{waited}
use Rattle.guarantee.specs.Promise.{sum_of}
use Rattle.guarantee.specs.Histories.Worlds.{Leads, here, then_set, then_encode, World, Follows, follows_self, follows_then, encode_world, set_world, set_follows}

leaf_at : (xs : List ℤ) (i : ℕ) → i < length xs → (node_at (leaves xs) i).kind ≡ leaf (get_or xs i (pos 0))
unfolding node_at node_of leaf_node
leaf_at [] i h = absurd (omega arith)
leaf_at (x ∷ xs) zero h = refl
leaf_at (x ∷ xs) (suc i) h = leaf_at xs i (omega arith)

leaves_low : (first : ℕ) (xs : List ℤ) → All (λ x. nat_abs x < first) xs → (n : ℕ) (x : ℤ) → (node_at (leaves xs) n).kind ≡ leaf x → nat_abs x < first
unfolding node_at node_of leaf_node
leaves_low first [] a n x e = absurd (none e)
  where
    none : dummy ≡ leaf x → ⊥
    none q = let z : ◌≡◌ {A = ℕ} 0 1 = cc in omega arith
leaves_low first (y ∷ xs) a zero x e = subst (λ (z : ℤ). nat_abs z < first) (same e) a.0
  where
    same : leaf y ≡ leaf x → y ≡ x
    same q = cc
leaves_low first (y ∷ xs) a (suc n) x e = leaves_low first xs a.1 n x e

-- what waits at first weighs the inputs
waits_all : (f : ℕ → ℕ) (t : Truths) (d : ℕ) (xs : List ℤ) (ws : List ℕ) (k : ℕ) → length xs ≡ length ws → ((i : ℕ) → i < length xs → f (k + i) ≡ bit (t (get_or xs i (pos 0)))) →
    sum_of xs ws d t ≡ waited f d (zip_with (λ (n w : ℕ). record { node = n; weight = w }) (rising (length ws) k) ws)
unfolding rising total zip_with
waits_all f t d [] [] k e h = refl
waits_all f t d [] (w ∷ ws) k e h = absurd (omega arith)
waits_all f t d (x ∷ xs) [] k e h = absurd (omega arith)
waits_all f t d (x ∷ xs) (w ∷ ws) k e h =
    let first : k + 0 ≡ k = omega arith in
    ap₂ (λ (a c : ℕ). w / d * a + c) (sym (h 0 (omega arith)) ∙ ap f first)
    (waits_all f t d xs ws (suc k) (omega arith) (λ i q. let next : suc k + i ≡ k + suc i = omega arith in ap f next ∙ h (suc i) (omega arith)))

-- an accepted start
pub started_world : (xs : List ℤ) (ws : List ℕ) (first : ℕ) (store : List ℕ) → Lent xs ws first store → World xs ws (new_build xs ws first)
unfolding new_build
started_world xs ws first store l =
    let formed : Formed (new_build xs ws first) = new_formed xs ws first store l in
    let none : outputs (leaves xs) ≡ [] = no_outputs xs in
    record {
      formed = formed;
      ahead = new_ahead xs ws first store l;
      inputs_are = refl;
      leaves_are = leaf_at xs;
      sum_is = refl;
      told = record {
        means = record {
          claims = nothing (Claim (leaves xs)) none;
          rise = subst (λ (os : List Output). Rise 1 os) (sym none) tt;
          complete = nothing (CompleteAt every (leaves xs) []) none;
          derived = tt;
        };
        numbers_low = nothing (λ o. o.number < first) none;
        leaves_low = leaves_low first xs l.variables_low;
        fresh_positive = l.first_low;
      };
      if_unbuilt = λ z. record {
        waits = λ k t. waits_all (λ n. value (node_at (leaves xs)) t n) t (2 ^ k) xs ws 0 l.lengths (λ i h. value_leaf (node_at (leaves xs)) (place (leaves xs)) formed.sound t (0 + i) (get_or xs i (pos 0)) (leaf_next xs i h));
      };
      if_built = λ n. absurd (n refl);
    }
  where
    nothing : (P : Output → Type 0) → outputs (leaves xs) ≡ [] → All P (outputs (leaves xs))
    nothing P e = subst (All P) (sym e) tt

    leaf_next : (xs : List ℤ) (i : ℕ) → i < length xs → (node_at (leaves xs) (0 + i)).kind ≡ leaf (get_or xs i (pos 0))
    leaf_next xs i h = let e : 0 + i ≡ i = omega arith in ap (λ (n : ℕ). (node_at (leaves xs) n).kind) e ∙ leaf_at xs i h

-- the divisor of an accepted set
set_low : (b : Build) (d : ℕ) → divisor_coarser b d ≡ false → b.built ≢ 0 → divisor_of d ≤ b.set
unfolding divisor_coarser unbuilt
set_low b d e n = ltb-false b.set (divisor_of d) (ap (λ (t : Bool). not t && ltb b.set (divisor_of d)) (sym (ne_eqb b.built 0 n)) ∙ e)

-- what accepted calls lead to from a world is one
pub leads_world : (xs : List ℤ) (ws : List ℕ) (b c : Build) → World xs ws b → Leads b c → World xs ws c
leads_world xs ws b c w here = w
leads_world xs ws b c w (then_set {c = m} d l e h) = set_world xs ws m (leads_world xs ws b m w l) (divisor_of d) (divisor_power d e) (set_low m d h)
leads_world xs ws b c w (then_encode {c = m} lo end l e h) = (encode_world xs ws m (leads_world xs ws b m w l) lo end e h).world

-- and follows it once it was built
pub leads_follows : (xs : List ℤ) (ws : List ℕ) (b c : Build) → World xs ws b → b.built ≢ 0 → Leads b c → Follows b c
leads_follows xs ws b c w n here = follows_self b n
leads_follows xs ws b c w n (then_set {c = m} d l e h) =
    let f : Follows b m = leads_follows xs ws b m w n l in
    follows_then b m c f (set_follows m (divisor_of d) f.still_built)
leads_follows xs ws b c w n (then_encode {c = m} lo end l e h) =
    let f : Follows b m = leads_follows xs ws b m w n l in
    follows_then b m c f ((encode_world xs ws m (leads_world xs ws b m w l) lo end e h).follows f.still_built)
