-- What an answer that is not empty comes from, and what it admits in any later world.
use Rattle.std.specs.Prelude.{◌≡◌, refl, ◌≢◌, ◌↔◌, Bool, true, false, cond, ◌&&◌, eqb, leb, get_or, drop, ℤ, pos, nat_abs}
use Rattle.std.proofs.Common.{sym, ◌∙◌, arith, mul_comm, mul_assoc, mul-add, suc-mul, div-add-mod', mod-lt, eq-eqb, ne_eqb, leb-false}
use Rattle.std.proofs.Math.Path.{ap, ap₂, subst}
use Rattle.std.proofs.Math.Option.{Option, none, some}
use mathlib.Core.List.{List, [], ◌∷◌, map}
use Prim.Native.Nat.{ℕ, zero, suc, ◌+◌, ◌*◌, ◌-◌, ◌/◌, ◌%◌, ◌^◌, ◌≤◌, ◌<◌}
use Rattle.std.proofs.Math.Nat.{mul-le-mul_left, mul-suc}
use Rattle.std.proofs.Math.ListN.{length, length-append}
use Rattle.std.proofs.Math.IntN.{neg_ℤ}
use Rattle.std.proofs.Math.Pow.{pow_pos, pow-add}
use Rattle.std.proofs.lemmas.Bool.{eqb-false}
use Rattle.rules.specs.Lists.{rising}
use Rattle.rules.specs.Records.{Kind, Output, Record, node_at, outputs}
use Rattle.rules.specs.Totalizer.{number_in, number_of}
use Rattle.rules.specs.Build.{Build, unbuilt, output_weight, root, root_node, largest, some_wait}
use Rattle.rules.specs.Enforce.{set_tares, output_answer, root_answer, built_answer, enforce}
use Rattle.rules.specs.WellFormed.{variable_of}
use Rattle.laws.specs.Lists.Facts.{All, All_map, All_second, All_source, rising_at, occurs, occurs_append, occurs_here, occurs_more, All_self}
use Rattle.laws.specs.Records.Places.{place, number_in_kept}
use Rattle.laws.specs.WellFormed.Plain.{Formed, Built, Linked, variables_of}
use Rattle.laws.specs.WellFormed.Keeps.{All_places}
use Rattle.preserve.specs.Given.{taken_positive}
use Rattle.guarantee.specs.Meaning.Truth.{Assign, Truths, holds}
use Rattle.guarantee.specs.Meaning.Values.{value}
use Rattle.guarantee.specs.Counting.Chains.{units, tare_sum, tops}
use Rattle.guarantee.specs.Counting.Roots.{root_law}
use Rattle.guarantee.specs.Counting.Tares.{Once, set_tares_above}
use Rattle.guarantee.specs.Promise.{sum_of, Admits}
use Rattle.guarantee.specs.Answers.{Counting}
use Rattle.guarantee.proofs.Answers.{admits}
use Rattle.guarantee.specs.Histories.Clauses.{once_apart}
use Rattle.guarantee.specs.Histories.Worlds.{World, Follows}
use Rattle.guarantee.specs.Answered.{asked, Answered, Enforced}

once_of : (ts : List ℕ) → ((n : ℕ) → occurs n ts ≤ 1) → Once ts
once_of [] h = tt
once_of (t ∷ ts) h = (
  All_map (λ u k. λ e. omega (arith, h t, occurs_here t t ts refl, subst (λ (n : ℕ). 1 ≤ occurs n ts) e k)) ts (All_self ts),
  once_of ts (λ n. omega (arith, h n, occurs_more n t ts)),
)

-- a built world counts its inputs
pub counting : (xs : List ℤ) (ws : List ℕ) (b : Build) → World xs ws b → (n : b.built ≢ 0) → Counting xs ws b.built b.arena (root b) b.tares
unfolding root variable_of
counting xs ws b w n = record {
  sound = f.sound;
  told = w.told;
  root_value = λ t. at_root b.buckets u.some u.linked v_count t ((w.if_built n).counts t);
  inputs_apart = All_places (λ x. All (λ o. nat_abs x ≢ o.number) (outputs rs) × All (λ y. nat_abs x ≢ y) b.tares) (pos 0) xs (λ i h. (
    All_map (λ o k. k.apart i (get_or xs i (pos 0)) (w.leaves_are i h)) (outputs rs) w.told.means.claims,
    All_map (λ y (k : All (λ v. v < y) (variables_of (node_at rs) b.inputs)). λ e.
        let low : nat_abs (get_or xs i (pos 0)) < y = subst (λ (kd : Kind). variable_of kd < y) (w.leaves_are i h)
        (rising_at (λ m. variable_of (node_at rs m).kind < y) b.inputs 0
        (All_source (λ v. v < y) (λ (m : ℕ). variable_of (node_at rs m).kind) (rising b.inputs 0) k) i (omega arith) (omega (arith, w.inputs_are))) in
        omega arith) b.tares (All_second (λ y. All (λ v. v < y) (variables_of (node_at rs) b.inputs)) numbers b.tares f.taken.above_inputs),
  ));
  tares_once = once_of b.tares (λ m. omega (arith, f.taken.once m, occurs_append m numbers b.tares));
  tares_low = All_second (λ m. 1 ≤ m) numbers b.tares (taken_positive b f (omega (arith, u.two)));
  tares_apart = All_map (λ y k. All_source (λ m. y ≢ m) (λ (o : Output). o.number) (outputs rs) k) b.tares (once_apart numbers b.tares f.taken.once);
}
  where
    f : Formed b
    f = w.formed

    u : Built b
    u = f.if_built n

    rs : List Record
    rs = b.arena.records

    numbers : List ℕ
    numbers = map (λ (o : Output). o.number) (outputs rs)

    m : ℕ
    m = (w.if_built n).left_out

    v_count : m + length b.buckets ≡ suc (length b.tares)
    v_count = (w.if_built n).left_count

    at_root : (bs : List ℕ) → 1 ≤ length bs → Linked (node_at rs) (some_wait b.queue) bs → m + length bs ≡ suc (length b.tares) → (t : Truths) →
        2 ^ m * units (map (λ i. value (node_at rs) t i) (tops (node_at rs) (some_wait b.queue) bs)) ≡ sum_of xs ws b.built t + 2 ^ m * tare_sum t (drop m b.tares) →
        value (node_at rs) t (get_or bs 0 0) ≡ (sum_of xs ws b.built t + tare_sum t b.tares) / 2 ^ length b.tares
    at_root [] h l c t e = absurd (omega arith)
    at_root (r ∷ bs) h l c t e = root_law (node_at rs) (place rs) f.sound t (some_wait b.queue) r bs b.tares (sum_of xs ws b.built t) m l (omega (arith, c)) e

pub nothing_some : (l : ℤ) (ls : List ℤ) → ◌≡◌ {A = Option (List ℤ)} (some []) (some (l ∷ ls)) → ⊥
nothing_some l ls e = let z : ◌≡◌ {A = List ℤ} [] (l ∷ ls) = cc in let y : ◌≡◌ {A = ℕ} 0 1 = cc in omega arith

pub none_some : (ls : List ℤ) → ◌≡◌ {A = Option (List ℤ)} none (some ls) → ⊥
none_some ls e = let y : ◌≡◌ {A = ℕ} 0 1 = cc in omega arith

pub same_some : (ks ls : List ℤ) → ◌≡◌ {A = Option (List ℤ)} (some ks) (some ls) → ks ≡ ls
same_some ks ls e = cc

-- the answer of no inputs
pub none_enforce : (b : Build) (u : ℕ) → b.inputs ≡ 0 → enforce b u ≡ some []
unfolding enforce
none_enforce b u e = rw (eq-eqb b.inputs 0 e) (go (leb b.sum u && eqb b.set 1))
  where
    go : (t : Bool) → ◌≡◌ {A = Option (List ℤ)} (cond t (some []) (some [])) (some [])
    go true = refl
    go false = refl

-- the answer of two or more inputs
pub two_enforce : (b : Build) (u : ℕ) → 2 ≤ b.inputs → enforce b u ≡ cond (leb b.sum u && eqb b.set 1) (some []) (built_answer b u)
unfolding enforce
two_enforce b u h = rw (ne_eqb b.inputs 0 (λ e. omega arith), ne_eqb b.inputs 1 (λ e. omega arith)) refl

pub enforced : (b : Build) (u : ℕ) (l : ℤ) (ls : List ℤ) → 2 ≤ b.inputs → enforce b u ≡ some (l ∷ ls) → Enforced b u (l ∷ ls)
unfolding built_answer root_answer output_answer unbuilt output_weight root_node
enforced b u l ls two e = first (leb b.sum u && eqb b.set 1) (sym (two_enforce b u two) ∙ e)
  where
    q : ℕ
    q = asked b u

    w : ℕ
    w = 2 ^ length b.tares

    numbered : (n : ℕ) → number_of b.arena.records (root b) (suc (q / w)) ≡ n → output_answer b q n ≡ some (l ∷ ls) → Answered b q (l ∷ ls)
    numbered zero d k = absurd (none_some (l ∷ ls) k)
    numbered (suc n) d k = record { number = suc n; positive = omega arith; defined = d; is = sym (same_some (neg_ℤ (pos (suc n)) ∷ set_tares b.tares (w - 1 - q % w)) (l ∷ ls) k) }

    rooted : (t : Bool) → cond t (some []) (output_answer b q (number_of b.arena.records (root b) (suc (q / w)))) ≡ some (l ∷ ls) → Answered b q (l ∷ ls)
    rooted true k = absurd (nothing_some l ls k)
    rooted false k = numbered (number_of b.arena.records (root b) (suc (q / w))) refl k

    built : (t : Bool) → eqb b.built 0 ≡ t → (d : Bool) → leb b.set (largest b.queue) ≡ d → cond t none (cond d none (root_answer b q)) ≡ some (l ∷ ls) → Enforced b u (l ∷ ls)
    built true z d y k = absurd (none_some (l ∷ ls) k)
    built false z true y k = absurd (none_some (l ∷ ls) k)
    built false z false y k = record {
      is_built = eqb-false b.built 0 z;
      settled = leb-false b.set (largest b.queue) y;
      answered = rooted (leb (node_at b.arena.records (root b)).maximum (q / w)) k;
    }

    first : (t : Bool) → cond t (some []) (built_answer b u) ≡ some (l ∷ ls) → Enforced b u (l ∷ ls)
    first true k = absurd (nothing_some l ls k)
    first false k = built (eqb b.built 0) refl (leb b.set (largest b.queue)) refl k

-- with the tares at W - 1 - q mod W, shifted up by n powers, the sum is below 2^n (q + 1)
shifted_law : (s q w n : ℕ) → 0 < w → (s + 2 ^ n * (w - 1 - q % w) < suc (q / w) * (2 ^ n * w)) ↔ (s < 2 ^ n * suc q)
shifted_law s q w n h =
    let x : ℕ = w - 1 - q % w in
    let e : suc (q / w) * w ≡ suc q + x = omega (arith, suc-mul (q / w) w, div-add-mod' q w, mod-lt q h) in
    let g : suc (q / w) * (2 ^ n * w) ≡ 2 ^ n * suc q + 2 ^ n * x =
    sym (mul_assoc (suc (q / w)) (2 ^ n) w) ∙
    (ap (λ (z : ℕ). z * w) (mul_comm (suc (q / w)) (2 ^ n)) ∙ (mul_assoc (2 ^ n) (suc (q / w)) w ∙ (ap (λ (z : ℕ). 2 ^ n * z) e ∙ mul-add (2 ^ n) (suc q) x))) in
    (λ k. omega arith, λ k. omega arith)

module _ (xs : List ℤ) (ws : List ℕ) (b c : Build) (v : World xs ws b) (v' : World xs ws c) (f : Follows b c) (q : ℕ) (answer : List ℤ) (a : Answered b q answer) where
  w : ℕ
  w = 2 ^ length b.tares

  x : ℕ
  x = w - 1 - q % w

  n : ℕ
  n = length f.front

  count : length c.tares ≡ n + length b.tares
  unfolding n
  count = ap length f.tares_are ∙ length-append f.front b.tares

  weight : 2 ^ length c.tares ≡ 2 ^ n * w
  unfolding w
  weight = ap (λ (k : ℕ). 2 ^ k) count ∙ pow-add 2 n (length b.tares)

  x_low : 2 ^ n * x < 2 ^ length c.tares
  unfolding x w
  x_low =
      let low : suc x ≤ w = omega (arith, pow_pos (length b.tares)) in
      let scaled : 2 ^ n * suc x ≤ 2 ^ n * w = mul-le-mul_left (2 ^ n) low in
      omega (arith, weight, scaled, mul-suc (2 ^ n) x, pow_pos n)

  -- the output keeps its number
  defined : number_of c.arena.records (root c) (suc (q / w)) ≡ a.number
  unfolding number_of w
  defined =
      ap₂ (λ (os : List Output) (r : ℕ). number_in os r (suc (q / 2 ^ length b.tares))) f.outputs_are f.root_same ∙
      (number_in_kept (outputs b.arena.records) f.more (root b) (suc (q / 2 ^ length b.tares)) (omega (arith, a.defined, a.positive)) ∙ a.defined)

  answer_is : answer ≡ neg_ℤ (pos a.number) ∷ set_tares c.tares (2 ^ n * x)
  unfolding x w n
  answer_is = a.is ∙ ap (λ (ls : List ℤ). neg_ℤ (pos a.number) ∷ ls) (sym (ap (λ (ts : List ℕ). set_tares ts (2 ^ n * x)) f.tares_are ∙ set_tares_above f.front b.tares x))

  w_pos : 0 < w
  unfolding w
  w_pos = pow_pos (length b.tares)

  later_law : (s : ℕ) → (s + 2 ^ n * x < suc (q / w) * (2 ^ n * w)) ↔ (s < 2 ^ n * suc q)
  unfolding x
  later_law s = shifted_law s q w n w_pos

  -- an answer given in b, over a later world c
  pub later_admits : (α : Assign) → Admits xs c.arena.clauses answer α ↔ (sum_of xs ws c.built (holds α) < 2 ^ length f.front * suc q)
  unfolding n
  later_admits α =
      let s : ℕ = sum_of xs ws c.built (holds α) in
      let main = admits xs ws c.built c.arena (root c) c.tares (counting xs ws c v' f.still_built) (q / w) (2 ^ n * x) a.number defined a.positive x_low α in
      let law = later_law s in (
        λ h. law.0 (subst (λ (k : ℕ). s + 2 ^ n * x < suc (q / w) * k) weight (main.0 (subst (λ (ls : List ℤ). Admits xs c.arena.clauses ls α) answer_is h))),
        λ h. subst (λ (ls : List ℤ). Admits xs c.arena.clauses ls α) (sym answer_is) (main.1 (subst (λ (k : ℕ). s + 2 ^ n * x < suc (q / w) * k) (sym weight) (law.1 h))),
      )
