-- What defining adds: outputs of joins, at values 1 to the maximum, not defined before, with the next numbers.
use Rattle.std.specs.Prelude.{◌≡◌, ◌≢◌, Bool, true, false, eqb, length, ℤ}
use Rattle.std.proofs.Math.Path.{refl, sym, ap, subst}
use Rattle.std.proofs.Common.{◌∙◌, length-append, eqb-true}
use Rattle.std.proofs.Math.Bool.{false≢true}
use mathlib.Core.List.{List, [], ◌∷◌, ◌++◌, map, append-nil, append_assoc}
use Prim.Native.Nat.{ℕ, zero, suc, ◌+◌, ◌≤◌, ◌<◌, max}
use native.Mathlib.Omega.{arith}
use Rattle.std.proofs.lemmas.Bool.{eqb-false}
use Rattle.rules.specs.Lists.{in_turn}
use Rattle.rules.specs.Records.{Kind, leaf, join, dummy, Node, Output, Record, output, node_at, outputs}
use Rattle.rules.specs.Totalizer.{Arena, counts, asks, clause, write, take_number, Define, ask, ask_pair, define_join, define_kind, define, pairs, number_of}
use Rattle.rules.specs.WellFormed.{is_leaf}
use Rattle.laws.specs.Lists.Facts.{All, All_map, All_append, map_append, occurs, occurs_append, occurs_here, occurs_other, occurs_none, All_source, All_first, All_second}
use Rattle.laws.specs.Numbers.Halving.{counts_asks}
use Rattle.laws.specs.Records.Places.{outputs_append, outputs_of_outputs, number_none}
use Rattle.laws.specs.WellFormed.Plain.{Sound, Valued, Rise, Differ, Defined, Taken}
use Rattle.laws.specs.Totalizer.Defines.{Over, over_take, over_write, pairs_within}

-- one output more, its number above all before
rise_more : (low : ℕ) (os : List Output) (o : Output) → Rise low os → low ≤ o.number → All (λ p. p.number < o.number) os →
    Rise low (os ++ (o ∷ []))
rise_more low [] o h l a = (l, tt)
rise_more low (p ∷ os) o h l a = (h.0, rise_more (suc p.number) os o h.1 a.0 a.1)

differ_more : (os : List Output) (o : Output) → Differ os → All (λ p. p.node ≡ o.node → p.value ≡ o.value → ⊥) os →
    Differ (os ++ (o ∷ []))
differ_more [] o h a = (tt, tt)
differ_more (p ∷ os) o h a = (
  All_append (λ q. p.node ≡ q.node → p.value ≡ q.value → ⊥) os (o ∷ []) h.0 (a.0, tt),
  differ_more os o h.1 a.1,
)

-- t is s with outputs of nodes no higher than k, the next numbers and some clauses
pub record Adds (at : ℕ → Node) (k : ℕ) (s t : Arena) : Type 0 where
  pub more : List Output
  pub records_are : t.records ≡ s.records ++ map output more
  pub fresh_is : t.fresh ≡ s.fresh + length more
  pub low_nodes : All (λ o. (at o.node).height ≤ k) more
  pub further : List (List ℤ)
  pub clauses_are : t.clauses ≡ s.clauses ++ further

pub adds_none : (at : ℕ → Node) (k : ℕ) (s : Arena) → Adds at k s s
adds_none at k s = record {
  more = [];
  records_are = sym (append-nil s.records);
  fresh_is = omega arith;
  low_nodes = tt;
  further = [];
  clauses_are = sym (append-nil s.clauses);
}

pub adds_then : (at : ℕ → Node) (j k m : ℕ) (s t u : Arena) → j ≤ m → k ≤ m → Adds at j s t → Adds at k t u → Adds at m s u
adds_then at j k m s t u h i a b = record {
  more = a.more ++ b.more;
  records_are =
      b.records_are ∙
      (ap (λ (x : List Record). x ++ map output b.more) a.records_are ∙
      (append_assoc s.records (map output a.more) (map output b.more) ∙
      ap (λ (x : List Record). s.records ++ x) (sym (map_append output a.more b.more))));
  fresh_is = omega (arith, a.fresh_is, b.fresh_is, length-append a.more b.more);
  low_nodes = All_append (λ o. (at o.node).height ≤ m) a.more b.more
      (All_map (λ o (l : (at o.node).height ≤ j). omega arith) a.more a.low_nodes)
      (All_map (λ o (l : (at o.node).height ≤ k). omega arith) b.more b.low_nodes);
  further = a.further ++ b.further;
  clauses_are =
      b.clauses_are ∙
      (ap (λ (x : List (List ℤ)). x ++ b.further) a.clauses_are ∙
      append_assoc s.clauses a.further b.further);
}

pub adds_outputs : (at : ℕ → Node) (k : ℕ) (s t : Arena) (a : Adds at k s t) → outputs t.records ≡ outputs s.records ++ a.more
adds_outputs at k s t a =
    ap outputs a.records_are ∙
    (outputs_append s.records (map output a.more) ∙
    ap (λ (x : List Output). outputs s.records ++ x) (outputs_of_outputs a.more))

-- an arena over sound nodes whose outputs and numbers are lawful beside the tares
pub record Counted (at : ℕ → Node) (pl : ℕ → Bool) (tares variables : List ℕ) (s : Arena) : Type 0 where
  pub over : Over at pl s
  pub defined : Defined at pl (outputs s.records)
  pub taken : Taken variables s.fresh (map (λ (o : Output). o.number) (outputs s.records) ++ tares)
  pub variables_low : All (λ v. v < s.fresh) variables
  pub numbered : All (λ o. 1 ≤ o.number) (outputs s.records)
  pub fresh_low : 1 ≤ s.fresh

-- a number that is the next one
taken_more : (vs T ns : List ℕ) (fresh : ℕ) → Taken vs fresh (ns ++ T) → All (λ v. v < fresh) vs →
    Taken vs (suc fresh) ((ns ++ (fresh ∷ [])) ++ T)
taken_more vs T ns fresh t low =
    let none : occurs fresh (ns ++ T) ≡ 0 = occurs_none (λ n. n < fresh) fresh (ns ++ T) t.below_fresh
    (λ (h : fresh < fresh). omega arith) in
    record {
      once = λ n. go n (eqb n fresh) refl none (t.once n) (occurs_append n ns T) (occurs_append n (ns ++ (fresh ∷ [])) T)
          (occurs_append n ns (fresh ∷ []));
      above_inputs = put (λ n. All (λ v. v < n) vs) t.above_inputs low;
      below_fresh = put (λ n. n < suc fresh) (All_map (λ n (h : n < fresh). omega arith) (ns ++ T) t.below_fresh) (omega arith);
    }
  where
    put : (P : ℕ → Type 0) → All P (ns ++ T) → P fresh → All P ((ns ++ (fresh ∷ [])) ++ T)
    put P h k = All_append P (ns ++ (fresh ∷ [])) T (All_append P ns (fresh ∷ []) (All_first P ns T h) (k, tt)) (All_second P ns T h)

    go : (n : ℕ) (b : Bool) → eqb n fresh ≡ b → occurs fresh (ns ++ T) ≡ 0 → occurs n (ns ++ T) ≤ 1 →
        occurs n (ns ++ T) ≡ occurs n ns + occurs n T →
        occurs n ((ns ++ (fresh ∷ [])) ++ T) ≡ occurs n (ns ++ (fresh ∷ [])) + occurs n T →
        occurs n (ns ++ (fresh ∷ [])) ≡ occurs n ns + occurs n (fresh ∷ []) →
        occurs n ((ns ++ (fresh ∷ [])) ++ T) ≤ 1
    go n true e z o a b c =
        let is : n ≡ fresh = eqb-true n fresh e in
        let z' : occurs n (ns ++ T) ≡ 0 = ap (λ k. occurs k (ns ++ T)) is ∙ z in
        let nil : occurs n [] ≡ 0 = occurs_none (λ k. k < 0) n [] tt (λ (h : n < 0). omega arith) in
        omega (arith, occurs_here n fresh [] is)
    go n false e z o a b c =
        let nil : occurs n [] ≡ 0 = occurs_none (λ k. k < 0) n [] tt (λ (h : n < 0). omega arith) in
        omega (arith, occurs_other n fresh [] (eqb-false n fresh e))

module _ (at : ℕ → Node) (pl : ℕ → Bool) (sound : Sound at pl) (tares variables : List ℕ) where
  -- writing clauses takes no number
  pub counted_write : (half : Bool) (l r number : ℕ) (ps : List (ℕ × ℕ)) (s : Arena) (k : ℕ) → Counted at pl tares variables s →
      Counted at pl tares variables (write half l r number ps s) × Adds at k s (write half l r number ps s)
  unfolding write
  counted_write half l r number ps s k c = (
    record {
      over = over_write at pl half l r number ps s c.over;
      defined = c.defined;
      taken = c.taken;
      variables_low =
          c.variables_low;
      numbered = c.numbered;
      fresh_low = c.fresh_low;
    },
    record {
      more = [];
      records_are = sym (append-nil s.records);
      fresh_is = omega arith;
      low_nodes = tt;
      further =
          map (clause s.records half l r number) ps;
      clauses_are = refl;
    },
  )

  counted_take : (n v : ℕ) (s : Arena) → Counted at pl tares variables s → pl n ≡ true → ((x : ℤ) → (at n).kind ≢ leaf x) → 1 ≤ v →
      v ≤ (at n).maximum →
      All (λ o. o.node ≡ n → o.value ≡ v → ⊥) (outputs s.records) → Counted at pl tares variables (take_number n v s) ×
      Adds at (at n).height s (take_number n v s)
  unfolding take_number
  counted_take n v s c there no_leaf low high new =
      let o : Output = record { node = n; value = v; number = s.fresh } in
      let os : List Output = outputs s.records in
      let is : outputs (take_number n v s).records ≡ os ++ (o ∷ []) = outputs_append s.records (output o ∷ []) ∙
      ap (λ (x : List Output). os ++ x) (outputs_of_outputs (o ∷ [])) in
      let below : All (λ p. p.number < s.fresh) os =
      All_source (λ m. m < s.fresh) (λ (o : Output). o.number) os
      (All_first (λ m. m < s.fresh) (map (λ (o : Output). o.number) os) tares c.taken.below_fresh) in
      let defined : Defined at pl (os ++ (o ∷ [])) = record {
        valued = All_append (Valued at pl) os (o ∷ []) c.defined.valued
            (record { named = there; no_leaf = no_leaf; low = low; high = high }, tt);
        rise = rise_more 0 os o c.defined.rise (omega arith) below;
        differ = differ_more os o c.defined.differ new;
      } in
      let numbers : map (λ (o : Output). o.number) (os ++ (o ∷ [])) ≡ map (λ (o : Output). o.number) os ++ (s.fresh ∷ []) =
      map_append (λ (o : Output). o.number) os (o ∷ []) in (
        record {
          over = over_take at pl n v s c.over;
          defined = subst (λ (x : List Output). Defined at pl x) (sym is) defined;
          taken = subst (λ (x : List Output). Taken variables (suc s.fresh) (map (λ (o : Output). o.number) x ++ tares)) (sym is)
              (subst (λ (x : List ℕ). Taken variables (suc s.fresh) (x ++ tares)) (sym numbers)
              (taken_more variables tares (map (λ (o : Output). o.number) os) s.fresh c.taken c.variables_low));
          variables_low = All_map (λ w (h : w < s.fresh). omega arith) variables c.variables_low;
          numbered = subst (λ (x : List Output). All (λ o. 1 ≤ o.number) x) (sym is)
              (All_append (λ o. 1 ≤ o.number) os (o ∷ []) c.numbered (c.fresh_low, tt));
          fresh_low = omega arith;
        },
        record {
          more = o ∷ [];
          records_are = refl;
          fresh_is = omega arith;
          low_nodes = (omega arith, tt);
          further = [];
          clauses_are = sym (append-nil s.clauses);
        },
      )

  -- what a call keeps and adds
  abbrev pub Kept : ℕ → Arena → Arena → Type 0
  Kept k s t = Counted at pl tares variables t × Adds at k s t

  pub kept_then : (j k m : ℕ) (s t u : Arena) → j ≤ m → k ≤ m → Kept j s t → (Counted at pl tares variables t → Kept k t u) → Kept m s u
  kept_then j k m s t u h i a b =
      let c : Kept k t u = b a.0 in
      (c.0, adds_then at j k m s t u h i a.1 c.1)

  -- a rule of defining that is right for nodes up to height k
  abbrev pub Right : ℕ → Define → Type 0
  Right k d = (s : Arena) (n v : ℕ) → Counted at pl tares variables s → pl n ≡ true → (at n).height ≤ k → 1 ≤ v → v ≤ (at n).maximum →
      Kept (at n).height s (d s n v)

  kept_ask : (k : ℕ) (d : Define) → Right k d → (s : Arena) (n v : ℕ) → Counted at pl tares variables s → pl n ≡ true → (at n).height ≤ k →
      v ≤ (at n).maximum → Kept (at n).height s (ask d s n v)
  unfolding ask
  kept_ask k d h s n zero c p i j = (c, adds_none at (at n).height s)
  kept_ask k d h s n (suc v) c p i j = h s n (suc v) c p i (omega arith) j

  -- what a pair uses
  kept_pair : (k : ℕ) (d : Define) → Right k d → (half : Bool) (l r : ℕ) → pl l ≡ true → pl r ≡ true → (at l).height ≤ k → (at r).height ≤ k →
      (s : Arena) (p : ℕ × ℕ) → (p.0 ≤ (at l).maximum) × (p.1 ≤ counts half (at r).maximum) → Counted at pl tares variables s →
      Kept k s (ask_pair d half l r s p)
  unfolding ask_pair
  kept_pair k d h half l r a b i j s p q c =
      let t : Arena = ask d s l p.0 in
      kept_then (at l).height (at r).height k s t (ask_pair d half l r s p) i j (kept_ask k d h s l p.0 c a i q.0)
      (λ ct. kept_ask k d h t r (asks half p.1) ct b j (counts_asks half p.1 (at r).maximum q.1))

  -- and what a list of pairs uses
  pub kept_pairs : (k : ℕ) (d : Define) → Right k d → (half : Bool) (l r : ℕ) → pl l ≡ true → pl r ≡ true → (at l).height ≤ k →
      (at r).height ≤ k →
      (s : Arena) (ps : List (ℕ × ℕ)) → All (λ p. (p.0 ≤ (at l).maximum) × (p.1 ≤ counts half (at r).maximum)) ps →
      Counted at pl tares variables s → Kept k s (in_turn (ask_pair d half l r) s ps)
  unfolding in_turn
  kept_pairs k d h half l r a b i j s [] q c = (c, adds_none at k s)
  kept_pairs k d h half l r a b i j s (p ∷ ps) q c =
      let t : Arena = ask_pair d half l r s p in
      kept_then k k k s t (in_turn (ask_pair d half l r) t ps) (omega arith) (omega arith) (kept_pair k d h half l r a b i j s p q.0 c)
      (λ ct. kept_pairs k d h half l r a b i j t ps q.1 ct)

  kept_join : (k : ℕ) (d : Define) → Right k d → (s : Arena) (n v : ℕ) → Counted at pl tares variables s → pl n ≡ true → 1 ≤ v →
      v ≤ (at n).maximum →
      (half : Bool) (l r : ℕ) → (at n).kind ≡ join half l r → (at n).height ≤ suc k →
      (ps : List (ℕ × ℕ)) → All (λ p. (p.0 ≤ (at l).maximum) × (p.1 ≤ counts half (at r).maximum)) ps →
      (number : ℕ) → number_of s.records n v ≡ number → Kept (at n).height s (define_join d n v half l r ps number s)
  unfolding define_join number_of is_leaf write
  kept_join k d h s n v c there low high half l r q i ps within (suc number) e = (c, adds_none at (at n).height s)
  kept_join k d h s n v c there low high half l r q i ps within zero e =
      let up : (at n).height ≡ suc (max (at l).height (at r).height) = (sound n).height_is half l r q in
      let m : ℕ = max (at l).height (at r).height in
      let t : Arena = in_turn (ask_pair d half l r) s ps in
      let (pl-l, pl-r) = (sound n).links_are half l r q in
      let first : Kept m s t = kept_pairs m d (λ s n v c p j. h s n v c p (omega arith)) half l r pl-l pl-r (omega arith) (omega arith) s ps
      within c in
      let w : Arena = write half l r t.fresh ps t in
      let second : Kept m t w = counted_write half l r t.fresh ps t m first.0 in
      let more : List Output = first.1.more in
      let apart : All (λ o. o.node ≡ n → o.value ≡ v → ⊥) more =
      All_map {Q = λ o. o.node ≡ n → o.value ≡ v → ⊥}
      (λ o (x : (at o.node).height ≤ m) (y : o.node ≡ n) z. let lower : (at n).height ≤ m =
      subst (λ i. (at i).height ≤ m) y x in omega arith) more first.1.low_nodes in
      let new : All (λ o. o.node ≡ n → o.value ≡ v → ⊥) (outputs t.records) =
      subst (λ (x : List Output). All (λ o. o.node ≡ n → o.value ≡ v → ⊥) x) (sym (adds_outputs at m s t first.1))
      (All_append (λ o. o.node ≡ n → o.value ≡ v → ⊥) (outputs s.records) more (number_none (outputs s.records) n v e c.numbered)
      apart) in
      kept_then m (at n).height (at n).height s w (take_number n v w) (omega arith) (omega arith)
      (kept_then m m m s t w (omega arith) (omega arith) first (λ x. second))
      (λ cw. counted_take n v w cw there (λ x p. false≢true (sym (ap is_leaf q) ∙ ap is_leaf p)) low high new)

  kept_kind : (k : ℕ) (d : Define) → Right k d → (s : Arena) (n v : ℕ) → Counted at pl tares variables s → pl n ≡ true →
      (at n).height ≤ suc k → 1 ≤ v → v ≤ (at n).maximum →
      (kd : Kind) → (at n).kind ≡ kd → Kept (at n).height s (define_kind d n v kd s)
  unfolding define_kind
  kept_kind k d h s n v c there i low high (leaf x) q = (c, adds_none at (at n).height s)
  kept_kind k d h s n v c there i low high (join half l r) q =
      let is : node_at s.records ≡ at = c.over.at_is in
      kept_join k d h s n v c there low high half l r q i
      (pairs (node_at s.records l).maximum (counts half (node_at s.records r).maximum) v)
      (subst (λ (a : ℕ → Node). All (λ p. (p.0 ≤ (at l).maximum) × (p.1 ≤ counts half (at r).maximum))
      (pairs (a l).maximum (counts half (a r).maximum) v)) (sym is)
      (pairs_within (at l).maximum (counts half (at r).maximum) v))
      (number_of s.records n v) refl
  kept_kind k d h s n v c there i low high dummy q = (c, adds_none at (at n).height s)

  -- defining with fuel enough keeps all that well formed asks of outputs and numbers
  pub define_right : (k : ℕ) → Right k (define k)
  unfolding define
  define_right zero s n v c there i low high = (c, adds_none at (at n).height s)
  define_right (suc k) s n v c there i low high =
      kept_kind k (define k) (define_right k) s n v c there i low high (node_at s.records n).kind
      (ap (λ (a : ℕ → Node). (a n).kind) (sym c.over.at_is))
