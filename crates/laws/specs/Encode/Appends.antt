-- Encode appends: what it makes does not depend on the clauses that stand already. So a history that lists all its clauses and the
-- calls, which list those of one call, meet.
use Rattle.std.specs.Prelude.{◌≡◌, Bool, List, [], ◌∷◌, ◌++◌, map, reverse, ℕ, zero, suc, eqb, ℤ}
use Rattle.std.proofs.Math.Path.{refl, ap, ap₂}
use Rattle.std.proofs.Common.{◌∙◌, append_assoc}
use Rattle.std.proofs.Math.Bool.{true, false}
use Rattle.rules.specs.Lists.{in_turn, keep}
use Rattle.rules.specs.Records.{Kind, leaf, join, dummy, Output, Record, node_at, left_link, right_link, outputs}
use Rattle.rules.specs.Totalizer.{Arena, clause, write, take_number, Define, ask, ask_pair, define_join, define_kind, define, define_output, pairs, counts, asks, number_of}
use Rattle.rules.specs.Build.{Build, restructured, with_arena, unbuilt, root, root_node, output_weight}
use Rattle.rules.specs.Queue.{gathered}
use Rattle.rules.specs.Refinement.{further_pairs, extend, extend_bucket, former_half, tares_left_out, patched, merge_structures, due}
use Rattle.rules.specs.Buckets.{build_structure}
use Rattle.rules.specs.Encode.{prepared, root_values, encode_outputs, encode, nothing_asked}

-- the arena with earlier clauses before its own
unfoldable pub after : List (List ℤ) → Arena → Arena
after cs s = record { records = s.records; fresh = s.fresh; clauses = cs ++ s.clauses }

in_turn_after : {A : Type 0} (cs : List (List ℤ)) (f : Arena → A → Arena) (s : Arena) (xs : List A) →
    ((s : Arena) (x : A) → f (after cs s) x ≡ after cs (f s x)) → in_turn f (after cs s) xs ≡ after cs (in_turn f s xs)
unfolding in_turn
in_turn_after cs f s [] h = refl
in_turn_after cs f s (x ∷ xs) h = ap (λ (t : Arena). in_turn f t xs) (h s x) ∙ in_turn_after cs f (f s x) xs h

write_after : (cs : List (List ℤ)) (half : Bool) (l r number : ℕ) (ps : List (ℕ × ℕ)) (s : Arena) →
    write half l r number ps (after cs s) ≡ after cs (write half l r number ps s)
unfolding write after
write_after cs half l r number ps s =
    ap (λ (c : List (List ℤ)). record { records = s.records; fresh = s.fresh; clauses = c })
    (append_assoc cs s.clauses (map (clause s.records half l r number) ps))

-- a rule of defining appends
abbrev pub Appending : List (List ℤ) → Define → Type 0
Appending cs d = (s : Arena) (n v : ℕ) → d (after cs s) n v ≡ after cs (d s n v)

ask_after : (cs : List (List ℤ)) (d : Define) (s : Arena) (n v : ℕ) → Appending cs d → ask d (after cs s) n v ≡ after cs (ask d s n v)
unfolding ask
ask_after cs d s n zero h = refl
ask_after cs d s n (suc v) h = h s n (suc v)

ask_pair_after : (cs : List (List ℤ)) (d : Define) (half : Bool) (l r : ℕ) (s : Arena) (p : ℕ × ℕ) →
    Appending cs d → ask_pair d half l r (after cs s) p ≡ after cs (ask_pair d half l r s p)
unfolding ask_pair
ask_pair_after cs d half l r s p h =
    ap (λ (t : Arena). ask d t r (asks half p.1)) (ask_after cs d s l p.0 h) ∙
    ask_after cs d (ask d s l p.0) r (asks half p.1) h

join_after : (cs : List (List ℤ)) (d : Define) (n v : ℕ) (half : Bool) (l r : ℕ) (ps : List (ℕ × ℕ)) (number : ℕ) (s : Arena) →
    Appending cs d → define_join d n v half l r ps number (after cs s) ≡ after cs (define_join d n v half l r ps number s)
unfolding define_join take_number after
join_after cs d n v half l r ps zero s h =
    let t : Arena = in_turn (ask_pair d half l r) s ps in
    ap (λ (t : Arena). take_number n v (write half l r t.fresh ps t))
    (in_turn_after cs (ask_pair d half l r) s ps (λ s p. ask_pair_after cs d half l r s p h)) ∙
    ap (take_number n v) (write_after cs half l r t.fresh ps t)
join_after cs d n v half l r ps (suc number) s h = refl

kind_after : (cs : List (List ℤ)) (d : Define) (n v : ℕ) (k : Kind) (s : Arena) →
    Appending cs d → define_kind d n v k (after cs s) ≡ after cs (define_kind d n v k s)
unfolding define_kind after
kind_after cs d n v (leaf x) s h = refl
kind_after cs d n v (join half l r) s h =
    join_after cs d n v half l r
    (pairs (node_at s.records l).maximum (counts half (node_at s.records r).maximum) v)
    (number_of s.records n v) s h
kind_after cs d n v dummy s h = refl

define_after : (cs : List (List ℤ)) (f : ℕ) → Appending cs (define f)
unfolding define after
define_after cs zero s n v = refl
define_after cs (suc f) s n v = kind_after cs (define f) n v (node_at s.records n).kind s (define_after cs f)

extend_after : (cs : List (List ℤ)) (n most : ℕ) (s : Arena) (o : Output) → extend n most (after cs s) o ≡ after cs (extend n most s o)
unfolding extend after
extend_after cs n most s o =
    let k : Kind = (node_at s.records n).kind in
    let l : ℕ = left_link k in
    let r : ℕ = right_link k in
    let h : ℕ = (node_at s.records n).height in
    let ps : List (ℕ × ℕ) = further_pairs s.records n most o.value in
    ap (write true l r o.number ps)
    (in_turn_after cs (ask_pair (define h) true l r) s ps (λ s p. ask_pair_after cs (define h) true l r s p (define_after cs h))) ∙
    write_after cs true l r o.number ps (in_turn (ask_pair (define h) true l r) s ps)

bucket_after : (cs : List (List ℤ)) (old : List Record) (s : Arena) (n : ℕ) → extend_bucket old (after cs s) n ≡ after cs (extend_bucket old s n)
unfolding extend_bucket
bucket_after cs old s n =
    in_turn_after cs (extend n (former_half old n)) s (keep (λ o. eqb o.node n) (outputs old)) (extend_after cs n (former_half old n))

-- the build with earlier clauses before its own
unfoldable pub earlier : List (List ℤ) → Build → Build
unfolding with_arena after
earlier cs b = with_arena b (after cs b.arena)

build_after : (cs : List (List ℤ)) (b : Build) → build_structure (earlier cs b) ≡ earlier cs (build_structure b)
unfolding build_structure gathered earlier with_arena restructured after
build_after cs b = refl

patched_after : (cs : List (List ℤ)) (b : Build) → patched (earlier cs b) ≡ earlier cs (patched b)
unfolding patched gathered tares_left_out earlier with_arena restructured after
patched_after cs b = refl

merge_after : (cs : List (List ℤ)) (b : Build) → merge_structures (earlier cs b) ≡ earlier cs (merge_structures b)
unfolding merge_structures earlier with_arena restructured after
merge_after cs b =
    let c : Build = patched b in
    let f : Arena → ℕ → Arena = extend_bucket b.arena.records in
    ap (λ (c : Build). with_arena c (in_turn f c.arena (reverse b.buckets))) (patched_after cs b) ∙
    ap (with_arena c) (in_turn_after cs f c.arena (reverse b.buckets) (bucket_after cs b.arena.records))

outputs_after : (cs : List (List ℤ)) (b : Build) (lo end : ℕ) → encode_outputs (earlier cs b) lo end ≡ earlier cs (encode_outputs b lo end)
unfolding encode_outputs define_output root_values root_node root output_weight earlier with_arena restructured after
outputs_after cs b lo end =
    ap (with_arena b)
    (in_turn_after cs (λ s v. define_output s (root b) v) b.arena (root_values b lo end)
    (λ s v. define_after cs (node_at s.records (root b)).height s (root b) v))

-- a change of a build that no test of encode sees and each of its ways keeps
module _ (g : Build → Build) (b : Build) where
  prepared_through : unbuilt (g b) ≡ unbuilt b → due (g b) ≡ due b → build_structure (g b) ≡ g (build_structure b) →
      merge_structures (g b) ≡ g (merge_structures b) → prepared (g b) ≡ g (prepared b)
  unfolding prepared
  prepared_through u d first again =
      ap₂ (λ (t w : Bool). elim t [ true ↦ build_structure (g b) | false ↦ elim w [ true ↦ merge_structures (g b) | false ↦ g b ] ]) u d ∙
      go (unbuilt b) (due b)
    where
      go : (t w : Bool) →
          (elim t [ true ↦ build_structure (g b) | false ↦ elim w [ true ↦ merge_structures (g b) | false ↦ g b ] ]) ≡
          g (elim t [ true ↦ build_structure b | false ↦ elim w [ true ↦ merge_structures b | false ↦ b ] ])
      go true w = first
      go false true = again
      go false false = refl

  encode_through : (lo end : ℕ) → nothing_asked (g b) lo end ≡ nothing_asked b lo end → prepared (g b) ≡ g (prepared b) →
      encode_outputs (g (prepared b)) lo end ≡ g (encode_outputs (prepared b) lo end) → encode (g b) lo end ≡ g (encode b lo end)
  unfolding encode
  encode_through lo end n p o =
      ap (λ (t : Bool). elim t [ true ↦ g b | false ↦ encode_outputs (prepared (g b)) lo end ]) n ∙ go (nothing_asked b lo end)
    where
      go : (t : Bool) →
          (elim t [ true ↦ g b | false ↦ encode_outputs (prepared (g b)) lo end ]) ≡
          g (elim t [ true ↦ b | false ↦ encode_outputs (prepared b) lo end ])
      go true = refl
      go false = ap (λ (c : Build). encode_outputs c lo end) p ∙ o

prepared_after : (cs : List (List ℤ)) (b : Build) → prepared (earlier cs b) ≡ earlier cs (prepared b)
unfolding unbuilt due earlier with_arena restructured
prepared_after cs b = prepared_through (earlier cs) b refl refl (build_after cs b) (merge_after cs b)

-- encode appends to the clauses that stand already
pub encode_after : (cs : List (List ℤ)) (b : Build) (lo end : ℕ) → encode (earlier cs b) lo end ≡ earlier cs (encode b lo end)
unfolding nothing_asked earlier with_arena restructured
encode_after cs b lo end = encode_through (earlier cs) b lo end refl (prepared_after cs b) (outputs_after cs (prepared b) lo end)

-- the build with other counts of the clauses that stand already
unfoldable pub recounted : ℕ → ℕ → Build → Build
recounted clauses words b = record {
  inputs = b.inputs;
  sum = b.sum;
  first = b.first;
  set = b.set;
  built = b.built;
  tares = b.tares;
  buckets = b.buckets;
  queue = b.queue;
  arena = b.arena;
  clauses_before = clauses;
  words_before = words;
}

prepared_recounted : (n m : ℕ) (b : Build) → prepared (recounted n m b) ≡ recounted n m (prepared b)
unfolding unbuilt due build_structure merge_structures patched tares_left_out gathered with_arena restructured recounted
prepared_recounted n m b = prepared_through (recounted n m) b refl refl refl refl

outputs_recounted : (n m : ℕ) (b : Build) (lo end : ℕ) → encode_outputs (recounted n m b) lo end ≡ recounted n m (encode_outputs b lo end)
unfolding encode_outputs root_values root_node root output_weight with_arena restructured recounted
outputs_recounted n m b lo end = refl

-- encode does not look at these counts
pub encode_recounted : (n m : ℕ) (b : Build) (lo end : ℕ) → encode (recounted n m b) lo end ≡ recounted n m (encode b lo end)
unfolding nothing_asked recounted
encode_recounted n m b lo end =
    encode_through (recounted n m) b lo end refl (prepared_recounted n m b) (outputs_recounted n m (prepared b) lo end)
