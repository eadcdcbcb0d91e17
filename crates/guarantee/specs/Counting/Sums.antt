-- A merged list counts what its members count; nodes made since some place are read off the records at the end.
use Rattle.std.specs.Prelude.{◌≡◌, refl, Bool, false, List, [], ◌∷◌, ◌++◌, map, ℕ, zero, suc, ◌+◌, ◌-◌, ◌/◌, ◌≤◌, ◌<◌, length, take, drop, ℤ}
use Rattle.std.proofs.Common.{sym, ap, ap₂, ◌∙◌, append_assoc, append-nil, arith, length-append, take-append-drop, length-take, length-drop}
use Rattle.rules.specs.Lists.{total}
use Rattle.rules.specs.Records.{leaf, join, dummy, Node, Output, Record, node, node_at, outputs}
use Rattle.rules.specs.Totalizer.{counts, joining, add, merge_by}
use Rattle.laws.specs.Lists.Facts.{All, total_append}
use Rattle.laws.specs.Records.Places.{place, place_inside, leaf_place, join_place, node_at_append, node_at_last, outputs_append}
use Rattle.laws.specs.WellFormed.Plain.{Sound}
use Rattle.guarantee.specs.Meaning.Truth.{Truths}
use Rattle.guarantee.specs.Meaning.Values.{bit, value, value_leaf, value_dummy, value_join}

-- rs' begins with rs, and no output was added
pub record Begins (rs rs' : List Record) : Type 0 where
  pub rest : List Record
  pub is : rs' ≡ rs ++ rest
  pub silent : outputs rest ≡ []

pub begins_self : (rs : List Record) → Begins rs rs
unfolding outputs
begins_self rs = record { rest = []; is = sym (append-nil rs); silent = refl }

pub begins_then : (rs rs' rs'' : List Record) → Begins rs rs' → Begins rs' rs'' → Begins rs rs''
begins_then rs rs' rs'' a b = record {
  rest = a.rest ++ b.rest;
  is = b.is ∙ (ap (λ (x : List Record). x ++ b.rest) a.is ∙ append_assoc rs a.rest b.rest);
  silent = outputs_append a.rest b.rest ∙ ap₂ (λ (x y : List Output). x ++ y) a.silent b.silent;
}

pub begins_outputs : (rs rs' : List Record) → Begins rs rs' → outputs rs' ≡ outputs rs
begins_outputs rs rs' b =
    ap outputs b.is ∙ (outputs_append rs b.rest ∙ (ap (λ (x : List Output). outputs rs ++ x) b.silent ∙ append-nil (outputs rs)))

pub begins_add : (rs : List Record) (nd : Node) → Begins rs (add rs nd).0
unfolding add outputs
begins_add rs nd = record { rest = node nd ∷ []; is = refl; silent = refl }

pub begins_length : (rs rs' : List Record) → Begins rs rs' → length rs ≤ length rs'
begins_length rs rs' b = omega (arith, length-append rs b.rest, ap length b.is)

pub begins_at : (rs rs' : List Record) → Begins rs rs' → (n : ℕ) → n < length rs → node_at rs' n ≡ node_at rs n
begins_at rs rs' b n h = ap (λ (x : List Record). node_at x n) b.is ∙ node_at_append rs b.rest n h

-- f counts the nodes from place `base` on as the rule does, literals being true as t says
pub record Reads (base : ℕ) (t : Truths) (f : ℕ → ℕ) (rs : List Record) : Type 0 where
  pub joins : (n : ℕ) (half : Bool) (l r : ℕ) → base ≤ n → (node_at rs n).kind ≡ join half l r → f n ≡ f l + counts half (f r)
  pub leaves : (n : ℕ) (x : ℤ) → base ≤ n → (node_at rs n).kind ≡ leaf x → f n ≡ bit (t x)
  pub dummies : (n : ℕ) → base ≤ n → n < length rs → (node_at rs n).kind ≡ dummy → f n ≡ 0

pub reads_before : (base : ℕ) (t : Truths) (f : ℕ → ℕ) (rs rs' : List Record) → Begins rs rs' → Reads base t f rs' → Reads base t f rs
reads_before base t f rs rs' b r = record {
  joins = λ n half l k h e. r.joins n half l k h (ap (λ (nd : Node). nd.kind) (begins_at rs rs' b n (place_inside rs n (join_place rs n half l k e))) ∙ e);
  leaves = λ n x h e. r.leaves n x h (ap (λ (nd : Node). nd.kind) (begins_at rs rs' b n (place_inside rs n (leaf_place rs n x e))) ∙ e);
  dummies = λ n h i e. r.dummies n h (omega (arith, begins_length rs rs' b)) (ap (λ (nd : Node). nd.kind) (begins_at rs rs' b n i) ∙ e);
}

-- the values of sound nodes do
pub value_reads : (base : ℕ) (t : Truths) (rs : List Record) → Sound (node_at rs) (place rs) → Reads base t (value (node_at rs) t) rs
value_reads base t rs s = record {
  joins = λ n half l r h e. value_join (node_at rs) (place rs) s t n half l r e;
  leaves = λ n x h e. value_leaf (node_at rs) (place rs) s t n x e;
  dummies = λ n h i e. value_dummy (node_at rs) (place rs) s t n e;
}

-- the node that was added last
pub add_last : (rs : List Record) (nd : Node) → node_at (add rs nd).0 (length rs) ≡ nd
unfolding add
add_last rs nd = node_at_last rs nd []

pub merge_begins : (f : ℕ) (rs : List Record) (ms : List ℕ) → Begins rs (merge_by f rs ms).0
unfolding merge_by
merge_begins zero rs ms = begins_self rs
merge_begins (suc f) rs [] = begins_self rs
merge_begins (suc f) rs (m ∷ []) = begins_self rs
merge_begins (suc f) rs (m ∷ m' ∷ ms) =
    let w : List ℕ = m ∷ m' ∷ ms in
    let a : List Record × ℕ = merge_by f rs (take (length w / 2) w) in
    let b : List Record × ℕ = merge_by f a.0 (drop (length w / 2) w) in
    begins_then rs b.0 (add b.0 (joining b.0 false a.1 b.1)).0
    (begins_then rs a.0 b.0 (merge_begins f rs (take (length w / 2) w)) (merge_begins f a.0 (drop (length w / 2) w)))
    (begins_add b.0 (joining b.0 false a.1 b.1))

-- two merged parts, joined
merge_two : (base : ℕ) (t : Truths) (g : ℕ → ℕ) (rs : List Record) (l r x y : ℕ) → base ≤ length rs → g l ≡ x → g r ≡ y →
    Reads base t g (add rs (joining rs false l r)).0 → g (length rs) ≡ x + y
unfolding joining counts
merge_two base t g rs l r x y h el er reads =
    reads.joins (length rs) false l r h (ap (λ (nd : Node). nd.kind) (add_last rs (joining rs false l r))) ∙ ap₂ ◌+◌ el er

-- a merged list counts what its members count
pub merge_total : (base : ℕ) (t : Truths) (g : ℕ → ℕ) (f : ℕ) (rs : List Record) (ms : List ℕ) → 1 ≤ length ms → length ms ≤ f → base ≤ length rs →
    Reads base t g (merge_by f rs ms).0 → g (merge_by f rs ms).1 ≡ total (map g ms)
unfolding merge_by total add
merge_total base t g zero rs ms p q h reads = absurd (omega arith)
merge_total base t g (suc f) rs [] p q h reads = absurd (omega arith)
merge_total base t g (suc f) rs (m ∷ []) p q h reads = omega arith
merge_total base t g (suc f) rs (m ∷ m' ∷ ms) p q h reads =
    merge_two base t g b.0 a.1 b.1 (total (map g left)) (total (map g right)) (omega (arith, begins_length rs a.0 ba, begins_length a.0 b.0 bb))
    (merge_total base t g f rs left (omega (arith, len_left)) (omega (arith, len_left)) h (reads_before base t g a.0 b.0 bb rb))
    (merge_total base t g f a.0 right (omega (arith, len_right)) (omega (arith, len_right)) (omega (arith, begins_length rs a.0 ba)) rb)
    reads ∙ (sym (total_append g left right) ∙ ap (λ (xs : List ℕ). total (map g xs)) (take-append-drop half w))
  where
    w : List ℕ
    w = m ∷ m' ∷ ms

    half : ℕ
    half = length w / 2

    left : List ℕ
    left = take half w

    right : List ℕ
    right = drop half w

    len_left : length left ≡ length w / 2
    len_left = length-take half w ∙ omega arith

    len_right : length right ≡ length w - length w / 2
    len_right = length-drop half w

    a : List Record × ℕ
    a = merge_by f rs left

    b : List Record × ℕ
    b = merge_by f a.0 right

    ba : Begins rs a.0
    ba = merge_begins f rs left

    bb : Begins a.0 b.0
    bb = merge_begins f a.0 right

    rb : Reads base t g b.0
    rb = reads_before base t g b.0 (add b.0 (joining b.0 false a.1 b.1)).0 (begins_add b.0 (joining b.0 false a.1 b.1)) reads

-- a merged list's node stands among the records
pub merge_inside : (f : ℕ) (rs : List Record) (ms : List ℕ) → 1 ≤ length ms → length ms ≤ f → All (λ m. m < length rs) ms → (merge_by f rs ms).1 < length (merge_by f rs ms).0
unfolding merge_by add
merge_inside zero rs ms p q a = absurd (omega arith)
merge_inside (suc f) rs [] p q a = absurd (omega arith)
merge_inside (suc f) rs (m ∷ []) p q a = a.0
merge_inside (suc f) rs (m ∷ m' ∷ ms) p q a =
    let w : List ℕ = m ∷ m' ∷ ms in
    let x : List Record × ℕ = merge_by f rs (take (length w / 2) w) in
    let y : List Record × ℕ = merge_by f x.0 (drop (length w / 2) w) in
    omega (arith, length-append y.0 (node (joining y.0 false x.1 y.1) ∷ []))
