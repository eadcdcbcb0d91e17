-- More nodes and more outputs leave what was claimed, and its clauses, as they were.
use Rattle.std.specs.Prelude.{◌≡◌, refl, ◌≢◌, Bool, true, List, [], ◌∷◌, ◌++◌, ℕ, zero, suc, ◌≤◌, ℤ, pos, neg_ℤ, nat_abs}
use Rattle.std.proofs.Common.{sym, ap, ap₂, ◌∙◌, subst, append-nil, arith}
use Rattle.rules.specs.Records.{Kind, leaf, join, dummy, Node, Output, Record, node_at, outputs}
use Rattle.rules.specs.Totalizer.{asks, number_in, number_of, literal_of, side, clause}
use Rattle.laws.specs.Records.Places.{place, leaf_place, join_place, number_in_kept}
use Rattle.laws.specs.WellFormed.Plain.{Sound}
use Rattle.guarantee.specs.Meaning.Truth.{Member, member_left}
use Rattle.guarantee.specs.Meaning.Derived.{literal, ClaimedKind, Claimed, Sides, Pair, Derived, Asked, CompleteAt, Claim}

-- equal joins have equal parts
pub join_parts : (half half' : Bool) (l l' r r' : ℕ) → join half l r ≡ join half' l' r' → (half ≡ half') × (l ≡ l') × (r ≡ r')
join_parts half half' l l' r r' e = (cc, cc, cc)

-- every claim of rs is one of rs', under the same literal
abbrev pub Keeps : List Record → List Record → Type 0
Keeps rs rs' = (n v : ℕ) → Claimed rs n v → Claimed rs' n v × (literal rs' n v ≡ literal rs n v)

pub side_kept : (rs rs' : List Record) → Keeps rs rs' → (n v : ℕ) → (1 ≤ v → Claimed rs n v) → side rs' n v ≡ side rs n v
unfolding side literal
side_kept rs rs' k n zero c = refl
side_kept rs rs' k n (suc v) c = ap (λ (x : ℤ). neg_ℤ x ∷ []) (k n (suc v) (c (omega arith))).1

pub clause_kept : (rs rs' : List Record) → Keeps rs rs' → (half : Bool) (l r number : ℕ) (p : ℕ × ℕ) → Sides rs half l r p →
    clause rs' half l r number p ≡ clause rs half l r number p
unfolding clause
clause_kept rs rs' k half l r number p c =
    ap₂ (λ (x y : List ℤ). x ++ (y ++ (pos number ∷ []))) (side_kept rs rs' k l p.0 c.0) (side_kept rs rs' k r (asks half p.1) c.1)

pub sides_kept : (rs rs' : List Record) → Keeps rs rs' → (half : Bool) (l r : ℕ) (p : ℕ × ℕ) → Sides rs half l r p → Sides rs' half l r p
sides_kept rs rs' k half l r p c = (λ z. (k l p.0 (c.0 z)).0, λ z. (k r (asks half p.1) (c.1 z)).0)

-- rs' has the nodes and the outputs of rs, and more
pub record Onto (rs rs' : List Record) : Type 0 where
  pub nodes_kept : (n : ℕ) → place rs n ≡ true → node_at rs' n ≡ node_at rs n
  pub more : List Output
  pub outputs_are : outputs rs' ≡ outputs rs ++ more

pub onto_self : (rs : List Record) → Onto rs rs
onto_self rs = record { nodes_kept = λ n h. refl; more = []; outputs_are = sym (append-nil (outputs rs)) }

claimed_place : (rs : List Record) (n v : ℕ) → Claimed rs n v → place rs n ≡ true
claimed_place rs n v c = go (node_at rs n).kind refl c
  where
    go : (kd : Kind) → (node_at rs n).kind ≡ kd → ClaimedKind kd (number_of rs n v) → place rs n ≡ true
    go (leaf x) e c = leaf_place rs n x e
    go (join half l r) e c = join_place rs n half l r e
    go dummy e c = absurd c

pub onto_keeps : (rs rs' : List Record) → Onto rs rs' → Keeps rs rs'
unfolding literal number_of
onto_keeps rs rs' g n v c =
    let e : node_at rs' n ≡ node_at rs n = g.nodes_kept n (claimed_place rs n v c) in
    rw (e, g.outputs_are) (go (node_at rs n).kind c)
  where
    go : (kd : Kind) → ClaimedKind kd (number_in (outputs rs) n v) →
        ClaimedKind kd (number_in (outputs rs ++ g.more) n v) ×
        (literal_of kd (number_in (outputs rs ++ g.more) n v) ≡ literal_of kd (number_in (outputs rs) n v))
    go (leaf x) c = (tt, refl)
    go (join half l r) c =
        let same : number_in (outputs rs ++ g.more) n v ≡ number_in (outputs rs) n v = number_in_kept (outputs rs) g.more n v c in
        (rw same c, ap pos same)
    go dummy c = absurd c

module _ (rs rs' : List Record) (nodes : Sound (node_at rs) (place rs)) (g : Onto rs rs') where
  -- a pair of a node is one of the same node
  pub pair_onto : (n : ℕ) (half : Bool) (l r v : ℕ) (p : ℕ × ℕ) → (node_at rs n).kind ≡ join half l r → Pair rs half l r v p → Pair rs' half l r v p
  pair_onto n half l r v p e c =
      let (il, ir) = (nodes n).links_are half l r e in
      rw (g.nodes_kept l il, g.nodes_kept r ir) c

  pub pair_back : (n : ℕ) (half : Bool) (l r v : ℕ) (p : ℕ × ℕ) → (node_at rs n).kind ≡ join half l r → Pair rs' half l r v p → Pair rs half l r v p
  pair_back n half l r v p e c =
      let (il, ir) = (nodes n).links_are half l r e in
      rw (g.nodes_kept l il, g.nodes_kept r ir) at c

  pub kind_onto : (n : ℕ) (half : Bool) (l r : ℕ) → (node_at rs n).kind ≡ join half l r → (node_at rs' n).kind ≡ join half l r
  kind_onto n half l r e = ap (λ (nd : Node). nd.kind) (g.nodes_kept n (join_place rs n half l r e)) ∙ e

  pub member_onto : (o : Output) → Member o (outputs rs) → Member o (outputs rs')
  member_onto o m = subst (Member o) (sym g.outputs_are) (member_left o (outputs rs) g.more m)

  pub derived_onto : (c : List ℤ) → Derived rs c → Derived rs' c
  derived_onto c d = record {
    o = d.o;
    half = d.half;
    l = d.l;
    r = d.r;
    p = d.p;
    claimed = member_onto d.o d.claimed;
    kind_is = kind_onto d.o.node d.half d.l d.r d.kind_is;
    pair = pair_onto d.o.node d.half d.l d.r d.o.value d.p d.kind_is d.pair;
    sides = sides_kept rs rs' (onto_keeps rs rs' g) d.half d.l d.r d.p d.sides;
    is = d.is ∙ sym (clause_kept rs rs' (onto_keeps rs rs' g) d.half d.l d.r d.o.number d.p d.sides);
  }

  pub complete_onto : (asked : Asked) (cs ds : List (List ℤ)) (o : Output) → Claim rs o → CompleteAt asked rs cs o → CompleteAt asked rs' (cs ++ ds) o
  complete_onto asked cs ds o k c half l r p e q a =
      let same : node_at rs' o.node ≡ node_at rs o.node = g.nodes_kept o.node (join_place rs o.node k.half k.l k.r k.kind_is) in
      let e' : (node_at rs o.node).kind ≡ join half l r = ap (λ (nd : Node). nd.kind) (sym same) ∙ e in
      let here = c half l r p e' (pair_back o.node half l r o.value p e' q) a in (
        sides_kept rs rs' (onto_keeps rs rs' g) half l r p here.0,
        subst (λ (x : List ℤ). Member x (cs ++ ds)) (sym (clause_kept rs rs' (onto_keeps rs rs' g) half l r o.number p here.0))
            (member_left (clause rs half l r o.number p) cs ds here.1),
      )

  -- new leaves' variables are apart from the claims
  pub claim_onto : (o : Output) → ((n : ℕ) (x : ℤ) → (node_at rs' n).kind ≡ leaf x → nat_abs x ≢ o.number) → Claim rs o → Claim rs' o
  claim_onto o apart k = record {
    half = k.half;
    l = k.l;
    r = k.r;
    kind_is = kind_onto o.node k.half k.l k.r k.kind_is;
    positive = k.positive;
    apart = apart;
  }
