-- Any two results that the promise of a public function allows are equal.
use mathlib.Core.Path.{◌≡◌, refl, sym, ◌∙◌}
use mathlib.Core.Bool.{Bool, true, false}
use mathlib.Core.List.{List}
use Prim.Native.Nat.{ℕ, ◌≤◌, ◌<◌}
use native.Mathlib.Omega.{arith}
use lib.Dec.{ltb}
use lib.Seq.{ext_get_or}
use borrow.Author.Tests.{ltb-true, ltb-false}
use seplogic.Ra.Ura.{Ura}
use base.Logic.{SProp}
use prog.Memory.{Memory}
use prog.Routine.{Routine}
use types.Logic.{Logic}
use contract.Lifetimes.{Lfts}
use contract.Monad.{Fun, fact}
use denote.Triple.Clauses.{AtExit}
use denote.Triple.Entry.{Args, Res}
use Rattle.rules.specs.Totalizer.{counts}
use Rattle.node_structs.specs.declared.Node.{Node}
use Rattle.node_structs.specs.Nodes.{node_of, node_in, Copies, former_half_in}
use Rattle.node_structs.specs.contracts.copy_nodes as copy-nodes
use Rattle.node_structs.specs.contracts.node_at as node-at
use Rattle.node_structs.specs.contracts.counted_at as counted-at
use Rattle.node_structs.specs.contracts.former_half as former_half

-- the promise of each function is the fact that its theorem speaks of
module _ {M : Type 1} {𝓤 : Ura M} (𝓛 : Logic 𝓤) (mem : Memory → SProp 𝓤) (run : Routine → Fun 𝓤) where
  pub copy_nodes_says : (κs : Lfts 2) (a : Args copy-nodes.signature κs) (r : Res copy-nodes.signature κs) (e : AtExit copy-nodes.ended κs) →
      (copy-nodes.clauses 𝓛 mem run κs a).ensures tt r e ≡ fact 𝓤 (Copies a.0.now e.0.now a.1.0.words.now a.1.0.records r)
  copy_nodes_says κs a r e = refl

  pub node_at_says : (κs : Lfts 1) (a : Args node-at.signature κs) (r : Res node-at.signature κs) (e : AtExit node-at.ended κs) →
      (node-at.clauses 𝓛 mem run κs a).ensures tt r e ≡ fact 𝓤 (r ≡ node_in a.0.now a.1.0)
  node_at_says κs a r e = refl

  pub counted_at_says : (κs : Lfts 1) (a : Args counted-at.signature κs) (r : Res counted-at.signature κs) (e : AtExit counted-at.ended κs) →
      (counted-at.clauses 𝓛 mem run κs a).ensures tt r e ≡ fact 𝓤 (r ≡ counts a.1.1.0 (node_in a.0.now a.1.0).maximum)
  counted_at_says κs a r e = refl

  pub former_half_says : (κs : Lfts 1) (a : Args former_half.signature κs) (r : Res former_half.signature κs) (e : AtExit former_half.ended κs) →
      (former_half.clauses 𝓛 mem run κs a).ensures tt r e ≡ fact 𝓤 (r ≡ former_half_in a.0.now a.1.0)
  former_half_says κs a r e = refl

module _ (ns ns' ns'' : List Node) (s : List ℕ) (records r r' : ℕ) (p : Copies ns ns' s records r) (p' : Copies ns ns'' s records r') where
  same_count : r ≡ r'
  same_count = p.count_is ∙ sym p'.count_is

  same_node : (n : ℕ) → node_in ns' n ≡ node_in ns'' n
  same_node n = go (ltb n r) refl
    where
      go : (b : Bool) → ltb n r ≡ b → node_in ns' n ≡ node_in ns'' n
      go true e =
          let low : n < r = ltb-true n r e in
          p.copied n low ∙ sym (p'.copied n (omega (arith, same_count)))
      go false e =
          let past : r ≤ n = ltb-false n r e in
          p.kept n past ∙ sym (p'.kept n (omega (arith, same_count)))

  pub copy_nodes_determined : (r ≡ r') × (ns' ≡ ns'')
  copy_nodes_determined =
      (same_count, ext_get_or (node_of 0 0) ns' ns'' (p.same_length ∙ sym p'.same_length) (λ n low. same_node n))

pub node_at_determined : (ns : List Node) (n : ℕ) (x y : Node) → x ≡ node_in ns n → y ≡ node_in ns n → x ≡ y
node_at_determined ns n x y p q = p ∙ sym q

pub counted_at_determined : (ns : List Node) (n : ℕ) (h : Bool) (x y : ℕ) → x ≡ counts h (node_in ns n).maximum →
    y ≡ counts h (node_in ns n).maximum → x ≡ y
counted_at_determined ns n h x y p q = p ∙ sym q

pub former_half_determined : (ns : List Node) (b x y : ℕ) → x ≡ former_half_in ns b → y ≡ former_half_in ns b → x ≡ y
former_half_determined ns b x y p q = p ∙ sym q
