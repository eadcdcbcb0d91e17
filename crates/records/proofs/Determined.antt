-- Any two results that the promise of a public function allows are equal; for readers of records, where the words store some.
use mathlib.Core.Path.{◌≡◌, refl, sym, ap, ◌∙◌}
use mathlib.Core.Bool.{cond}
use Prim.Native.Nat.{ℕ}
use lib.Dec.{eqb}
use Rattle.std.proofs.Common.{Option, Some, None, MatchOption, ◌≢◌}
use mathlib.Core.List.{List}
use borrow.Fn.Kinds.{Dens, res_t, ended_of}
use denote.Triple.Clauses.{AtExit}
use contract.Lifetimes.{Lfts}
use Rattle.rules.specs.Records.{Record}
use Rattle.numbers.proofs.Determined.{One_result}
use Rattle.records.specs.declared.Kind.{Kind}
use Rattle.records.specs.declared.Kind.TheVariants.{Leaf, Join, Dummy, Output, Waiting}
use Rattle.records.specs.Words.{kind_word}
use Rattle.records.specs.Carries.{Reads}
use Rattle.records.proofs.Kind.of.Kinds as of-kinds
use Rattle.records.proofs.Kind.of.Reads as of
use Rattle.records.proofs.capacity.Kinds as capacity-kinds
use Rattle.records.proofs.capacity.Reads as capacity
use Rattle.records.proofs.Store.field.Kinds as field-kinds
use Rattle.records.proofs.Store.field.Reads as field
use Rattle.records.proofs.Store.is_node.Kinds as is-node-kinds
use Rattle.records.proofs.Store.is_node.Reads as is_node
use Rattle.records.proofs.Store.is_leaf.Kinds as is-leaf-kinds
use Rattle.records.proofs.Store.is_leaf.Reads as is_leaf
use Rattle.records.proofs.Store.is_join.Kinds as is-join-kinds
use Rattle.records.proofs.Store.is_join.Reads as is_join
use Rattle.records.proofs.Store.is_dummy.Kinds as is-dummy-kinds
use Rattle.records.proofs.Store.is_dummy.Reads as is_dummy
use Rattle.records.proofs.Store.literal.Kinds as literal-kinds
use Rattle.records.proofs.Store.literal.Reads as literal
use Rattle.records.proofs.Store.halved.Kinds as halved-kinds
use Rattle.records.proofs.Store.halved.Reads as halved
use Rattle.records.proofs.Store.left.Kinds as left-kinds
use Rattle.records.proofs.Store.left.Reads as left
use Rattle.records.proofs.Store.right.Kinds as right-kinds
use Rattle.records.proofs.Store.right.Reads as right
use Rattle.records.proofs.Store.maximum.Kinds as maximum-kinds
use Rattle.records.proofs.Store.maximum.Reads as maximum
use Rattle.records.proofs.Store.height.Kinds as height-kinds
use Rattle.records.proofs.Store.height.Reads as height
use Rattle.records.proofs.Store.is_output.Kinds as is-output-kinds
use Rattle.records.proofs.Store.is_output.Reads as is_output
use Rattle.records.proofs.Store.output_node.Kinds as output-node-kinds
use Rattle.records.proofs.Store.output_node.Reads as output_node
use Rattle.records.proofs.Store.output_value.Kinds as output-value-kinds
use Rattle.records.proofs.Store.output_value.Reads as output_value
use Rattle.records.proofs.Store.output_number.Kinds as output-number-kinds
use Rattle.records.proofs.Store.output_number.Reads as output_number
use Rattle.records.proofs.Store.is_waiting.Kinds as is-waiting-kinds
use Rattle.records.proofs.Store.is_waiting.Reads as is-waiting
use Rattle.records.proofs.Store.entry_node.Kinds as entry-node-kinds
use Rattle.records.proofs.Store.entry_node.Reads as entry_node
use Rattle.records.proofs.Store.entry_weight.Kinds as entry-weight-kinds
use Rattle.records.proofs.Store.entry_weight.Reads as entry_weight
use Rattle.records.proofs.put_record.Kinds as put-record-kinds
use Rattle.records.proofs.put_record.Reads as put_record

-- two kinds of one word are one
word_once : (a b : Kind) → kind_word a ≡ kind_word b → a ≡ b
word_once a b e = kind_at-word a ∙ ap kind_at e ∙ sym (kind_at-word b)
  where
    kind_at : ℕ → Kind
    kind_at w = cond (eqb w 1) Leaf (cond (eqb w 2) Join (cond (eqb w 3) Dummy (cond (eqb w 4) Output Waiting)))

    kind_at-word : (k : Kind) → k ≡ kind_at (kind_word k)
    kind_at-word Leaf = refl
    kind_at-word Join = refl
    kind_at-word Dummy = refl
    kind_at-word Output = refl
    kind_at-word Waiting = refl

-- the kind that a word says, if it says one
abbrev Says : ℕ → Option Kind → Type 0
Says w z = MatchOption z ((k : Kind) → kind_word k ≢ w) (λ k. kind_word k ≡ w)

pub of_determined : One_result 0 of-kinds.ps of-kinds.r of.Post
of_determined κs a x y e f p q = go x y p q
  where
    go : (x y : Option Kind) → Says a.0 x → Says a.0 y → x ≡ y
    go None None p q = refl
    go None (Some k) p q = absurd (p k q)
    go (Some k) None p q = absurd (q k p)
    go (Some k) (Some l) p q = ap Some (word_once k l (p ∙ sym q))

pub capacity_determined : One_result 1 capacity-kinds.ps capacity-kinds.r capacity.Post
capacity_determined κs a x y e f p q = p ∙ sym q

pub field_determined : One_result 1 field-kinds.ps field-kinds.r field.Post
field_determined κs a x y e f p q = p ∙ sym q

pub is_node_determined : (κs : Lfts 1) (a : Dens κs is-node-kinds.ps) (x y : (res_t is-node-kinds.r κs).Denot) (e f : AtExit (ended_of 1 is-node-kinds.ps is-node-kinds.r) κs) →
    is_node.Post κs a x e → is_node.Post κs a y f → (rs : List Record) → Reads a.0 rs → x ≡ y
is_node_determined κs a x y e f p q rs h = p rs h ∙ sym (q rs h)

pub is_leaf_determined : (κs : Lfts 1) (a : Dens κs is-leaf-kinds.ps) (x y : (res_t is-leaf-kinds.r κs).Denot) (e f : AtExit (ended_of 1 is-leaf-kinds.ps is-leaf-kinds.r) κs) →
    is_leaf.Post κs a x e → is_leaf.Post κs a y f → (rs : List Record) → Reads a.0 rs → x ≡ y
is_leaf_determined κs a x y e f p q rs h = p rs h ∙ sym (q rs h)

pub is_join_determined : (κs : Lfts 1) (a : Dens κs is-join-kinds.ps) (x y : (res_t is-join-kinds.r κs).Denot) (e f : AtExit (ended_of 1 is-join-kinds.ps is-join-kinds.r) κs) →
    is_join.Post κs a x e → is_join.Post κs a y f → (rs : List Record) → Reads a.0 rs → x ≡ y
is_join_determined κs a x y e f p q rs h = p rs h ∙ sym (q rs h)

pub is_dummy_determined : (κs : Lfts 1) (a : Dens κs is-dummy-kinds.ps) (x y : (res_t is-dummy-kinds.r κs).Denot) (e f : AtExit (ended_of 1 is-dummy-kinds.ps is-dummy-kinds.r) κs) →
    is_dummy.Post κs a x e → is_dummy.Post κs a y f → (rs : List Record) → Reads a.0 rs → x ≡ y
is_dummy_determined κs a x y e f p q rs h = p rs h ∙ sym (q rs h)

pub literal_determined : (κs : Lfts 1) (a : Dens κs literal-kinds.ps) (x y : (res_t literal-kinds.r κs).Denot) (e f : AtExit (ended_of 1 literal-kinds.ps literal-kinds.r) κs) →
    literal.Post κs a x e → literal.Post κs a y f → (rs : List Record) → Reads a.0 rs → x ≡ y
literal_determined κs a x y e f p q rs h = p rs h ∙ sym (q rs h)

pub halved_determined : (κs : Lfts 1) (a : Dens κs halved-kinds.ps) (x y : (res_t halved-kinds.r κs).Denot) (e f : AtExit (ended_of 1 halved-kinds.ps halved-kinds.r) κs) →
    halved.Post κs a x e → halved.Post κs a y f → (rs : List Record) → Reads a.0 rs → x ≡ y
halved_determined κs a x y e f p q rs h = p rs h ∙ sym (q rs h)

pub left_determined : (κs : Lfts 1) (a : Dens κs left-kinds.ps) (x y : (res_t left-kinds.r κs).Denot) (e f : AtExit (ended_of 1 left-kinds.ps left-kinds.r) κs) →
    left.Post κs a x e → left.Post κs a y f → (rs : List Record) → Reads a.0 rs → x ≡ y
left_determined κs a x y e f p q rs h = p rs h ∙ sym (q rs h)

pub right_determined : (κs : Lfts 1) (a : Dens κs right-kinds.ps) (x y : (res_t right-kinds.r κs).Denot) (e f : AtExit (ended_of 1 right-kinds.ps right-kinds.r) κs) →
    right.Post κs a x e → right.Post κs a y f → (rs : List Record) → Reads a.0 rs → x ≡ y
right_determined κs a x y e f p q rs h = p rs h ∙ sym (q rs h)

pub maximum_determined : (κs : Lfts 1) (a : Dens κs maximum-kinds.ps) (x y : (res_t maximum-kinds.r κs).Denot) (e f : AtExit (ended_of 1 maximum-kinds.ps maximum-kinds.r) κs) →
    maximum.Post κs a x e → maximum.Post κs a y f → (rs : List Record) → Reads a.0 rs → x ≡ y
maximum_determined κs a x y e f p q rs h = p rs h ∙ sym (q rs h)

pub height_determined : (κs : Lfts 1) (a : Dens κs height-kinds.ps) (x y : (res_t height-kinds.r κs).Denot) (e f : AtExit (ended_of 1 height-kinds.ps height-kinds.r) κs) →
    height.Post κs a x e → height.Post κs a y f → (rs : List Record) → Reads a.0 rs → x ≡ y
height_determined κs a x y e f p q rs h = p rs h ∙ sym (q rs h)

pub is_output_determined : (κs : Lfts 1) (a : Dens κs is-output-kinds.ps) (x y : (res_t is-output-kinds.r κs).Denot) (e f : AtExit (ended_of 1 is-output-kinds.ps is-output-kinds.r) κs) →
    is_output.Post κs a x e → is_output.Post κs a y f → (rs : List Record) → Reads a.0 rs → x ≡ y
is_output_determined κs a x y e f p q rs h = p rs h ∙ sym (q rs h)

pub output_node_determined : (κs : Lfts 1) (a : Dens κs output-node-kinds.ps) (x y : (res_t output-node-kinds.r κs).Denot) (e f : AtExit (ended_of 1 output-node-kinds.ps output-node-kinds.r) κs) →
    output_node.Post κs a x e → output_node.Post κs a y f → (rs : List Record) → Reads a.0 rs → x ≡ y
output_node_determined κs a x y e f p q rs h = p rs h ∙ sym (q rs h)

pub output_value_determined : (κs : Lfts 1) (a : Dens κs output-value-kinds.ps) (x y : (res_t output-value-kinds.r κs).Denot) (e f : AtExit (ended_of 1 output-value-kinds.ps output-value-kinds.r) κs) →
    output_value.Post κs a x e → output_value.Post κs a y f → (rs : List Record) → Reads a.0 rs → x ≡ y
output_value_determined κs a x y e f p q rs h = p rs h ∙ sym (q rs h)

pub output_number_determined : (κs : Lfts 1) (a : Dens κs output-number-kinds.ps) (x y : (res_t output-number-kinds.r κs).Denot) (e f : AtExit (ended_of 1 output-number-kinds.ps output-number-kinds.r) κs) →
    output_number.Post κs a x e → output_number.Post κs a y f → (rs : List Record) → Reads a.0 rs → x ≡ y
output_number_determined κs a x y e f p q rs h = p rs h ∙ sym (q rs h)

pub is_waiting_determined : (κs : Lfts 1) (a : Dens κs is-waiting-kinds.ps) (x y : (res_t is-waiting-kinds.r κs).Denot) (e f : AtExit (ended_of 1 is-waiting-kinds.ps is-waiting-kinds.r) κs) →
    is-waiting.Post κs a x e → is-waiting.Post κs a y f → (rs : List Record) → Reads a.0 rs → x ≡ y
is_waiting_determined κs a x y e f p q rs h = p rs h ∙ sym (q rs h)

pub entry_node_determined : (κs : Lfts 1) (a : Dens κs entry-node-kinds.ps) (x y : (res_t entry-node-kinds.r κs).Denot) (e f : AtExit (ended_of 1 entry-node-kinds.ps entry-node-kinds.r) κs) →
    entry_node.Post κs a x e → entry_node.Post κs a y f → (rs : List Record) → Reads a.0 rs → x ≡ y
entry_node_determined κs a x y e f p q rs h = p rs h ∙ sym (q rs h)

pub entry_weight_determined : (κs : Lfts 1) (a : Dens κs entry-weight-kinds.ps) (x y : (res_t entry-weight-kinds.r κs).Denot) (e f : AtExit (ended_of 1 entry-weight-kinds.ps entry-weight-kinds.r) κs) →
    entry_weight.Post κs a x e → entry_weight.Post κs a y f → (rs : List Record) → Reads a.0 rs → x ≡ y
entry_weight_determined κs a x y e f p q rs h = p rs h ∙ sym (q rs h)

pub put_record_determined : (κs : Lfts 1) (a : Dens κs put-record-kinds.ps) (x y : (res_t put-record-kinds.r κs).Denot) (e f : AtExit (ended_of 1 put-record-kinds.ps put-record-kinds.r) κs) →
    put_record.Post κs a x e → put_record.Post κs a y f → e.0.now ≡ f.0.now
put_record_determined κs a x y e f p q = p ∙ sym q
