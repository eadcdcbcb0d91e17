-- Any two results that the promise of a public function allows are equal, wherever the arena that it leads to fits; they agree on
-- whether the room ends everywhere.
use mathlib.Core.Path.{◌≡◌, sym, ◌∙◌}
use mathlib.Core.List.{List}
use Prim.Native.Nat.{ℕ}
use borrow.Fn.Kinds.{Dens, res_t, ended_of}
use denote.Triple.Clauses.{AtExit}
use contract.Lifetimes.{Lfts}
use lib.IntN.{ℤ}
use Rattle.rules.specs.Records.{Record, waiting, record_image, literal_word, leaf_node, dummy_node}
use Rattle.rules.specs.Totalizer.{joining, add, take_number}
use Rattle.numbers.proofs.Determined.{One_result}
use Rattle.records.specs.Words.{fields}
use Rattle.records.specs.Carries.{st, at, after, on_records, with_record, placed}
use Rattle.records.proofs.Entry.{Same_end, Same_made, steps_determined, makes_determined}
use Rattle.records_append.specs.Fresh.{with_numbers}
use Rattle.records_append.specs.Made.{made_node, made_marks}
use Rattle.records_append.proofs.append.Kinds as append-kinds
use Rattle.records_append.proofs.append.Reads as append
use Rattle.records_append.proofs.leaf.Kinds as leaf-kinds
use Rattle.records_append.proofs.leaf.Reads as leaf
use Rattle.records_append.proofs.dummy.Kinds as dummy-kinds
use Rattle.records_append.proofs.dummy.Reads as dummy
use Rattle.records_append.proofs.counted.Kinds as counted-kinds
use Rattle.records_append.proofs.counted.Reads as counted
use Rattle.records_append.proofs.join.Kinds as join-kinds
use Rattle.records_append.proofs.join.Reads as join
use Rattle.records_append.proofs.numbers.Kinds as numbers-kinds
use Rattle.records_append.proofs.numbers.Reads as numbers
use Rattle.records_append.proofs.output.Kinds as output-kinds
use Rattle.records_append.proofs.output.Reads as output
use Rattle.records_append.proofs.waiting.Kinds as waiting-kinds
use Rattle.records_append.proofs.waiting.Reads as waiting

pub append_determined : (κs : Lfts 1) (a : Dens κs append-kinds.ps) (x y : (res_t append-kinds.r κs).Denot) (e f : AtExit (ended_of 1 append-kinds.ps append-kinds.r) κs) →
    append.Post κs a x e → append.Post κs a y f → (c : List ℤ) (r : Record) → record_image r ≡ fields a.1.1.0 →
    Same_made (st a.0.now c (at a.1.0)) (st e.0.now c (made_marks x)) (st f.0.now c (made_marks y)) (made_node x) (made_node y) (placed r)
append_determined κs a x y e f p q c r i = makes_determined _ _ _ _ _ _ (p c r i) (q c r i)

pub leaf_determined : (κs : Lfts 1) (a : Dens κs leaf-kinds.ps) (x y : (res_t leaf-kinds.r κs).Denot) (e f : AtExit (ended_of 1 leaf-kinds.ps leaf-kinds.r) κs) →
    leaf.Post κs a x e → leaf.Post κs a y f → (c : List ℤ) (z : ℤ) → a.1.1.0 ≡ literal_word z →
    Same_made (st a.0.now c (at a.1.0)) (st e.0.now c (made_marks x)) (st f.0.now c (made_marks y)) (made_node x) (made_node y) (on_records (λ rs. add rs (leaf_node z)))
leaf_determined κs a x y e f p q c z i = makes_determined _ _ _ _ _ _ (p c z i) (q c z i)

pub dummy_determined : (κs : Lfts 1) (a : Dens κs dummy-kinds.ps) (x y : (res_t dummy-kinds.r κs).Denot) (e f : AtExit (ended_of 1 dummy-kinds.ps dummy-kinds.r) κs) →
    dummy.Post κs a x e → dummy.Post κs a y f → (c : List ℤ) →
    Same_made (st a.0.now c (at a.1.0)) (st e.0.now c (made_marks x)) (st f.0.now c (made_marks y)) (made_node x) (made_node y) (on_records (λ rs. add rs dummy_node))
dummy_determined κs a x y e f p q c = makes_determined _ _ _ _ _ _ (p c) (q c)

pub counted_determined : One_result 0 counted-kinds.ps counted-kinds.r counted.Post
counted_determined κs a x y e f p q = p ∙ sym q

pub join_determined : (κs : Lfts 1) (a : Dens κs join-kinds.ps) (x y : (res_t join-kinds.r κs).Denot) (e f : AtExit (ended_of 1 join-kinds.ps join-kinds.r) κs) →
    join.Post κs a x e → join.Post κs a y f → (c : List ℤ) →
    Same_made (st a.0.now c (at a.1.0)) (st e.0.now c (made_marks x)) (st f.0.now c (made_marks y)) (made_node x) (made_node y) (on_records (λ rs. add rs (joining rs a.1.1.0 a.1.1.1.0 a.1.1.1.1.0)))
join_determined κs a x y e f p q c = makes_determined _ _ _ _ _ _ (p c) (q c)

pub numbers_determined : (κs : Lfts 0) (a : Dens κs numbers-kinds.ps) (x y : (res_t numbers-kinds.r κs).Denot) (e f : AtExit (ended_of 0 numbers-kinds.ps numbers-kinds.r) κs) →
    numbers.Post κs a x e → numbers.Post κs a y f → (s : List ℕ) (c : List ℤ) → Same_end (st s c (at a.0)) (st s c (after x)) (st s c (after y)) (with_numbers a.1.0)
numbers_determined κs a x y e f p q s c = steps_determined _ _ _ _ (p.0 s c) (q.0 s c)

pub output_determined : (κs : Lfts 1) (a : Dens κs output-kinds.ps) (x y : (res_t output-kinds.r κs).Denot) (e f : AtExit (ended_of 1 output-kinds.ps output-kinds.r) κs) →
    output.Post κs a x e → output.Post κs a y f → (c : List ℤ) →
    Same_end (st a.0.now c (at a.1.0)) (st e.0.now c (after x)) (st f.0.now c (after y)) (take_number a.1.1.0 a.1.1.1.0)
output_determined κs a x y e f p q c = steps_determined _ _ _ _ (p c) (q c)

pub waiting_determined : (κs : Lfts 1) (a : Dens κs waiting-kinds.ps) (x y : (res_t waiting-kinds.r κs).Denot) (e f : AtExit (ended_of 1 waiting-kinds.ps waiting-kinds.r) κs) →
    waiting.Post κs a x e → waiting.Post κs a y f → (c : List ℤ) →
    Same_end (st a.0.now c (at a.1.0)) (st e.0.now c (after x)) (st f.0.now c (after y)) (with_record (waiting (record { node = a.1.1.0; weight = a.1.1.1.0 })))
waiting_determined κs a x y e f p q c = steps_determined _ _ _ _ (p c) (q c)
