-- A merge is its two halves and their join, whatever the fuel.
use mathlib.Core.Path.{◌≡◌, sym, ap, ◌∙◌}
use mathlib.Core.Bool.{true, false}
use mathlib.Core.List.{List, [], ◌∷◌}
use Prim.Native.Nat.{ℕ, zero, suc, ◌-◌, ◌/◌, ◌<◌, ◌≤◌}
use native.Mathlib.Omega.{arith}
use lib.ListN.{length, get_or, take, drop, length-drop}
use lib.Seq.{length-take-le}
use Rattle.rules.specs.Records.{Record}
use Rattle.rules.specs.Totalizer.{Arena, joining, add, merge_by, merge}
use Rattle.laws.specs.Totalizer.Merges.{merge_fuel}
use Rattle.records.specs.Carries.{St, marks_of, Makes, on_records, with_records}
use Rattle.records.proofs.Grow.{Grows, grows_self, grows_trans}
use Rattle.records.proofs.Step.{stop, makes_none, makes_same, makes_full, makes_then}
use Rattle.records_append.proofs.Appending.{join_grows}

-- two merged parts joined
two : (List Record → List ℕ → List Record × ℕ) → List ℕ → List Record → List Record × ℕ
two d ms rs =
    let (rs₁, l) = d rs (take (length ms / 2) ms) in
    let (rs₂, r) = d rs₁ (drop (length ms / 2) ms) in
    add rs₂ (joining rs₂ false l r)

-- two ways of merging that agree on the halves agree on the whole
two_same : (d g : List Record → List ℕ → List Record × ℕ) (ms : List ℕ) (rs : List Record) →
    d rs (take (length ms / 2) ms) ≡ g rs (take (length ms / 2) ms) →
    ((qs : List Record) → d qs (drop (length ms / 2) ms) ≡ g qs (drop (length ms / 2) ms)) → two d ms rs ≡ two g ms rs
unfolding two
two_same d g ms rs p q =
    ap (λ (a : List Record × ℕ). add (d a.0 (drop (length ms / 2) ms)).0 (joining (d a.0 (drop (length ms / 2) ms)).0 false a.1 (d a.0 (drop (length ms / 2) ms)).1)) p ∙
    ap (λ (b : List Record × ℕ). add b.0 (joining b.0 false (g rs (take (length ms / 2) ms)).1 b.1)) (q (g rs (take (length ms / 2) ms)).0)

-- a list of two or more
merge_two : (ms : List ℕ) (rs : List Record) → 2 ≤ length ms → merge rs ms ≡ two merge ms rs
unfolding merge merge_by two
merge_two [] rs h = absurd (omega arith)
merge_two (m ∷ []) rs h = absurd (omega arith)
merge_two (m ∷ m' ∷ ms) rs h =
    let all : List ℕ = m ∷ m' ∷ ms in
    let half : ℕ = length all / 2 in
    let f : ℕ = length (m' ∷ ms) in
    let a : length (take half all) ≡ half = length-take-le half all (omega arith) in
    let b : length (drop half all) ≡ length all - half = length-drop half all in
    two_same (merge_by f) merge all rs
    (merge_fuel f (length (take half all)) rs (take half all) (omega arith) (omega arith))
    (λ qs. merge_fuel f (length (drop half all)) qs (drop half all) (omega arith) (omega arith))

-- merging only grows what is needed
two_grows : (d : List Record → List ℕ → List Record × ℕ) → ((ms : List ℕ) (t : Arena) → Grows t (on_records (λ rs. d rs ms) t).0) →
    (ms : List ℕ) (t : Arena) → Grows t (on_records (two d ms) t).0
unfolding two on_records with_records
two_grows d g ms t =
    let a : Arena × ℕ = on_records (λ rs. d rs (take (length ms / 2) ms)) t in
    let b : Arena × ℕ = on_records (λ rs. d rs (drop (length ms / 2) ms)) a.0 in
    grows_trans t a.0 (on_records (two d ms) t).0 (g (take (length ms / 2) ms) t)
    (grows_trans a.0 b.0 (on_records (two d ms) t).0 (g (drop (length ms / 2) ms) a.0) (join_grows false a.1 b.1 b.0))

by_grows : (f : ℕ) (ms : List ℕ) (t : Arena) → Grows t (on_records (λ rs. merge_by f rs ms) t).0
unfolding merge_by on_records with_records two
by_grows zero ms t = grows_self t
by_grows (suc f) [] t = grows_self t
by_grows (suc f) (m ∷ []) t = grows_self t
by_grows (suc f) (m ∷ m' ∷ ms) t = two_grows (merge_by f) (by_grows f) (m ∷ m' ∷ ms) t

pub merge_grows : (ms : List ℕ) (t : Arena) → Grows t (on_records (λ rs. merge rs ms) t).0
unfolding merge
merge_grows ms t = by_grows (length ms) ms t

-- One law for each way --------------------------------------------------------------------------------------------------------

pub merge_none : (ms : List ℕ) (σ : St) → length ms < 1 → Makes σ σ 0 (on_records (λ rs. merge rs ms))
unfolding merge merge_by on_records with_records
merge_none [] σ h = makes_none σ 0
merge_none (m ∷ ms) σ h = absurd (omega arith)

pub merge_one : (ms : List ℕ) (σ : St) → 1 ≤ length ms → length ms < 2 → Makes σ σ (get_or ms 0 0) (on_records (λ rs. merge rs ms))
unfolding merge merge_by on_records with_records
merge_one [] σ h k = absurd (omega arith)
merge_one (m ∷ []) σ h k = makes_none σ m
merge_one (m ∷ m' ∷ ms) σ h k = absurd (omega arith)

-- the right part, and the join with what the left part is named
after_left : List ℕ → ℕ → Arena → Arena × ℕ
after_left ms l t =
    on_records (λ rs. add rs (joining rs false l (on_records (λ rs. merge rs ms) t).1)) (on_records (λ rs. merge rs ms) t).0

after_grows : (ms : List ℕ) (l : ℕ) (t : Arena) → Grows t (after_left ms l t).0
unfolding after_left
after_grows ms l t =
    let u : Arena × ℕ = on_records (λ rs. merge rs ms) t in
    grows_trans t u.0 (after_left ms l t).0 (merge_grows ms t) (join_grows false l u.1 u.0)

whole : (ms : List ℕ) (t : Arena) → 2 ≤ length ms →
    after_left (drop (length ms / 2) ms) (on_records (λ rs. merge rs (take (length ms / 2) ms)) t).1 (on_records (λ rs. merge rs (take (length ms / 2) ms)) t).0 ≡
    on_records (λ rs. merge rs ms) t
unfolding after_left on_records with_records two
whole ms t h = ap (λ (a : List Record × ℕ). (with_records t a.0, a.1)) (sym (merge_two ms t.records h))

pub merge_done : (ms left right : List ℕ) (σ τ υ ω : St) (l r x : ℕ) → 2 ≤ length ms → left ≡ take (length ms / 2) ms → right ≡ drop (length ms / 2) ms →
    Makes σ τ l (on_records (λ rs. merge rs left)) → Makes τ υ r (on_records (λ rs. merge rs right)) →
    Makes υ ω x (on_records (λ rs. add rs (joining rs false l r))) → Makes σ ω x (on_records (λ rs. merge rs ms))
unfolding after_left
merge_done ms left right σ τ υ ω l r x h el er p q j =
    let both : Makes τ ω x (after_left right l)
    = makes_then τ υ ω r x (on_records (λ rs. merge rs right)) (λ (y : ℕ). on_records (λ rs. add rs (joining rs false l y))) (λ y t. join_grows false l y t) q j in
    makes_same σ ω x (λ t. after_left right (on_records (λ rs. merge rs left) t).1 (on_records (λ rs. merge rs left) t).0) (on_records (λ rs. merge rs ms)) (λ t. rw (el, er) (whole ms t h))
    (makes_then σ τ ω l x (on_records (λ rs. merge rs left)) (after_left right) (after_grows right) p both)

-- the room ended in the left part
pub merge_left_ended : (ms left right : List ℕ) (σ τ : St) (l x : ℕ) → 2 ≤ length ms → left ≡ take (length ms / 2) ms → right ≡ drop (length ms / 2) ms →
    Makes σ τ l (on_records (λ rs. merge rs left)) → (marks_of τ).full ≡ true → Makes σ τ x (on_records (λ rs. merge rs ms))
merge_left_ended ms left right σ τ l x h el er p k =
    merge_done ms left right σ τ τ τ l 0 x h el er p
    (makes_full τ τ 0 (on_records (λ rs. merge rs right)) k (stop τ (λ t. (on_records (λ rs. merge rs right) t).0) (merge_grows right) k))
    (makes_full τ τ x (on_records (λ rs. add rs (joining rs false l 0))) k (stop τ (λ t. (on_records (λ rs. add rs (joining rs false l 0)) t).0) (join_grows false l 0) k))

-- or in the right one
pub merge_right_ended : (ms left right : List ℕ) (σ τ υ : St) (l r x : ℕ) → 2 ≤ length ms → left ≡ take (length ms / 2) ms → right ≡ drop (length ms / 2) ms →
    Makes σ τ l (on_records (λ rs. merge rs left)) → Makes τ υ r (on_records (λ rs. merge rs right)) → (marks_of υ).full ≡ true →
    Makes σ υ x (on_records (λ rs. merge rs ms))
merge_right_ended ms left right σ τ υ l r x h el er p q k =
    merge_done ms left right σ τ υ υ l r x h el er p q
    (makes_full υ υ x (on_records (λ rs. add rs (joining rs false l r))) k (stop υ (λ t. (on_records (λ rs. add rs (joining rs false l r)) t).0) (join_grows false l r) k))
