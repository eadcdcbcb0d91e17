-- The waiting entries' costs, one record at a time.
use mathlib.Core.Path.{◌≡◌, refl, sym, ap, ap₂, ◌∙◌}
use mathlib.Core.Bool.{Bool, true, false, cond, false≢true}
use mathlib.Core.List.{List, ◌∷◌}
use Prim.Native.Nat.{ℕ, suc, ◌+◌, ◌-◌, ◌≤◌, ◌<◌}
use native.Mathlib.Omega.{arith}
use lib.Dec.{ltb}
use lib.ListN.{length, get_or, drop, drop_of_length-le}
use lib.Seq.{drop-cons}
use borrow.Author.Tests.{lt-ltb, le-ltb, ltb-true, ltb-false}
use Rattle.std.proofs.Common.{Option, None, Some}
use Rattle.rules.specs.Lists.{total}
use Rattle.rules.specs.Records.{Record, node, output, waiting, unknown, node_at, entries, waits}
use Rattle.records.specs.Readers.{entry_node, entry_weight}
use Rattle.check_outputs.specs.declared.Cost.{Cost}
use Rattle.check_outputs.specs.declared.Cost.TheVariants.{Count, Maximum, Weight}
use Rattle.check_outputs.specs.Steps.{cost, record_cost, total_cost, spent}

-- what is no waiting entry costs nothing
pub cost_other : (rs : List Record) (r : Record) (what : Cost) → waits r ≡ false → 0 ≡ record_cost rs what r
unfolding record_cost waits
cost_other rs (node n) what e = refl
cost_other rs (output o) what e = refl
cost_other rs (waiting w) what e = absurd (false≢true (sym e))
cost_other rs unknown what e = refl

-- a waiting entry, by what the readers say of it
entry_parts : (r : Record) → waits r ≡ true → r ≡ waiting (record { node = entry_node r; weight = entry_weight r })
unfolding waits entry_node entry_weight
entry_parts (node n) e = absurd (false≢true e)
entry_parts (output o) e = absurd (false≢true e)
entry_parts (waiting w) e = refl
entry_parts unknown e = absurd (false≢true e)

module _ (rs : List Record) (r : Record) (what : Cost) (is : waits r ≡ true) where
  costs : cost rs what (record { node = entry_node r; weight = entry_weight r }) ≡ record_cost rs what r
  unfolding record_cost
  costs = ap (record_cost rs what) (sym (entry_parts r is))

  pub cost_count : what ≡ Count → 1 ≡ record_cost rs what r
  unfolding cost
  cost_count q = ap (λ (w : Cost). cost rs w (record { node = entry_node r; weight = entry_weight r })) (sym q) ∙ costs

  pub cost_maximum : what ≡ Maximum → (n x : ℕ) → n ≡ entry_node r → x ≡ (node_at rs n).maximum → x ≡ record_cost rs what r
  unfolding cost
  cost_maximum q n x en ex =
      ex ∙ (ap (λ (m : ℕ). (node_at rs m).maximum) en ∙
      (ap (λ (w : Cost). cost rs w (record { node = entry_node r; weight = entry_weight r })) (sym q) ∙ costs))

  pub cost_weight : what ≡ Weight → (x : ℕ) → x ≡ entry_weight r → x ≡ record_cost rs what r
  unfolding cost
  cost_weight q x ex = ex ∙ (ap (λ (w : Cost). cost rs w (record { node = entry_node r; weight = entry_weight r })) (sym q) ∙ costs)

-- budgets
module _ (left x t : ℕ) where
  spent_on : x ≤ left → spent left (x + t) ≡ spent (left - x) t
  unfolding spent
  spent_on h =
      let d : left - (x + t) ≡ left - x - t = omega arith in
      ap₂ (λ (o : Bool) (l : ℕ). cond o None (Some l)) {y = ltb (left - x) t} (go (ltb (left - x) t) refl) d
    where
      go : (b : Bool) → ltb (left - x) t ≡ b → ltb left (x + t) ≡ b
      go true e = lt-ltb left (x + t) (omega (arith, ltb-true (left - x) t e))
      go false e = le-ltb left (x + t) (omega (arith, ltb-false (left - x) t e))

  spent_over : left < x → None ≡ spent left (x + t)
  unfolding spent
  spent_over h = ap (λ (o : Bool). cond o None (Some (left - (x + t)))) (sym (lt-ltb left (x + t) (omega arith)))

module _ (rs : List Record) (what : Cost) where
  cost_first : (r : Record) (part : List Record) → total_cost rs what (r ∷ part) ≡ record_cost rs what r + total_cost rs what part
  unfolding total_cost record_cost total entries
  cost_first (node n) part = omega arith
  cost_first (output o) part = omega arith
  cost_first (waiting e) part = refl
  cost_first unknown part = omega arith

  module _ (i left : ℕ) (z : Option ℕ) (e : spent left (total_cost rs what (drop i rs)) ≡ z) where
    cost_here : i < length rs → total_cost rs what (drop i rs) ≡ record_cost rs what (get_or rs i unknown) + total_cost rs what (drop (i + 1) rs)
    cost_here h =
        let up : suc i ≡ i + 1 = omega arith in
        ap (total_cost rs what) (drop-cons rs i unknown h) ∙
        (cost_first (get_or rs i unknown) (drop (suc i) rs) ∙ ap (λ (j : ℕ). record_cost rs what (get_or rs i unknown) + total_cost rs what (drop j rs)) up)

    pub budget_on : i < length rs → (x : ℕ) → x ≡ record_cost rs what (get_or rs i unknown) → (y : ℕ) → (x ≤ left) × (y ≡ left - x) →
        spent y (total_cost rs what (drop (i + 1) rs)) ≡ z
    budget_on h x ex y k =
        ap (λ (w : ℕ). spent w (total_cost rs what (drop (i + 1) rs))) k.1 ∙
        (sym (spent_on left x (total_cost rs what (drop (i + 1) rs)) k.0) ∙
        (ap (spent left) (ap (λ (w : ℕ). w + total_cost rs what (drop (i + 1) rs)) ex ∙ sym (cost_here h)) ∙ e))

    pub budget_over : i < length rs → (x : ℕ) → x ≡ record_cost rs what (get_or rs i unknown) → left < x → None ≡ z
    budget_over h x ex k =
        spent_over left x (total_cost rs what (drop (i + 1) rs)) k ∙
        (ap (spent left) (ap (λ (y : ℕ). y + total_cost rs what (drop (i + 1) rs)) ex ∙ sym (cost_here h)) ∙ e)

    pub budget_end : length rs ≤ i → Some left ≡ z
    unfolding spent total_cost total entries
    budget_end h =
        let d : left ≡ left - 0 = omega arith in
        ap₂ (λ (o : Bool) (l : ℕ). cond o None (Some l)) (sym (le-ltb left 0 (omega arith))) d ∙
        (ap (λ (p : List Record). spent left (total_cost rs what p)) (sym (drop_of_length-le rs h)) ∙ e)
