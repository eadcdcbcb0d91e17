-- The walks over outputs, one record at a time.
use mathlib.Core.Path.{◌≡◌, refl, sym, ap, ap₂, ◌∙◌}
use mathlib.Core.Bool.{Bool, true, false, not, ◌&&◌, ◌||◌, false≢true}
use mathlib.Core.List.{List, [], ◌∷◌}
use Prim.Native.Nat.{ℕ, suc, ◌+◌, ◌≤◌, ◌<◌}
use native.Mathlib.Omega.{arith}
use lib.Dec.{eqb, leb}
use lib.ListN.{length, get_or, drop, drop_of_length-le}
use lib.Seq.{drop-cons}
use lib.IntN.{pos, nat_abs}
use borrow.Author.Tests.{le-leb, lt-leb}
use Rattle.std.specs.List.{list_all, range_with_len}
use Rattle.rules.specs.Lists.{any}
use Rattle.rules.specs.Records.{Node, Output, Entry, Record, node, output, waiting, unknown, outputs, word_literal}
use Rattle.rules.specs.WellFormed.{rise_from, same_output, all_differ, outputs_distinct}
use Rattle.laws.specs.Records.Words.{literal_word_literal}
use Rattle.records.specs.Readers.{is_output, output_node, output_value, output_number}
use Rattle.check_outputs.specs.Steps.{defines, defined_in, again_in}
use Rattle.check_arrays.proofs.Chains.{eqb_turned, range_along}

-- a record that is no output
module _ (r : Record) (other : is_output r ≡ false) where
  none : {A : Type 0} (g : Record → A) (x : A) → ((n : Node) → x ≡ g (node n)) → ((w : Entry) → x ≡ g (waiting w)) → x ≡ g unknown → x ≡ g r
  unfolding is_output
  none g x of_node of_entry of_none = go r other
    where
      go : (r : Record) → is_output r ≡ false → x ≡ g r
      go (node n) e = of_node n
      go (output o) e = absurd (false≢true (sym e))
      go (waiting w) e = of_entry w
      go unknown e = of_none

  pub again_other : (rs : List Record) → false ≡ again_in r rs
  unfolding again_in
  again_other rs = none (λ r. again_in r rs) false (λ m. refl) (λ w. refl) refl

-- output v of node n, by what the readers say of it
pub defines_by : (r : Record) (n v : ℕ) → ((is_output r && eqb (output_node r) n) && eqb (output_value r) v) ≡ defines r n v
unfolding is_output output_node output_value defines
defines_by (node m) n v = refl
defines_by (output o) n v = ap₂ (λ (a b : Bool). a && b) (eqb_turned o.node n) (eqb_turned o.value v)
defines_by (waiting w) n v = refl
defines_by unknown n v = refl

-- an output, by what the readers say of it
output_parts : (r : Record) → is_output r ≡ true →
    r ≡ output (record { node = output_node r; value = output_value r; number = nat_abs (word_literal (output_number r)) })
unfolding is_output output_node output_value output_number
output_parts (node n) e = absurd (false≢true e)
output_parts (output o) e =
    ap (λ (x : ℕ). output (record { node = o.node; value = o.value; number = x })) (sym (ap nat_abs (literal_word_literal (pos o.number))))
output_parts (waiting w) e = absurd (false≢true e)
output_parts unknown e = absurd (false≢true e)

module _ (r : Record) (is : is_output r ≡ true) where
  -- the number, as it is read
  module _ (w x : ℕ) (ew : w ≡ output_number r) (ex : x ≡ nat_abs (word_literal w)) where
    output_read : r ≡ output (record { node = output_node r; value = output_value r; number = x })
    output_read =
        output_parts r is ∙
        ap (λ (y : ℕ). output (record { node = output_node r; value = output_value r; number = y })) (sym (ex ∙ ap (λ (y : ℕ). nat_abs (word_literal y)) ew))

  module _ (m x : ℕ) (em : m ≡ output_node r) (ex : x ≡ output_value r) where
    pub again_output : (rs : List Record) → defined_in m x rs ≡ again_in r rs
    unfolding again_in
    again_output rs = ap₂ (λ (y z : ℕ). defined_in y z rs) em ex ∙ ap (λ (z : Record). again_in z rs) (sym (output_parts r is))

-- rising numbers
rise_other : (low : ℕ) (r : Record) (rs : List Record) → is_output r ≡ false → rise_from low (outputs (r ∷ rs)) ≡ rise_from low (outputs rs)
unfolding outputs is_output
rise_other low (node n) rs e = refl
rise_other low (output o) rs e = absurd (false≢true (sym e))
rise_other low (waiting w) rs e = refl
rise_other low unknown rs e = refl

rise_output : (low n v x : ℕ) (rs : List Record) →
    rise_from low (outputs (output (record { node = n; value = v; number = x }) ∷ rs)) ≡ (leb low x && rise_from (x + 1) (outputs rs))
unfolding rise_from outputs
rise_output low n v x rs =
    let up : suc x ≡ x + 1 = omega arith in
    ap (λ (j : ℕ). leb low x && rise_from j (outputs rs)) up

module _ (rs : List Record) (i low : ℕ) (z : Bool) (e : rise_from low (outputs (drop i rs)) ≡ z) where
  here : i < length rs → drop i rs ≡ get_or rs i unknown ∷ drop (i + 1) rs
  here h =
      let up : suc i ≡ i + 1 = omega arith in
      drop-cons rs i unknown h ∙ ap (λ (j : ℕ). get_or rs i unknown ∷ drop j rs) up

  pub rise_past : i < length rs → is_output (get_or rs i unknown) ≡ false → rise_from low (outputs (drop (i + 1) rs)) ≡ z
  rise_past h p =
      sym (ap (λ (t : List Record). rise_from low (outputs t)) (here h) ∙ rise_other low (get_or rs i unknown) (drop (i + 1) rs) p) ∙ e

  module _ (h : i < length rs) (is : is_output (get_or rs i unknown) ≡ true) (w x : ℕ) (ew : w ≡ output_number (get_or rs i unknown)) (ex : x ≡ nat_abs (word_literal w)) where
    rise_here : (leb low x && rise_from (x + 1) (outputs (drop (i + 1) rs))) ≡ z
    rise_here =
        sym (ap (λ (t : List Record). rise_from low (outputs t)) (here h ∙ ap (λ (r : Record). r ∷ drop (i + 1) rs) (output_read (get_or rs i unknown) is w x ew ex)) ∙
        rise_output low (output_node (get_or rs i unknown)) (output_value (get_or rs i unknown)) x (drop (i + 1) rs)) ∙ e

    pub rise_on : low ≤ x → rise_from (x + 1) (outputs (drop (i + 1) rs)) ≡ z
    rise_on p = ap (λ (b : Bool). b && rise_from (x + 1) (outputs (drop (i + 1) rs))) (sym (le-leb low x p)) ∙ rise_here

    pub rise_stop : x < low → false ≡ z
    rise_stop p = ap (λ (b : Bool). b && rise_from (x + 1) (outputs (drop (i + 1) rs))) (sym (lt-leb low x p)) ∙ rise_here

  pub rise_end : length rs ≤ i → true ≡ z
  unfolding rise_from outputs
  rise_end h = sym (ap (λ (t : List Record). rise_from low (outputs t)) (drop_of_length-le rs h)) ∙ e

-- no node and value twice
defined_any : (o : Output) (rs : List Record) → any (same_output o) (outputs rs) ≡ defined_in o.node o.value rs
unfolding any outputs same_output defined_in defines
defined_any o [] = refl
defined_any o (node n ∷ rs) = defined_any o rs
defined_any o (output p ∷ rs) = ap (λ (b : Bool). (eqb o.node p.node && eqb o.value p.value) || b) (defined_any o rs)
defined_any o (waiting e ∷ rs) = defined_any o rs
defined_any o (unknown ∷ rs) = defined_any o rs

distinct_first : (r : Record) (rs : List Record) → outputs_distinct (r ∷ rs) ≡ (not (again_in r rs) && outputs_distinct rs)
unfolding outputs_distinct all_differ outputs again_in
distinct_first (node n) rs = refl
distinct_first (output o) rs = ap (λ (b : Bool). not b && all_differ (outputs rs)) (defined_any o rs)
distinct_first (waiting e) rs = refl
distinct_first unknown rs = refl

pub distinct_is : (rs : List Record) (n : ℕ) → n ≡ length rs →
    list_all (λ i. not (again_in (get_or rs i unknown) (drop (i + 1) rs))) (range_with_len 0 n) ≡ outputs_distinct rs
unfolding outputs_distinct all_differ outputs
distinct_is rs n e = range_along outputs_distinct (λ r rs. not (again_in r rs)) distinct_first refl unknown rs n e
