-- The tests of buckets by kind, and along their list.
use mathlib.Core.Path.{◌≡◌, refl, sym, ap, ◌∙◌}
use mathlib.Core.Bool.{Bool, true, false, not, ◌&&◌}
use mathlib.Core.List.{List, [], ◌∷◌}
use Prim.Native.Nat.{ℕ, suc, ◌-◌}
use native.Mathlib.Omega.{arith}
use lib.Dec.{eqb}
use lib.ListN.{length, get_or}
use Rattle.std.proofs.Common.{None, Some}
use Rattle.std.specs.List.{list_all, slice_get}
use Rattle.std.proofs.lemmas.Option.{none-some, same_Some, slice_get-get_or}
use Rattle.rules.specs.Records.{Kind, leaf, join, dummy, Record, node_at, right_link}
use Rattle.rules.specs.WellFormed.{is_dummy, halved_to, ends_in, linked}
use Rattle.records.specs.Readers.{is_join, is_halved}
use Rattle.check_arrays.proofs.Slots.{pairs}

-- by kind
pub halved_by : (c : ℕ) (k : Kind) → (is_halved k && eqb (right_link k) c) ≡ halved_to c k
unfolding is_halved halved_to right_link
halved_by c (leaf y) = refl
halved_by c (join true l r) = refl
halved_by c (join false l r) = refl
halved_by c dummy = refl

module _ (rs : List Record) where
  pub ends_waiting : (k : Kind) → (is_halved k && is_dummy (node_at rs (right_link k)).kind) ≡ ends_in rs true k
  unfolding is_halved right_link ends_in
  ends_waiting (leaf y) = refl
  ends_waiting (join true l r) = refl
  ends_waiting (join false l r) = refl
  ends_waiting dummy = refl

  pub ends_idle : (k : Kind) → (is_join k && not (is_dummy (node_at rs (right_link k)).kind)) ≡ ends_in rs false k
  unfolding is_join right_link ends_in
  ends_idle (leaf y) = refl
  ends_idle (join half l r) = refl
  ends_idle dummy = refl

  -- the last of a list, if there is one
  pub last_in : Bool → List ℕ → Bool
  last_in wait [] = true
  last_in wait (b ∷ []) = ends_in rs wait (node_at rs b).kind
  last_in wait (b ∷ c ∷ bs) = last_in wait (c ∷ bs)

  -- of two neighbours, the first is linked, halved, to the second
  abbrev pub linked_pair : List ℕ → Bool
  linked_pair w = halved_to (get_or w 1 0) (node_at rs (get_or w 0 0)).kind

  pub linked_is : (wait : Bool) (bs : List ℕ) → (list_all linked_pair (pairs bs) && last_in wait bs) ≡ linked rs wait bs
  unfolding pairs last_in linked
  linked_is wait [] = refl
  linked_is wait (b ∷ []) = refl
  linked_is wait (b ∷ c ∷ bs) = grouped (halved_to c (node_at rs b).kind) (list_all linked_pair (pairs (c ∷ bs))) (last_in wait (c ∷ bs)) ∙ ap (λ (t : Bool). halved_to c (node_at rs b).kind && t) (linked_is wait (c ∷ bs))
    where
      grouped : (a b c : Bool) → ((a && b) && c) ≡ (a && (b && c))
      grouped true b c = refl
      grouped false b c = refl

  -- the last, as a slice's `last` finds it
  pub last_is : (wait : Bool) (bs : List ℕ) (n : ℕ) → Some n ≡ slice_get bs (length bs - 1) → ends_in rs wait (node_at rs n).kind ≡ last_in wait bs
  unfolding last_in
  last_is wait [] n e = absurd (none-some n (sym e))
  last_is wait (x ∷ []) n e = ap (λ (m : ℕ). ends_in rs wait (node_at rs m).kind) (same_Some n x e)
  last_is wait (x ∷ y ∷ ys) n e =
      let less : suc (suc (length ys)) - 1 ≡ suc (suc (length ys) - 1) = omega arith in
      last_is wait (y ∷ ys) n (e ∙ ap (slice_get (x ∷ y ∷ ys)) less)

  pub none_linked : (wait : Bool) (bs : List ℕ) → None ≡ slice_get bs (length bs - 1) → true ≡ linked rs wait bs
  unfolding linked
  none_linked wait [] e = refl
  none_linked wait (x ∷ xs) e = absurd (none-some _ (e ∙ slice_get-get_or (x ∷ xs) (suc (length xs) - 1) 0 (omega arith)))
