-- What fits, by the room that refusal 7 speaks of; and records read from 32-bit words have maxima and heights that fit a word.
use mathlib.Core.Path.{◌≡◌, refl, sym, ap, subst}
use mathlib.Core.Bool.{Bool, true, false, cond}
use mathlib.Core.List.{List, [], ◌∷◌}
use Prim.Native.Nat.{ℕ, zero, suc, ◌+◌, ◌<◌, ◌≤◌}
use native.Mathlib.Omega.{arith}
use lib.ListN.{length, get_or, take, drop}
use lib.Seq.{get_or-drop}
use Rattle.rules.specs.Lists.{same}
use Rattle.rules.specs.Numbers.{capacity}
use Rattle.rules.specs.Totalizer.{Arena}
use Rattle.rules.specs.Records.{Node, Record, unknown, node_of, node_at, dummy_node, record_image, reading, record_of, records_of}
use Rattle.laws.specs.Records.Words.{same_true}
use Rattle.laws.specs.Records.Places.{place, node_at_none}
use Rattle.laws.specs.WellFormed.Plain.{Sound}
use Rattle.laws.specs.Totalizer.Heights.{heights_below}
use Rattle.records.specs.Carries.{St, store_of, buffer_of, written, size, peak, Fits}
use Rattle.records.proofs.Read.{size_words}

-- an arena within the capacity, the buffer and the numbers fits, where its maxima and heights fit a word
pub room_fits : (e : St) (t : Arena) → length t.records ≤ capacity (store_of e) → length (written e t) ≤ length (buffer_of e) → t.fresh ≤ 1000000001 →
    peak t.records < 4294967296 → Fits e t
unfolding capacity
room_fits e t a b c d = record { records_fit = omega arith; words_fit = b; fresh_fit = c; places_fit = omega arith; sizes_fit = d }

-- and what fits lies within the capacity
pub fits_room : (e : St) (t : Arena) → Fits e t → length t.records ≤ capacity (store_of e)
unfolding capacity
fits_room e t f = omega (arith, f.records_fit, f.places_fit)

-- every word is a 32-bit word
abbrev pub Words : List ℕ → Type 0
Words s = (i : ℕ) → get_or s i 0 < 4294967296

record_small : (ws : List ℕ) → Words ws → size (record_of ws) < 4294967296
unfolding record_of size node_of dummy_node
record_small ws h = go (same (record_image r) ws) refl
  where
    r : Record
    r = reading (get_or ws 0 0) (get_or ws 1 0) (get_or ws 2 0) (get_or ws 3 0) (get_or ws 4 0) (get_or ws 5 0)

    go : (b : Bool) → same (record_image r) ws ≡ b → size (cond b r unknown) < 4294967296
    go true e = omega (arith, size_words r ws (same_true (record_image r) ws e), h 4, h 5)
    go false e = omega arith

front_words : (s : List ℕ) (n : ℕ) → Words s → Words (take n s)
front_words s zero h i = omega arith
front_words [] (suc n) h i = omega arith
front_words (x ∷ s) (suc n) h zero = h 0
front_words (x ∷ s) (suc n) h (suc i) = front_words s n (λ j. h (suc j)) i

rest_words : (s : List ℕ) (n : ℕ) → Words s → Words (drop n s)
rest_words s n h i = subst (λ (x : ℕ). x < 4294967296) (sym (get_or-drop n s i 0)) (h (n + i))

-- what is read from words is small
pub peak_words : (s : List ℕ) (n : ℕ) → Words s → peak (records_of s n) < 4294967296
unfolding records_of peak
peak_words s zero h = omega arith
peak_words s (suc n) h =
    omega (arith, record_small (take 8 s) (front_words s 8 h), peak_words (drop 8 s) n (rest_words s 8 h))

peak_each : (rs : List Record) (k : ℕ) → ((n : ℕ) → size (get_or rs n unknown) ≤ k) → peak rs ≤ k
unfolding peak
peak_each [] k h = omega arith
peak_each (r ∷ rs) k h = omega (arith, h 0, peak_each rs k (λ n. h (suc n)))

-- nodes that go by rule are small, as many as have a place
pub peak_sound : (rs : List Record) → Sound (node_at rs) (place rs) → length rs ≤ 4294967296 → peak rs < 4294967296
unfolding size node_at dummy_node
peak_sound rs sound few = let most : peak rs ≤ 4294967295 = peak_each rs 4294967295 (λ n. go n (place rs n) refl) in omega arith
  where
    go : (n : ℕ) (b : Bool) → place rs n ≡ b → size (get_or rs n unknown) ≤ 4294967295
    go n true p = omega (arith, (sound n).within, heights_below rs sound n p)
    go n false p =
        let none : node_at rs n ≡ dummy_node = node_at_none rs n p in
        omega (arith, ap (λ (x : Node). x.maximum) none, ap (λ (x : Node). x.height) none)
