-- What is set aside is what stands, and what is put back is what stood.
use mathlib.Core.Path.{◌≡◌, refl, sym, ap, ap₂, ◌∙◌}
use mathlib.Core.List.{List, ◌++◌}
use Prim.Native.Nat.{ℕ, zero, suc, ◌+◌, ◌*◌, ◌-◌, ◌/◌, ◌≤◌, ◌<◌}
use native.Mathlib.Omega.{arith}
use lib.ListN.{length, get_or, take, drop, length-drop, take-append-drop}
use lib.Seq.{length-take-le, take_at, take-append-add, take-take}
use Rattle.rules.specs.declared.State.{State}
use Rattle.rules.specs.Build.{buckets_of}
use Rattle.laws.specs.Lists.Facts.{occurs}
use Rattle.laws.specs.Records.Images.{drop_take}
use Rattle.encode_undo.specs.Copies.{copied, Saves, Restores}
use Rattle.encode_undo.proofs.Copying.{front_same, copied_length}
use Rattle.encode_undo.proofs.Saving.{saved_slots, restores_slots}
use Rattle.encode_undo.specs.Aside.{Roomy, Aside, Kept}

-- words copied to the front
front_copied : (from to : List ℕ) (a k : ℕ) → a + k ≤ length from → take k (copied from a to 0 k) ≡ take k (drop a from)
unfolding copied
front_copied from to a k h =
    take_at (take k (drop a from)) (drop (0 + k) to) k (length-take-le k (drop a from) (omega (arith, length-drop a from)))

pub aside : (s : State) (o w v u : List ℕ) (n : ℕ) → Roomy s o w n → v ≡ copied o (8 * n) w 0 (8 * (s.records - n)) → s.buckets_used ≤ length s.buckets →
    Saves o v u (buckets_of s) (length (buckets_of s)) → Aside s o u n × (length u ≡ length w)
unfolding buckets_of
aside s o w v u n room e few saves =
    let k : ℕ = 8 * (s.records - n) in
    let lv : length v ≡ length w = ap length e ∙ copied_length o (8 * n) w 0 k (omega arith) (omega arith) in
    let lu : length u ≡ length w = saves.same_length ∙ lv in (
      record {
        long = omega arith;
        words = front_same u v k saves.same_length (omega arith) (λ i h. saves.below i (omega arith)) ∙
            (ap (take k) e ∙ front_copied o w (8 * n) k (omega arith));
        saved = saved_slots o u s.buckets s.buckets_used few saves.saved;
      },
      lu,
    )

pub back : (s : State) (x v y work : List ℕ) (n : ℕ) → Roomy s x work n → s.buckets_used ≤ length s.buckets →
    Restores x v work (buckets_of s) (length (buckets_of s)) →
    y ≡ copied work 0 v (8 * n) (8 * (s.records - n)) → (o : List ℕ) → Aside s o work n → Kept s o x n → take (8 * s.records) y ≡ take (8 * s.records) o
unfolding copied buckets_of
back s x v y work n room few slots e o a but =
    let k : ℕ = 8 * (s.records - n) in
    let sum : 8 * s.records ≡ 8 * n + k = omega arith in
    let lv : length v ≡ length o = rest.same_length ∙ but.same_length in
    let front : take (8 * n) v ≡ take (8 * n) o = front_same v o (8 * n) lv (omega arith) (λ i h. word i h (occurs (i / 8) (take s.buckets_used s.buckets)) refl) in
    let ln : length (take (8 * n) v) ≡ 8 * n = length-take-le (8 * n) v (omega arith) in
    let lk : length (take k work) ≡ k = length-take-le k work (omega arith) in
    let whole : take (8 * s.records) y ≡ take (8 * n) v ++ take k work =
    ap₂ (λ (m : ℕ) (z : List ℕ). take m z) (sum ∙ ap (λ (m : ℕ). m + k) (sym ln)) e ∙
    (take-append-add (take (8 * n) v) (take k work ++ drop (8 * n + k) v) k ∙ ap (λ (z : List ℕ). take (8 * n) v ++ z) (take_at (take k work) (drop (8 * n + k) v) k lk)) in
    let old : take (8 * s.records) o ≡ take (8 * n) o ++ take k (drop (8 * n) o) =
    ap (λ (m : ℕ). take m o) sum ∙ (sym (take-append-drop (8 * n) (take (8 * n + k) o)) ∙
    ap₂ (λ (p q : List ℕ). p ++ q) (take-take (8 * n) (8 * n + k) o (omega arith)) (drop_take (8 * n) k o)) in
    whole ∙ (ap₂ (λ (p q : List ℕ). p ++ q) front a.words ∙ sym old)
  where
    rest : Restores x v work s.buckets s.buckets_used
    rest = restores_slots x v work s.buckets s.buckets_used few slots

    word : (i : ℕ) → i < 8 * n → (c : ℕ) → occurs (i / 8) (take s.buckets_used s.buckets) ≡ c → get_or v i 0 ≡ get_or o i 0
    word i h zero p = rest.others i p ∙ but.others i h p
    word i h (suc c) p = rest.back o a.saved i (omega arith)
