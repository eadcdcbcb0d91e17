-- Words copied: where they come from, what is kept, and the loop that copies them.
use mathlib.Core.Path.{◌≡◌, sym, ap, ap₂, ◌∙◌}
use mathlib.Core.List.{List, ◌++◌, append_assoc}
use Prim.Native.Nat.{ℕ, suc, ◌+◌, ◌-◌, ◌≤◌, ◌<◌}
use native.Mathlib.Omega.{arith}
use lib.ListN.{length, get_or, set, take, drop, length-append, length-drop, get_or-append}
use lib.Seq.{paste, paste-zero, paste-suc, get_or-take, get_or-drop, get_or-append-add, length-take-le, ext_get_or}
use Rattle.encode_undo.specs.Copies.{copied}

-- two lists that agree on their first n words have the same front
pub front_same : (s o : List ℕ) (n : ℕ) → length s ≡ length o → n ≤ length o → ((i : ℕ) → i < n → get_or s i 0 ≡ get_or o i 0) → take n s ≡ take n o
front_same s o n long h same =
    let a : length (take n s) ≡ n = length-take-le n s (omega arith) in
    ext_get_or 0 (take n s) (take n o) (a ∙ sym (length-take-le n o h))
    (λ i k. get_or-take n s i 0 (omega arith) ∙ (same i (omega arith) ∙ sym (get_or-take n o i 0 (omega arith))))

module _ (from : List ℕ) (a : ℕ) (to : List ℕ) (b n : ℕ) (in-from : a + n ≤ length from) (in-to : b + n ≤ length to) where
  part : length (take n (drop a from)) ≡ n
  part = length-take-le n (drop a from) (omega (arith, length-drop a from))

  head : length (take b to) ≡ b
  head = length-take-le b to (omega arith)

  pub copied_length : length (copied from a to b n) ≡ length to
  unfolding copied
  copied_length =
      omega (
        arith,
        head,
        part,
        length-append (take b to) (take n (drop a from) ++ drop (b + n) to),
        length-append (take n (drop a from)) (drop (b + n) to),
        length-drop (b + n) to,
      )

  pub copied_in : (j : ℕ) → j < n → get_or (copied from a to b n) (b + j) 0 ≡ get_or from (a + j) 0
  unfolding copied
  copied_in j h =
      let at : b + j ≡ length (take b to) + j = omega (arith, head) in
      ap (λ (k : ℕ). get_or (take b to ++ (take n (drop a from) ++ drop (b + n) to)) k 0) at ∙
      (get_or-append-add (take b to) (take n (drop a from) ++ drop (b + n) to) j 0 ∙
      (get_or-append (take n (drop a from)) (drop (b + n) to) 0 j (omega (arith, part)) ∙
      (get_or-take n (drop a from) j 0 h ∙ get_or-drop a from j 0)))

  pub copied_below : (k : ℕ) → k < b → get_or (copied from a to b n) k 0 ≡ get_or to k 0
  unfolding copied
  copied_below k h =
      get_or-append (take b to) (take n (drop a from) ++ drop (b + n) to) 0 k (omega (arith, head)) ∙ get_or-take b to k 0 h

  pub copied_above : (k : ℕ) → b + n ≤ k → get_or (copied from a to b n) k 0 ≡ get_or to k 0
  unfolding copied
  copied_above k h =
      let j : ℕ = k - (b + n) in
      let at : k ≡ length (take b to) + (length (take n (drop a from)) + j) = omega (arith, head, part) in
      let back : b + n + j ≡ k = omega arith in
      ap (λ (i : ℕ). get_or (take b to ++ (take n (drop a from) ++ drop (b + n) to)) i 0) at ∙
      (get_or-append-add (take b to) (take n (drop a from) ++ drop (b + n) to) (length (take n (drop a from)) + j) 0 ∙
      (get_or-append-add (take n (drop a from)) (drop (b + n) to) j 0 ∙
      (get_or-drop (b + n) to j 0 ∙ ap (λ (i : ℕ). get_or to i 0) back)))

-- The loop -----------------------------------------------------------------------------------------------------------------------

copied_paste : (from : List ℕ) (a : ℕ) (to : List ℕ) (b n : ℕ) → copied from a to b n ≡ paste to b (drop a from) n
unfolding copied
copied_paste from a to b n = sym (append_assoc (take b to) (take n (drop a from)) (drop (b + n) to))

pub copy_start : (from : List ℕ) (a : ℕ) (to : List ℕ) (b : ℕ) → to ≡ copied from a to b 0
copy_start from a to b = paste-zero to b (drop a from) ∙ sym (copied_paste from a to b 0)

pub copy_turn : (from : List ℕ) (a : ℕ) (to : List ℕ) (b n i x : ℕ) (t u : List ℕ) → a + n ≤ length from → b + n ≤ length to → i < n →
    t ≡ copied from a to b i → x ≡ get_or from (a + i) 0 → u ≡ set t (b + i) x → u ≡ copied from a to b (i + 1)
copy_turn from a to b n i x t u in-from in-to low e ex eu =
    let up : suc i ≡ i + 1 = omega arith in
    eu ∙
    (ap₂ (λ (z : List ℕ) (y : ℕ). set z (b + i) y) (e ∙ copied_paste from a to b i) (ex ∙ sym (get_or-drop a from i 0)) ∙
    (paste-suc to b (drop a from) i 0 (omega arith) (omega (arith, length-drop a from)) ∙
    (sym (copied_paste from a to b (suc i)) ∙ ap (copied from a to b) up)))

pub copy_end : (from : List ℕ) (a : ℕ) (to : List ℕ) (b n i : ℕ) (t : List ℕ) → i ≤ n → n ≤ i → t ≡ copied from a to b i → t ≡ copied from a to b n
copy_end from a to b n i t h k e = let same : n ≡ i = omega arith in rw same e
