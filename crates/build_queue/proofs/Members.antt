-- Members in the work words: where they stand, and what putting one behind its bucket leaves.
use mathlib.Core.Path.{◌≡◌, refl, sym, ap, ap₂, ◌∙◌}
use mathlib.Core.Logic.{◌≢◌, ◌⊎◌, inl, inr}
use mathlib.Core.List.{List, [], ◌∷◌, ◌++◌}
use Prim.Native.Nat.{ℕ, zero, suc, ◌+◌, ◌*◌, ◌-◌, ◌^◌, ◌≤◌, ◌<◌}
use native.Mathlib.Omega.{arith}
use lib.ListN.{length, get_or, set, take, drop, replicate, length-take, length-drop, length-set}
use lib.Seq.{get_or-drop, drop-drop, get_or-set_same, get_or-set_other, drop-set-lt, drop-set-add, take-set-le, take-suc-set}
use Rattle.records_words.specs.Words.{word_at, put_word}
use Rattle.records.proofs.Grow.{le_or}
use Rattle.build_line.specs.Work.{line, count_at, members_at, members_from}
use Rattle.build_line.proofs.Lines.{line_same}
use Rattle.build_queue.specs.Queued.{put_member, Kept}

pub members_length : (ws : List ℕ) (k n : ℕ) → length (members_from ws k n) ≡ n
unfolding members_from
members_length ws k zero = refl
members_length ws k (suc n) = ap suc (members_length ws (suc k) n)

pub members_get : (ws : List ℕ) (k n i : ℕ) → i < n → get_or (members_from ws k n) i [] ≡ members_at ws (k + i)
unfolding members_from
members_get ws k zero i h = absurd (omega arith)
members_get ws k (suc n) zero h = let e : k ≡ k + 0 = omega arith in ap (members_at ws) e
members_get ws k (suc n) (suc i) h =
    let e : suc k + i ≡ k + suc i = omega arith in
    members_get ws (suc k) n i (omega arith) ∙ ap (members_at ws) e

pub members_same : (ws vs : List ℕ) (k n : ℕ) → ((i : ℕ) → k ≤ i → i < k + n → members_at ws i ≡ members_at vs i) → members_from ws k n ≡ members_from vs k n
unfolding members_from
members_same ws vs k zero s = refl
members_same ws vs k (suc n) s =
    ap₂ (λ (a : List ℕ) (b : List (List ℕ)). a ∷ b) (s k (omega arith) (omega arith)) (members_same ws vs (suc k) n (λ i p q. s i (omega arith) (omega arith)))

-- buckets without members
pub members_empty : (ws : List ℕ) (k n : ℕ) → ((i : ℕ) → k ≤ i → i < k + n → count_at ws i ≡ 0) → members_from ws k n ≡ replicate n []
unfolding members_from members_at
members_empty ws k zero none = refl
members_empty ws k (suc n) none =
    ap₂ (λ (a : List ℕ) (b : List (List ℕ)). a ∷ b)
    (ap (λ (c : ℕ). take c (drop (3072 + 512 * k) ws)) (none k (omega arith) (omega arith)))
    (members_empty ws (suc k) n (λ i p q. none i (omega arith) (omega arith)))

-- one bucket changes
members_set : (ws vs : List ℕ) (k n i : ℕ) (x : List ℕ) → i < n → members_at ws (k + i) ≡ x →
    ((j : ℕ) → k ≤ j → j < k + n → j ≢ k + i → members_at ws j ≡ members_at vs j) → members_from ws k n ≡ set (members_from vs k n) i x
unfolding members_from
members_set ws vs k zero i x h p s = absurd (omega arith)
members_set ws vs k (suc n) zero x h p s =
    let e : k ≡ k + 0 = omega arith in
    ap₂ (λ (a : List ℕ) (b : List (List ℕ)). a ∷ b) (ap (members_at ws) e ∙ p)
    (members_same ws vs (suc k) n (λ j q r. s j (omega arith) (omega arith) (omega arith)))
members_set ws vs k (suc n) (suc i) x h p s =
    let e : suc k + i ≡ k + suc i = omega arith in
    ap₂ (λ (a : List ℕ) (b : List (List ℕ)). a ∷ b) (s k (omega arith) (omega arith) (omega arith))
    (members_set ws vs (suc k) n i x (omega arith) (ap (members_at ws) e ∙ p) (λ j q r t. s j (omega arith) (omega arith) (omega (arith, e))))

-- members stand from 1024 on
pub counts_beyond : (ws vs : List ℕ) (k : ℕ) → drop 1024 ws ≡ drop 1024 vs → count_at ws k ≡ count_at vs k
unfolding count_at
counts_beyond ws vs k e =
    let a : 2048 + k ≡ 1024 + (1024 + k) = omega arith in
    ap (λ (i : ℕ). get_or ws i 0) a ∙
    (sym (get_or-drop 1024 ws (1024 + k) 0) ∙
    (ap (λ (l : List ℕ). get_or l (1024 + k) 0) e ∙ (get_or-drop 1024 vs (1024 + k) 0 ∙ ap (λ (i : ℕ). get_or vs i 0) (sym a))))

pub members_beyond : (ws vs : List ℕ) (k n : ℕ) → drop 1024 ws ≡ drop 1024 vs → members_from ws k n ≡ members_from vs k n
unfolding members_at
members_beyond ws vs k n e = members_same ws vs k n (λ i p q. let a : 3072 + 512 * i ≡ 1024 + (2048 + 512 * i) = omega arith in
    ap₂ take (counts_beyond ws vs i e)
    (ap (λ (j : ℕ). drop j ws) a ∙
    (sym (drop-drop (2048 + 512 * i) 1024 ws) ∙
    (ap (drop (2048 + 512 * i)) e ∙ (drop-drop (2048 + 512 * i) 1024 vs ∙ ap (λ (j : ℕ). drop j vs) (sym a))))))

-- a count is small where its members are few
pub count_few : (ws : List ℕ) (k : ℕ) → k < 20 → 13312 ≤ length ws → length (members_at ws k) ≤ 256 → count_at ws k ≤ 256
unfolding members_at
count_few ws k h p q =
    omega (arith, length-take (count_at ws k) (drop (3072 + 512 * k) ws), length-drop (3072 + 512 * k) ws)

-- the counts of powers that no weight reaches are kept
pub kept_count : (b : ℕ) (vs ws : List ℕ) (n k : ℕ) → Kept b vs ws → b < 2 ^ n → n ≤ k → k < 1024 → count_at ws k ≡ count_at vs k
unfolding count_at
kept_count b vs ws n k h p q r = h.words n (2048 + k) p (omega arith) (omega arith) (λ i. omega arith)

-- A member put behind its bucket -------------------------------------------------------------------------------------------

-- a word set apart from a part leaves it
part_set : (ws : List ℕ) (i x a n : ℕ) → (i < a) ⊎ (a + n ≤ i) → take n (drop a (set ws i x)) ≡ take n (drop a ws)
part_set ws i x a n (inl h) = ap (take n) (drop-set-lt a ws i x h)
part_set ws i x a n (inr h) =
    let e : i ≡ a + (i - a) = omega arith in
    ap (λ (j : ℕ). take n (drop a (set ws j x))) e ∙
    (ap (take n) (drop-set-add a ws (i - a) x) ∙ take-set-le n (drop a ws) (i - a) x (omega arith))

-- written word by word
pub member_put : (ws xs ys : List ℕ) (k c n : ℕ) → c ≡ word_at ws (2048 + k) → xs ≡ put_word ws (3072 + 512 * k + c) n → ys ≡ put_word xs (2048 + k) (c + 1) →
    ys ≡ put_member ws k n
unfolding word_at put_word put_member count_at
member_put ws xs ys k c n p q r =
    r ∙ (ap (λ (l : List ℕ). set l (2048 + k) (c + 1)) q ∙ ap (λ (c : ℕ). set (set ws (3072 + 512 * k + c) n) (2048 + k) (c + 1)) p)

pub count_fits : (ws : List ℕ) (k c : ℕ) → c ≡ word_at ws (2048 + k) → count_at ws k < 512 → c + 1 < 4294967296
unfolding word_at count_at
count_fits ws k c e h = omega arith

module _ (ws : List ℕ) (k m : ℕ) (inside : k < 20) (long : 13312 ≤ length ws) (few : (i : ℕ) → i < 20 → count_at ws i < 512) where
  pub put_long : length (put_member ws k m) ≡ length ws
  unfolding put_member
  put_long = length-set (set ws (3072 + 512 * k + count_at ws k) m) (2048 + k) (count_at ws k + 1) ∙ length-set ws (3072 + 512 * k + count_at ws k) m

  pub put_word_other : (i : ℕ) → i < 3072 → i ≢ 2048 + k → get_or (put_member ws k m) i 0 ≡ get_or ws i 0
  unfolding put_member
  put_word_other i h ne =
      get_or-set_other (set ws (3072 + 512 * k + count_at ws k) m) (2048 + k) i (count_at ws k + 1) 0 ne ∙
      get_or-set_other ws (3072 + 512 * k + count_at ws k) i m 0 (omega arith)

  put_count : count_at (put_member ws k m) k ≡ count_at ws k + 1
  unfolding count_at put_member
  put_count = get_or-set_same (set ws (3072 + 512 * k + count_at ws k) m) (2048 + k) (count_at ws k + 1) 0 (omega (arith, length-set ws (3072 + 512 * k + count_at ws k) m))

  -- the line is kept
  pub put_line : (h : ℕ) → line (put_member ws k m) h ≡ line ws h
  unfolding line
  put_line h = line_same (put_member ws k m) ws h (512 - h)
      (λ i p q. (put_word_other i (omega arith) (omega arith), put_word_other (512 + i) (omega arith) (omega arith)))

  put_here : members_at (put_member ws k m) k ≡ members_at ws k ++ (m ∷ [])
  unfolding members_at put_member
  put_here =
      let a : ℕ = 3072 + 512 * k in
      let c : ℕ = count_at ws k in
      let s : c + 1 ≡ suc c = omega arith in
      let few_here : c < 512 = few k inside in
      ap (λ (n : ℕ). take n (drop a (put_member ws k m))) (put_count ∙ s) ∙
      (ap (take (suc c)) (drop-set-lt a (set ws (a + c) m) (2048 + k) (c + 1) (omega arith) ∙ drop-set-add a ws c m) ∙
      take-suc-set (drop a ws) c m (omega (arith, length-drop a ws)))

  put_there : (j : ℕ) → j < 20 → j ≢ k → members_at (put_member ws k m) j ≡ members_at ws j
  unfolding members_at count_at put_member
  put_there j h ne =
      let c : ℕ = count_at ws k in
      let few_here : c < 512 = few k inside in
      let few_there : count_at ws j < 512 = few j h in
      ap (λ (n : ℕ). take n (drop (3072 + 512 * j) (put_member ws k m))) (put_word_other (2048 + j) (omega arith) (omega arith)) ∙
      (part_set (set ws (3072 + 512 * k + c) m) (2048 + k) (c + 1) (3072 + 512 * j) (count_at ws j) (inl (omega arith)) ∙
      part_set ws (3072 + 512 * k + c) m (3072 + 512 * j) (count_at ws j) (apart c (count_at ws j) few_here few_there))
    where
      apart : (c d : ℕ) → c < 512 → d < 512 → (3072 + 512 * k + c < 3072 + 512 * j) ⊎ (3072 + 512 * j + d ≤ 3072 + 512 * k + c)
      apart c d p q = either (le_or (suc k) j)
        where
          either : (suc k ≤ j) ⊎ (suc k ≤ j → ⊥) → (3072 + 512 * k + c < 3072 + 512 * j) ⊎ (3072 + 512 * j + d ≤ 3072 + 512 * k + c)
          either (inl a) = inl (omega arith)
          either (inr a) = inr (omega arith)

  -- the members with one more
  pub put_members : (n : ℕ) → k < n → n ≤ 20 → members_from (put_member ws k m) 0 n ≡ set (members_from ws 0 n) k (get_or (members_from ws 0 n) k [] ++ (m ∷ []))
  put_members n h p =
      let z : 0 + k ≡ k = omega arith in
      members_set (put_member ws k m) ws 0 n k (get_or (members_from ws 0 n) k [] ++ (m ∷ [])) h
      (ap (members_at (put_member ws k m)) z ∙
      (put_here ∙ ap (λ (l : List ℕ). l ++ (m ∷ [])) (sym (members_get ws 0 n k h ∙ ap (members_at ws) z))))
      (λ j a b ne. put_there j (omega arith) (omega arith))
