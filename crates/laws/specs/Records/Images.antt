-- Records and their words under append, patch and truncation; a list padded to a length.
use Rattle.std.specs.Prelude.{◌≡◌, refl, List, [], ◌∷◌, ◌++◌, ℕ, zero, suc, ◌+◌, ◌*◌, ◌-◌, ◌≤◌, ◌<◌, length, set, take, drop, replicate}
use Rattle.std.proofs.Common.{sym, ◌∙◌, ap, ap₂, append-nil, append_assoc, arith, length-append, take-take, drop-drop}
use Rattle.std.proofs.lemmas.List.{length-replicate, set_split}
use Rattle.std.proofs.Math.Seq.{take-nil, drop-nil, take-append-add, drop-append-add, take-append_seam}
use Rattle.rules.specs.Lists.{padded}
use Rattle.rules.specs.Numbers.{record_words}
use Rattle.rules.specs.Records.{Record, record_image, image_of, record_of, records_of, outputs}
use Rattle.rules.specs.Totalizer.{number_in, number_of}
use Rattle.laws.specs.Records.Words.{record_image_length}
use Rattle.laws.specs.Records.Places.{outputs_append}

pub image_append : (rs xs : List Record) → image_of (rs ++ xs) ≡ image_of rs ++ image_of xs
unfolding image_of
image_append [] xs = refl
image_append (r ∷ rs) xs =
    ap (λ (t : List ℕ). record_image r ++ t) (image_append rs xs) ∙ sym (append_assoc (record_image r) (image_of rs) (image_of xs))

-- the first n records take the first eight times n words
pub image_take : (n : ℕ) (rs : List Record) → image_of (take n rs) ≡ take (record_words * n) (image_of rs)
unfolding image_of
image_take zero rs = refl
image_take (suc n) [] = sym (take-nil (8 * suc n))
image_take (suc n) (r ∷ rs) =
    let words : length (record_image r) + 8 * n ≡ 8 * suc n = omega (arith, record_image_length r) in
    ap (λ (t : List ℕ). record_image r ++ t) (image_take n rs) ∙
    (sym (take-append-add (record_image r) (image_of rs) (8 * n)) ∙ ap (λ (k : ℕ). take k (record_image r ++ image_of rs)) words)

pub image_drop : (n : ℕ) (rs : List Record) → image_of (drop n rs) ≡ drop (record_words * n) (image_of rs)
unfolding image_of
image_drop zero rs = refl
image_drop (suc n) [] = sym (drop-nil (8 * suc n))
image_drop (suc n) (r ∷ rs) =
    let words : length (record_image r) + 8 * n ≡ 8 * suc n = omega (arith, record_image_length r) in
    image_drop n rs ∙ (sym (drop-append-add (record_image r) (image_of rs) (8 * n)) ∙
    ap (λ (k : ℕ). drop k (record_image r ++ image_of rs)) words)

-- a record set anew changes its eight words
pub image_set : (rs : List Record) (n : ℕ) (r : Record) → n < length rs →
    image_of (set rs n r) ≡ take (record_words * n) (image_of rs) ++ (record_image r ++ drop (record_words * suc n) (image_of rs))
unfolding image_of
image_set rs n r h =
    ap image_of (set_split rs n r h) ∙
    (image_append (take n rs) (r ∷ drop (suc n) rs) ∙
    ap₂ (λ (x y : List ℕ). x ++ (record_image r ++ y)) (image_take n rs) (image_drop (suc n) rs))

-- more records are read after those before
pub records_more : (ws : List ℕ) (n m : ℕ) → records_of ws (n + m) ≡ records_of ws n ++ records_of (drop (record_words * n) ws) m
unfolding records_of
records_more ws zero m =
    let none : 0 + m ≡ m = omega arith in
    ap (records_of ws) none
records_more ws (suc n) m =
    let later : 8 + 8 * n ≡ 8 * suc n = omega arith in
    let count : suc (n + m) ≡ suc n + m = omega arith in
    ap (records_of ws) (sym count) ∙
    ap (λ (t : List Record). record_of (take 8 ws) ∷ t)
    (records_more (drop 8 ws) n m ∙
    ap (λ (t : List ℕ). records_of (drop 8 ws) n ++ records_of t m) (drop-drop (8 * n) 8 ws ∙ ap (λ (k : ℕ). drop k ws) later))

pub drop_take : (a b : ℕ) (ws : List ℕ) → drop a (take (a + b) ws) ≡ take b (drop a ws)
drop_take zero b ws =
    let none : 0 + b ≡ b = omega arith in
    ap (λ (k : ℕ). take k ws) none
drop_take (suc a) b [] = ap (drop (suc a)) (take-nil (suc a + b)) ∙ sym (take-nil b)
drop_take (suc a) b (w ∷ ws) =
    let more : suc a + b ≡ suc (a + b) = omega arith in
    ap (λ (k : ℕ). drop (suc a) (take k (w ∷ ws))) more ∙ drop_take a b ws

-- records are read of their own words only
pub records_of_take : (ws : List ℕ) (n k : ℕ) → record_words * n ≤ k → records_of (take k ws) n ≡ records_of ws n
unfolding records_of
records_of_take ws zero k h = refl
records_of_take ws (suc n) k h =
    let part : k ≡ 8 + (k - 8) = omega arith in
    ap₂ (λ (x : List ℕ) (xs : List Record). record_of x ∷ xs) (take-take 8 k ws (omega arith))
    (ap (λ (t : List ℕ). records_of t n) (ap (λ (j : ℕ). drop 8 (take j ws)) part ∙ drop_take 8 (k - 8) ws) ∙
    records_of_take (drop 8 ws) n (k - 8) (omega arith))

-- the number of an output among appended records
pub number_of_append : (rs xs : List Record) (n v : ℕ) → number_of (rs ++ xs) n v ≡ number_in (outputs rs ++ outputs xs) n v
unfolding number_of
number_of_append rs xs n v = ap (λ os. number_in os n v) (outputs_append rs xs)

-- a padded list begins with the list, and is padded already
pub padded_front : {A : Type 0} (z : A) (n : ℕ) (xs : List A) → take (length xs) (padded z n xs) ≡ xs
unfolding padded
padded_front z n xs = take-append_seam xs (replicate (n - length xs) z)

pub padded_again : {A : Type 0} (z : A) (n : ℕ) (xs : List A) → padded z n (padded z n xs) ≡ padded z n xs
unfolding padded
padded_again {A = A} z n xs =
    let count : length (xs ++ replicate (n - length xs) z) ≡ length xs + (n - length xs) = length-append xs (replicate (n - length xs) z) ∙
    ap (λ (k : ℕ). length xs + k) (length-replicate (n - length xs) z) in
    let none : n - length (xs ++ replicate (n - length xs) z) ≡ 0 = omega arith in
    ap (λ (k : ℕ). (xs ++ replicate (n - length xs) z) ++ replicate k z) none ∙ append-nil (xs ++ replicate (n - length xs) z)
