-- The image of records, and the words of clauses.
use mathlib.Core.Path.{◌≡◌, refl, sym, ap, ◌∙◌}
use mathlib.Core.List.{List, [], ◌∷◌, ◌++◌, append_assoc, append-nil}
use Prim.Native.Nat.{ℕ, zero, suc, ◌+◌, ◌*◌, ◌<◌}
use native.Mathlib.Omega.{arith}
use lib.ListN.{length, get_or, get_or-append}
use lib.Seq.{get_or-append-add}
use lib.IntN.{ℤ, pos}
use Rattle.rules.specs.Records.{Record, unknown, record_image, image_of}
use Rattle.rules.specs.Build.{clause_words}
use Rattle.laws.specs.Records.Words.{record_image_length}

pub image_append : (rs qs : List Record) → image_of (rs ++ qs) ≡ image_of rs ++ image_of qs
unfolding image_of
image_append [] qs = refl
image_append (r ∷ rs) qs = ap (λ x. record_image r ++ x) (image_append rs qs) ∙ sym (append_assoc (record_image r) (image_of rs) (image_of qs))

pub image_one : (r : Record) → image_of (r ∷ []) ≡ record_image r
unfolding image_of
image_one r = append-nil (record_image r)

-- one record more: its image stands at the end
pub image_more : (rs : List Record) (r : Record) → image_of (rs ++ (r ∷ [])) ≡ image_of rs ++ record_image r
image_more rs r = image_append rs (r ∷ []) ∙ ap (λ x. image_of rs ++ x) (image_one r)

-- word k of record n
pub image_word : (rs : List Record) (n k : ℕ) → n < length rs → k < 8 → get_or (image_of rs) (8 * n + k) 0 ≡ get_or (record_image (get_or rs n unknown)) k 0
unfolding image_of
image_word [] n k h i = absurd (omega arith)
image_word (r ∷ rs) zero k h i =
    let e : 8 * 0 + k ≡ k = omega arith in
    rw e (get_or-append (record_image r) (image_of rs) 0 k (omega (arith, record_image_length r)))
image_word (r ∷ rs) (suc n) k h i =
    let e : 8 * suc n + k ≡ length (record_image r) + (8 * n + k) = omega (arith, record_image_length r) in
    rw e (get_or-append-add (record_image r) (image_of rs) (8 * n + k) 0 ∙ image_word rs n k (omega arith) i)

pub words_append : (cs ds : List (List ℤ)) → clause_words (cs ++ ds) ≡ clause_words cs ++ clause_words ds
unfolding clause_words
words_append [] ds = refl
words_append (c ∷ cs) ds = ap (λ x. c ++ (pos 0 ∷ x)) (words_append cs ds) ∙ sym (append_assoc c (pos 0 ∷ clause_words cs) (clause_words ds))
