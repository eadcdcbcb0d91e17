-- Word-level steps of the leaves; what they mean for records stands in proofs/Read.
use Rattle.std.specs.Prelude.{cond, List, [], ◌∷◌, ◌++◌, ℕ, ◌+◌, ◌*◌, ◌/◌, eqb, ltb, length, get_or, take, drop}
use Rattle.records.specs.declared.Fields.{Fields}
use Rattle.records.specs.declared.Kind.{Kind}
use Rattle.records.specs.declared.Kind.TheVariants.{Leaf, Join, Dummy, Output, Waiting}

-- the word that says a kind
abbrev pub kind_word : Kind → ℕ
kind_word Leaf = 1
kind_word Join = 2
kind_word Dummy = 3
kind_word Output = 4
kind_word Waiting = 5

-- word k of record n of the first `records`, 0 where there is none
unfoldable pub field_at : List ℕ → ℕ → ℕ → ℕ → ℕ
field_at s records n k = cond (ltb n records) (cond (ltb n (length s / 8)) (cond (ltb k 8) (get_or s (8 * n + k) 0) 0) 0) 0

-- word j of record n where it is of kind k, else 0
unfoldable pub held_at : List ℕ → ℕ → ℕ → ℕ → ℕ → ℕ
unfolding field_at
held_at s records n k j = cond (eqb (field_at s records n 0) k) (field_at s records n j) 0

-- the words of a record
abbrev pub fields : Fields → List ℕ
fields x = kind_word x.kind ∷ x.a ∷ x.b ∷ x.c ∷ x.maximum ∷ x.height ∷ 0 ∷ 0 ∷ []

-- the words with eight for record n, where there is a whole record
unfoldable pub put_record : List ℕ → ℕ → List ℕ → List ℕ
put_record s n ws = cond (ltb n (length s / 8)) (take (8 * n) s ++ (ws ++ drop (8 * n + 8) s)) s
