-- What a literal, a clause and a list of clauses say under an assignment of the variables.
use Rattle.std.specs.Prelude.{◌≡◌, refl, ◌⊎◌, Bool, true, false, not, ◌||◌, List, [], ◌∷◌, ◌++◌, ℕ, zero, suc, ◌≤◌, ℤ, pos, negsuc, neg_ℤ, nat_abs}
use Rattle.std.proofs.Common.{sym, ap, ◌∙◌, subst, inl, inr, true≢false, arith}
use Rattle.laws.specs.Lists.Facts.{All, All_map}

-- an assignment gives each variable a truth value
abbrev pub Assign : Type 0
Assign = ℕ → Bool

-- truth of literals; x and -x may be given any two values where only sums are looked at
abbrev pub Truths : Type 0
Truths = ℤ → Bool

-- a literal under an assignment; 0 is no literal and never holds
abbrev pub holds : Assign → Truths
holds ρ (pos zero) = false
holds ρ (pos (suc n)) = ρ (suc n)
holds ρ (negsuc n) = not (ρ (suc n))

-- a clause holds if one of its literals does
abbrev pub sat : Assign → List ℤ → Bool
sat ρ [] = false
sat ρ (x ∷ xs) = holds ρ x || sat ρ xs

-- all clauses hold
abbrev pub Sat : Assign → List (List ℤ) → Type 0
Sat ρ cs = All (λ c. sat ρ c ≡ true) cs

-- all literals hold
abbrev pub Held : Assign → List ℤ → Type 0
Held ρ xs = All (λ x. holds ρ x ≡ true) xs

-- x stands in the list
abbrev pub Member : {A : Type 0} → A → List A → Type 0
Member x [] = ⊥
Member x (y ∷ ys) = (x ≡ y) ⊎ Member x ys

pub member_left : {A : Type 0} (x : A) (xs ys : List A) → Member x xs → Member x (xs ++ ys)
member_left x [] ys m = absurd m
member_left x (y ∷ xs) ys (inl e) = inl e
member_left x (y ∷ xs) ys (inr m) = inr (member_left x xs ys m)

pub member_right : {A : Type 0} (x : A) (xs ys : List A) → Member x ys → Member x (xs ++ ys)
member_right x [] ys m = m
member_right x (y ∷ xs) ys m = inr (member_right x xs ys m)

-- a fact of every element, of one that stands there
pub member_all : {A : Type 0} (P : A → Type 0) (x : A) (xs : List A) → Member x xs → All P xs → P x
member_all P x [] m h = absurd m
member_all P x (y ∷ xs) (inl e) h = subst P (sym e) h.0
member_all P x (y ∷ xs) (inr m) h = member_all P x xs m h.1

-- every element stands in its list
pub all_members : {A : Type 0} (xs : List A) → All (λ x. Member x xs) xs
all_members [] = tt
all_members (x ∷ xs) = (inl refl, All_map (λ y m. inr m) xs (all_members xs))

pub both : {b : Bool} → b ≡ true → b ≡ false → ⊥
both p q = true≢false (sym p ∙ q)

pub flip_true : (b : Bool) → not b ≡ true → b ≡ false
flip_true true e = sym e
flip_true false e = refl

pub flip_false : (b : Bool) → not b ≡ false → b ≡ true
flip_false true e = refl
flip_false false e = sym e

-- a literal and its negation do not both hold
pub not_both : (ρ : Assign) (x : ℤ) → holds ρ x ≡ true → holds ρ (neg_ℤ x) ≡ false
not_both ρ (pos zero) h = refl
not_both ρ (pos (suc n)) h = ap not h
not_both ρ (negsuc n) h = flip_true (ρ (suc n)) h

-- one of them does
pub neg_holds : (ρ : Assign) (x : ℤ) → 1 ≤ nat_abs x → holds ρ x ≡ false → holds ρ (neg_ℤ x) ≡ true
neg_holds ρ (pos zero) l h = absurd (omega arith)
neg_holds ρ (pos (suc n)) l h = ap not h
neg_holds ρ (negsuc n) l h = flip_false (ρ (suc n)) h

pub pos_holds : (ρ : Assign) (n : ℕ) → 1 ≤ n → holds ρ (pos n) ≡ ρ n
pos_holds ρ zero h = absurd (omega arith)
pos_holds ρ (suc n) h = refl

-- a literal's truth is its variable's
pub holds_agree : (ρ α : Assign) (x : ℤ) → ρ (nat_abs x) ≡ α (nat_abs x) → holds ρ x ≡ holds α x
holds_agree ρ α (pos zero) h = refl
holds_agree ρ α (pos (suc n)) h = h
holds_agree ρ α (negsuc n) h = ap not h

pub or_left : {a : Bool} (b : Bool) → a ≡ true → (a || b) ≡ true
or_left b e = rw e

pub or_right : (a : Bool) {b : Bool} → b ≡ true → (a || b) ≡ true
or_right true e = refl
or_right false e = e

pub or_drop : {a b : Bool} → (a || b) ≡ true → a ≡ false → b ≡ true
or_drop h e = rw e at h

pub sat_right : (ρ : Assign) (xs ys : List ℤ) → sat ρ ys ≡ true → sat ρ (xs ++ ys) ≡ true
sat_right ρ [] ys h = h
sat_right ρ (x ∷ xs) ys h = or_right (holds ρ x) (sat_right ρ xs ys h)

pub sat_one : (ρ : Assign) (x : ℤ) → sat ρ (x ∷ []) ≡ true → holds ρ x ≡ true
sat_one ρ x h = go (holds ρ x) h
  where
    go : (b : Bool) → (b || false) ≡ true → b ≡ true
    go true e = refl
    go false e = e
