-- Any two results that the promise of a public function allows are equal.
use mathlib.Core.Path.{◌≡◌, sym, ◌∙◌}
use mathlib.Core.List.{List}
use Prim.Native.Nat.{ℕ}
use borrow.Fn.Kinds.{ParamKind, ResultKind, Dens, Out, res_t, ended_of}
use denote.Triple.Clauses.{AtExit}
use contract.Lifetimes.{Lfts}
use Rattle.numbers.proofs.digits.Kinds as digits-kinds
use Rattle.numbers.proofs.digits.Reads as digits
use Rattle.numbers.proofs.top_bit.Kinds as top-bit-kinds
use Rattle.numbers.proofs.top_bit.Reads as top_bit
use Rattle.numbers.proofs.power.Kinds as power-kinds
use Rattle.numbers.proofs.power.Reads as power
use Rattle.numbers.proofs.power_of_two.Kinds as power-of-two-kinds
use Rattle.numbers.proofs.power_of_two.Reads as power_of_two
use Rattle.numbers.proofs.lawful.Kinds as lawful-kinds
use Rattle.numbers.proofs.lawful.Reads as lawful
use Rattle.numbers.proofs.literal_word.Kinds as literal-word-kinds
use Rattle.numbers.proofs.literal_word.Reads as literal_word
use Rattle.numbers.proofs.lawful_at.Kinds as lawful-at-kinds
use Rattle.numbers.proofs.lawful_at.Reads as lawful-at
use Rattle.numbers.proofs.word_at.Kinds as word-at-kinds
use Rattle.numbers.proofs.word_at.Reads as word_at
use Rattle.numbers.proofs.variable.Kinds as variable-kinds
use Rattle.numbers.proofs.variable.Reads as variable
use Rattle.numbers.proofs.positive.Kinds as positive-kinds
use Rattle.numbers.proofs.positive.Reads as positive
use Rattle.numbers.proofs.negated.Kinds as negated-kinds
use Rattle.numbers.proofs.negated.Reads as negated
use Rattle.numbers.proofs.signed.Kinds as signed-kinds
use Rattle.numbers.proofs.signed.Reads as signed
use Rattle.numbers.proofs.put_signed.Kinds as put-signed-kinds
use Rattle.numbers.proofs.put_signed.Reads as put_signed

-- a promise that allows one result
abbrev pub One_result : (n : ℕ) (ps : List (ParamKind n)) (r : ResultKind n) → Out n ps r → Type 0
One_result n ps r post =
    (κs : Lfts n) (a : Dens κs ps) (x y : (res_t r κs).Denot) (e f : AtExit (ended_of n ps r) κs) → post κs a x e → post κs a y f → x ≡ y

pub digits_determined : One_result 0 digits-kinds.ps digits-kinds.r digits.Post
digits_determined κs a x y e f p q = p.0 ∙ sym q.0

pub top_bit_determined : One_result 0 top-bit-kinds.ps top-bit-kinds.r top_bit.Post
top_bit_determined κs a x y e f p q = p.0 ∙ sym q.0

pub power_determined : One_result 0 power-kinds.ps power-kinds.r power.Post
power_determined κs a x y e f p q = p ∙ sym q

pub power_of_two_determined : One_result 0 power-of-two-kinds.ps power-of-two-kinds.r power_of_two.Post
power_of_two_determined κs a x y e f p q = p ∙ sym q

pub lawful_determined : One_result 0 lawful-kinds.ps lawful-kinds.r lawful.Post
lawful_determined κs a x y e f p q = p ∙ sym q

pub literal_word_determined : One_result 0 literal-word-kinds.ps literal-word-kinds.r literal_word.Post
literal_word_determined κs a x y e f p q = p ∙ sym q

pub lawful_at_determined : One_result 1 lawful-at-kinds.ps lawful-at-kinds.r lawful-at.Post
lawful_at_determined κs a x y e f p q = p ∙ sym q

pub word_at_determined : One_result 1 word-at-kinds.ps word-at-kinds.r word_at.Post
word_at_determined κs a x y e f p q = p ∙ sym q

pub variable_determined : One_result 0 variable-kinds.ps variable-kinds.r variable.Post
variable_determined κs a x y e f p q = p ∙ sym q

pub positive_determined : One_result 0 positive-kinds.ps positive-kinds.r positive.Post
positive_determined κs a x y e f p q = p ∙ sym q

pub negated_determined : One_result 0 negated-kinds.ps negated-kinds.r negated.Post
negated_determined κs a x y e f p q = p ∙ sym q

pub signed_determined : One_result 0 signed-kinds.ps signed-kinds.r signed.Post
signed_determined κs a x y e f p q = p ∙ sym q

pub put_signed_determined : (κs : Lfts 1) (a : Dens κs put-signed-kinds.ps) (x y : (res_t put-signed-kinds.r κs).Denot) (e f : AtExit (ended_of 1 put-signed-kinds.ps put-signed-kinds.r) κs) →
    put_signed.Post κs a x e → put_signed.Post κs a y f → e.0.now ≡ f.0.now
put_signed_determined κs a x y e f p q = p ∙ sym q
