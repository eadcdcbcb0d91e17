-- A clause written where the buffer's used words end.
use Rattle.std.specs.Prelude.{Option, Some, None}
use mathlib.Core.Path.{◌≡◌, sym, ap, ap₂, ◌∙◌}
use mathlib.Core.Bool.{true, false}
use mathlib.Core.List.{List, [], ◌∷◌, ◌++◌, append_assoc, append-nil}
use Prim.Native.Nat.{ℕ, ◌+◌, ◌-◌, ◌≤◌, ◌<◌, ◌^◌}
use native.Mathlib.Omega.{arith}
use lib.ListN.{length, take, length-append}
use lib.IntN.{ℤ, pos}
use borrow.Author.Tests.{lt-ltb}
use Rattle.rules.specs.Records.{word_literal}
use Rattle.rules.specs.Totalizer.{Arena}
use Rattle.rules.specs.Build.{clause_words}
use Rattle.numbers.specs.Signed.{put_signed}
use Rattle.records_clauses.specs.Clauses.{side_of, Buf, buf, push, push_side, push_clause, with_clause, clause_of}
use Rattle.records.specs.Carries.{Held, ended, St, st, buffer_of, marks_of, written, Steps}
use Rattle.records_words.specs.Words.{laid}
use Rattle.records_words.proofs.Lay.{laid_length, laid_sets}
use Rattle.records.proofs.Image.{words_append}
use Rattle.records.proofs.Grow.{Grows}
use Rattle.records.proofs.Step.{stop, filled, done}

-- a clause more needs more
pub clause_grows : (c : List ℤ) (t : Arena) → Grows t (with_clause c t)
unfolding with_clause
clause_grows c t = record {
  records_grow = omega arith;
  words_grow = omega (arith, ap length (words_append t.clauses (c ∷ [])), length-append (clause_words t.clauses) (clause_words (c ∷ [])));
  fresh_grow = omega arith;
  sizes_grow = omega arith;
}

-- a buffer whose used words are xs
abbrev end : List ℤ → List ℤ → Buf
end xs c = buf (laid xs c) (length xs)

push_laid : (xs c : List ℤ) (w : ℕ) → length xs < length c → push (end xs c) w ≡ end (xs ++ (word_literal w ∷ [])) c
unfolding push put_signed
push_laid xs c w i =
    rw (lt-ltb (length xs) (length (laid xs c)) (omega (arith, laid_length xs c (omega arith))))
    (ap₂ buf (laid_sets xs (word_literal w ∷ []) c (omega arith)) (sym (length-append xs (word_literal w ∷ []))))

side_laid : (xs c : List ℤ) (side : Option ℕ) → length xs + length (side_of side) ≤ length c → push_side (end xs c) side ≡ end (xs ++ side_of side) c
unfolding push_side side_of
side_laid xs c (Some w) i = push_laid xs c w (omega arith)
side_laid xs c None i = ap (λ z. end z c) (sym (append-nil xs))

clause_width : (p q : Option ℕ) (o : ℕ) → length (clause_words (clause_of p q o ∷ [])) ≡ length (side_of p) + length (side_of q) + 2
unfolding clause_words clause_of
clause_width p q o =
    let tail : List ℤ = side_of q ++ (word_literal o ∷ []) in
    omega (arith, length-append (side_of p ++ tail) (pos 0 ∷ []), length-append (side_of p) tail, length-append (side_of q) (word_literal o ∷ []))

clause_laid : (xs c : List ℤ) (p q : Option ℕ) (o : ℕ) → length xs + (length (side_of p) + length (side_of q) + 2) ≤ length c →
    push_clause (end xs c) p q o ≡ end (xs ++ clause_words (clause_of p q o ∷ [])) c
unfolding push_clause clause_words clause_of word_literal
clause_laid xs c p q o i =
    let A : List ℤ = side_of p in
    let B : List ℤ = side_of q in
    let z : ℤ = word_literal o in
    let a : length (xs ++ A) ≡ length xs + length A = length-append xs A in
    let b : length ((xs ++ A) ++ B) ≡ length (xs ++ A) + length B = length-append (xs ++ A) B in
    let d : length (((xs ++ A) ++ B) ++ (z ∷ [])) ≡ length ((xs ++ A) ++ B) + 1 = length-append ((xs ++ A) ++ B) (z ∷ []) in
    ap (λ (k : Buf). push (push (push_side k q) o) 0) (side_laid xs c p (omega arith)) ∙
    (ap (λ (k : Buf). push (push k o) 0) (side_laid (xs ++ A) c q (omega arith)) ∙
    (ap (λ (k : Buf). push k 0) (push_laid ((xs ++ A) ++ B) c o (omega arith)) ∙
    (push_laid (((xs ++ A) ++ B) ++ (z ∷ [])) c 0 (omega arith) ∙
    ap (λ k. end k c) (shift A B z))))
  where
    shift : (A B : List ℤ) (z : ℤ) → (((xs ++ A) ++ B) ++ (z ∷ [])) ++ (pos 0 ∷ []) ≡ xs ++ ((A ++ (B ++ (z ∷ []))) ++ (pos 0 ∷ []))
    shift A B z = simp append_assoc

written_more : (e : St) (t : Arena) (c : List ℤ) → written e (with_clause c t) ≡ written e t ++ clause_words (c ∷ [])
unfolding written with_clause
written_more e t c =
    let used : List ℤ = take (marks_of e).words (buffer_of e) in
    ap (λ x. used ++ x) (words_append t.clauses (c ∷ [])) ∙ sym (append_assoc used (clause_words t.clauses) (clause_words (c ∷ [])))

buf_words : Buf → List ℤ
buf_words (buf c i) = c

buf_mark : Buf → ℕ
buf_mark (buf c i) = i

module _ (s : List ℕ) (c : List ℤ) (m : Held) (p q : Option ℕ) (o : ℕ) where
  pub clause_stop : m.full ≡ true → Steps (st s c m) (st s c m) (with_clause (clause_of p q o))
  clause_stop k = stop (st s c m) (with_clause (clause_of p q o)) (clause_grows (clause_of p q o)) k

  module _ (k : m.full ≡ false) where
    -- the words that the clause adds
    added : (e : St) (t : Arena) → length (written e (with_clause (clause_of p q o) t)) ≡ length (written e t) + (length (side_of p) + length (side_of q) + 2)
    added e t =
        ap length (written_more e t (clause_of p q o)) ∙
        (length-append (written e t) (clause_words (clause_of p q o ∷ [])) ∙ ap (λ (n : ℕ). length (written e t) + n) (clause_width p q o))

    -- the clause is longer than what is left
    pub clause_long : (x y : ℕ) → x ≡ length (side_of p) → y ≡ length (side_of q) →
        length c - m.words < x + y + 2 → Steps (st s c m) (st s c ended) (with_clause (clause_of p q o))
    clause_long x y ex ey i = filled s c m (with_clause (clause_of p q o)) k
        (λ e t h f hd fit. omega (arith, h.same_buffer, added e t, hd.words_is, fit.words_fit))

    pub clause_done : (d : List ℤ) (j x y z : ℕ) → y ≡ length (side_of p) → z ≡ length (side_of q) → y + z + 2 ≤ length c - m.words →
        buf d j ≡ push_clause (buf c m.words) p q o → j < 2 ^ 64 → (m.clauses + 1 < 2 ^ 64 → x ≡ m.clauses + 1) →
        Steps (st s c m) (st s d (record { records = m.records; words = j; fresh = m.fresh; clauses = x; full = m.full })) (with_clause (clause_of p q o))
    unfolding buf_words buf_mark with_clause
    clause_done d j x y z ey ez room eb small ex = done _ _ (with_clause (clause_of p q o)) k (λ e t h f hd.
        let n : length c ≡ length (buffer_of e) = h.same_buffer in
        let w : m.words ≡ length (written e t) = hd.words_is in
        let g : buf d j ≡ end (written e (with_clause (clause_of p q o) t)) (buffer_of e)
        = eb ∙ (ap₂ (λ z i. push_clause (buf z i) p q o) hd.buffer_is w ∙
        (clause_laid (written e t) (buffer_of e) p q o (omega arith) ∙ ap (λ z. end z (buffer_of e)) (sym (written_more e t (clause_of p q o))))) in
        let jw : j ≡ length (written e (with_clause (clause_of p q o) t)) = ap buf_mark g in
        let wl : length (written e (with_clause (clause_of p q o) t)) ≡ length (written e t) + (length (side_of p) + length (side_of q) + 2) = added e t in
        let xs : x ≡ m.clauses + 1 = ex (omega (arith, wl, hd.count_low)) in (
          (
            record { records_fit = f.records_fit; words_fit = omega arith; fresh_fit = f.fresh_fit; places_fit = f.places_fit; sizes_fit = f.sizes_fit },
            record {
              store_is = hd.store_is;
              buffer_is = ap buf_words g;
              records_is = hd.records_is;
              words_is = jw;
              fresh_is = hd.fresh_is;
              clauses_is = omega (arith, xs, hd.clauses_is, length-append t.clauses (clause_of p q o ∷ []));
              not_full = k;
              records_low = hd.records_low;
              words_low = omega (arith, hd.words_low);
              count_low = omega (arith, xs, jw, wl, hd.count_low);
            },
          ),
          h.kept_store,
        ))
