-- The two ends of a promise: what is lent is carried, and what is held is determined; a change in place begins a new entry;
-- zeroing past the marks settles every word.
use mathlib.Core.Path.{◌≡◌, refl, sym, ap, ap₂, ◌∙◌}
use mathlib.Core.Logic.{◌⊎◌, inl, inr}
use mathlib.Core.Bool.{Bool, false}
use mathlib.Core.List.{List, [], ◌∷◌, ◌++◌, append_assoc, append-nil}
use Prim.Native.Nat.{ℕ, zero, suc, ◌+◌, ◌*◌, ◌/◌, ◌≤◌, ◌<◌}
use native.Mathlib.Omega.{arith}
use lib.ListN.{length, take, drop, set, length-append, length-set, take-append-drop}
use lib.Seq.{length-take-le, take-append-le, take-take, take-append_seam, drop-append-add, drop-append_seam, drop-drop, drop-append-le, take-append-add}
use lib.IntN.{ℤ, pos}
use borrow.Author.Tests.{lt-ltb}
use Rattle.rules.specs.Lists.{padded}
use Rattle.rules.specs.Records.{Record, record_image, image_of, records_of}
use Rattle.rules.specs.Totalizer.{Arena}
use Rattle.rules.specs.Build.{clause_words}
use Rattle.laws.specs.Records.Words.{record_image_length, image_length}
use Rattle.laws.specs.WellFormed.Whole.{records_length}
use Rattle.records.specs.Words.{put_record}
use Rattle.records.specs.Carries.{Held, St, st, store_of, buffer_of, marks_of, written, peak, Fits, Holds, Carries, Steps, Makes, Lent, read_arena}
use Rattle.records_words.specs.Words.{laid}
use Rattle.records_words.proofs.Lay.{laid_length, laid_again, laid_front, front_laid}
use Rattle.records.proofs.Image.{image_more}
use Rattle.records.proofs.Grow.{fits_or}
use Rattle.records.proofs.Step.{going}

-- the entry carries what it reads
pub begins : (σ : St) → Lent σ → Carries σ σ (read_arena σ)
unfolding read_arena written clause_words laid
begins σ h =
    let rs : List Record = records_of (store_of σ) (marks_of σ).records in
    let used : List ℤ = take (marks_of σ).words (buffer_of σ) in
    let n : length rs ≡ (marks_of σ).records = records_length (store_of σ) (marks_of σ).records in
    let w : length used ≡ (marks_of σ).words = length-take-le (marks_of σ).words (buffer_of σ) h.words_in in
    let nil : used ++ [] ≡ used = append-nil used in
    let wn : length (used ++ []) ≡ (marks_of σ).words = ap length nil ∙ w in
    record {
      same_store = refl;
      same_buffer = refl;
      kept_store = refl;
      kept_buffer = refl;
      fit = λ q. record {
        store_is = front_laid (image_of rs) (store_of σ) (8 * (marks_of σ).records) h.image h.records_in;
        buffer_is = sym (ap₂ (λ x k. x ++ drop k (buffer_of σ)) nil wn ∙ take-append-drop (marks_of σ).words (buffer_of σ));
        records_is = sym n;
        words_is = sym wn;
        fresh_is = refl;
        clauses_is = omega arith;
        not_full = h.not_full;
        records_low = omega arith;
        words_low = omega arith;
        count_low = h.count_in;
      };
      full = λ q. absurd (q (record {
        records_fit = omega (arith, h.records_in);
        words_fit = omega (arith, h.words_in);
        fresh_fit = h.fresh_in;
        places_fit = omega (arith, h.places_in);
        sizes_fit = h.sizes_in;
      }));
    }

marks_same : (m n : Held) → m.records ≡ n.records → m.words ≡ n.words → m.fresh ≡ n.fresh → m.clauses ≡ n.clauses → m.full ≡ n.full → m ≡ n
marks_same m n a b c d f =
    ap (λ (x : ℕ). record { records = x; words = m.words; fresh = m.fresh; clauses = m.clauses; full = m.full }) a ∙
    (ap (λ (x : ℕ). record { records = n.records; words = x; fresh = m.fresh; clauses = m.clauses; full = m.full }) b ∙
    (ap (λ (x : ℕ). record { records = n.records; words = n.words; fresh = x; clauses = m.clauses; full = m.full }) c ∙
    (ap (λ (x : ℕ). record { records = n.records; words = n.words; fresh = n.fresh; clauses = x; full = m.full }) d ∙
    ap (λ (x : Bool). record { records = n.records; words = n.words; fresh = n.fresh; clauses = n.clauses; full = x }) f)))

-- any two memories that hold the same are the same, word for word
pub holds_same : (e σ τ : St) (t : Arena) → Holds e σ t → Holds e τ t → σ ≡ τ
holds_same e (st s c m) (st s' c' m') t h k =
    ap₂ (λ x y. st x y m) (h.store_is ∙ sym k.store_is) (h.buffer_is ∙ sym k.buffer_is) ∙
    ap (st s' c')
    (marks_same m m' (h.records_is ∙ sym k.records_is) (h.words_is ∙ sym k.words_is) (h.fresh_is ∙ sym k.fresh_is)
    (h.clauses_is ∙ sym k.clauses_is) (h.not_full ∙ sym k.not_full))

-- two ends of one step agree: word for word where the arena that it leads to fits, and on the full mark everywhere
abbrev pub Same_end : St → St → St → (Arena → Arena) → Type 0
Same_end σ τ τ' f = (e : St) (t : Arena) → Carries e σ t → (Fits e (f t) → τ ≡ τ') × ((marks_of τ).full ≡ (marks_of τ').full)

-- and so on what the step names
abbrev pub Same_made : {X : Type 0} → St → St → St → X → X → (Arena → Arena × X) → Type 0
Same_made σ τ τ' x x' f =
    (e : St) (t : Arena) → Carries e σ t → (Fits e (f t).0 → (τ ≡ τ') × (x ≡ x')) × ((marks_of τ).full ≡ (marks_of τ').full)

-- two memories that carry the same agree on the full mark
pub full_same : (e τ τ' : St) (t : Arena) → Carries e τ t → Carries e τ' t → (marks_of τ).full ≡ (marks_of τ').full
full_same e τ τ' t h k = go (fits_or e t)
  where
    go : Fits e t ⊎ (Fits e t → ⊥) → (marks_of τ).full ≡ (marks_of τ').full
    go (inl f) = (h.fit f).not_full ∙ sym (k.fit f).not_full
    go (inr f) = h.full f ∙ sym (k.full f)

-- a step has one end
pub steps_determined : (σ τ τ' : St) (f : Arena → Arena) → Steps σ τ f → Steps σ τ' f → Same_end σ τ τ' f
steps_determined σ τ τ' f p q e t h =
    let a = p.go e t h in
    let b = q.go e t h in
    (λ fit. holds_same e τ τ' (f t) (a.fit fit) (b.fit fit), full_same e τ τ' (f t) a b)

-- and names one thing
pub makes_determined : {X : Type 0} (σ τ τ' : St) (x x' : X) (f : Arena → Arena × X) → Makes σ τ x f → Makes σ τ' x' f → Same_made σ τ τ' x x' f
makes_determined σ τ τ' x x' f p q e t h =
    let a = p.go e t h in
    let b = q.go e t h in
    (λ fit. (holds_same e τ τ' (f t).0 (a.0.fit fit) (b.0.fit fit), a.1 fit ∙ sym (b.1 fit)), full_same e τ τ' (f t).0 a.0 b.0)

-- the words of record n replaced -------------------------------------------------------------------------------------

-- the image with one record replaced
image_set : (rs : List Record) (n : ℕ) (r : Record) → n < length rs →
    image_of (set rs n r) ≡ take (8 * n) (image_of rs) ++ (record_image r ++ drop (8 * n + 8) (image_of rs))
unfolding image_of
image_set [] n r h = absurd (omega arith)
image_set (q ∷ rs) zero r h =
    let eight : length (record_image q) ≡ 8 = record_image_length q in
    ap (λ x. record_image r ++ x)
    (sym (ap (λ (k : ℕ). drop k (record_image q ++ image_of rs)) (sym eight) ∙ drop-append_seam (record_image q) (image_of rs)))
image_set (q ∷ rs) (suc n) r h =
    let eight : length (record_image q) ≡ 8 = record_image_length q in
    let a : 8 * suc n ≡ length (record_image q) + 8 * n = omega arith in
    let b : 8 * suc n + 8 ≡ length (record_image q) + (8 * n + 8) = omega arith in
    ap (λ x. record_image q ++ x) (image_set rs n r (omega arith)) ∙
    (sym (append_assoc (record_image q) (take (8 * n) (image_of rs)) (record_image r ++ drop (8 * n + 8) (image_of rs))) ∙
    sym (ap₂ (λ x y. x ++ (record_image r ++ y))
    (ap (λ (k : ℕ). take k (record_image q ++ image_of rs)) a ∙ take-append-add (record_image q) (image_of rs) (8 * n))
    (ap (λ (k : ℕ). drop k (record_image q ++ image_of rs)) b ∙ drop-append-add (record_image q) (image_of rs) (8 * n + 8))))

-- a record's words written over those of record n are the image of the records with that one replaced
pub patched : (s s₀ : List ℕ) (rs : List Record) (n : ℕ) (r : Record) → s ≡ laid (image_of rs) s₀ → n < length rs → 8 * length rs ≤ length s₀ →
    put_record s n (record_image r) ≡ laid (image_of (set rs n r)) s₀
unfolding put_record laid
patched s s₀ rs n r p h i =
    let all : length (image_of rs) ≡ 8 * length rs = image_length rs in
    let tail : List ℕ = drop (length (image_of rs)) s₀ in
    let long : length s ≡ length s₀ = ap length p ∙ laid_length (image_of rs) s₀ (omega arith) in
    let same : length (image_of (set rs n r)) ≡ length (image_of rs)
    = image_length (set rs n r) ∙ (ap (λ (k : ℕ). 8 * k) (length-set rs n r) ∙ sym all) in
    rw (lt-ltb n (length s / 8) (omega arith))
    (ap₂ (λ x y. x ++ (record_image r ++ y))
    (ap (take (8 * n)) p ∙ take-append-le (8 * n) (image_of rs) tail (omega arith))
    (ap (drop (8 * n + 8)) p ∙ drop-append-le (8 * n + 8) (image_of rs) tail (omega arith)) ∙
    (shift (take (8 * n) (image_of rs)) (record_image r) (drop (8 * n + 8) (image_of rs)) tail ∙
    ap₂ (λ x k. x ++ drop k s₀) (sym (image_set rs n r h)) (sym same)))
  where
    shift : (a b c d : List ℕ) → a ++ (b ++ (c ++ d)) ≡ (a ++ (b ++ c)) ++ d
    shift a b c d = simp append_assoc

-- a record's words written where the records end are laid too
pub appended : (s s₀ : List ℕ) (rs : List Record) (n : ℕ) (r : Record) → s ≡ laid (image_of rs) s₀ → n ≡ length rs → 8 * n + 8 ≤ length s₀ →
    put_record s n (record_image r) ≡ laid (image_of (rs ++ (r ∷ []))) s₀
unfolding put_record laid
appended s s₀ rs n r p q i =
    let all : length (image_of rs) ≡ 8 * n = image_length rs ∙ ap (λ (k : ℕ). 8 * k) (sym q) in
    let eight : length (record_image r) ≡ 8 = record_image_length r in
    let tail : List ℕ = drop (length (image_of rs)) s₀ in
    let long : length s ≡ length s₀ = ap length p ∙ laid_length (image_of rs) s₀ (omega arith) in
    let whole : length (image_of rs ++ record_image r) ≡ 8 * n + 8 = omega (arith, length-append (image_of rs) (record_image r)) in
    let a : take (8 * n) s ≡ image_of rs = ap₂ (λ (k : ℕ) x. take k x) (sym all) p ∙ take-append_seam (image_of rs) tail in
    let b : drop (8 * n + 8) s ≡ drop (8 * n + 8) s₀
    = ap (drop (8 * n + 8)) p ∙ (ap (λ (k : ℕ). drop (k + 8) (image_of rs ++ tail)) (sym all) ∙
    (drop-append-add (image_of rs) tail 8 ∙ (drop-drop 8 (length (image_of rs)) s₀ ∙ ap (λ (k : ℕ). drop (k + 8) s₀) all))) in
    rw (lt-ltb n (length s / 8) (omega arith))
    (ap₂ (λ x y. x ++ (record_image r ++ y)) a b ∙
    (sym (append_assoc (image_of rs) (record_image r) (drop (8 * n + 8) s₀)) ∙
    (ap (λ (k : ℕ). (image_of rs ++ record_image r) ++ drop k s₀) (sym whole) ∙
    ap (λ x. x ++ drop (length x) s₀) (sym (image_more rs r)))))

-- what stands below record n is kept
pub kept_below : (s : List ℕ) (n k : ℕ) (ws : List ℕ) → k ≤ n → n < length s / 8 → take (8 * k) (put_record s n ws) ≡ take (8 * k) s
unfolding put_record
kept_below s n k ws h i =
    rw (lt-ltb n (length s / 8) i)
    (take-append-le (8 * k) (take (8 * n) s) (ws ++ drop (8 * n + 8) s) (omega (arith, length-take-le (8 * n) s (omega arith))) ∙
    take-take (8 * k) (8 * n) s (omega arith))

-- A change in place ends one entry and begins another: the patched store under the old marks --------------------------------

pub rebase : (s₀ : List ℕ) (c₀ : List ℤ) (m₀ : Held) (s s' : List ℕ) (c : List ℤ) (m : Held) (t : Arena) (rs : List Record) →
    Carries (st s₀ c₀ m₀) (st s c m) t → m.full ≡ false → s' ≡ laid (image_of rs) s₀ → length rs ≡ length t.records → peak rs < 4294967296 →
    Carries (st s' c m₀) (st s' c m) (record { records = rs; fresh = t.fresh; clauses = t.clauses })
unfolding written
rebase s₀ c₀ m₀ s s' c m t rs h k p n small =
    let g : Fits (st s₀ c₀ m₀) t × Holds (st s₀ c₀ m₀) (st s c m) t = going (st s₀ c₀ m₀) (st s c m) t h k in
    let f = g.0 in
    let hd = g.1 in
    let w : take m₀.words c ++ clause_words t.clauses ≡ take m₀.words c₀ ++ clause_words t.clauses
    = ap (λ x. x ++ clause_words t.clauses) h.kept_buffer in
    let lw : length (take m₀.words c ++ clause_words t.clauses) ≡ length (take m₀.words c₀ ++ clause_words t.clauses) = ap length w in
    let ls : length s' ≡ length s₀ = ap length p ∙ laid_length (image_of rs) s₀ (omega (arith, image_length rs, f.records_fit)) in
    let lc : length c ≡ length c₀ = h.same_buffer in
    record {
      same_store = refl;
      same_buffer = refl;
      kept_store = refl;
      kept_buffer = refl;
      fit = λ q. record {
        store_is = p ∙ (sym (laid_again (image_of rs) s₀) ∙ ap (laid (image_of rs)) (sym p));
        buffer_is = hd.buffer_is ∙ (sym (laid_again (take m₀.words c₀ ++ clause_words t.clauses) c₀) ∙ ap₂ laid (sym w) (sym hd.buffer_is));
        records_is = hd.records_is ∙ sym n;
        words_is = hd.words_is ∙ sym lw;
        fresh_is = hd.fresh_is;
        clauses_is = hd.clauses_is;
        not_full = k;
        records_low = omega (arith, hd.records_low);
        words_low = omega (arith, hd.words_low);
        count_low = hd.count_low;
      };
      full = λ q. absurd (q (record {
        records_fit = omega (arith, f.records_fit);
        words_fit = omega (arith, f.words_fit);
        fresh_fit = f.fresh_fit;
        places_fit = omega (arith, f.places_fit);
        sizes_fit = small;
      }));
    }

-- Zeroing past the marks settles every word ------------------------------------------------------------------------------

-- what is held, zeroed from its marks on, is the image and zeros
pub held_zeroed : (e σ : St) (t : Arena) → Fits e t → Holds e σ t →
    (padded 0 (length (store_of σ)) (take (8 * (marks_of σ).records) (store_of σ)) ≡ padded 0 (length (store_of e)) (image_of t.records)) ×
    (padded (pos 0) (length (buffer_of σ)) (take (marks_of σ).words (buffer_of σ)) ≡ padded (pos 0) (length (buffer_of e)) (written e t))
held_zeroed e σ t f h =
    let a : length (store_of σ) ≡ length (store_of e)
    = ap length h.store_is ∙ laid_length (image_of t.records) (store_of e) (omega (arith, image_length t.records, f.records_fit)) in
    let b : length (buffer_of σ) ≡ length (buffer_of e) = ap length h.buffer_is ∙ laid_length (written e t) (buffer_of e) f.words_fit in
    let i : length (image_of t.records) ≡ 8 * (marks_of σ).records = omega (arith, image_length t.records, h.records_is) in (
      ap₂ (padded 0) a (ap (take (8 * (marks_of σ).records)) h.store_is ∙ laid_front (image_of t.records) (store_of e) (8 * (marks_of σ).records) i),
      ap₂ (padded (pos 0)) b (ap (take (marks_of σ).words) h.buffer_is ∙ laid_front (written e t) (buffer_of e) (marks_of σ).words (sym h.words_is)),
    )
