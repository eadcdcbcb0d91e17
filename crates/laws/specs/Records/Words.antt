-- Words, records and builds name each other.
use Rattle.std.specs.Prelude.{◌≡◌, refl, ◌≢◌, Bool, true, false, not, cond, ◌&&◌, List, [], ◌∷◌, ◌++◌, map, ℕ, zero, suc, ◌+◌, ◌*◌, ◌-◌, ◌/◌, ◌%◌, ◌≤◌, eqb, length, get_or, take, drop, replicate, ℤ, pos, negsuc, neg_ℤ}
use Rattle.std.proofs.Common.{sym, ◌∙◌, ap, ap₂, append_assoc, arith, length-append, take_at, drop_at, take-add, eqb-true, eq-eqb, ne_eqb}
use Rattle.std.proofs.lemmas.Bool.{false≢true}
use Rattle.std.proofs.Math.Seq.{take-append_seam}
use Rattle.rules.specs.Lists.{same, all, keep, padded}
use Rattle.rules.specs.Numbers.{record_words}
use Rattle.rules.specs.Records.{Kind, leaf, join, dummy, Record, node, output, waiting, unknown, literal_word, word_literal, node_image, record_image, Entry, waits, entries, image_of, reading, record_of, records_of}
use Rattle.rules.specs.Build.{Build, records, clause_total, clause_mark, variable_total, state_of, tares_of, buckets_of, held, build_over, build_of}
use Rattle.rules.specs.WellFormed.{known}

-- a list is the same as itself
pub same_self : (xs : List ℕ) → same xs xs ≡ true
unfolding same
same_self [] = refl
same_self (x ∷ xs) = rw (eq-eqb x x refl) (same_self xs)

-- the word of a literal names it
pub literal_word_literal : (x : ℤ) → word_literal (literal_word x) ≡ x
unfolding word_literal literal_word
literal_word_literal (pos n) =
    let even : 2 * n % 2 ≡ 0 = omega arith in
    let half : 2 * n / 2 ≡ n = omega arith in
    rw (eq-eqb (2 * n % 2) 0 even) (ap pos half)
literal_word_literal (negsuc n) =
    let odd : (2 * suc n + 1) % 2 ≢ 0 = omega arith in
    let half : (2 * suc n + 1) / 2 ≡ suc n = omega arith in
    rw (ne_eqb ((2 * suc n + 1) % 2) 0 odd) (ap (λ k. neg_ℤ (pos k)) half)

-- and is never 1
pub word_not_one : (x : ℤ) → literal_word x ≡ 1 → ⊥
unfolding literal_word
word_not_one (pos n) e = omega arith
word_not_one (negsuc n) e = omega arith

-- words that are the image of what they say are a record
record_read : (r : Record) (ws : List ℕ) →
    reading (get_or ws 0 0) (get_or ws 1 0) (get_or ws 2 0) (get_or ws 3 0) (get_or ws 4 0) (get_or ws 5 0) ≡ r →
    record_image r ≡ ws →
    record_of ws ≡ r
unfolding record_of
record_read r ws e f =
    ap (λ (x : Record). cond (same (record_image x) ws) x unknown) e ∙
    ap (λ (b : Bool). cond b r unknown) (ap (same (record_image r)) (sym f) ∙ same_self (record_image r))

node_of_image : (k : Kind) (m h : ℕ) → record_of (node_image k m h) ≡ node (record { kind = k; maximum = m; height = h })
unfolding node_image reading record_image
node_of_image (leaf x) m h =
    record_read (node (record { kind = leaf x; maximum = m; height = h })) (node_image (leaf x) m h)
    (ap (λ (y : ℤ). node (record { kind = leaf y; maximum = m; height = h })) (literal_word_literal x))
    refl
node_of_image (join true l r) m h = record_read (node (record { kind = join true l r; maximum = m; height = h })) (node_image (join true l r) m h) refl refl
node_of_image (join false l r) m h = record_read (node (record { kind = join false l r; maximum = m; height = h })) (node_image (join false l r) m h) refl refl
node_of_image dummy m h = record_read (node (record { kind = dummy; maximum = m; height = h })) (node_image dummy m h) refl refl

-- every record is that of its image
pub record_of_image : (r : Record) → record_of (record_image r) ≡ r
unfolding record_image reading literal_word
record_of_image (node n) = node_of_image n.kind n.maximum n.height
record_of_image (output o) =
    let half : 2 * o.number / 2 ≡ o.number = omega arith in
    record_read (output o) (record_image (output o))
    (ap (λ (k : ℕ). output (record { node = o.node; value = o.value; number = k })) half)
    refl
record_of_image (waiting e) = record_read (waiting e) (record_image (waiting e)) refl refl
record_of_image unknown = record_read unknown (record_image unknown) refl refl

-- a record has eight words
node_image_length : (k : Kind) (m h : ℕ) → length (node_image k m h) ≡ record_words
unfolding node_image
node_image_length (leaf x) m h = refl
node_image_length (join half l r) m h = refl
node_image_length dummy m h = refl

pub record_image_length : (r : Record) → length (record_image r) ≡ record_words
unfolding record_image
record_image_length (node n) = node_image_length n.kind n.maximum n.height
record_image_length (output o) = refl
record_image_length (waiting e) = refl
record_image_length unknown = refl

pub image_length : (rs : List Record) → length (image_of rs) ≡ record_words * length rs
unfolding image_of
image_length [] = refl
image_length (r ∷ rs) =
    let here : length (record_image r) ≡ 8 = record_image_length r in
    let rest : length (image_of rs) ≡ 8 * length rs = image_length rs in
    length-append (record_image r) (image_of rs) ∙ omega arith

-- the records of an image are those it was made of
pub records_of_image : (rs : List Record) (rest : List ℕ) → records_of (image_of rs ++ rest) (length rs) ≡ rs
unfolding records_of image_of
records_of_image [] rest = refl
records_of_image (r ∷ rs) rest =
    let eight : length (record_image r) ≡ 8 = record_image_length r in
    let words : image_of (r ∷ rs) ++ rest ≡ record_image r ++ (image_of rs ++ rest) = append_assoc (record_image r) (image_of rs) rest in
    ap (λ ws. record_of (take 8 ws) ∷ records_of (drop 8 ws) (length rs)) words ∙
    ap₂ (λ x xs. record_of x ∷ records_of xs (length rs))
    (take_at (record_image r) (image_of rs ++ rest) 8 eight)
    (drop_at (record_image r) (image_of rs ++ rest) 8 eight) ∙
    ap₂ (λ (x : Record) (xs : List Record). x ∷ xs) (record_of_image r) (records_of_image rs rest)

-- two tests that both hold
pub both : (a b : Bool) → (a && b) ≡ true → (a ≡ true) × (b ≡ true)
both true b e = (refl, e)
both false b e = absurd (false≢true e)

-- lists that are the same are equal
pub same_true : (xs ys : List ℕ) → same xs ys ≡ true → xs ≡ ys
unfolding same
same_true [] [] e = refl
same_true [] (y ∷ ys) e = absurd (false≢true e)
same_true (x ∷ xs) [] e = absurd (false≢true e)
same_true (x ∷ xs) (y ∷ ys) e = go (eqb x y) refl e (same_true xs ys)
  where
    go : (b : Bool) → eqb x y ≡ b → (b && same xs ys) ≡ true → (same xs ys ≡ true → xs ≡ ys) → x ∷ xs ≡ y ∷ ys
    go true p q ih = ap₂ (λ (z : ℕ) (zs : List ℕ). z ∷ zs) (eqb-true x y p) (ih q)
    go false p q ih = absurd (false≢true q)

-- the words of a known record are its image
known_image : (ws : List ℕ) → known (record_of ws) ≡ true → record_image (record_of ws) ≡ ws
unfolding record_of known
known_image ws e = go (same (record_image r) ws) refl e
  where
    r : Record
    r = reading (get_or ws 0 0) (get_or ws 1 0) (get_or ws 2 0) (get_or ws 3 0) (get_or ws 4 0) (get_or ws 5 0)

    go : (b : Bool) → same (record_image r) ws ≡ b → known (cond b r unknown) ≡ true → record_image (cond b r unknown) ≡ ws
    go true p q = same_true (record_image r) ws p
    go false p q = absurd (false≢true q)

-- the used words of a store whose kinds are known are exactly the image of its records
pub image_of_records : (ws : List ℕ) (n : ℕ) → all known (records_of ws n) ≡ true → image_of (records_of ws n) ≡ take (record_words * n) ws
unfolding records_of image_of all
image_of_records ws zero e = refl
image_of_records ws (suc n) e =
    let words : 8 + 8 * n ≡ 8 * suc n = omega arith in
    let (here, rest) = both (known (record_of (take 8 ws))) (all known (records_of (drop 8 ws) n)) e in
    ap₂ (λ (x y : List ℕ). x ++ y) (known_image (take 8 ws) here) (image_of_records (drop 8 ws) n rest) ∙
    sym (take-add 8 (8 * n) ws) ∙
    ap (λ k. take k ws) words

-- nodes and outputs, then entries: each are read back as they were written
pub entries_after : (rs : List Record) (q : List Entry) → all (λ r. not (waits r)) rs ≡ true → entries (rs ++ map waiting q) ≡ q
unfolding all waits entries
entries_after [] [] h = refl
entries_after [] (e ∷ q) h = ap (λ (t : List Entry). e ∷ t) (entries_after [] q refl)
entries_after (node n ∷ rs) q h = entries_after rs q h
entries_after (output o ∷ rs) q h = entries_after rs q h
entries_after (waiting e ∷ rs) q h = absurd (false≢true h)
entries_after (unknown ∷ rs) q h = entries_after rs q h

pub made_before : (rs : List Record) (q : List Entry) → all (λ r. not (waits r)) rs ≡ true → keep (λ r. not (waits r)) (rs ++ map waiting q) ≡ rs
unfolding all waits keep
made_before [] [] h = refl
made_before [] (e ∷ q) h = made_before [] q refl
made_before (node n ∷ rs) q h = ap (λ (t : List Record). node n ∷ t) (made_before rs q h)
made_before (output o ∷ rs) q h = ap (λ (t : List Record). output o ∷ t) (made_before rs q h)
made_before (waiting e ∷ rs) q h = absurd (false≢true h)
made_before (unknown ∷ rs) q h = ap (λ (t : List Record). unknown ∷ t) (made_before rs q h)

-- a build whose clauses are counted and no longer listed, by the parts that reading finds
unfoldable pub read : Build → ℕ → List ℕ → List ℕ → List Entry → List Record → Build
unfolding clause_total clause_mark
read b first tares buckets queue made = record {
  inputs = b.inputs;
  sum = b.sum;
  first = first;
  set = b.set;
  built = b.built;
  tares = tares;
  buckets = buckets;
  queue = queue;
  arena = record { records = made; fresh = b.arena.fresh; clauses = [] };
  clauses_before = clause_total b;
  words_before = clause_mark b;
}

-- a build between two calls
unfoldable pub settled : Build → Build
unfolding read
settled b = read b b.first b.tares b.buckets b.queue b.arena.records

read_cong : (b : Build) {f f' : ℕ} {t t' k k' : List ℕ} {q q' : List Entry} {r r' : List Record} →
    f ≡ f' → t ≡ t' → k ≡ k' → q ≡ q' → r ≡ r' → read b f t k q r ≡ read b f' t' k' q' r'
read_cong b {f' = f'} {t = t} {t' = t'} {k = k} {k' = k'} {q = q} {q' = q'} {r = r} ef et ek eq er =
    ap (λ (x : ℕ). read b x t k q r) ef ∙
    (ap (λ (x : List ℕ). read b f' x k q r) et ∙
    (ap (λ (x : List ℕ). read b f' t' x q r) ek ∙
    (ap (λ (x : List Entry). read b f' t' k' x r) eq ∙
    ap (λ (x : List Record). read b f' t' k' q' x) er)))

-- what state and store hold is the build that was written, whatever stands past the marks
pub read_back : (b : Build) (rest : List ℕ) → all (λ r. not (waits r)) b.arena.records ≡ true → b.first ≤ b.arena.fresh →
    build_of (state_of b) (image_of (records b) ++ rest) ≡ settled b
unfolding build_of build_over held state_of records settled variable_total padded tares_of buckets_of
read_back b rest none first =
    let made : List Record = b.arena.records in
    let fresh : ℕ = b.arena.fresh in
    ap (build_over (state_of b)) (records_of_image (records b) rest) ∙
    (read_cong b
    (omega arith)
    (take-append_seam b.tares (replicate (19 - length b.tares) 0))
    (take-append_seam b.buckets (replicate (20 - length b.buckets) 0))
    (entries_after made b.queue none)
    (made_before made b.queue none))
