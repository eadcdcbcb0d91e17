-- What lent memory carries: the records and clauses of an arena, as far as there is room. The contracts of the crates above cite
-- `Steps` and `Makes` over the rules' own functions.
use Rattle.std.specs.Prelude.{◌≡◌, Bool, true, false, Option, Some, None, List, [], ◌∷◌, ◌++◌, ℕ, ◌+◌, ◌*◌, ◌≤◌, ◌<◌, max, length, take, ℤ}
use Rattle.rules.specs.Records.{Record, node_of, image_of, records_of}
use Rattle.rules.specs.Totalizer.{Arena}
use Rattle.rules.specs.Build.{clause_words}
use Rattle.records.specs.declared.Marks.{Marks}
use Rattle.records.specs.declared.Store.{Store}
use Rattle.records_words.specs.Words.{laid}

-- what marks say of lent memory, and whether the room has ended
pub record Held : Type 0 where
  pub records : ℕ
  pub words : ℕ
  pub fresh : ℕ
  pub clauses : ℕ
  pub full : Bool

-- marks: the room has not ended
abbrev pub at : Marks → Held
at m = record { records = m.records; words = m.words; fresh = m.fresh; clauses = m.clauses; full = false }

-- no marks: the room has ended
abbrev pub ended : Held
ended = record { records = 0; words = 0; fresh = 0; clauses = 0; full = true }

-- what a step answers: the marks after it, or none where the room ended
abbrev pub after : Option Marks → Held
after (Some m) = at m
after None = ended

-- store, clause buffer and what the marks say
pub data St : Type 0 where
  st : List ℕ → List ℤ → Held → St

abbrev pub store_of : St → List ℕ
store_of (st s c m) = s

abbrev pub buffer_of : St → List ℤ
buffer_of (st s c m) = c

abbrev pub marks_of : St → Held
marks_of (st s c m) = m

-- the buffer's used words: those of the entry e, then the clauses
unfoldable pub written : St → Arena → List ℤ
unfolding clause_words
written e t = take (marks_of e).words (buffer_of e) ++ clause_words t.clauses

-- the larger of a record's maximum and height
unfoldable pub size : Record → ℕ
unfolding node_of
size r = max (node_of r).maximum (node_of r).height

-- the largest maximum or height among the records
unfoldable pub peak : List Record → ℕ
unfolding size
peak [] = 0
peak (r ∷ rs) = max (size r) (peak rs)

-- t needs no more than what e lends, and its places, maxima and heights fit a word
pub record Fits (e : St) (t : Arena) : Type 0 where
  pub records_fit : 8 * length t.records ≤ length (store_of e)
  pub words_fit : length (written e t) ≤ length (buffer_of e)
  pub fresh_fit : t.fresh ≤ 1000000001
  pub places_fit : length t.records ≤ 4294967296
  pub sizes_fit : peak t.records < 4294967296

-- σ holds exactly t, over what e held
pub record Holds (e σ : St) (t : Arena) : Type 0 where
  pub store_is : store_of σ ≡ laid (image_of t.records) (store_of e)
  pub buffer_is : buffer_of σ ≡ laid (written e t) (buffer_of e)
  pub records_is : (marks_of σ).records ≡ length t.records
  pub words_is : (marks_of σ).words ≡ length (written e t)
  pub fresh_is : (marks_of σ).fresh ≡ t.fresh
  pub clauses_is : (marks_of σ).clauses ≡ (marks_of e).clauses + length t.clauses
  pub not_full : (marks_of σ).full ≡ false
  pub records_low : (marks_of e).records ≤ length t.records
  pub words_low : (marks_of e).words ≤ length (written e t)
  pub count_low : (marks_of σ).clauses ≤ (marks_of σ).words

-- σ carries t: exactly t where it fits, else the room has ended; in both cases what e used is kept
pub record Carries (e σ : St) (t : Arena) : Type 0 where
  pub same_store : length (store_of σ) ≡ length (store_of e)
  pub same_buffer : length (buffer_of σ) ≡ length (buffer_of e)
  pub kept_store : take (8 * (marks_of e).records) (store_of σ) ≡ take (8 * (marks_of e).records) (store_of e)
  pub kept_buffer : take (marks_of e).words (buffer_of σ) ≡ take (marks_of e).words (buffer_of e)
  pub fit : Fits e t → Holds e σ t
  pub full : (Fits e t → ⊥) → (marks_of σ).full ≡ true

-- from σ to τ the rule f is carried out, whatever the entry and the arena
pub record Steps (σ τ : St) (f : Arena → Arena) : Type 0 where
  pub go : (e : St) (t : Arena) → Carries e σ t → Carries e τ (f t)

-- from σ to τ the rule f is carried out, and where there is room x is what it names
pub record Makes {X : Type 0} (σ τ : St) (x : X) (f : Arena → Arena × X) : Type 0 where
  pub go : (e : St) (t : Arena) → Carries e σ t → Carries e τ (f t).0 × (Fits e (f t).0 → x ≡ (f t).1)

-- the first records of the words s are rs
pub record Stores (s : List ℕ) (records : ℕ) (rs : List Record) : Type 0 where
  pub image_is : take (8 * records) s ≡ image_of rs
  pub count_is : records ≡ length rs

-- the used records of a store are rs
abbrev pub Reads : Store → List Record → Type 0
Reads x rs = Stores x.words.now x.records rs

-- the arena with other records
unfoldable pub with_records : Arena → List Record → Arena
with_records t rs = record { records = rs; fresh = t.fresh; clauses = t.clauses }

-- a rule over records alone, over an arena
unfoldable pub on_records : {X : Type 0} → (List Record → List Record × X) → Arena → Arena × X
unfolding with_records
on_records f t = (with_records t (f t.records).0, (f t.records).1)

-- one record more
unfoldable pub with_record : Record → Arena → Arena
unfolding with_records
with_record r t = with_records t (t.records ++ (r ∷ []))

-- one record more, and its place
unfoldable pub placed : Record → Arena → Arena × ℕ
unfolding with_record
placed r t = (with_record r t, length t.records)

-- what is lent, read as an arena: nothing written yet
unfoldable pub read_arena : St → Arena
read_arena σ = record { records = records_of (store_of σ) (marks_of σ).records; fresh = (marks_of σ).fresh; clauses = [] }

-- the marks lie within the slices, the used words are the image of their records, and the numbers are within range
pub record Lent (σ : St) : Type 0 where
  pub image : take (8 * (marks_of σ).records) (store_of σ) ≡ image_of (records_of (store_of σ) (marks_of σ).records)
  pub records_in : 8 * (marks_of σ).records ≤ length (store_of σ)
  pub words_in : (marks_of σ).words ≤ length (buffer_of σ)
  pub fresh_in : (marks_of σ).fresh ≤ 1000000001
  pub count_in : (marks_of σ).clauses ≤ (marks_of σ).words
  pub places_in : (marks_of σ).records ≤ 4294967296
  pub sizes_in : peak (records_of (store_of σ) (marks_of σ).records) < 4294967296
  pub not_full : (marks_of σ).full ≡ false
