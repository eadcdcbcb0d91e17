-- An entry with the records of some buckets changed in place.
use Rattle.std.specs.Prelude.{◌≡◌, List, ℕ, ◌*◌, ◌/◌, ◌<◌, length, get_or, drop}
use Rattle.laws.specs.Lists.Facts.{occurs}
use Rattle.records.specs.Carries.{St, store_of, buffer_of, marks_of}

-- e' is e but for the words of the buckets' records and those of its other records below n
pub record Based (buckets : List ℕ) (e e' : St) (n : ℕ) : Type 0 where
  pub same_marks : marks_of e' ≡ marks_of e
  pub same_buffer : buffer_of e' ≡ buffer_of e
  pub same_length : length (store_of e') ≡ length (store_of e)
  pub rest : drop (8 * n) (store_of e') ≡ drop (8 * n) (store_of e)
  pub others : (i : ℕ) → i < 8 * (marks_of e).records → occurs (i / 8) buckets ≡ 0 → get_or (store_of e') i 0 ≡ get_or (store_of e) i 0
