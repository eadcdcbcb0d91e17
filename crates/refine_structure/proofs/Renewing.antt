-- Old buckets renewed over what is carried: the words changed in place begin a new entry.
use mathlib.Core.Path.{◌≡◌, refl, sym, ap, ◌∙◌, subst}
use mathlib.Core.Bool.{Bool, true, false, true≢false}
use mathlib.Core.List.{List, ◌++◌, map, reverse}
use Prim.Native.Nat.{ℕ, ◌+◌, ◌*◌, ◌/◌, ◌≤◌, ◌<◌}
use native.Mathlib.Omega.{arith}
use lib.ListN.{length, get_or, take, drop, length-drop}
use lib.Seq.{drop-append_seam, get_or-take, get_or-drop, ext_get_or}
use lib.IntN.{ℤ}
use Rattle.rules.specs.Lists.{in_turn}
use Rattle.rules.specs.Records.{Record, outputs, image_of}
use Rattle.rules.specs.Totalizer.{Arena}
use Rattle.rules.specs.Refinement.{relink, former_half, extend_bucket}
use Rattle.laws.specs.Lists.Facts.{All, All_map, occurs, occurs_none}
use Rattle.laws.specs.Records.Places.{place, place_inside}
use Rattle.laws.specs.WellFormed.Keeps.{All_reverse}
use Rattle.laws.specs.Records.Words.{image_length}
use Rattle.records.specs.Carries.{Held, ended, St, st, Fits, Holds, Carries, with_records}
use Rattle.records_words.specs.Words.{laid}
use Rattle.records.proofs.Grow.{Grows, fits_less}
use Rattle.records.proofs.Step.{over, going}
use Rattle.refine_links.specs.Linked.{Relinks}
use Rattle.refine_links.proofs.Renewing.{relink_length, relink_front}
use Rattle.refine_links.proofs.Carrying.{relinked_carries, relinked_over}
use Rattle.refine_outputs.proofs.Extending.{buckets_grow}
use Rattle.refine_structure.specs.Based.{Based}
use Rattle.refine_structure.specs.Refined.{renew, Right, Renewable, Renews}
use Rattle.refine_structure.proofs.Bases.{based_self}

-- past what is laid the words are the same
laid_rest : (xs s₀ : List ℕ) (n : ℕ) → length xs ≡ n → drop n (laid xs s₀) ≡ drop n s₀
unfolding laid
laid_rest xs s₀ n e = subst (λ (k : ℕ). drop k (xs ++ drop (length xs) s₀) ≡ drop k s₀) e (drop-append_seam xs (drop (length xs) s₀))

module _ (bs : List ℕ) (s₀ : List ℕ) (m₀ : Held) (s : List ℕ) (c : List ℤ) (m : Held) (old below : ℕ) (halves : List ℕ) (before : List Record)
    (d : ℕ) (t : Arena) (r : Renewable bs (st s₀ c m₀) (st s c m) old below halves before d t) where
  abbrev e : St
  e = st s₀ c m₀

  abbrev n : ℕ
  n = length t.records

  abbrev linked : Arena
  linked = with_records t (relink t.records d (reverse bs))

  -- already full: nothing is changed
  pub renew_full : m.full ≡ true → Renews bs e (st s c m) (renew before bs d t)
  renew_full k =
      let nay : Fits e t → ⊥ = λ q. true≢false (sym k ∙ (r.carries.fit q).not_full) in
      record {
        entry = e;
        places = 0;
        based = based_self _ e 0;
        within = omega arith;
        carries = over e (st s c m) t (renew before bs d t) r.carries nay (λ q. nay (r.fits q));
      }

  grows : Grows linked (renew before bs d t)
  unfolding renew
  grows = buckets_grow before (reverse bs) linked

  linked_many : length linked.records ≡ n
  unfolding with_records
  linked_many = relink_length t.records d (reverse bs)

  within : n ≤ length (renew before bs d t).records
  within = omega (arith, grows.records_grow, linked_many)

  module _ (k : m.full ≡ false) where
    held : Fits e t × Holds e (st s c m) t
    held = going e (st s c m) t r.carries k

    right : Right bs old below halves before d t
    right = r.right held.0

    inside : All (λ b. b < n) bs
    inside = All_map (place_inside t.records) bs right.there

    -- only the buckets' words differ
    based : (s' : List ℕ) → length s' ≡ length s → ((i : ℕ) → occurs (i / 8) bs ≡ 0 → get_or s' i 0 ≡ get_or s i 0) → Based bs e (st s' c m₀) n
    based s' long kept =
        let size : length s ≡ length s₀ = r.carries.same_store in
        let same : drop (8 * n) s ≡ drop (8 * n) s₀ = ap (drop (8 * n)) held.1.store_is ∙ laid_rest (image_of t.records) s₀ (8 * n) (image_length t.records) in
        let past : (i : ℕ) → get_or (drop (8 * n) s') i 0 ≡ get_or (drop (8 * n) s₀) i 0 = λ i.
        get_or-drop (8 * n) s' i 0 ∙
        (kept (8 * n + i) (occurs_none (λ b. b < n) ((8 * n + i) / 8) bs inside (λ (h : (8 * n + i) / 8 < n). omega arith)) ∙
        (sym (get_or-drop (8 * n) s i 0) ∙ ap (λ (x : List ℕ). get_or x i 0) same)) in
        record {
          same_marks = refl;
          same_buffer = refl;
          same_length = long ∙ size;
          rest = ext_get_or 0 (drop (8 * n) s') (drop (8 * n) s₀) (omega (arith, length-drop (8 * n) s', length-drop (8 * n) s₀)) (λ i h. past i);
          others = λ i h none.
              kept i none ∙
              (sym (get_or-take (8 * m₀.records) s i 0 h) ∙ (ap (λ (x : List ℕ). get_or x i 0) r.carries.kept_store ∙ get_or-take (8 * m₀.records) s₀ i 0 h));
        }

    linked_at : (s' : List ℕ) (x y : Bool) → x ≡ y → Relinks s s' m.records bs below x → Relinks s s' m.records bs d y
    linked_at s' x y e p = subst (λ (i : ℕ). Relinks s s' m.records bs i y) right.below_is (subst (Relinks s s' m.records bs below) e p)

    -- a size does not fit
    pub renew_over : (s' : List ℕ) (x : Bool) → x ≡ false → Relinks s s' m.records bs below x → Renews bs e (st s' c ended) (renew before bs d t)
    renew_over s' x off p = record {
      entry = st s' c m₀;
      places = n;
      based = based s' p.same_length p.kept;
      within = within;
      carries = record {
        same_store = refl;
        same_buffer = refl;
        kept_store = refl;
        kept_buffer = refl;
        fit = λ q. absurd (relinked_over s₀ c m₀ s c m t r.carries k s' bs d inside (linked_at s' x false off p)
            right.once (st s' c m₀) (fits_less (st s' c m₀) linked (renew before bs d t) grows q));
        full = λ q. refl;
      };
    }

    -- linked, and the outputs extended
    pub renew_done : (s' : List ℕ) (τ : St) (x : Bool) → x ≡ true → Relinks s s' m.records bs below x →
        ((e : St) (t : Arena) (before : List Record) → Carries e (st s' c m) t → old ≤ length t.records → outputs (take old t.records) ≡ outputs before →
        halves ≡ map (former_half before) bs → Carries e τ (in_turn (extend_bucket before) t (reverse bs))) → Renews bs e τ (renew before bs d t)
    unfolding renew with_records
    renew_done s' τ x on p extends = record {
      entry = st s' c m₀;
      places = n;
      based = based s' p.same_length p.kept;
      within = within;
      carries =
          extends (st s' c m₀) linked before (relinked_carries s₀ c m₀ s c m t r.carries k s' bs d inside (linked_at s' x true on p))
          (omega (arith, linked_many, right.enough))
          (relink_front t.records d (reverse bs) old (All_reverse (λ b. place t.records b ≡ true) bs right.there) ∙ right.same) right.halves_are;
    }
