-- What is carried over an entry changed in place is reached over the entry itself; the queue by its words.
use mathlib.Core.Path.{◌≡◌, refl, sym, ap, ap₂, ◌∙◌}
use mathlib.Core.Bool.{true}
use mathlib.Core.List.{List, [], ◌∷◌, map}
use Prim.Native.Nat.{ℕ, zero, suc, ◌+◌, ◌*◌, ◌-◌, ◌≤◌, ◌<◌}
use native.Mathlib.Omega.{arith}
use lib.ListN.{length, get_or, take, drop}
use lib.Seq.{get_or-take, get_or-drop, drop-drop}
use lib.IntN.{ℤ}
use Rattle.rules.specs.Records.{Entry, waiting, record_image, image_of}
use Rattle.rules.specs.Totalizer.{Arena}
use Rattle.rules.specs.Build.{Build, with_arena, restructured}
use Rattle.rules.specs.Encode.{encode_outputs}
use Rattle.laws.specs.Records.Images.{drop_take}
use Rattle.std.specs.Prelude.{Option, Some, None, IfSome}
use Rattle.records.specs.Carries.{Held, St, buffer_of, marks_of, Fits, Carries}
use Rattle.records.proofs.Grow.{fits_less}
use Rattle.records.proofs.Step.{full_more}
use Rattle.build_line.specs.Work.{line, line_from}
use Rattle.encode_outputs.specs.Taken.{entries_by, whole}
use Rattle.encode_outputs.proofs.Lasts.{whole_grows}
use Rattle.build_begin.specs.declared.Structure.{Structure}
use Rattle.build_begin.specs.Named.{Slots}
use Rattle.refine_structure.specs.Based.{Based}
use Rattle.refine_structure.proofs.Bases.{based_fits, fits_based, based_holds, based_kept}
use Rattle.encode_reach.specs.Reached.{Reached}

module _ (bs : List ℕ) (e e' τ : St) (k : ℕ) (based : Based bs e e' k) (p : Build) (lo end : ℕ) (x : Option Structure) (within : k ≤ length p.arena.records) where
  abbrev u : Arena
  u = whole (encode_outputs p lo end)

  -- outputs change no slots
  kept_slots : (x : Option Structure) → IfSome x (λ z. Slots z p) → IfSome x (λ z. Slots z (encode_outputs p lo end))
  unfolding encode_outputs with_arena restructured
  kept_slots None h = tt
  kept_slots (Some z) h = record { tares_are = h.tares_are; tares_many = h.tares_many; buckets_are = h.buckets_are; buckets_many = h.buckets_many }

  pub reached : Carries e' τ u → (Fits e' p.arena → IfSome x (λ z. Slots z p)) → Reached bs e τ (encode_outputs p lo end) x
  reached c named = record {
    same_store = c.same_store ∙ based.same_length;
    same_buffer = c.same_buffer ∙ ap length based.same_buffer;
    kept_store = based_kept bs e e' k based u τ c;
    kept_buffer = ap (λ (m : Held). take m.words (buffer_of τ)) (sym based.same_marks) ∙
        (c.kept_buffer ∙ ap₂ (λ (m : Held) (b : List ℤ). take m.words b) based.same_marks based.same_buffer);
    fit = λ f.
        let f' : Fits e' u = based_fits bs e e' k based u f in (
          based_holds bs e e' k based u τ (omega (arith, within, (whole_grows p lo end).records_grow)) (c.fit f'),
          kept_slots x (named (fits_less e' p.arena u (whole_grows p lo end) f')),
        );
    full = λ n. c.full (λ f'. n (fits_based bs e e' k based u f'));
  }

  -- the room ended on the way
  pub reached_full : Carries e' τ p.arena → (marks_of τ).full ≡ true → (Fits e' p.arena → IfSome x (λ z. Slots z p)) → Reached bs e τ (encode_outputs p lo end) x
  reached_full c full named = reached (full_more e' τ p.arena u c full (whole_grows p lo end)) named

-- The queue by its words ------------------------------------------------------------------------------------------------------------

-- a line further on in the words
pub line_by : (ws vs : List ℕ) (at h : ℕ) → vs ≡ drop at ws → entries_by ws (at + h) (at + 512 + h) 1 (512 - h) ≡ line vs h
unfolding line line_from entries_by
line_by ws vs at h e = go (512 - h) (at + h) (at + 512 + h) h refl refl
  where
    word : (i j : ℕ) → j ≡ at + i → get_or ws j 0 ≡ get_or vs i 0
    word i j q = ap (λ (n : ℕ). get_or ws n 0) q ∙ (sym (get_or-drop at ws i 0) ∙ ap (λ (xs : List ℕ). get_or xs i 0) (sym e))

    go : (k a b h : ℕ) → a ≡ at + h → b ≡ at + 512 + h → entries_by ws a b 1 k ≡ line_from vs h k
    go zero a b h p q = refl
    go (suc k) a b h p q =
        ap₂ (λ (x : Entry) (xs : List Entry). x ∷ xs)
        (ap₂ (λ (n w : ℕ). record { node = n; weight = w }) (word h a p) (word (512 + h) b (omega arith)))
        (go k (a + 1) (b + 1) (suc h) (omega arith) (omega arith))

-- waiting records by their words
pub saved_by : (q : List Entry) (ws : List ℕ) (a : ℕ) → take (8 * length q) (drop a ws) ≡ image_of (map waiting q) → entries_by ws (a + 1) (a + 2) 8 (length q) ≡ q
unfolding entries_by image_of record_image
saved_by [] ws a e = refl
saved_by (x ∷ q) ws a e =
    ap₂ (λ (y : Entry) (ys : List Entry). y ∷ ys)
    (ap₂ (λ (n w : ℕ). record { node = n; weight = w }) (word 1 (omega arith)) (word 2 (omega arith)))
    (ap₂ (λ (i j : ℕ). entries_by ws i j 8 (length q)) (swap 1) (swap 2) ∙ saved_by q ws (a + 8) rest)
  where
    swap : (i : ℕ) → a + i + 8 ≡ a + 8 + i
    swap i = omega arith

    image : List ℕ
    image = 5 ∷ x.node ∷ x.weight ∷ 0 ∷ 0 ∷ 0 ∷ 0 ∷ 0 ∷ image_of (map waiting q)

    word : (i : ℕ) → i < 8 * length (x ∷ q) → get_or ws (a + i) 0 ≡ get_or image i 0
    word i h = sym (get_or-drop a ws i 0) ∙ (sym (get_or-take (8 * length (x ∷ q)) (drop a ws) i 0 h) ∙ ap (λ (xs : List ℕ). get_or xs i 0) e)

    more : (n : ℕ) → 8 * suc n ≡ 8 + 8 * n
    more n = omega arith

    rest : take (8 * length q) (drop (a + 8) ws) ≡ image_of (map waiting q)
    rest =
        ap (take (8 * length q)) (sym (drop-drop 8 a ws)) ∙
        (sym (drop_take 8 (8 * length q) (drop a ws)) ∙ (ap (λ (n : ℕ). drop 8 (take n (drop a ws))) (sym (more (length q))) ∙ ap (drop 8) e))
