-- Linking anew over what is carried: where the sizes fit, the linked records begin a new entry; else no arena with them fits.
use mathlib.Core.Path.{◌≡◌, refl, sym}
use mathlib.Core.Bool.{true, false, true≢false}
use mathlib.Core.List.{List, reverse}
use Prim.Native.Nat.{ℕ, ◌≤◌, ◌<◌}
use lib.ListN.{length}
use lib.IntN.{ℤ}
use Rattle.rules.specs.Totalizer.{Arena}
use Rattle.rules.specs.Refinement.{relink}
use Rattle.laws.specs.Lists.Facts.{All, occurs}
use Rattle.records.specs.Carries.{Held, St, st, store_of, marks_of, Fits, Holds, Carries, with_records}
use Rattle.records.proofs.Step.{going}
use Rattle.records.proofs.Entry.{rebase}
use Rattle.refine_links.specs.Linked.{Lies, Relinks}
use Rattle.refine_links.proofs.Renewing.{relink_length}

-- what fits and is held lies in the store
pub held_lies : (e σ : St) (t : Arena) → Fits e t → Holds e σ t → Lies (store_of σ) (marks_of σ).records (store_of e) t.records
held_lies e σ t f h = record { store_is = h.store_is; count_is = h.records_is; room = f.records_fit; small = f.sizes_fit }

module _ (s₀ : List ℕ) (c₀ : List ℤ) (m₀ : Held) (s : List ℕ) (c : List ℤ) (m : Held) (t : Arena) (h : Carries (st s₀ c₀ m₀) (st s c m) t)
    (k : m.full ≡ false) (s' : List ℕ) (bs : List ℕ) (below : ℕ) (inside : All (λ b. b < length t.records) bs) where
  lies : Lies s m.records s₀ t.records
  lies =
      let g = going (st s₀ c₀ m₀) (st s c m) t h k in
      held_lies (st s₀ c₀ m₀) (st s c m) t g.0 g.1

  -- linked: the patched store is the new entry, under the old marks
  pub relinked_carries : Relinks s s' m.records bs below true →
      Carries (st s' c m₀) (st s' c m) (with_records t (relink t.records below (reverse bs)))
  unfolding with_records
  relinked_carries p =
      let l = p.done s₀ t.records lies inside refl in
      rebase s₀ c₀ m₀ s s' c m t (relink t.records below (reverse bs)) h k l.store_is (relink_length t.records below (reverse bs)) l.small

  -- not linked: a size does not fit, whatever is lent
  pub relinked_over : Relinks s s' m.records bs below false → ((n : ℕ) → occurs n bs ≤ 1) → (e : St) →
      Fits e (with_records t (relink t.records below (reverse bs))) → ⊥
  unfolding with_records
  relinked_over p once e f = true≢false (sym (p.fit s₀ t.records lies inside once f.sizes_fit))
