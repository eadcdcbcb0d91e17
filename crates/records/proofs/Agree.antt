-- Two memories that carry the same agree.
use mathlib.Core.Path.{◌≡◌}
use Rattle.rules.specs.Totalizer.{Arena}
use Rattle.records.specs.Carries.{St, marks_of, Fits, Carries}
use Rattle.records.proofs.Entry.{holds_same, full_same}

-- word for word where what is carried fits, and on the full mark
abbrev pub Agree : St → St → St → Arena → Type 0
Agree e τ τ' t = (Fits e t → τ ≡ τ') × ((marks_of τ).full ≡ (marks_of τ').full)

pub carries_same : (e τ τ' : St) (t : Arena) → Carries e τ t → Carries e τ' t → Agree e τ τ' t
carries_same e τ τ' t h k = (λ f. holds_same e τ τ' t (h.fit f) (k.fit f), full_same e τ τ' t h k)
