-- Any two results that the promise of a public function allows are equal, where records lie in the words; the words of `relink`, where the
-- sizes fit.
use Rattle.std.specs.Prelude.{Option, Some, None, is_some, ⊤}
use mathlib.Core.Path.{◌≡◌, refl, sym, ap₂, ◌∙◌}
use mathlib.Core.Bool.{Bool, true, false, true≢false, false≢true}
use mathlib.Core.List.{List, ◌++◌}
use Prim.Native.Nat.{ℕ, ◌≤◌, ◌<◌}
use lib.ListN.{length, take, drop, take-append-drop}
use seplogic.Ra.Ura.{Ura}
use base.Logic.{SProp}
use prog.Memory.{Memory}
use prog.Routine.{Routine}
use types.Logic.{Logic}
use borrow.Fn.Kinds.{Dens, res_t, ended_of}
use denote.Triple.Clauses.{AtExit}
use denote.Triple.Entry.{Args, Res}
use contract.Lifetimes.{Lfts}
use contract.Monad.{Fun, fact}
use Rattle.rules.specs.Records.{Record}
use Rattle.laws.specs.Lists.Facts.{All, occurs}
use Rattle.records.specs.Carries.{Reads}
use Rattle.refine_links.specs.Linked.{Lies, Relinks}
use Rattle.refine_links.specs.declared.Bucket.{Bucket}
use Rattle.refine_links.specs.Patched.{with_right}
use Rattle.refine_links.specs.contracts.patch as patch
use Rattle.refine_links.proofs.relink.Kinds as relink-kinds
use Rattle.refine_links.proofs.relink.Reads as relink
use Rattle.refine_links.proofs.former_halves.Kinds as former-halves-kinds
use Rattle.refine_links.proofs.former_halves.Reads as former-halves

-- the promise of `patch` is the fact that its theorem speaks of
pub patch_says : {M : Type 1} {𝓤 : Ura M} (𝓛 : Logic 𝓤) (mem : Memory → SProp 𝓤) (run : Routine → Fun 𝓤) (κs : Lfts 1)
    (a : Args patch.signature κs) (r : Res patch.signature κs) (e : AtExit patch.ended κs) →
    (patch.clauses 𝓛 mem run κs a).ensures tt r e ≡ fact 𝓤 (e.0.now ≡ with_right a.0.now a.1.0)
patch_says 𝓛 mem run κs a r e = refl

pub patch_determined : (b x y : Bucket) (below : ℕ) → x ≡ with_right b below → y ≡ with_right b below → x ≡ y
patch_determined b x y below p q = p ∙ sym q

relinks_same : (s s' s'' : List ℕ) (records : ℕ) (bs : List ℕ) (below : ℕ) (x y : Bool) → Relinks s s' records bs below x → Relinks s s'' records bs below y →
    (s₀ : List ℕ) (rs : List Record) → Lies s records s₀ rs → All (λ b. b < length rs) bs → ((n : ℕ) → occurs n bs ≤ 1) → (x ≡ y) × (x ≡ true → s' ≡ s'')
relinks_same s s' s'' records bs below true true p q s₀ rs h a once =
    (refl, λ e. (p.done s₀ rs h a refl).store_is ∙ sym (q.done s₀ rs h a refl).store_is)
relinks_same s s' s'' records bs below true false p q s₀ rs h a once =
    absurd (true≢false (sym (q.fit s₀ rs h a once (p.done s₀ rs h a refl).small)))
relinks_same s s' s'' records bs below false true p q s₀ rs h a once =
    absurd (true≢false (sym (p.fit s₀ rs h a once (q.done s₀ rs h a refl).small)))
relinks_same s s' s'' records bs below false false p q s₀ rs h a once = (refl, λ e. absurd (false≢true e))

done_same : (x y : Option ⊤) → is_some x ≡ is_some y → x ≡ y
done_same (Some x) (Some y) e = refl
done_same None None e = refl
done_same (Some x) None e = absurd (true≢false e)
done_same None (Some y) e = absurd (false≢true e)

pub relink_determined : (κs : Lfts 2) (a : Dens κs relink-kinds.ps) (x y : (res_t relink-kinds.r κs).Denot) (e f : AtExit (ended_of 2 relink-kinds.ps relink-kinds.r) κs) →
    relink.Post κs a x e → relink.Post κs a y f → (s₀ : List ℕ) (rs : List Record) → Lies a.0.now a.1.0 s₀ rs →
    All (λ b. b < length rs) a.1.1.0.now → ((n : ℕ) → occurs n a.1.1.0.now ≤ 1) →
    (x ≡ y) × (is_some x ≡ true → e.0.now ≡ f.0.now)
relink_determined κs a x y e f p q s₀ rs h in_rs once =
    let same = relinks_same a.0.now e.0.now f.0.now a.1.0 a.1.1.0.now a.1.1.1.0 (is_some x) (is_some y) p q s₀ rs h in_rs once in
    (done_same x y same.0, same.1)

halves_same : (xs ys : List ℕ) (n : ℕ) → take n xs ≡ take n ys → drop n xs ≡ drop n ys → xs ≡ ys
halves_same xs ys n e f = sym (take-append-drop n xs) ∙ (ap₂ (λ (s t : List ℕ). s ++ t) e f ∙ take-append-drop n ys)

pub former_halves_determined : (κs : Lfts 2) (a : Dens κs former-halves-kinds.ps) (x y : (res_t former-halves-kinds.r κs).Denot) (e f : AtExit (ended_of 2 former-halves-kinds.ps former-halves-kinds.r) κs) →
    former-halves.Post κs a x e → former-halves.Post κs a y f → (rs : List Record) → Reads a.0 rs → x ≡ y
former_halves_determined κs a x y e f p q rs h = halves_same x y (length a.1.0.now) (p.0 rs h ∙ sym (q.0 rs h)) (p.1.0 ∙ sym q.1.0)
