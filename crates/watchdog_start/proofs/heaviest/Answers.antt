-- `heaviest` folds the weights from the first on.
use mathlib.Core.Path.{◌≡◌, refl, sym, ap, ◌∙◌}
use Prim.Native.Nat.{ℕ, max}
use Rattle.std.proofs.Common.{rules}
use Rattle.std.proofs.lemmas.Fn.{fold_over, slice_gives, fronts}
use Rattle.std.proofs.lemmas.List.Recursion.{max_push}
use Rattle.rules.specs.Start.{heaviest}
use Rattle.watchdog_start.proofs.heaviest.Goals as goal

pub returns : goal.returns
unfolding heaviest
returns c =
    let iter = c.iter.result in
    let folded : c.fold.result ≡ heaviest iter.rest.now = fold_over fronts (λ y. y.now) _ (λ ys a. a ≡ heaviest ys) _ (λ ys a x b f' h k. (
      let e : b ≡ max a x.now = search rules in
          e ∙ (ap (λ (m : ℕ). max m x.now) h ∙ sym (max_push heaviest (λ w. w) refl (λ _ _. refl) ys x.now)),
      search rules,
    )) iter iter.rest.now _ _ (slice_gives iter) refl c.fold.ensures.ran in
    folded ∙ ap heaviest (search rules)
