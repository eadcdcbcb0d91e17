-- The pairs of an output, counted, and the loop that writes their clauses.
use mathlib.Core.Path.{◌≡◌, refl, sym, ap, ◌∙◌}
use mathlib.Core.Bool.{Bool, true, false}
use mathlib.Core.List.{List, [], ◌∷◌, map, append_assoc, append-nil}
use Prim.Native.Nat.{ℕ, zero, suc, ◌+◌, ◌-◌, ◌≤◌, ◌<◌, min}
use native.Mathlib.Omega.{arith}
use lib.IntN.{ℤ}
use Rattle.rules.specs.Records.{Record, node_at}
use Rattle.rules.specs.Totalizer.{Arena, counts, asks, pairs_from, pairs, clause, write}
use Rattle.records.specs.Carries.{Stores}
use Rattle.records_clauses.specs.Clauses.{with_clause}
use Rattle.totalizer_clauses.specs.declared.Pairs.{Pairs}
use Rattle.totalizer_clauses.specs.Spread.{Spread}

-- fewer pairs lie within v too
pub span_fewer : (v most : ℕ) (all pairs : Pairs) → pairs ≡ record { lo = all.lo; many = min all.many (v - most - all.lo) } → all.lo + all.many ≤ v + 1 →
    pairs.lo + pairs.many ≤ v + 1
span_fewer v most all pairs e h = rw e (omega arith)

asks_under : (half : Bool) (x y : ℕ) → x ≤ y → asks half y < 4294967296 → asks half x < 4294967296
unfolding asks
asks_under true x y i j = omega arith
asks_under false x y i j = omega arith

-- b falls along the pairs, so what fits at the first fits at all
pub asks_later : (half : Bool) (v lo a : ℕ) → lo ≤ a → asks half (v - lo) < 4294967296 → asks half (v - a) < 4294967296
asks_later half v lo a i j = asks_under half (v - a) (v - lo) (omega arith) j

-- b is at most what the right maximum counts for, so the value that it asks fits
asks_first : (half : Bool) (v top right lo : ℕ) → top < 4294967296 → right ≡ counts half top → lo ≡ v - right → asks half (v - lo) < 4294967296
unfolding asks counts
asks_first true v top right lo i e f = omega arith
asks_first false v top right lo i e f = omega arith

-- the pairs, from the maxima of both sides
pub spread_is : (s : List ℕ) (records : ℕ) (half : Bool) (l r v top right left lo many : ℕ) → top < 4294967296 →
    ((rs : List Record) → Stores s records rs → top ≡ (node_at rs r).maximum) → right ≡ counts half top →
    ((rs : List Record) → Stores s records rs → left ≡ (node_at rs l).maximum) → lo ≡ v - right → many ≡ min v left + 1 - lo →
    Spread s records half l r v lo many
spread_is s records half l r v top right left lo many i et er el elo em = record {
  lo_is = λ rs h. elo ∙ ap (λ (z : ℕ). v - z) (er ∙ ap (counts half) (et rs h));
  many_is = λ rs h. omega (arith, el rs h);
  within = omega arith;
  askable = asks_first half v top right lo i er elo;
}

-- so the pairs counted are the rule's
pub spread_pairs : (s : List ℕ) (records : ℕ) (half : Bool) (l r v lo many : ℕ) → Spread s records half l r v lo many → (rs : List Record) → Stores s records rs →
    pairs_from many lo v ≡ pairs (node_at rs l).maximum (counts half (node_at rs r).maximum) v
unfolding pairs
spread_pairs s records half l r v lo many x rs h = rw (x.many_is rs h, x.lo_is rs h) refl

pub asks_whole : (a : ℕ) → a < 4294967296 → asks false a < 4294967296
unfolding asks
asks_whole a i = i

-- one turn of the loop
module _ (half : Bool) (l r : ℕ) where
  pub write_turn : (number end a v : ℕ) → a < end → (t : Arena) →
      write half l r number (pairs_from (end - a) a v) t ≡
      write half l r number (pairs_from (end - (a + 1)) (a + 1) v) (with_clause (clause t.records half l r number (a, v - a)) t)
  unfolding write pairs_from with_clause
  write_turn number end a v i t =
      let k : ℕ = end - suc a in
      let e : end - a ≡ suc k = omega arith in
      let f : a + 1 ≡ suc a = omega arith in
      let g : ℕ × ℕ → List ℤ = clause t.records half l r number in
      rw (e, f) (ap (λ (z : List (List ℤ)). record { records = t.records; fresh = t.fresh; clauses = z })
      (sym (append_assoc t.clauses (g (a, v - a) ∷ []) (map g (pairs_from k (suc a) v)))))

  pub write_end : (number k a v : ℕ) → k ≤ 0 → (t : Arena) → write half l r number (pairs_from k a v) t ≡ t
  unfolding write pairs_from
  write_end number zero a v i t = ap (λ (z : List (List ℤ)). record { records = t.records; fresh = t.fresh; clauses = z }) (append-nil t.clauses)
  write_end number (suc k) a v i t = absurd (omega arith)
