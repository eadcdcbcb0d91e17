-- Lines and their combined list over words of literals, for the promises of private parts.
use Rattle.std.specs.Prelude.{◌≡◌, true, not, cond, List, [], ◌∷◌, ◌++◌, map, ℕ, ◌+◌, ◌≤◌, eqb, length, ℤ}
use Rattle.rules.specs.Lists.{all, in_turn, among, padded}
use Rattle.rules.specs.Numbers.{lawful_weight}
use Rattle.rules.specs.Refusals.{first_true, lists_differ, literal_unlawful}

-- lines that are not refused one by one: as many literals as weights, few, each weight lawful
pub record Lines (lits : List ℤ) (weights : List ℕ) : Type 0 where
  pub lengths : length lits ≡ length weights
  pub few : length lits ≤ 256
  pub lawful : all lawful_weight weights ≡ true

-- 1, 2 and 4, of the lines one by one
unfoldable pub lines_refusal : List ℤ → List ℕ → ℕ
unfolding first_true lists_differ literal_unlawful all lawful_weight
lines_refusal lits weights = first_true ((1, lists_differ lits weights) ∷ (2, literal_unlawful lits) ∷ (4, not (all lawful_weight weights)) ∷ [])

-- the weights of the lines that name w, added
unfoldable pub named_word : List ℕ → List ℕ → ℕ → ℕ
named_word [] weights w = 0
named_word (v ∷ ws) [] w = 0
named_word (v ∷ ws) (k ∷ weights) w = cond (eqb w v) k 0 + named_word ws weights w

-- a word joins the list unless it stands there
unfoldable pub joined_word : List ℕ → ℕ → List ℕ
unfolding among
joined_word xs w = cond (among xs w) xs (xs ++ (w ∷ []))

-- first places kept in order
unfoldable pub combined_words : List ℕ → List ℕ
unfolding in_turn joined_word
combined_words ws = in_turn joined_word [] ws

-- two slices list the words xs with their weights, zeros behind them
pub record Listed (xs ws weights literals added : List ℕ) (used : ℕ) : Type 0 where
  pub literals_are : literals ≡ padded 0 256 xs
  pub added_are : added ≡ padded 0 256 (map (named_word ws weights) xs)
  pub used_is : used ≡ length xs
