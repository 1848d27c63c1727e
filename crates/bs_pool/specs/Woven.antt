-- A pool inside a larger one: its numbers are, in order, the free numbers of the larger one.
use Rattle.std.specs.Prelude.{◌≡◌, ℕ, zero, suc, ◌<◌, ◌≤◌, List, [], ◌∷◌, length, map, slice_index_or, Option, Some, None, option_map}

-- the owners of the whole, once those of a group are laid into its free numbers; the group's tags
-- are renamed
abbrev pub woven : (ℕ → ℕ) → List (Option ℕ) → List (Option ℕ) → List (Option ℕ)
woven rename [] group = map (option_map rename) group
woven rename (Some owner ∷ whole) group = Some owner ∷ woven rename whole group
woven rename (None ∷ whole) [] = None ∷ woven rename whole []
woven rename (None ∷ whole) (o ∷ group) = option_map rename o ∷ woven rename whole group

-- the number in the whole of a number of the group: the n-th that is free
abbrev pub place_in : List (Option ℕ) → ℕ → ℕ
place_in [] n = n
place_in (Some owner ∷ whole) n = suc (place_in whole n)
place_in (None ∷ whole) zero = zero
place_in (None ∷ whole) (suc n) = suc (place_in whole n)

-- the list begins with the places of the numbers below n
pub record ArePlaces (whole : List (Option ℕ)) (n : ℕ) (numbers : List ℕ) : Type 0 where
  pub enough : n ≤ length numbers
  pub each : (k d : ℕ) → k < length numbers → slice_index_or numbers k d ≡ place_in whole k
