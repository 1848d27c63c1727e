-- Which rows the threads of a run play, and when.
use Rattle.std.specs.Prelude.{ℕ, Bool, true, false, not, nat_eq, cond, List, length, slice_index_or, Option, Some, None}
use Rattle.std.specs.List.{filter, range_with_len}

-- the stay leaves, where those are played that leave, else it does not
abbrev pub is_among : Bool → Bool → Bool
is_among leaving leaves = cond leaving leaves (not leaves)

-- the rows of the stays that leave, or of those that do not, in order
abbrev pub rows_among : List Bool → Bool → List ℕ
rows_among leaves leaving = filter (λ row. is_among leaving (slice_index_or leaves row false)) (range_with_len 0 (length leaves))

-- the row is another than that one, if there is one
abbrev pub is_other : Option ℕ → ℕ → Bool
is_other None row = true
is_other (Some left) row = not (nat_eq row left)
