use Rattle.std.proofs.Common.{◌≡◌, List, ℕ, true, is_some}
use Rattle.bs_json.specs.inner.Compact.{ReadMoves}
use Rattle.bs_json.specs.inner.Sorted.{is_above, is_last}
use Rattle.bs_json.proofs.compact.split_moves.Given as goal

-- the text before the remaining part is that of the moves found, and an id above the last one is
-- above all
abbrev pub invariant-loop-turn : goal.invariant-loop-turn
invariant-loop-turn l =
    ReadMoves l.fn.line l.moves l.left (is_some l.last) × ((id : List ℕ) → is_above id l.last ≡ true → is_last id l.moves ≡ true)
