use Rattle.std.proofs.Common.{◌≡◌, drop}
use Rattle.bs_board.specs.Distinct.{are_distinct}
use Rattle.bs_board.specs.Texts.{is_same_text}
use Rattle.bs_board.proofs.commands.starts.has_distinct_ids.Given as goal

-- the remaining entries decide
abbrev pub invariant-loop-seat : goal.invariant-loop-seat
invariant-loop-seat l = are_distinct (λ s t. is_same_text s.0 t.0) (drop l.seat l.starts) ≡ are_distinct (λ s t. is_same_text s.0 t.0) l.starts
