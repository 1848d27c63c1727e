-- The answer of a turn on records, from the next board and what is written.
use Rattle.std.proofs.Common.{◌≡◌, ℕ, ◌<◌, ◌∙◌, List, length, take, ap, sym, MatchResult, Result, Ok, Err}
use Rattle.bs_board.specs.declared.boards.board.Board.{Board}
use Rattle.bs_board.specs.records.Record.{record_of}
use Rattle.bs_calls.specs.declared.fault.Fault.{Fault}
use Rattle.bs_calls.specs.declared.fault.Fault.TheVariants.{Room}
use Rattle.bs_calls.specs.declared.orders.SeatOrders.{SeatOrders}
use Rattle.bs_calls.specs.BySeat.{turn_by_seat}
use Rattle.bs_calls.specs.Records.{Begins, HasNoTurn, IsTurn}
use Rattle.bs_calls.specs.inner.Records.{IsNext}

pub has_turn : (old : List ℕ) (orders : SeatOrders) (next : Board) → IsNext old orders next
    → (r : Result ℕ Fault) (new : List ℕ) (room : ℕ)
    → MatchResult r (λ n. Begins new n next) (λ fault. (fault ≡ Room) × (room < length (record_of next)))
    → MatchResult r (IsTurn old orders new) (HasNoTurn old orders room)
has_turn old orders next is (Ok n) new room begins =
    (is.0, is.1, (begins.0 ∙ ap (λ (b : Board). length (record_of b)) is.3, begins.1 ∙ ap record_of is.3))
has_turn old orders next is (Err fault) new room f = rw f.0 (is.0, is.1, rw (sym is.3) f.1)
