-- What private contracts add to specs/Records.
use Rattle.std.specs.Prelude.{◌≡◌, ℕ, ◌≤◌, List, Some, None, ⊤}
use Rattle.bs_board.specs.declared.boards.board.Board.{Board}
use Rattle.bs_board.specs.declared.limits.TheConstants.{LAST_TURN}
use Rattle.bs_board.specs.boards.Legal.{IsLegal}
use Rattle.bs_board.specs.commands.Setup.{Setup}
use Rattle.bs_calls.specs.declared.fault.Fault.{Fault}
use Rattle.bs_calls.specs.declared.fault.Fault.TheVariants.{NotARecord, NotASetup, LastTurn, Room, Memory}
use Rattle.bs_calls.specs.declared.orders.SeatOrders.{SeatOrders}
use Rattle.bs_calls.specs.declared.setups.SeatSetup.{SeatSetup}
use Rattle.bs_calls.specs.BySeat.{turn_by_seat}
use Rattle.bs_calls.specs.Setups.{setup_by_seat}
use Rattle.bs_modes.specs.FirstBoard.{first_board}
use Rattle.bs_calls.specs.Records.{IsRecordOf, IsNoRecord}

-- a turn of the record's board leads to this legal board
abbrev pub IsNext : List ℕ → SeatOrders → Board → Type 0
IsNext bytes orders next = (b : Board) × IsRecordOf bytes b × IsLegal next × (next ≡ turn_by_seat orders b)

-- why there is no next board
abbrev pub HasNoNext : List ℕ → Fault → Type 0
HasNoNext bytes NotARecord = IsNoRecord bytes
HasNoNext bytes NotASetup = ⊥
HasNoNext bytes LastTurn = (b : Board) × IsRecordOf bytes b × LAST_TURN ≤ b.turn
HasNoNext bytes Room = ⊥
HasNoNext bytes Memory = ⊤

-- the first board of the setup, which is legal
abbrev pub IsFirst : SeatSetup → Board → Type 0
IsFirst s b = (setup : Setup) × (setup_by_seat s ≡ Some setup) × IsLegal b × (b ≡ first_board setup)

-- why there is no setup
abbrev pub HasNoSetup : SeatSetup → Fault → Type 0
HasNoSetup s NotARecord = ⊥
HasNoSetup s NotASetup = setup_by_seat s ≡ None
HasNoSetup s LastTurn = ⊥
HasNoSetup s Room = ⊥
HasNoSetup s Memory = ⊤
