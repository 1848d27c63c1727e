-- What the calls say of records.
use Rattle.std.specs.Prelude.{◌≡◌, ℕ, ◌<◌, ◌≤◌, List, length, take, drop, Some, None, ⊤}
use Rattle.bs_board.specs.declared.boards.board.Board.{Board}
use Rattle.bs_board.specs.declared.limits.TheConstants.{LAST_TURN}
use Rattle.bs_board.specs.boards.Legal.{IsLegal}
use Rattle.bs_board.specs.commands.Setup.{Setup}
use Rattle.bs_board.specs.records.Record.{record_of}
use Rattle.bs_calls.specs.declared.fault.Fault.{Fault}
use Rattle.bs_calls.specs.declared.fault.Fault.TheVariants.{NotARecord, NotASetup, LastTurn, Room, Memory}
use Rattle.bs_calls.specs.declared.orders.SeatOrders.{SeatOrders}
use Rattle.bs_calls.specs.declared.setups.SeatSetup.{SeatSetup}
use Rattle.bs_calls.specs.BySeat.{turn_by_seat}
use Rattle.bs_calls.specs.Setups.{setup_by_seat}
use Rattle.bs_modes.specs.FirstBoard.{first_board}

-- the bytes are the record of this legal board
abbrev pub IsRecordOf : List ℕ → Board → Type 0
IsRecordOf bytes b = IsLegal b × (bytes ≡ record_of b)

-- the bytes are the record of no legal board
abbrev pub IsNoRecord : List ℕ → Type 0
IsNoRecord bytes = (b : Board) → IsLegal b → bytes ≡ record_of b → ⊥

-- n is the length of the board's record, and the first n bytes are that record
abbrev pub Begins : List ℕ → ℕ → Board → Type 0
Begins bytes n b = (n ≡ length (record_of b)) × (take n bytes ≡ record_of b)

-- no byte behind the first n has changed
abbrev pub KeepsBehind : ℕ → List ℕ → List ℕ → Type 0
KeepsBehind n old new = drop n new ≡ drop n old

-- why bytes are not read
abbrev pub IsUnread : List ℕ → Fault → Type 0
IsUnread bytes NotARecord = IsNoRecord bytes
IsUnread bytes NotASetup = ⊥
IsUnread bytes LastTurn = ⊥
IsUnread bytes Room = ⊥
IsUnread bytes Memory = ⊤

-- old is the record of a legal board, and the first n bytes of new are that of the board after the
-- turn
abbrev pub IsTurnBy : (Board → Board) → List ℕ → List ℕ → ℕ → Type 0
IsTurnBy turn old new n = (b : Board) × IsRecordOf old b × Begins new n (turn b)

-- why there is no turn, with this much room for the new record
abbrev pub HasNoTurnBy : (Board → Board) → List ℕ → ℕ → Fault → Type 0
HasNoTurnBy turn old room NotARecord = IsNoRecord old
HasNoTurnBy turn old room NotASetup = ⊥
HasNoTurnBy turn old room LastTurn = (b : Board) × IsRecordOf old b × LAST_TURN ≤ b.turn
HasNoTurnBy turn old room Room = (b : Board) × IsRecordOf old b × room < length (record_of (turn b))
HasNoTurnBy turn old room Memory = ⊤

-- the same of the turn of a seat's orders
abbrev pub IsTurn : List ℕ → SeatOrders → List ℕ → ℕ → Type 0
IsTurn old orders = IsTurnBy (turn_by_seat orders) old

abbrev pub HasNoTurn : List ℕ → SeatOrders → ℕ → Fault → Type 0
HasNoTurn old orders = HasNoTurnBy (turn_by_seat orders) old

-- the first n bytes are the record of the setup's first board
abbrev pub IsStart : SeatSetup → List ℕ → ℕ → Type 0
IsStart s new n = (setup : Setup) × (setup_by_seat s ≡ Some setup) × Begins new n (first_board setup)

-- why there is no first record, with this much room for it
abbrev pub HasNoStart : SeatSetup → ℕ → Fault → Type 0
HasNoStart s room NotARecord = ⊥
HasNoStart s room NotASetup = setup_by_seat s ≡ None
HasNoStart s room LastTurn = ⊥
HasNoStart s room Room =
    (setup : Setup) × (setup_by_seat s ≡ Some setup) × room < length (record_of (first_board setup))
HasNoStart s room Memory = ⊤
