-- A turn of many records, each in its slot.
use Rattle.std.specs.Prelude.{◌≡◌, ◌≢◌, ℕ, ◌*◌, ◌/◌, ◌<◌, ◌==◌, min, max, List, [], length, take, drop, count_by, slice_index, None}
use Rattle.bs_board.specs.commands.Orders.{Orders}
use Rattle.bs_batch.specs.declared.many.ManyOrders.{ManyOrders}
use Rattle.bs_batch.specs.Games.{words_of}
use Rattle.bs_batch.specs.Starting.{piece_of}
use Rattle.bs_calls.specs.BySeat.{turn_with}
use Rattle.bs_calls.specs.Records.{HasNoTurnBy, IsTurnBy, KeepsBehind}
use Rattle.bs_board.specs.declared.boards.board.Board.{Board}
use Rattle.arena_c.specs.Status.{IsStatus}

-- a move with these words, which gives nothing of the map
abbrev pub words_alone : List ℕ → Orders
words_alone words = record { moves = []; words = words; hazards = None; food = None }

-- the turn of the game of that number, by its own directions and words
abbrev pub turn_of_game : ManyOrders → ℕ → Board → Board
turn_of_game orders number =
    turn_with (piece_of orders.moves.now number orders.moves_each) (words_alone (words_of orders.words.now number orders.words_each))

-- What a turn does in one slot: the record at its start is that of the board after the turn, and
-- nothing behind it is written, or there is no turn for this reason, and nothing is written.
pub record PlaysSlot (turn : Board → Board) (slot slot' : List ℕ) (count count' status : ℕ) : Type 0 where
  pub answer : IsStatus status (IsTurnBy turn (take count slot) slot' count') (HasNoTurnBy turn (take count slot) (length slot))
  pub behind : status ≡ 0 → KeepsBehind count' slot slot'
  pub fault : status ≢ 0 → (slot' ≡ slot) × (count' ≡ count)

-- the bytes of each slot: the slots share the records equally
abbrev pub slot_bytes : List ℕ → List ℕ → ℕ
slot_bytes records lengths = length records / max (length lengths) 1

-- the slot of that number
abbrev pub slot_at : List ℕ → ℕ → ℕ → List ℕ
slot_at records each number = take each (drop (number * each) records)

-- Each slot that has a length and a status by itself. Nothing behind the slots is written, nor a
-- length or a status that has no slot; the result counts the turns that were played.
pub record PlaysSlots (orders : ManyOrders) (each slots : ℕ) (records records' lengths lengths' statuses statuses' : List ℕ) (result : ℕ) : Type 0 where
  pub each_slot : (k : ℕ) → k < slots
      → PlaysSlot (turn_of_game orders k) (slot_at records each k) (slot_at records' each k) (slice_index lengths k) (slice_index lengths' k) (slice_index statuses' k)
  pub behind : drop (slots * each) records' ≡ drop (slots * each) records
  pub other_lengths : drop slots lengths' ≡ drop slots lengths
  pub other_statuses : drop slots statuses' ≡ drop slots statuses
  pub count : result ≡ count_by (λ status. status == 0) (take slots statuses')
