-- Records of games.
use Rattle.std.proofs.Common.{◌≡◌, ℕ, zero, suc, Option, ◌<◌, ◌≤◌, List, [], ◌∷◌, length, refl, sym, ap, ◌∙◌, arith}
use Rattle.std.specs.Prelude.{Some, None, option_map, slice_get}
use Rattle.std.proofs.lemmas.Option.{slice_get-map}
use Rattle.bs_board.specs.records.Record.{record_of}
use Rattle.bs_game.specs.Turns.{place_of_turn}
use Rattle.bs_game.proofs.Recorded.{turn_is_gone, turn_is_there, turn_is_within}
use Rattle.bs_board.specs.declared.commands.command.Command.{Command}
use Rattle.bs_board.specs.declared.commands.command.Command.TheVariants as command
use Rattle.bs_fiber.specs.Asking.{asked_turn}
use Rattle.bs_game.specs.Answer.{asked_board}
use Rattle.bs_sched.specs.inner.Inputs.{board_asked}
use Rattle.bs_sched.specs.inner.Turns.{FindsTurn}
use Rattle.bs_sched.proofs.NewestRecords.{Newest}
use Rattle.bs_game.specs.Game.{Game, last_board}
use Rattle.bs_game.specs.inner.Recorded.{IsRecorded}
use Rattle.bs_game.proofs.Recorded.{as_many}
use Rattle.bs_block.specs.Rounding.{rounded}
use Rattle.bs_game.specs.Law.{IsFitRecord}
use Rattle.bs_game.proofs.Games.{board_charge_small}
use Rattle.bs_heap.specs.declared.heap.TheConstants.{MOST_RECORD_BYTES}
use Rattle.bs_heap.specs.HeldBlocks.{LeavesOthers}
use Rattle.bs_pool.specs.Ledger.{Ledger}

pub nothing_left : (tag : ℕ) (pool : Ledger) → LeavesOthers tag pool pool
nothing_left tag pool = record { holds = λ other numbers differ held. held; reservations = refl }

-- the board of the turn that a command asks for is the one that it asks for
pub asked_of : (command : Command) (game : Game) → option_map record_of (board_asked (asked_turn command) game) ≡ option_map record_of (asked_board command game)
asked_of (command.New setup) game = refl
asked_of (command.Move orders) game = refl
asked_of command.Show game = refl
asked_of (command.Turn at) game = refl
asked_of command.Free game = refl
asked_of command.End game = refl
asked_of command.Bad game = refl

-- a record that is added is small enough for a heap
pub record_is_small : (most charge : ℕ) (bytes : List ℕ) → IsFitRecord most charge bytes → rounded (length bytes) ≤ MOST_RECORD_BYTES
record_is_small most charge bytes fit =
    let small = board_charge_small fit.board fit.legal in
    rw fit.is (omega (arith, small))

one_there : {X : Type 0} (xs : List X) (place : ℕ) → place < length xs → (x : X) × (slice_get xs place ≡ Some x)
one_there [] place within = absurd (omega arith)
one_there (x ∷ xs) zero within = (x, refl)
one_there (x ∷ xs) (suc place) within = one_there xs place (omega arith)

pub finds_turn : (game : Game) (records : List (List ℕ)) (bytes : List ℕ) (last count at : ℕ) (result : Option ℕ) → IsRecorded game records
    → (new : Newest (last_board game) bytes) → last ≡ new.board.turn → count ≡ length records → result ≡ place_of_turn count last at → FindsTurn game records at result
finds_turn game records bytes last count at None kept new turn counted is =
    turn_is_gone game records new.board count at kept new.there counted (rw (← turn) is)
finds_turn game records bytes last count at (Some place) kept new turn counted is =
    let found : Some place ≡ place_of_turn count new.board.turn at = rw (← turn) is in
    let many = as_many game records kept in
    let within = turn_is_within game records new.board count at place kept counted found in
    let here = one_there game place within in
    let there = turn_is_there game records new.board here.0 count at place kept new.there counted found here.1 in
    let same : slice_get records place ≡ option_map record_of (slice_get game place)
    = ap (λ all. slice_get all place) kept.is ∙ slice_get-map record_of game place in
    (omega (arith, many), same ∙ ap (option_map record_of) (here.1 ∙ sym there))
