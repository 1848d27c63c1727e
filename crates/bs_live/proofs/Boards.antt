-- The boards of kept records, and what an answer reads of them.
use Rattle.std.proofs.Common.{◌≡◌, ℕ, ◌+◌, ◌-◌, ◌<◌, ◌≤◌, List, [], ◌∷◌, Option, Some, None, length, map, get_or, refl, sym, ap, subst, ◌∙◌, arith}
use Rattle.std.specs.Prelude.{All, IfSome, option_map, slice_get}
use Rattle.std.proofs.lemmas.List.Elements.{All-head, All-tail}
use Rattle.std.proofs.lemmas.Option.{slice_get-get_or, slice_get-map}
use Rattle.bs_block.specs.Rounding.{rounded}
use Rattle.bs_board.specs.declared.boards.board.Board.{Board}
use Rattle.bs_board.specs.declared.limits.TheConstants.{MOST_QUOTA}
use Rattle.bs_board.specs.boards.Legal.{IsLegal}
use Rattle.bs_board.specs.records.Kept.{IsLegalRecord}
use Rattle.bs_board.specs.inner.Kept.{board_in}
use Rattle.bs_board.specs.records.Record.{record_of}
use Rattle.bs_board.proofs.records.KeptRecord.{only_board_in}
use Rattle.bs_board.specs.declared.commands.command.Command.{Command}
use Rattle.bs_game.specs.declared.reply.Answer.{Answer}
use Rattle.bs_game.specs.declared.reply.Effect.{Effect}
use Rattle.bs_game.specs.declared.view.View.{View}
use Rattle.bs_game.specs.Answer.{Fits, Outcome, answer_to, view_of_game}
use Rattle.bs_game.specs.Game.{Game, IsGame, board_of_turn, game_charge, last_board}
use Rattle.bs_game.specs.Law.{IsAnswerTo, IsFitEffect, IsFitRecord, effected}
use Rattle.bs_game.specs.View.{IsFitView, answer_of}
use Rattle.bs_game.specs.inner.Recorded.{IsRecorded}
use Rattle.bs_game.specs.Turns.{place_of_turn}
use Rattle.bs_game.proofs.AnswerLaw.{answers_the_game, view_of_game_is_fit}
use Rattle.bs_game.proofs.Games.{board_charge_small, legal_last}
use Rattle.bs_game.proofs.Recorded.{as_many, board_at_place, kept_turns, nothing_of_turn, recorded_after, same_charge, turn_is_gone, turn_is_there, turn_is_within}
use Rattle.bs_heap.specs.Charge.{blocks_for, charge_of}
use Rattle.bs_heap.specs.Heap.{Heap, with_index_room}
use Rattle.bs_heap.specs.HeldBlocks.{IsKeptIn}
use Rattle.bs_pool.specs.Ledger.{Ledger, reserved}
use Rattle.bs_heap.specs.declared.heap.TheConstants.{MOST_RECORD_BYTES}
use Rattle.bs_live.specs.Game.{KeptBoards}

-- the boards of a game's records are the game
pub boards_again : (game : Game) → All IsLegal game → map board_in (map record_of game) ≡ game
boards_again [] legal = refl
boards_again (board ∷ game) legal =
    ap (λ first. first ∷ map board_in (map record_of game)) (only_board_in (record_of board) board (All-head IsLegal board game legal) refl)
    ∙ ap (λ rest. board ∷ rest) (boards_again game (All-tail IsLegal board game legal))

pub board_again : (board : Option Board) → IfSome board IsLegal → option_map board_in (option_map record_of board) ≡ board
board_again None legal = refl
board_again (Some board) legal = ap Some (only_board_in (record_of board) board legal refl)

-- bytes that are the record of a legal board, if there is one
pub legal_record : (bytes : Option (List ℕ)) (board : Option Board) → bytes ≡ option_map record_of board → IfSome board IsLegal → IfSome bytes IsLegalRecord
legal_record None board is legal = tt
legal_record (Some bytes) None is legal = absurd cc
legal_record (Some bytes) (Some board) is legal = record { board = board; legal = legal; is = cc }

-- the boards after an answer
pub answered : (most : ℕ) (outcome : Outcome) (answer : Answer) (old new : List (List ℕ)) → IsRecorded (map board_in old) old
    → IsAnswerTo most (map board_in old) outcome answer → new ≡ effected answer.effect old
    → (map board_in new ≡ outcome.game) × IsRecorded (map board_in new) new
answered most outcome answer old new kept told is =
    let next : IsRecorded outcome.game new = subst (IsRecorded outcome.game) (sym is) (recorded_after most (map board_in old) outcome answer old kept told) in
    let same : map board_in new ≡ outcome.game = ap (map board_in) next.is ∙ boards_again outcome.game next.right.legal in
    (same, subst (λ (game : Game). IsRecorded game new) (sym same) next)

-- the view of a game whose records are kept
pub fit_view : (records : List (List ℕ)) (quota : ℕ) (kept : KeptBoards) (command : Command) (charge blocks : ℕ) → record { game = map board_in records; quota = quota; blocks = blocks } ≡ kept
    → IsRecorded (map board_in records) records → quota ≤ MOST_QUOTA → charge ≡ game_charge kept.game → charge ≤ kept.quota
    → IsFitView (view_of_game kept.quota kept.game command)
fit_view records quota kept command charge blocks same recorded small value within =
    view_of_game_is_fit kept.quota kept.game command
    (subst (λ (v : KeptBoards). IsGame v.game) same recorded.right)
    (subst (λ n. n ≤ kept.quota) value within)
    (subst (λ (v : KeptBoards). v.quota ≤ MOST_QUOTA) same small)

pub same_kept : (first second : Game) (quota m n : ℕ) → first ≡ second → m ≡ n
    → ◌≡◌ {A = KeptBoards} record { game = first; quota = quota; blocks = m } record { game = second; quota = quota; blocks = n }
same_kept first second quota m n same as_many = rw (same, as_many) refl

-- the answer to a command from the view of the game
pub told : (view : View) (answer : Answer) (most : ℕ) (game : Game) (command : Command) → IsGame game → Fits command → IsFitView view
    → view ≡ view_of_game most game command → answer ≡ answer_of view command → IsAnswerTo most game (answer_to most game command) answer
told view answer most game command right fits fit seen is =
    let within : game_charge game ≤ most = subst (λ (v : View). v.charge ≤ v.quota) seen fit.within in
    subst (IsAnswerTo most game (answer_to most game command)) (sym (is ∙ ap (λ (v : View). answer_of v command) seen))
    (answers_the_game most game command right within fits)

-- an effect that fits the game fits the heap of its records, once the heap's index has grown
pub change_fits : (size quota n : ℕ) (old new : Heap) (pool : Ledger) (effect : Effect) (game : Game) → new ≡ with_index_room n old → old.quota ≡ quota
    → blocks_for size quota ≤ reserved old.tag pool → IsKeptIn old pool → IsRecorded game old.records → IsFitEffect quota (game_charge game) effect
    → (blocks_for size new.quota ≤ reserved new.tag pool) × (IsKeptIn new pool × IsFitEffect new.quota (charge_of new.records) effect)
change_fits size quota n old new pool effect game grown is room kept recorded fits =
    subst (λ (h : Heap). (blocks_for size h.quota ≤ reserved h.tag pool) × (IsKeptIn h pool × IsFitEffect h.quota (charge_of h.records) effect)) (sym grown) (
      subst (λ q. blocks_for size q ≤ reserved old.tag pool) (sym is) room,
      (
        kept,
        subst (λ q. IsFitEffect q (charge_of old.records) effect) (sym is)
            (subst (λ c. IsFitEffect quota c effect) (sym (same_charge game old.records recorded)) fits),
      ),
    )

-- a record that is added is small enough for a heap
pub record_is_small : (most charge : ℕ) (bytes : List ℕ) → IsFitRecord most charge bytes → rounded (length bytes) ≤ MOST_RECORD_BYTES
record_is_small most charge bytes fit =
    let small = board_charge_small fit.board fit.legal in
    rw fit.is (omega (arith, small))

-- the newest record

pub last_there : (game : Game) (records : List (List ℕ)) (count : ℕ) → IsRecorded game records → count ≡ length records → 0 < count
    → Some (get_or records (count - 1) []) ≡ option_map record_of (last_board game)
last_there game records count kept many some =
    let there : slice_get records (count - 1) ≡ Some (get_or records (count - 1) []) = slice_get-get_or records (count - 1) [] (omega (arith, many, some)) in
    let same = as_many game records kept in
    let place : count - 1 ≡ length game - 1 = omega (arith, many, same) in
    sym there ∙ ap (λ all. slice_get all (count - 1)) kept.is ∙ slice_get-map record_of game (count - 1)
    ∙ ap (λ n. option_map record_of (slice_get game n)) place

pub last_gone : (game : Game) (records : List (List ℕ)) → IsRecorded game records → 0 ≡ length records → None ≡ option_map record_of (last_board game)
last_gone [] records kept none = refl
last_gone (board ∷ game) records kept none = let same = as_many (board ∷ game) records kept in absurd (omega (arith, none, same))

pub last_is_legal : (game : Game) (last : Option Board) → IsGame game → last ≡ last_board game → IfSome last IsLegal
last_is_legal game None right is = tt
last_is_legal game (Some last) right is = legal_last game last right is

-- the record of a turn

pub no_turn : (game : Game) (at : ℕ) (last : Option Board) → last ≡ last_board game → last ≡ None → None ≡ option_map record_of (board_of_turn at game)
no_turn game at last is none = sym (ap (option_map record_of) (nothing_of_turn game at (sym none ∙ is)))

pub few_kept : (game : Game) (records : List (List ℕ)) (last : Board) (count : ℕ) → IsRecorded game records → last_board game ≡ Some last → count ≡ length records
    → count ≤ last.turn + 1
few_kept game records last count kept is many = kept_turns game records last count kept (sym is) many

pub turn_gone : (game : Game) (records : List (List ℕ)) (last : Board) (count at : ℕ) → IsRecorded game records → last_board game ≡ Some last → count ≡ length records
    → None ≡ place_of_turn count last.turn at → None ≡ option_map record_of (board_of_turn at game)
turn_gone game records last count at kept is many none =
    sym (ap (option_map record_of) (turn_is_gone game records last count at kept (sym is) many none))

pub turn_there : (game : Game) (records : List (List ℕ)) (last : Board) (count place at : ℕ) → IsRecorded game records → last_board game ≡ Some last
    → count ≡ length records → Some place ≡ place_of_turn count last.turn at
    → (place < length records) × (Some (get_or records place []) ≡ option_map record_of (board_of_turn at game))
turn_there game records last count place at kept is many found =
    let inside = turn_is_within game records last count at place kept many found in
    let same = as_many game records kept in
    let here = board_at_place game records place (get_or records place []) kept inside refl in
    let there = turn_is_there game records last here.board count at place kept (sym is) many found here.there in
    (omega (arith, inside, same), ap Some here.recorded ∙ sym (ap (option_map record_of) there))
