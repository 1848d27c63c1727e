-- The newest record of a game, kept apart, and the move that is answered from it.
use Rattle.std.proofs.Common.{◌≡◌, ℕ, ◌+◌, ◌-◌, ◌<◌, ◌≤◌, Bool, true, false, List, [], ◌∷◌, ◌++◌, length, drop, map, get_or, Option, Some, None, refl, sym, ap, subst, ◌∙◌, arith, length-append}
use Rattle.std.specs.Prelude.{IfSome, is_some, nat_le, option_map, slice_get, if◌then◌else◌}
use Rattle.std.proofs.lemmas.Bool.{false≢true}
use Rattle.std.proofs.lemmas.List.{drop_all, drop_more, length-map}
use Rattle.std.proofs.lemmas.Option.{slice_get-get_or, slice_get-map}
use Rattle.bs_board.specs.declared.boards.board.Board.{Board}
use Rattle.bs_board.specs.declared.commands.command.Command.TheVariants as command
use Rattle.bs_board.specs.declared.commands.reply.Refusal.{Refusal}
use Rattle.bs_board.specs.declared.commands.reply.Refusal.TheVariants as refusal
use Rattle.bs_board.specs.declared.limits.TheConstants.{LAST_TURN, MOST_QUOTA}
use Rattle.bs_board.specs.inner.Kept.{board_in}
use Rattle.bs_board.specs.boards.Over.{is_over}
use Rattle.bs_board.specs.commands.Orders.{Orders}
use Rattle.bs_board.specs.records.Record.{record_of}
use Rattle.bs_game.specs.declared.reply.Effect.{Effect}
use Rattle.bs_game.specs.declared.reply.Effect.TheVariants as effect
use Rattle.bs_game.specs.Answer.{view_of_game}
use Rattle.bs_game.specs.Game.{Game, game_charge, last_board, newest}
use Rattle.bs_game.specs.Law.{effected}
use Rattle.bs_game.proofs.Acceptance.{no_game_no_move}
use Rattle.bs_game.proofs.AnswerLaw.{view_of_game_is_fit}
use Rattle.bs_game.specs.Reasons.{first_reason}
use Rattle.bs_game.specs.inner.Recorded.{IsRecorded}
use Rattle.bs_plane.specs.Running.{IsRunningView}
use Rattle.bs_live.specs.Game.{KeptBoards}
use Rattle.bs_live.specs.inner.Game.{newest_record}

at_end : (xs : List (List ℕ)) (x : List ℕ) → slice_get (xs ++ x ∷ []) (length xs) ≡ Some x
at_end [] x = refl
at_end (y ∷ ys) x = at_end ys x

pub newest_added : (bytes : List ℕ) (records : List (List ℕ)) → Some bytes ≡ newest_record (records ++ bytes ∷ [])
newest_added bytes records =
    let both = length-append records (bytes ∷ []) in
    let place : length (records ++ bytes ∷ []) - 1 ≡ length records = omega arith in
    sym (ap (slice_get (records ++ bytes ∷ [])) place ∙ at_end records bytes)

pub newest_trimmed : (records : List (List ℕ)) → newest_record records ≡ newest_record (newest records)
newest_trimmed [] = refl
newest_trimmed (first ∷ rest) =
    let records : List (List ℕ) = first ∷ rest in
    let place = length records - 1 in
    let within : place < length records = omega arith in
    let last : drop place records ≡ get_or records place [] ∷ [] =
    drop_more records place [] within ∙ ap (λ l. get_or records place [] ∷ l) (drop_all (place + 1) records (omega arith)) in
    slice_get-get_or records place [] within ∙ sym (ap newest_record last)

-- the newest record is that of the newest board
pub newest_of : (game : Game) (records : List (List ℕ)) → IsRecorded game records → newest_record records ≡ option_map record_of (last_board game)
newest_of game records kept =
    ap newest_record kept.is ∙ slice_get-map record_of game (length (map record_of game) - 1)
    ∙ ap (λ n. option_map record_of (slice_get game (n - 1))) (length-map game record_of)

some_mapped : (last : Option Board) → is_some (option_map record_of last) ≡ is_some last
some_mapped None = refl
some_mapped (Some last) = refl

-- ---- a move in a game that runs

-- the last board of the game's view has the newest record
pub move_seen : (records : List (List ℕ)) (quota : ℕ) (kept : KeptBoards) (orders : Orders) (charge blocks : ℕ) (bytes : List ℕ)
    → record { game = map board_in records; quota = quota; blocks = blocks } ≡ kept → IsRecorded (map board_in records) records → quota ≤ MOST_QUOTA
    → charge ≡ game_charge kept.game → charge ≤ kept.quota → Some bytes ≡ newest_record records
    → IsRunningView quota charge bytes (view_of_game quota (map board_in records) (command.Move orders))
move_seen records quota kept orders charge blocks bytes same recorded small value within newest_is =
    let boards = map board_in records in
    let own : charge ≡ game_charge boards = subst (λ (v : KeptBoards). charge ≡ game_charge v.game) (sym same) value in
    let room : charge ≤ quota = subst (λ (v : KeptBoards). charge ≤ v.quota) (sym same) within in
    record {
      fit = view_of_game_is_fit quota boards (command.Move orders) recorded.right (subst (λ n. n ≤ quota) own room) small;
      quota = refl;
      charge = sym own;
      last = sym (newest_of boards records recorded) ∙ sym newest_is;
    }

-- there is a newest record exactly if there is a newest board
pub newest_there : (records : List (List ℕ)) (quota : ℕ) (kept : KeptBoards) (blocks : ℕ)
    → record { game = map board_in records; quota = quota; blocks = blocks } ≡ kept → IsRecorded (map board_in records) records
    → is_some (newest_record records) ≡ is_some (last_board kept.game)
newest_there records quota kept blocks same recorded =
    let boards = map board_in records in
    ap is_some (newest_of boards records recorded) ∙ some_mapped (last_board boards) ∙ ap (λ (v : KeptBoards). is_some (last_board v.game)) same
