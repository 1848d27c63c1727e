-- An answer from the view of a game is the answer to the game.
use Rattle.std.proofs.Common.{◌≡◌, ℕ, ◌+◌, ◌≤◌, true, false, [], ◌∷◌, ◌++◌, Option, Some, None, map, refl, sym, ap, inl, inr, arith, length}
use Rattle.std.specs.Prelude.{nat_eq, nat_le, nat_lt, is_some, IfSome}
use Rattle.std.specs.List.{AllByRecursion}
use Rattle.std.proofs.lemmas.Bool.{cases_Bool, ltb-false, leb-false}
use Rattle.std.proofs.lemmas.List.{map-append}
use Rattle.std.proofs.lemmas.List.Elements.{recursion_from_All}
use Rattle.bs_board.specs.declared.boards.board.Board.{Board}
use Rattle.bs_board.specs.declared.commands.command.Command.{Command}
use Rattle.bs_board.specs.declared.commands.command.Command.TheVariants as command
use Rattle.bs_board.specs.declared.commands.command.Word.TheVariants as word
use Rattle.bs_board.specs.declared.commands.reply.Refusal.{Refusal}
use Rattle.bs_board.specs.declared.commands.reply.Refusal.TheVariants as refusal
use Rattle.bs_board.specs.declared.commands.reply.Reply.{Reply}
use Rattle.bs_board.specs.declared.commands.reply.Reply.TheVariants.{Shown, Plain, Refused}
use Rattle.bs_board.specs.declared.limits.TheConstants.{LAST_TURN, MOST_QUOTA}
use Rattle.bs_board.specs.boards.Legal.{IsLegal}
use Rattle.bs_board.specs.commands.Orders.{Orders}
use Rattle.bs_board.specs.boards.Over.{is_over}
use Rattle.bs_board.specs.records.Record.{record_of}
use Rattle.bs_board.specs.commands.Setup.{Setup, is_fit_setup}
use Rattle.bs_modes.specs.FirstBoard.{first_board}
use Rattle.bs_modes.proofs.FirstLegal.{first_board_is_legal}
use Rattle.bs_rules.specs.Turn.{turn_of}
use Rattle.bs_rules.proofs.TurnLegal.{turn_is_legal}
use Rattle.bs_game.specs.declared.view.View.{View}
use Rattle.bs_game.specs.Answer.{Fits, after_reply, answer_to, asked_board, outcome_of, view_of_game}
use Rattle.bs_game.specs.Game.{Game, IsGame, board_charge, board_of_turn, game_charge, last_board}
use Rattle.bs_game.specs.Law.{IsFitEffect, IsAnswerTo, AnswerLaw, effected}
use Rattle.bs_game.specs.Reasons.{reason_against}
use Rattle.bs_game.specs.View.{IsFitView, answer_of, answer_with, effect_of, reply_to}
use Rattle.bs_game.proofs.Games.{charge_of_nothing, charge_of_one, charge_of_one_more, charge_of_last, nothing_is_a_game, one_board_is_a_game, first_is_a_game, newest_of_map, newest_is_last, next_is_a_game, legal_last}

-- the records of the remaining boards
pub records_after : (reply : Reply) (game : Game) → effected (effect_of reply) (map record_of game) ≡ map record_of (after_reply reply game)
records_after (Shown word.New board charge) game = sym (map-append record_of game (board ∷ []))
records_after (Shown word.Move board charge) game = sym (map-append record_of game (board ∷ []))
records_after (Shown word.Show board charge) game = refl
records_after (Shown word.Turn board charge) game = refl
records_after (Shown word.Free board charge) game = refl
records_after (Shown word.End board charge) game = refl
records_after (Plain word.New charge) game = refl
records_after (Plain word.Move charge) game = refl
records_after (Plain word.Show charge) game = refl
records_after (Plain word.Turn charge) game = refl
records_after (Plain word.Free charge) game = newest_of_map record_of game
records_after (Plain word.End charge) game = refl
records_after (Refused reason) game = refl

-- the game after a reply is a game again, within its quota
record IsRight (most : ℕ) (game : Game) (reply : Reply) : Type 0 where
  fits : IsFitEffect most (game_charge game) (effect_of reply)
  right : IsGame (after_reply reply game)
  within : game_charge (after_reply reply game) ≤ most

abbrev seen : ℕ → ℕ → ℕ → Option Board → Option Board → View
seen most charge kept last asked = record { quota = most; charge = charge; kept = kept; last = last; asked = asked }

module _ (most : ℕ) (game : Game) (right : IsGame game) (within : game_charge game ≤ most) where
  refused : (reason : Refusal) → IsRight most game (Refused reason)
  refused reason = record { fits = tt; right = right; within = within }

  module _ (board : Board) (legal : IsLegal board) (longer : IsGame (game ++ board ∷ [])) (room : game_charge game + board_charge board ≤ most) where
    within_with : game_charge (game ++ board ∷ []) ≤ most
    within_with =
        let sum = charge_of_one_more game board in
        omega arith

    shown_new : (charge : ℕ) → IsRight most game (Shown word.New board charge)
    shown_new charge = record { fits = record { board = board; legal = legal; is = refl; room = room }; right = longer; within = within_with }

    shown_move : (charge : ℕ) → IsRight most game (Shown word.Move board charge)
    shown_move charge = record { fits = record { board = board; legal = legal; is = refl; room = room }; right = longer; within = within_with }

  module _ (kept : ℕ) (asked : Option Board) where
    right_new : (setup : Setup) (last : Option Board) → last_board game ≡ last → is_fit_setup setup ≡ true
        → IsRight most game (reply_to (seen most (game_charge game) kept last asked) (command.New setup))
    unfolding reply_to reason_against
    right_new setup None is fits =
        let legal = first_board_is_legal setup fits in
        let none : is_some (last_board game) ≡ false = ap is_some is in
        let longer = first_is_a_game game (first_board setup) none legal in
        elim (cases_Bool (nat_lt most (game_charge game + board_charge (first_board setup)))) [
          | inl full ↦ rw full (refused refusal.Quota)
          | inr room ↦ rw room (shown_new (first_board setup) legal longer (ltb-false _ _ room) _)
        ]
    right_new setup (Some last) is fits = refused refusal.Running

    right_move : (orders : Orders) (last : Option Board) → last_board game ≡ last
        → IsRight most game (reply_to (seen most (game_charge game) kept last asked) (command.Move orders))
    unfolding reply_to reason_against
    right_move orders None is = refused refusal.NoGame
    right_move orders (Some last) is =
        elim (cases_Bool (is_over last)) [
          | inl over ↦ rw over (refused refusal.Over)
          | inr on ↦
              elim (cases_Bool (nat_le LAST_TURN last.turn)) [
                | inl late ↦ rw (on, late) (refused refusal.Limit)
                | inr early ↦
                    let legal = turn_is_legal last orders (legal_last game last right (sym is)) (leb-false LAST_TURN last.turn early) in
                    let longer = next_is_a_game game last (turn_of last orders) orders right (sym is) refl legal in
                    elim (cases_Bool (nat_lt most (game_charge game + board_charge (turn_of last orders)))) [
                      | inl full ↦ rw (on, early, full) (refused refusal.Quota)
                      | inr room ↦ rw (on, early, room) (shown_move (turn_of last orders) legal longer (ltb-false _ _ room) _)
                    ]
              ]
        ]

    right_show : (last : Option Board) → IsRight most game (reply_to (seen most (game_charge game) kept last asked) command.Show)
    unfolding reply_to reason_against
    right_show None = refused refusal.NoGame
    right_show (Some last) = record { fits = tt; right = right; within = within }

    right_free : (last : Option Board) → last_board game ≡ last
        → IsRight most game (reply_to (seen most (game_charge game) kept last asked) command.Free)
    unfolding reply_to reason_against
    right_free None is = refused refusal.NoGame
    right_free (Some last) is =
        let one = charge_of_one last in
        let less = charge_of_last game last is in
        let alone = newest_is_last game last is in
        record {
          fits = tt;
          right = rw alone (one_board_is_a_game last (legal_last game last right (sym is)));
          within = rw alone (omega arith);
        }

    right_end : (last : Option Board) → IsRight most game (reply_to (seen most (game_charge game) kept last asked) command.End)
    unfolding reply_to reason_against
    right_end None = refused refusal.NoGame
    right_end (Some last) =
        let none = charge_of_nothing in
        record { fits = tt; right = nothing_is_a_game; within = omega arith }

    right_bad : (last : Option Board) → IsRight most game (reply_to (seen most (game_charge game) kept last asked) command.Bad)
    unfolding reply_to reason_against
    right_bad last = refused refusal.Unknown

  right_turn : (kept at : ℕ) (last asked : Option Board) → IsRight most game (reply_to (seen most (game_charge game) kept last asked) (command.Turn at))
  unfolding reply_to reason_against
  right_turn kept at None asked = refused refusal.NoGame
  right_turn kept at (Some last) None = refused refusal.NoRecord
  right_turn kept at (Some last) (Some board) = record { fits = tt; right = right; within = within }

right_reply : (most : ℕ) (game : Game) (command : Command) → IsGame game → game_charge game ≤ most → Fits command
    → IsRight most game (reply_to (view_of_game most game command) command)
right_reply most game (command.New setup) right within fits = right_new most game right within _ _ setup (last_board game) refl fits
right_reply most game (command.Move orders) right within fits = right_move most game right within _ _ orders (last_board game) refl
right_reply most game command.Show right within fits = right_show most game right within _ _ (last_board game)
right_reply most game (command.Turn at) right within fits = right_turn most game right within _ at (last_board game) (board_of_turn at game)
right_reply most game command.Free right within fits = right_free most game right within _ _ (last_board game) refl
right_reply most game command.End right within fits = right_end most game right within _ _ (last_board game)
right_reply most game command.Bad right within fits = right_bad most game right within _ _ (last_board game)

told : (most : ℕ) (game : Game) (reply : Reply) → IsRight most game reply → IsAnswerTo most game (outcome_of reply game) (answer_with reply)
told most game reply is = record {
  reply = refl;
  told = refl;
  records = records_after reply game;
  fits = is.fits;
  right = is.right;
  within = is.within;
}

pub answers_the_game : AnswerLaw
unfolding answer_to answer_of
answers_the_game most game command right within fits =
    told most game (reply_to (view_of_game most game command) command) (right_reply most game command right within fits)

-- the game after a command is a game again, within its quota
pub stays_a_game : (most : ℕ) (game : Game) (command : Command) → IsGame game → game_charge game ≤ most → Fits command
    → IsGame (answer_to most game command).game × (game_charge (answer_to most game command).game ≤ most)
stays_a_game most game command right within fits =
    let answer = answers_the_game most game command right within fits in
    (answer.right, answer.within)

-- the view of a game, by its parts
pub view_by_parts : (view : View) (quota : ℕ) (game : Game) (command : Command) → view.quota ≡ quota → view.charge ≡ game_charge game
    → view.kept ≡ length game → view.last ≡ last_board game → view.asked ≡ asked_board command game → view ≡ view_of_game quota game command
view_by_parts view quota game command quota_is charge kept last asked = rw (← last, ← asked, ← charge, ← kept, ← quota_is) refl

legal_if_some : (game : Game) (last : Option Board) → IsGame game → last ≡ last_board game → IfSome last IsLegal
legal_if_some game None right is = tt
legal_if_some game (Some last) right is = legal_last game last right is

-- each board of a game is legal, and so is the one that the command names
legal_if_found : (at : ℕ) (game : Game) → AllByRecursion IsLegal game → IfSome (board_of_turn at game) IsLegal
unfolding board_of_turn
legal_if_found at [] legal = tt
legal_if_found at (board ∷ game) legal =
    elim (cases_Bool (nat_eq board.turn at)) [
      | inl here ↦ rw here legal.0
      | inr other ↦ rw other (legal_if_found at game legal.1)
    ]

legal_if_asked : (game : Game) (command : Command) → IsGame game → IfSome (asked_board command game) IsLegal
legal_if_asked game (command.New setup) right = tt
legal_if_asked game (command.Move orders) right = tt
legal_if_asked game command.Show right = tt
legal_if_asked game (command.Turn at) right = legal_if_found at game (recursion_from_All IsLegal game right.legal)
legal_if_asked game command.Free right = tt
legal_if_asked game command.End right = tt
legal_if_asked game command.Bad right = tt

pub view_of_game_is_fit : (quota : ℕ) (game : Game) (command : Command) → IsGame game → game_charge game ≤ quota → quota ≤ MOST_QUOTA
    → IsFitView (view_of_game quota game command)
view_of_game_is_fit quota game command right within small =
    record {
      legal = legal_if_some game (last_board game) right refl;
      asked = legal_if_asked game command right;
      within = within;
      small = small;
    }
