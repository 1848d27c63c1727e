-- What follows if no reason refuses a command.
use Rattle.std.proofs.Common.{◌≡◌, ℕ, ◌<◌, Bool, true, false, List, [], ◌∷◌, Option, Some, None, refl, sym, ap, ◌∙◌, inl, inr}
use Rattle.std.specs.Prelude.{nat_le, option_map, IfSome, if◌then◌else◌}
use Rattle.std.specs.Option.{option_or}
use Rattle.std.proofs.lemmas.Bool.{cases_Bool, leb-false}
use Rattle.std.proofs.lemmas.List.Folds.{find-append}
use Rattle.bs_board.specs.declared.boards.board.Board.{Board}
use Rattle.bs_board.specs.declared.commands.command.Command.{Command}
use Rattle.bs_board.specs.declared.commands.command.Command.TheVariants as command
use Rattle.bs_board.specs.declared.commands.command.Word.{Word}
use Rattle.bs_board.specs.declared.commands.command.Word.TheVariants as word
use Rattle.bs_board.specs.declared.commands.reply.Refusal.{Refusal}
use Rattle.bs_board.specs.declared.commands.reply.Refusal.TheVariants as refusal
use Rattle.bs_board.specs.declared.commands.reply.Reply.{Reply}
use Rattle.bs_board.specs.declared.commands.reply.Reply.TheVariants.{Refused}
use Rattle.bs_board.specs.declared.limits.TheConstants.{LAST_TURN}
use Rattle.bs_board.specs.boards.Legal.{IsLegal}
use Rattle.bs_board.specs.commands.Orders.{Orders}
use Rattle.bs_board.specs.boards.Over.{is_over}
use Rattle.bs_board.specs.commands.Setup.{Setup}
use Rattle.bs_modes.specs.FirstBoard.{first_board}
use Rattle.bs_rules.specs.Motion.{moved_board}
use Rattle.bs_rules.specs.Turn.{finished, turn_of}
use Rattle.bs_rules.proofs.TurnLegal.{turn_is_legal}
use Rattle.bs_game.specs.declared.view.View.{View}
use Rattle.bs_game.specs.Reasons.{early_refusals, first_reason, is_over_quota, new_board, reason_against, speaks_against}
use Rattle.bs_game.specs.View.{IsFitView, answer_of, answer_with, accepted_reply, reply_to, shown_as_new, reply_or_refusal, unless_refused}
use Rattle.bs_game.specs.inner.View.{shown_within_quota}

-- the quota is judged after all other reasons

abbrev quota_against : View → Option Board → Option Refusal
quota_against view board = if is_over_quota view board then Some refusal.Quota else None

pub quota_is_last : (view : View) (command : Command) → first_reason view command ≡ None
    → reason_against view command ≡ quota_against view (new_board view command)
unfolding first_reason reason_against
quota_is_last view command none =
    find-append (speaks_against view command) early_refusals (refusal.Quota ∷ [])
    ∙ ap (λ early. option_or early (quota_against view (new_board view command))) none

-- a reason that needs no new board is the one given
pub early_reason : (view : View) (command : Command) (reason : Refusal) → first_reason view command ≡ Some reason
    → answer_of view command ≡ answer_with (Refused reason)
unfolding answer_of reply_to first_reason reason_against
early_reason view command reason some =
    ap (λ found. answer_with (unless_refused found (accepted_reply view command)))
    (find-append (speaks_against view command) early_refusals (refusal.Quota ∷ [])
    ∙ ap (λ early. option_or early (quota_against view (new_board view command))) some)

-- a command without a new board is answered at once
pub answered_at_once : (view : View) (command : Command) → first_reason view command ≡ None → new_board view command ≡ None
    → answer_of view command ≡ answer_with (accepted_reply view command)
unfolding answer_of reply_to
answered_at_once view command none quiet =
    ap (λ reason. answer_with (unless_refused reason (accepted_reply view command)))
    (quota_is_last view command none ∙ ap (quota_against view) quiet)

refused_or : (full : Bool) (reply : Reply) → unless_refused (if full then Some refusal.Quota else None) reply ≡ (if full then Refused refusal.Quota else reply)
refused_or true reply = refl
refused_or false reply = refl

new_is_shown : (view : View) (command : Command) (word : Word) (board : Board) → first_reason view command ≡ None → new_board view command ≡ Some board
    → accepted_reply view command ≡ shown_as_new view word board → answer_of view command ≡ answer_with (shown_within_quota view word board)
unfolding answer_of reply_to
new_is_shown view command word board none new is =
    ap answer_with
    (ap (λ reason. unless_refused reason (accepted_reply view command)) (quota_is_last view command none ∙ ap (quota_against view) new)
    ∙ ap (unless_refused (quota_against view (Some board))) is
    ∙ refused_or (is_over_quota view (Some board)) (shown_as_new view word board))

pub first_is_shown : (view : View) (setup : Setup) → first_reason view (command.New setup) ≡ None
    → answer_of view (command.New setup) ≡ answer_with (shown_within_quota view word.New (first_board setup))
first_is_shown view setup none = new_is_shown view (command.New setup) word.New (first_board setup) none refl refl

pub next_is_shown : (view : View) (orders : Orders) (last : Board) → first_reason view (command.Move orders) ≡ None → view.last ≡ Some last
    → answer_of view (command.Move orders) ≡ answer_with (shown_within_quota view word.Move (turn_of last orders))
next_is_shown view orders last none is =
    let next : Option Board → Option Board = option_map (λ b. turn_of b orders) in
    new_is_shown view (command.Move orders) word.Move (turn_of last orders) none (ap next is)
    (ap (λ b. reply_or_refusal refusal.NoGame (next b) (shown_as_new view word.Move)) is)

-- a move is accepted on a last board that is not of the last turn

early_last : (most charge kept : ℕ) (last asked : Option Board) (orders : Orders)
    → first_reason (record { quota = most; charge = charge; kept = kept; last = last; asked = asked }) (command.Move orders) ≡ None
    → IfSome last (λ last. last.turn < LAST_TURN)
unfolding first_reason
early_last most charge kept None asked orders none = tt
early_last most charge kept (Some last) asked orders none =
    elim (cases_Bool (is_over last)) [
      | inl over ↦ let wrong : Some refusal.Over ≡ None = rw over at none in cc
      | inr on ↦
          elim (cases_Bool (nat_le LAST_TURN last.turn)) [
            | inl late ↦ let wrong : Some refusal.Limit ≡ None = rw (on, late) at none in cc
            | inr early ↦ leb-false LAST_TURN last.turn early
          ]
    ]

pub move_is_early : (view : View) (orders : Orders) → first_reason view (command.Move orders) ≡ None → IfSome view.last (λ last. last.turn < LAST_TURN)
move_is_early view orders none = early_last view.quota view.charge view.kept view.last view.asked orders none

-- no game runs, so no move is accepted
no_last : (most charge kept : ℕ) (last asked : Option Board) (orders : Orders) → last ≡ None
    → first_reason (record { quota = most; charge = charge; kept = kept; last = last; asked = asked }) (command.Move orders) ≡ None → ⊥
unfolding first_reason
no_last most charge kept None asked orders is none = let wrong : Some refusal.NoGame ≡ None = none in cc
no_last most charge kept (Some board) asked orders is none = cc

pub no_game_no_move : (view : View) (orders : Orders) → view.last ≡ None → first_reason view (command.Move orders) ≡ None → ⊥
no_game_no_move view orders is none = no_last view.quota view.charge view.kept view.last view.asked orders is none

-- a turn whose seats are all moved

-- the board on which the seats are moved, in a view that accepts the move
record IsMoved (view : View) (orders : Orders) (seats : Board) : Type 0 where
  before : Board
  last : view.last ≡ Some before
  is : seats ≡ moved_board orders.moves before
  legal : IsLegal before
  early : before.turn < LAST_TURN

some_moved : (view : View) (orders : Orders) (seats : Board) (last : Option Board) → view.last ≡ last → IfSome last IsLegal
    → IfSome last (λ last. last.turn < LAST_TURN) → option_map (moved_board orders.moves) last ≡ Some seats → IsMoved view orders seats
some_moved view orders seats None is legal early from = let wrong : None ≡ Some seats = from in absurd cc
some_moved view orders seats (Some last) is legal early from =
    let same : moved_board orders.moves last ≡ seats = cc in
    record { before = last; last = is; is = sym same; legal = legal; early = early }

finished_is_turn : (last seats next : Board) (orders : Orders) → seats ≡ moved_board orders.moves last → next ≡ finished orders seats → next ≡ turn_of last orders
unfolding turn_of
finished_is_turn last seats next orders moved is = is ∙ ap (finished orders) moved

module _ (view : View) (orders : Orders) (seats : Board) (fit : IsFitView view) (none : first_reason view (command.Move orders) ≡ None)
    (from : option_map (moved_board orders.moves) view.last ≡ Some seats) where
  moved_last : IsMoved view orders seats
  moved_last = some_moved view orders seats view.last refl fit.legal (move_is_early view orders none) from

  pub moved_is_early : seats.turn < LAST_TURN
  moved_is_early =
      let m = moved_last in
      rw m.is m.early

  module _ (next : Board) (is : next ≡ finished orders seats) where
    joined_is_turn : next ≡ turn_of moved_last.before orders
    joined_is_turn = finished_is_turn moved_last.before seats next orders moved_last.is is

    pub joined_is_legal : IsLegal next
    joined_is_legal =
        let m = moved_last in
        rw joined_is_turn (turn_is_legal m.before orders m.legal m.early)

    pub joined_is_the_answer : answer_with (shown_within_quota view word.Move next) ≡ answer_of view (command.Move orders)
    joined_is_the_answer =
        let m = moved_last in
        ap (λ board. answer_with (shown_within_quota view word.Move board)) joined_is_turn
        ∙ sym (next_is_shown view orders m.before none m.last)
