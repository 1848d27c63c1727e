-- The answer to a move, from the record of the last board.
use Rattle.std.proofs.Common.{◌≡◌, ℕ, ◌+◌, ◌^◌, ◌<◌, ◌≤◌, Bool, true, false, List, Option, Some, None, length, refl, sym, ap, subst, ◌∙◌, arith, inl, inr, lit<, ltb-true, lt-ltb}
use Rattle.std.specs.Prelude.{IfSome, nat_lt, option_map, if◌then◌else◌}
use Rattle.std.proofs.lemmas.Bool.{cases_Bool}
use Rattle.bs_block.specs.Rounding.{rounded}
use Rattle.bs_board.specs.declared.boards.board.Board.{Board}
use Rattle.bs_board.specs.declared.commands.command.Command.TheVariants as command
use Rattle.bs_board.specs.declared.commands.command.Word.TheVariants as word
use Rattle.bs_board.specs.declared.commands.reply.Refusal.TheVariants as refusal
use Rattle.bs_board.specs.declared.commands.reply.Reply.TheVariants.{Shown, Refused}
use Rattle.bs_board.specs.declared.limits.TheConstants.{LAST_TURN, MOST_QUOTA}
use Rattle.bs_board.specs.boards.Legal.{IsLegal}
use Rattle.bs_board.specs.commands.Orders.{Orders}
use Rattle.bs_board.specs.records.Kept.{IsLegalRecord}
use Rattle.bs_board.specs.records.Record.{record_of}
use Rattle.bs_rules.specs.Turn.{turn_of}
use Rattle.bs_rules.proofs.TurnLegal.{turn_is_legal}
use Rattle.bs_game.specs.declared.reply.Answer.{Answer}
use Rattle.bs_game.specs.declared.view.View.{View}
use Rattle.bs_game.specs.Game.{board_charge}
use Rattle.bs_game.specs.Reasons.{first_reason}
use Rattle.bs_game.specs.Law.{IsFitEffect, IsFitRecord}
use Rattle.bs_game.specs.View.{answer_of, answer_with, shown_as_new}
use Rattle.bs_game.proofs.Acceptance.{move_is_early, next_is_shown}
use Rattle.bs_game.proofs.Games.{board_charge_small, legal_size_rounds}
use Rattle.bs_plane.specs.declared.stepper.Stepper.{Stepper}
use Rattle.bs_plane.specs.Following.{Follows, IsNextRecord}
use Rattle.bs_plane.specs.Running.{IsRunningView}
use Rattle.bs_plane.specs.inner.Answered.{FollowsEffect, IsMoveReason}
use Rattle.bs_plane.proofs.RunningGame.{reason_found}

-- ---- the charge of a record

pub record_rounds : (bytes : List ℕ) → IsLegalRecord bytes → length bytes + 15 < 2 ^ 64
record_rounds bytes kept = let is = kept.is in rw is (legal_size_rounds kept.board kept.legal)

pub record_small : (bytes : List ℕ) → IsLegalRecord bytes → rounded (length bytes) + MOST_QUOTA < 2 ^ 32
record_small bytes kept =
    let is = kept.is in
    let small = board_charge_small kept.board kept.legal in
    let wide : 16777216 + 166896 < 2 ^ 32 = lit< tt in
    let all : board_charge kept.board + MOST_QUOTA < 2 ^ 32 = omega arith in
    rw is all

-- ---- the board whose record is the last one

record IsLastBoard (view : View) (bytes : List ℕ) : Type 0 where
  board : Board
  last : view.last ≡ Some board
  legal : IsLegal board
  is : bytes ≡ record_of board
  early : board.turn < LAST_TURN

some_last : (view : View) (bytes : List ℕ) (last : Option Board) → view.last ≡ last → IfSome last IsLegal → IfSome last (λ b. b.turn < LAST_TURN)
    → option_map record_of last ≡ Some bytes → IsLastBoard view bytes
some_last view bytes None is legal early of = let wrong : None ≡ Some bytes = of in absurd cc
some_last view bytes (Some last) is legal early of =
    let same : record_of last ≡ bytes = cc in
    record { board = last; last = is; legal = legal; is = sym same; early = early }

module _ (most charged : ℕ) (orders : Orders) (bytes : List ℕ) (allowed : IsMoveReason bytes None) where
  passes : (view : View) → IsRunningView most charged bytes view → first_reason view (command.Move orders) ≡ None
  passes view of = reason_found bytes None allowed orders most charged view of

  last_of : (view : View) → IsRunningView most charged bytes view → IsLastBoard view bytes
  last_of view of = some_last view bytes view.last refl of.fit.legal (move_is_early view orders (passes view of)) of.last

  module _ (next : List ℕ) (after : IsNextRecord bytes orders next) (own : ℕ) (charges : (b : Board) → IsLegal b → next ≡ record_of b → own ≡ board_charge b) where
    module _ (view : View) (of : IsRunningView most charged bytes view) where
      abbrev last : IsLastBoard view bytes
      last = last_of view of

      abbrev b : Board
      b = turn_of last.board orders

      legal : IsLegal b
      legal = turn_is_legal last.board orders last.legal last.early

      is : next ≡ record_of b
      is = after last.board last.legal last.is

      charge : view.charge + board_charge b ≡ charged + own
      charge = ap (λ n. n + board_charge b) of.charge ∙ ap (λ n. charged + n) (sym (charges b legal is))

      over : (full : Bool) → nat_lt most (charged + own) ≡ full → answer_of view (command.Move orders) ≡ answer_with (if full then Refused refusal.Quota else Shown word.Move b (charged + own))
      over full test =
          let same : nat_lt view.quota (view.charge + board_charge b) ≡ full = ap (λ n. nat_lt n (view.charge + board_charge b)) of.quota ∙ ap (nat_lt most) charge ∙ test in
          next_is_shown view orders last.board (passes view of) last.last
          ∙ ap (λ t. answer_with (if t then Refused refusal.Quota else shown_as_new view word.Move b)) same
          ∙ ap (λ n. answer_with (if full then Refused refusal.Quota else Shown word.Move b n)) charge

      pub refused : most < charged + own → answer_with (Refused refusal.Quota) ≡ answer_of view (command.Move orders)
      refused more = sym (over true (lt-ltb most (charged + own) more))

      module _ (answer : Answer) (shows : (c : Board) → IsLegal c → next ≡ record_of c → answer ≡ answer_with (Shown word.Move c (charged + own))) where
        pub shown : charged + own ≤ most → answer ≡ answer_of view (command.Move orders)
        shown room =
            let test : nat_lt most (charged + own) ≡ false = elim (cases_Bool (nat_lt most (charged + own))) [
              | inl more ↦ let wrong = ltb-true most (charged + own) more in absurd (omega arith)
              | inr enough ↦ enough
            ] in
            shows b legal is ∙ sym (over false test)

        pub shown_fits : charged + own ≤ most → IsFitEffect most charged answer.effect
        shown_fits room =
            let size = charges b legal is in
            let fit : IsFitRecord most charged (record_of b) = record { board = b; legal = legal; is = refl; room = omega arith } in
            subst (λ (a : Answer). IsFitEffect most charged a.effect) (sym (shows b legal is)) fit

        pub shown_followed : (stepper : Stepper) → Follows stepper next → FollowsEffect answer.effect stepper
        shown_followed stepper follows =
            subst (λ (a : Answer). FollowsEffect a.effect stepper) (sym (shows b legal is)) (subst (Follows stepper) is follows)
