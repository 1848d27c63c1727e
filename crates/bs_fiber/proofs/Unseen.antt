-- The refusals of a command that need no board.
use Rattle.std.proofs.Common.{◌≡◌, Bool, true, false, ◌&&◌, Option, Some, None, refl, sym, ap, ◌∙◌, inl, inr}
use Rattle.std.specs.Prelude.{ℕ, List, Result, Ok, Err, IfOk, nat_le, is_some, is_none, if◌then◌else◌}
use Rattle.std.proofs.lemmas.Bool.{cases_Bool}
use Rattle.bs_board.specs.declared.boards.board.Board.{Board}
use Rattle.bs_board.specs.declared.commands.command.Command.{Command}
use Rattle.bs_board.specs.declared.commands.command.Command.TheVariants as command
use Rattle.bs_board.specs.declared.commands.command.Word.TheVariants as word
use Rattle.bs_board.specs.declared.commands.reply.Refusal.{Refusal}
use Rattle.bs_board.specs.declared.commands.reply.Refusal.TheVariants as refusal
use Rattle.bs_board.specs.declared.limits.TheConstants.{LAST_TURN}
use Rattle.bs_board.specs.boards.Legal.{IsLegal}
use Rattle.bs_board.specs.boards.Over.{is_over}
use Rattle.bs_board.specs.commands.Orders.{Orders}
use Rattle.bs_board.specs.records.Record.{record_of}
use Rattle.bs_board.specs.declared.commands.reply.Reply.TheVariants.{Refused}
use Rattle.bs_game.specs.declared.view.View.{View}
use Rattle.bs_game.specs.Reasons.{first_reason, is_move, reason_against}
use Rattle.bs_game.specs.View.{answer_of, answer_with, reply_to}
use Rattle.bs_game.proofs.Acceptance.{early_reason}
use Rattle.bs_fiber.specs.declared.input.Input.{Input}
use Rattle.bs_fiber.specs.declared.out.Out.{Out}
use Rattle.bs_fiber.specs.declared.out.Out.TheVariants.{Goes, Answered}
use Rattle.bs_fiber.specs.Seeing.{IsBoardOf, IsSeen}
use Rattle.bs_fiber.specs.Work.{begun}
use Rattle.bs_fiber.specs.inner.Work.{move_begun, shown}
use Rattle.bs_fiber.proofs.Joined.{seen_board}

-- there is a board exactly if there is a record
seen_where_kept : (bytes : Option (List ℕ)) (board : Option Board) → IsBoardOf bytes board → is_some board ≡ is_some bytes
seen_where_kept None None is = refl
seen_where_kept None (Some board) is = absurd is
seen_where_kept (Some bytes) None is = absurd is
seen_where_kept (Some bytes) (Some board) is = refl

-- a command that some reason refuses is answered by its Begin
refused_at_once : (move : Bool) (view : View) (command : Command) (reason : Refusal) → first_reason view command ≡ Some reason
    → (if move && is_none (first_reason view command) then Goes else Answered (answer_of view command)) ≡ Answered (answer_with (Refused reason))
refused_at_once false view command reason some = ap Answered (early_reason view command reason some)
refused_at_once true view command reason some = rw some (ap Answered (early_reason view command reason some))

-- a refusal that needs no board is that of each view of the input
pub refused_unseen : (input : Input) (command : Command) (runs kept : Bool) (told : Option Refusal) (reason : Refusal)
    → command ≡ input.command → runs ≡ is_some input.last → kept ≡ is_some input.asked
    → ((view : View) → is_some view.last ≡ runs → is_some view.asked ≡ kept → (is_move command && runs) ≡ false → told ≡ first_reason view command)
    → ((is_move command && runs) ≡ true → told ≡ None) → told ≡ Some reason
    → (view : View) → IsSeen view input → Answered (answer_with (Refused reason)) ≡ begun view input.command
refused_unseen input command runs kept told reason same has_last has_asked right untold is view seen =
    elim (cases_Bool (is_move command && runs)) [
      | inl on ↦ let wrong : Some reason ≡ None = sym is ∙ untold on in absurd cc
      | inr off ↦
          let last = seen_where_kept input.last view.last seen.last ∙ sym has_last in
          let asked = seen_where_kept input.asked view.asked seen.asked ∙ sym has_asked in
          let first : first_reason view command ≡ Some reason = sym (right view last asked off) ∙ is in
          sym (refused_at_once (is_move command) view command reason first) ∙ ap (begun view) same
    ]

-- ---- a move in a game that runs

reason_of_move : (view : View) (orders : Orders) (b : Board) → view.last ≡ Some b
    → first_reason view (command.Move orders) ≡ (if is_over b then Some refusal.Over else (if nat_le LAST_TURN b.turn then Some refusal.Limit else None))
unfolding first_reason
reason_of_move view orders b last =
    elim (cases_Bool (is_over b)) [
      | inl over ↦ rw (last, over) refl
      | inr on ↦
          elim (cases_Bool (nat_le LAST_TURN b.turn)) [
            | inl late ↦ rw (last, on, late) refl
            | inr early ↦ rw (last, on, early) refl
          ]
    ]

begun_by_reason : (view : View) (orders : Orders) (reason : Option Refusal) → first_reason view (command.Move orders) ≡ reason
    → begun view (command.Move orders) ≡ move_begun reason
begun_by_reason view orders None none = rw none refl
begun_by_reason view orders (Some reason) some = refused_at_once true view (command.Move orders) reason some

-- the refusal of a move by its record is that of the record's board
pub move_is_begun : (input : Input) (orders : Orders) (bytes : List ℕ) (out : Out) → input.command ≡ command.Move orders → input.last ≡ Some bytes
    → ((b : Board) → bytes ≡ record_of b → out ≡ move_begun (if is_over b then Some refusal.Over else (if nat_le LAST_TURN b.turn then Some refusal.Limit else None)))
    → (view : View) → IsSeen view input → out ≡ begun view input.command
move_is_begun input orders bytes out is last told view seen =
    let there : IsBoardOf (Some bytes) view.last = rw last at seen.last in
    let b = seen_board bytes view.last there in
    told b.0 b.3 ∙ sym (begun_by_reason view orders _ (reason_of_move view orders b.0 b.1)) ∙ ap (begun view) (sym is)

-- ---- a board that is shown

show_is_begun : (view : View) (b : Board) → view.last ≡ Some b → shown word.Show b view.charge ≡ begun view command.Show
unfolding first_reason reason_against reply_to answer_of
show_is_begun view b last = rw last refl

turn_is_begun : (view : View) (at : ℕ) (last b : Board) → view.last ≡ Some last → view.asked ≡ Some b → shown word.Turn b view.charge ≡ begun view (command.Turn at)
unfolding first_reason reason_against reply_to answer_of
turn_is_begun view at last b is there = rw (is, there) refl

pub last_is_shown : {E : Type 0} (input : Input) (bytes : List ℕ) (result : Result Out E) → input.command ≡ command.Show → input.last ≡ Some bytes
    → IfOk result (λ out. (b : Board) → IsLegal b → bytes ≡ record_of b → out ≡ shown word.Show b input.charge)
    → IfOk result (λ out. (view : View) → IsSeen view input → out ≡ begun view input.command)
last_is_shown input bytes (Err error) is last told = tt
last_is_shown input bytes (Ok out) is last told = λ view seen.
    let there : IsBoardOf (Some bytes) view.last = rw last at seen.last in
    let b = seen_board bytes view.last there in
    told b.0 b.2 b.3 ∙ ap (shown word.Show b.0) (sym seen.charge) ∙ show_is_begun view b.0 b.1 ∙ ap (begun view) (sym is)

pub asked_is_shown : {E : Type 0} (input : Input) (at : ℕ) (last bytes : List ℕ) (result : Result Out E) → input.command ≡ command.Turn at → input.last ≡ Some last
    → input.asked ≡ Some bytes → IfOk result (λ out. (b : Board) → IsLegal b → bytes ≡ record_of b → out ≡ shown word.Turn b input.charge)
    → IfOk result (λ out. (view : View) → IsSeen view input → out ≡ begun view input.command)
asked_is_shown input at last bytes (Err error) is newest asked told = tt
asked_is_shown input at last bytes (Ok out) is newest asked told = λ view seen.
    let here : IsBoardOf (Some last) view.last = rw newest at seen.last in
    let there : IsBoardOf (Some bytes) view.asked = rw asked at seen.asked in
    let a = seen_board last view.last here in
    let b = seen_board bytes view.asked there in
    told b.0 b.2 b.3 ∙ ap (shown word.Turn b.0) (sym seen.charge) ∙ turn_is_begun view at a.0 b.0 a.1 b.1 ∙ ap (begun view) (sym is)
