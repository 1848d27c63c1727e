-- Answers that are told from records.
use Rattle.std.proofs.Common.{◌≡◌, ℕ, List, Option, Some, None, Result, Ok, Err, refl}
use Rattle.std.specs.Prelude.{IfOk, is_some, option_map}
use Rattle.bs_board.specs.declared.boards.board.Board.{Board}
use Rattle.bs_board.specs.boards.Legal.{IsLegal}
use Rattle.bs_board.specs.commands.Orders.{Orders}
use Rattle.bs_board.specs.records.Record.{record_of}
use Rattle.bs_board.specs.declared.commands.command.Command.TheVariants as command
use Rattle.bs_board.specs.declared.commands.command.Word.TheVariants as word
use Rattle.bs_fiber.specs.declared.input.Input.{Input}
use Rattle.bs_fiber.specs.declared.job.JobKind.TheVariants as kind
use Rattle.bs_fiber.specs.declared.out.Out.TheVariants.{Answered}
use Rattle.bs_fiber.specs.Fit.{IsFitGame}
use Rattle.bs_fiber.specs.Seeing.{IsBoardOf, IsSeen}
use Rattle.bs_fiber.specs.inner.Work.{shown}
use Rattle.bs_fiber.proofs.Seen.{seen_is_fit, some_view}
use Rattle.bs_fiber.proofs.Unseen.{asked_is_shown, last_is_shown}
use Rattle.bs_game.specs.declared.reply.Answer.{Answer}
use Rattle.bs_game.specs.declared.view.View.{View}
use Rattle.bs_game.specs.View.{answer_of}
use Rattle.bs_plane.specs.Running.{IsRunningView}
use Rattle.bs_sched.proofs.Brought.{answer_of_out}

pub last_answered : {E : Type 0} (input : Input) (bytes : List ℕ) (result : Result Answer E) → input.command ≡ command.Show → input.last ≡ Some bytes
    → IfOk result (λ answer. (b : Board) → IsLegal b → bytes ≡ record_of b → Answered answer ≡ shown word.Show b input.charge)
    → IfOk result (λ answer. (view : View) → IsSeen view input → answer ≡ answer_of view input.command)
last_answered input bytes (Err error) is last told = tt
last_answered {E} input bytes (Ok answer) is last told = λ view seen.
    (answer_of_out kind.Begin 0 view input.command answer (last_is_shown {E = E} input bytes (Ok (Answered answer)) is last told view seen)).answer_is

pub asked_answered : {E : Type 0} (input : Input) (at : ℕ) (last bytes : List ℕ) (result : Result Answer E) → input.command ≡ command.Turn at → input.last ≡ Some last
    → input.asked ≡ Some bytes → IfOk result (λ answer. (b : Board) → IsLegal b → bytes ≡ record_of b → Answered answer ≡ shown word.Turn b input.charge)
    → IfOk result (λ answer. (view : View) → IsSeen view input → answer ≡ answer_of view input.command)
asked_answered input at last bytes (Err error) is newest asked told = tt
asked_answered {E} input at last bytes (Ok answer) is newest asked told = λ view seen.
    (answer_of_out kind.Begin 0 view input.command answer (asked_is_shown {E = E} input at last bytes (Ok (Answered answer)) is newest asked told view seen)).answer_is

pub some_mapped : {A B : Type 0} (f : A → B) (o : Option A) → is_some (option_map f o) ≡ is_some o
some_mapped f None = refl
some_mapped f (Some x) = refl

-- ---- a move, from the last record

record_seen : (bytes : List ℕ) (kept : Option (List ℕ)) (last : Option Board) → kept ≡ Some bytes → IsBoardOf kept last → option_map record_of last ≡ Some bytes
record_seen bytes None last is seen = let wrong : None ≡ Some bytes = is in absurd cc
record_seen bytes (Some kept) None is seen = absurd seen
record_seen bytes (Some kept) (Some b) is seen = let same = seen.1 in cc

-- a view of a game that runs
running : (input : Input) (bytes : List ℕ) → IsFitGame input → input.last ≡ Some bytes → (view : View) → IsSeen view input
    → IsRunningView input.quota input.charge bytes view
running input bytes fit last view seen =
    record { fit = seen_is_fit input view fit seen; quota = seen.quota; charge = seen.charge; last = record_seen bytes input.last view.last last seen.last }

pub move_read : (input : Input) (bytes : List ℕ) → input.last ≡ Some bytes → IsFitGame input → (view : View) × IsRunningView input.quota input.charge bytes view
move_read input bytes last fit =
    let seen = some_view input fit in
    (seen.0, running input bytes fit last seen.0 seen.1)

pub move_answered : {E : Type 0} (input : Input) (orders : Orders) (bytes : List ℕ) (result : Result Answer E) → IsFitGame input → input.command ≡ command.Move orders
    → input.last ≡ Some bytes
    → IfOk result (λ answer. (view : View) → IsRunningView input.quota input.charge bytes view → answer ≡ answer_of view (command.Move orders))
    → IfOk result (λ answer. (view : View) → IsSeen view input → answer ≡ answer_of view input.command)
move_answered input orders bytes (Err error) fit is last told = tt
move_answered input orders bytes (Ok answer) fit is last told = λ view seen. rw is (told view (running input bytes fit last view seen))
