-- The courses of games.
use Rattle.std.proofs.Common.{◌≡◌, ℕ, ◌+◌, ◌≤◌, List, [], ◌∷◌, ◌++◌, length, arith, length-append}
use Rattle.std.specs.Prelude.{fold, All}
use Rattle.std.proofs.lemmas.List.Elements.{All-head, All-tail}
use Rattle.std.proofs.lemmas.List.Sums.{fold-append}
use Rattle.bs_board.specs.declared.commands.command.Command.{Command}
use Rattle.bs_game.specs.Alone.{Course, course_of, course_with, no_course}
use Rattle.bs_game.specs.Answer.{Fits, answer_to}
use Rattle.bs_game.specs.Game.{IsGame, game_charge}
use Rattle.bs_game.specs.Law.{CourseLaw}
use Rattle.bs_game.proofs.AnswerLaw.{stays_a_game}
use Rattle.bs_game.proofs.Games.{nothing_is_a_game, charge_of_nothing}

pub course_snoc : (quota : ℕ) (commands : List Command) (command : Command)
    → course_of quota (commands ++ command ∷ []) ≡ course_with quota (course_of quota commands) command
course_snoc quota commands command = fold-append (course_with quota) no_course commands (command ∷ [])

-- a game, within its quota
record IsWithin (quota : ℕ) (course : Course) : Type 0 where
  right : IsGame course.game
  within : game_charge course.game ≤ quota

within_from : (quota : ℕ) (course : Course) (commands : List Command) → IsWithin quota course → All Fits commands
    → IsWithin quota (fold (course_with quota) course commands)
within_from quota course [] is fit = is
within_from quota course (command ∷ commands) is fit =
    let stays = stays_a_game quota course.game command is.right is.within (All-head Fits command commands fit) in
    within_from quota (course_with quota course command) commands (record { right = stays.0; within = stays.1 })
    (All-tail Fits command commands fit)

no_course_within : (quota : ℕ) → IsWithin quota no_course
no_course_within quota =
    let none = charge_of_nothing in
    record { right = nothing_is_a_game; within = omega arith }

pub course_is_game : (quota : ℕ) (commands : List Command) → All Fits commands
    → IsGame (course_of quota commands).game × (game_charge (course_of quota commands).game ≤ quota)
course_is_game quota commands fit =
    let is = within_from quota no_course commands (no_course_within quota) fit in
    (is.right, is.within)

replies_from : (quota : ℕ) (course : Course) (commands : List Command)
    → length (fold (course_with quota) course commands).replies ≡ length course.replies + length commands
replies_from quota course [] = omega arith
replies_from quota course (command ∷ commands) =
    let rest = replies_from quota (course_with quota course command) commands in
    let one = length-append course.replies ((answer_to quota course.game command).reply ∷ []) in
    omega arith

pub course_replies : (quota : ℕ) (commands : List Command) → length (course_of quota commands).replies ≡ length commands
course_replies quota commands = omega (arith, replies_from quota no_course commands)

pub course_law : CourseLaw
course_law quota commands fit =
    let game = course_is_game quota commands fit in
    record { right = game.0; within = game.1; answered = course_replies quota commands }
