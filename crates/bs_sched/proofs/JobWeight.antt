-- The weight of what is left to do in a lane. Each job that is taken and each that is completed
-- lowers it, so taking and completing ends.
use Rattle.std.proofs.Common.{◌≡◌, ℕ, zero, suc, ◌+◌, ◌*◌, ◌<◌, ◌≤◌, List, [], ◌∷◌, length, get_or, refl, arith}
use Rattle.std.specs.Prelude.{Option, Some, None, sum_by}
use Rattle.bs_board.specs.declared.boards.board.Board.{Board}
use Rattle.bs_game.specs.Game.{Game, IsGame, last_board}
use Rattle.bs_game.proofs.Games.{legal_last}
use Rattle.bs_fiber.specs.Work.{parts_of, snakes_in}
use Rattle.bs_sched.specs.declared.stage.Stage.{Stage}
use Rattle.bs_sched.specs.declared.stage.Stage.TheVariants as stage
use Rattle.bs_sched.specs.PartState.{PartState}
use Rattle.bs_sched.specs.PartState as part
use Rattle.bs_sched.specs.Courses.{IsRight}
use Rattle.bs_sched.specs.Lane.{Lane}

-- a part is still to be taken and completed
abbrev pub part_weight : PartState → ℕ
part_weight part.Ready = 2
part_weight (part.Out worker) = 1
part_weight part.Done = 0

-- a command that was begun may have four parts, and their Join follows
abbrev pub stage_weight : Stage → List PartState → ℕ
stage_weight stage.Idle parts = 0
stage_weight (stage.Begin worker) parts = 11
stage_weight stage.Parts parts = 2 + sum_by part_weight parts
stage_weight (stage.Join None) parts = 2
stage_weight (stage.Join (Some worker)) parts = 1

abbrev pub weight : Lane → ℕ
weight x = 12 * length x.waiting + stage_weight x.stage x.parts

abbrev pub core_weight : List Lane → ℕ
core_weight lanes = sum_by weight lanes

-- of the parts

part_there : (parts : List PartState) (p : ℕ) → 0 < part_weight (get_or parts p part.Done) → p < length parts
part_there [] zero some = absurd (omega (arith, some))
part_there [] (suc p) some = absurd (omega (arith, some))
part_there (x ∷ parts) zero some = omega arith
part_there (x ∷ parts) (suc p) some = let rest = part_there parts p some in omega (arith, rest)

-- of the stages

-- a legal board has at most eight seats, so a move has at most four parts

few_in : (game : Game) (last : Option Board) → IsGame game → last ≡ last_board game → parts_of (length (snakes_in last)) ≤ 4
few_in game None right is = omega arith
few_in game (Some board) right is =
    let few = (legal_last game board right is).limits.few in
    omega (arith, few)

pub few_parts : (x : Lane) → IsRight x → parts_of (length (snakes_in (last_board x.game))) ≤ 4
few_parts x right = few_in x.game (last_board x.game) right.right refl

-- of one lane

-- of all lanes

-- the weight that a command adds, and what is left at weight 0
