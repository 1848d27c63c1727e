-- What private contracts add to specs/Hosted.
use Rattle.std.specs.Prelude.{◌≡◌, ◌≤◌, ℕ, List, Ok, length}
use Rattle.bs_board.specs.declared.plans.plan.Plan.{Plan}
use Rattle.bs_registry.specs.Blocks.{blocks_of_all}
use Rattle.bs_sched.specs.Core.{CoreView, opened_core}
use Rattle.bs_host.specs.declared.limits.TheConstants.{BLOCK_BYTES, MOST_FILE_BYTES}
use Rattle.bs_host.specs.File.{later_pieces, pieces_of, plan_of}

-- the file is not too long; its first line is the plan, and these are the others
pub record IsRead (file : List ℕ) (plan : Plan) (lines : List (List ℕ)) : Type 0 where
  pub short : length file ≤ MOST_FILE_BYTES
  pub is_plan : plan_of file ≡ Ok plan
  pub are_lines : lines ≡ later_pieces (pieces_of file)

-- the core is opened with the plan and `blocks` blocks, which are enough
pub record IsCoreOf (blocks : ℕ) (plan : Plan) (core : CoreView) : Type 0 where
  pub opened : core ≡ opened_core BLOCK_BYTES blocks core.games.workers plan.rows
  pub room : blocks_of_all BLOCK_BYTES plan.rows ≤ blocks
