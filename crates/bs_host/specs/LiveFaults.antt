-- Why a live host stops, and what each fault leaves.
use Rattle.std.specs.Prelude.{◌≡◌, ◌⊎◌, ℕ, ◌<◌, ◌≤◌, List, [], length, take, Option, Some, None}
use Rattle.std.specs.Io.KnownBytes.{Appends, Keeps}
use Rattle.bs_board.specs.declared.plans.version.Version.{Version}
use Rattle.bs_board.specs.plans.Plan.{GameRow}
use Rattle.bs_host.specs.declared.fault.Fault.{Fault}
use Rattle.bs_host.specs.declared.fault.Fault.TheVariants.{Device, Plan as OfPlan, Memory, Write, Flush}
use Rattle.bs_host.specs.Faults.{refusal_of_plan}
use Rattle.bs_host.specs.File.{later_pieces, pieces_of, plan_of, rows_of, version_of}
use Rattle.bs_host.specs.Live.{answers_from, live_of}

-- the first reason against serving the file live with `blocks` blocks: a live host refuses only
-- plans
abbrev pub live_refusal_of : ℕ → List ℕ → Option Fault
live_refusal_of blocks file = refusal_of_plan blocks (plan_of file)

-- What `serve_live` may return: a plan is refused for the first reason; a writer fails only if there
-- is none, and a reader at any time. Nothing is claimed of `Memory`.
abbrev pub IsLiveFault : Option Fault → Fault → Type 0
IsLiveFault refusal Device = Unit {0}
IsLiveFault refusal (OfPlan reason) = refusal ≡ Some (OfPlan reason)
IsLiveFault refusal Memory = Unit {0}
IsLiveFault refusal (Write written) = refusal ≡ None
IsLiveFault refusal Flush = refusal ≡ None
IsLiveFault refusal _ = ⊥

-- a fault of the reader has the first cause, and one of the writer the second; a live host returns
-- no other but `Plan` and `Memory`
abbrev pub HasLiveCause : Type 0 → Type 0 → Fault → Type 0
HasLiveCause read written Device = read
HasLiveCause read written (OfPlan reason) = Unit {0}
HasLiveCause read written Memory = Unit {0}
HasLiveCause read written (Write count) = written
HasLiveCause read written Flush = written
HasLiveCause read written _ = ⊥

-- What the writer has after a fault.
-- the answers to the first `count` lines after the plan
abbrev pub first_answers : ℕ → Version → List GameRow → List (List ℕ) → ℕ → List ℕ
first_answers blocks version plan lines count = answers_from blocks version plan [] (take count lines)

-- the writer has the whole answers to some first lines
pub record HasFirstAnswers (blocks : ℕ) (version : Version) (plan : List GameRow) (lines : List (List ℕ)) (old new : Option (List ℕ)) : Type 0 where
  pub count : ℕ
  pub few : count ≤ length lines
  pub written : Appends old new (first_answers blocks version plan lines count)

-- whole answers to the first lines of a file
abbrev pub HasFirstAnswersOf : ℕ → List ℕ → Option (List ℕ) → Option (List ℕ) → Type 0
HasFirstAnswersOf blocks file = HasFirstAnswers blocks (version_of file) (rows_of file) (later_pieces (pieces_of file))

-- the same for a whole file; if the plan is refused, nothing is written
abbrev pub LeavesLive : ℕ → List ℕ → Option (List ℕ) → Option (List ℕ) → Fault → Type 0
LeavesLive blocks file old new Device = HasFirstAnswersOf blocks file old new
LeavesLive blocks file old new (OfPlan reason) = Keeps old new
LeavesLive blocks file old new Memory = HasFirstAnswersOf blocks file old new
LeavesLive blocks file old new (Write written) = (written < length (live_of blocks file)) × Appends old new (take written (live_of blocks file))
LeavesLive blocks file old new Flush = HasFirstAnswersOf blocks file old new ⊎ Appends old new (live_of blocks file)
LeavesLive blocks file old new _ = ⊥
