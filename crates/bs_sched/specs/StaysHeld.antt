-- Stays that were played, each in a core of its own, as a caller has them, and the acts of the file.
use Rattle.std.specs.Prelude.{◌≡◌, ℕ, true, if◌then◌else◌, List, [], ◌∷◌, map, sum_by, All, Option, Some, None}
use Rattle.bs_board.specs.plans.Plan.{GameRow}
use Rattle.bs_pool.specs.Ledger.{Ledger, size}
use Rattle.bs_registry.specs.Stays.{open_stay}
use Rattle.bs_sched.specs.declared.event.Event.{Event}
use Rattle.bs_sched.specs.declared.event.Event.TheVariants as event
use Rattle.bs_sched.specs.declared.step.Step.{Step}
use Rattle.bs_sched.specs.declared.step.Step.TheVariants as step
use Rattle.bs_sched.specs.Assembly.{setting_with}
use Rattle.bs_sched.specs.Isolation.{HandsFit}
use Rattle.bs_sched.specs.LoneStay.{LoneView, kept_of_core, left_of_core}
use Rattle.bs_sched.specs.Registry.{capacity_of}
use Rattle.bs_sched.specs.StaysApart.{PlayedApart, PlayedStay, are_acts_in}

-- the acts without their commands; a job is no act
abbrev pub steps_of : List Event → List Step
steps_of [] = []
steps_of (event.Hand game command ∷ acts) = step.Hand game ∷ steps_of acts
steps_of (event.Take worker job ∷ acts) = steps_of acts
steps_of (event.Put worker job ∷ acts) = steps_of acts
steps_of (event.Admit row ∷ acts) = step.Admit row ∷ steps_of acts
steps_of (event.Leave game ∷ acts) = step.Leave game ∷ steps_of acts

-- the stay without its core, which it has left if it leaves
abbrev pub lone_of : PlayedStay → LoneView
lone_of stay = if stay.leaves then left_of_core stay.core else kept_of_core stay.core

-- the blocks that the stays have
abbrev pub blocks_of_pool : Option Ledger → ℕ
blocks_of_pool None = 0
blocks_of_pool (Some pool) = size pool

abbrev pub blocks_held : List LoneView → ℕ
blocks_held = sum_by (λ stay. blocks_of_pool stay.pool)

-- these acts are in that order, and the stays are those that were played for them
pub record WerePlayed (cap blocks workers : ℕ) (plan : List GameRow) (stays : List LoneView) (order : List Step) (acts : List Event) (played : List PlayedStay) : Type 0
  where
    pub ordered : steps_of acts ≡ order
    pub same : map lone_of played ≡ stays
    -- what the law of stays that come and go requires
    pub fits : All HandsFit acts
    pub allowed : are_acts_in (capacity_of (setting_with cap blocks workers)) (map open_stay plan) acts ≡ true
    pub apart : PlayedApart cap workers plan acts played

pub record AreHeld (cap blocks workers : ℕ) (plan : List GameRow) (stays : List LoneView) (order : List Step) : Type 0 where
  pub acts : List Event
  pub played : List PlayedStay
  pub were : WerePlayed cap blocks workers plan stays order acts played
