-- What contracts see of the parts of a move: their states and their frames. The parts after each
-- event.
use Rattle.std.specs.Prelude.{◌≡◌, ℕ, ◌≤◌, true, List, [], length, map, replicate, slice_get, slice_set, Option, Some, None}
use Rattle.std.specs.List.{list_all}
use Rattle.bs_board.specs.declared.commands.command.Command.{Command}
use Rattle.bs_counter.specs.Keys.{Key, TallyId}
use Rattle.bs_fiber.specs.Work.{moved_part}
use Rattle.bs_game.specs.declared.view.View.{View}
use Rattle.bs_sched.specs.Frames.{FramesView, Written, written}
use Rattle.bs_sched.specs.inner.Keyed.{HasKeys}
use Rattle.bs_sched.specs.Lane.{Lane, is_part_done, lane_command, lane_view}
use Rattle.bs_sched.specs.PartState.{PartState}
use Rattle.bs_sched.specs.PartState as state
use Rattle.bs_registry.specs.declared.blocks.TheConstants.{FRAME_BLOCKS}
use Rattle.bs_sched.specs.declared.stage.Stage.{Stage}
use Rattle.bs_sched.specs.declared.stage.Stage.TheVariants as stage
use Rattle.bs_sched.specs.MoveParts.{PartView, Ready, Out, Done, Joining, PartsView}

abbrev pub state_of : PartView → PartState
state_of Ready = state.Ready
state_of (Out worker block) = state.Out worker
state_of (Done moved block) = state.Done
state_of (Joining block) = state.Done

abbrev pub number_of : PartView → Option ℕ
number_of Ready = None
number_of (Out worker block) = Some block
number_of (Done moved block) = Some block
number_of (Joining block) = Some block

abbrev pub moved_of : PartView → Option Written
moved_of Ready = None
moved_of (Out worker block) = None
moved_of (Done moved block) = Some moved
moved_of (Joining block) = None

-- the part after its block went into the Join's ticket
abbrev pub joined_of : PartView → PartView
joined_of Ready = Ready
joined_of (Out worker block) = Out worker block
joined_of (Done moved block) = Joining block
joined_of (Joining block) = Joining block

abbrev pub states_of : PartsView → List PartState
states_of v = map state_of v.list

abbrev pub frames_of : PartsView → FramesView
frames_of v = record { tag = v.tag; tally = v.tally; keys = v.keys; numbers = map number_of v.list; moved = map moved_of v.list }

-- no command was taken yet
abbrev pub no_parts : ℕ → PartsView
no_parts tag = record { tag = tag; tally = None; keys = []; list = [] }

-- a command is begun, with these keys of that tally
abbrev pub parts_begun : Option TallyId → List Key → PartsView → PartsView
parts_begun tally keys v = record v { tally = tally; keys = keys }

-- an accepted move begins with a ready part for each key
abbrev pub parts_forked : PartsView → PartsView
parts_forked v = record v { keys = []; list = replicate (length v.keys) Ready }

abbrev pub ready_part : PartView
ready_part = Ready

abbrev pub part_taken : ℕ → ℕ → ℕ → PartsView → PartsView
part_taken p worker block v = record v { list = slice_set v.list p (Out worker block) }

abbrev pub part_completed : ℕ → Written → ℕ → PartsView → PartsView
part_completed p moved block v = record v { list = slice_set v.list p (Done moved block) }

-- the Join has all blocks
abbrev pub parts_joined : PartsView → PartsView
parts_joined v = record v { list = map joined_of v.list }

-- no move is in progress
abbrev pub parts_idle : PartsView → PartsView
parts_idle v = record v { keys = []; list = [] }

-- ---- against the lane
-- a completed part has what it wrote; before the Join is taken it has its block too
abbrev pub IsPartAt : View → Command → ℕ → PartView → Type 0
IsPartAt view command p Ready = Unit {0}
IsPartAt view command p (Out worker block) = Unit {0}
IsPartAt view command p (Done moved block) = moved ≡ written (moved_part p view command)
IsPartAt view command p (Joining block) = ⊥

abbrev pub ArePartsAt : View → Command → List PartView → Type 0
ArePartsAt view command list = (p : ℕ) (s : PartView) → slice_get list p ≡ Some s → IsPartAt view command p s

-- all parts are done, and the Join is not taken
pub record AreDoneAt (view : View) (command : Command) (list : List PartView) : Type 0 where
  pub each : ArePartsAt view command list
  pub all : list_all is_part_done (map state_of list) ≡ true

-- while a command is begun
pub record AreBegunAt (x : Lane) (v : PartsView) : Type 0 where
  pub none : v.list ≡ []
  pub keys : HasKeys x v.tally v.keys

abbrev pub ArePartsIn : Stage → Lane → PartsView → Type 0
ArePartsIn stage.Idle x v = (v.keys ≡ []) × (v.list ≡ [])
ArePartsIn (stage.Begin worker) x v = AreBegunAt x v
ArePartsIn stage.Parts x v = ArePartsAt (lane_view x) (lane_command x) v.list
ArePartsIn (stage.Join None) x v = AreDoneAt (lane_view x) (lane_command x) v.list
ArePartsIn (stage.Join (Some worker)) x v = Unit {0}

-- the parts are in the state that the lane's stage needs
pub record FitParts (x : Lane) (v : PartsView) : Type 0 where
  pub few : length v.list ≤ FRAME_BLOCKS
  pub at : ArePartsIn x.stage x v
