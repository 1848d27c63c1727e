-- A ticket as clauses see it: the input of its job, its frame blocks, and the output if the job was
-- run.
use Rattle.std.specs.Prelude.{◌≡◌, ℕ, ◌≤◌, List, [], ◌∷◌, ◌++◌, map, Option, None}
use Rattle.bs_block.specs.Bytes.{padded}
use Rattle.bs_board.specs.declared.commands.command.Command.{Command}
use Rattle.bs_pool.specs.declared.owned.Owned.{Owned}
use Rattle.bs_game.specs.declared.reply.Effect.{Effect}
use Rattle.bs_game.specs.declared.reply.Effect.TheVariants as effect
use Rattle.bs_fiber.specs.declared.contents.Contents.{Contents}
use Rattle.bs_fiber.specs.declared.contents.TheConstants.{LEAST_CAPACITY}
use Rattle.bs_fiber.specs.declared.input.Input.{Input}
use Rattle.bs_fiber.specs.declared.job.JobKind.{JobKind}
use Rattle.bs_fiber.specs.declared.job.JobKind.TheVariants.{Begin, Part, Join}
use Rattle.bs_fiber.specs.declared.out.Out.{Out}
use Rattle.bs_game.specs.declared.view.View.{View}
use Rattle.bs_game.specs.View.{answer_of}
use Rattle.bs_fiber.specs.Fit.{IsFitInput}
use Rattle.bs_fiber.specs.Frames.{frame_of}
use Rattle.bs_fiber.specs.Seeing.{IsSeen}
use Rattle.bs_fiber.specs.Work.{moved_part, moved_parts}

-- a frame block: its owner and its number in the pool, and its bytes
pub record Frame : Type 0 where
  pub tag : ℕ
  pub number : ℕ
  pub bytes : List ℕ

pub record TicketView : Type 0 where
  pub input : Input
  pub frames : List Frame
  pub out : Option Out

abbrev pub frame_in : {most : ℕ} → Owned most → Frame
frame_in owned = record { tag = owned.tag; number = owned.number; bytes = owned.block }

abbrev pub frames_in : {most : ℕ} → List (Owned most) → List Frame
frames_in = map frame_in

abbrev pub ticket_in : {most : ℕ} → Contents most → TicketView
ticket_in c = record { input = c.input; frames = frames_in c.frames.items; out = c.out }

abbrev pub without_output : TicketView → TicketView
without_output t = record t { out = None }

-- the owners and numbers of the blocks, without their bytes
abbrev pub names_of : List Frame → List (ℕ × ℕ)
names_of = map (λ f. (f.tag, f.number))

abbrev pub bytes_of : List Frame → List (List ℕ)
bytes_of = map (λ f. f.bytes)

-- the invariant of a ticket, before and after its job is run
pub record IsTicket (cap : ℕ) (c : Contents cap) : Type 0 where
  pub wide : LEAST_CAPACITY ≤ cap
  pub fit : IsFitInput c.input

-- the bytes of a job's blocks before it is run: a part has an empty one, a Join those that the
-- parts wrote
abbrev pub fresh_bytes : JobKind → View → Command → List (List ℕ)
fresh_bytes Begin view command = []
fresh_bytes Part view command = [] ∷ []
fresh_bytes Join view command = map frame_of (moved_parts view command)

-- its job was not run yet
abbrev pub IsFresh : TicketView → Type 0
IsFresh t = (view : View) → IsSeen view t.input → bytes_of t.frames ≡ fresh_bytes t.input.job.kind view t.input.command

abbrev pub behind_first : List ℕ → List (List ℕ) → List (List ℕ)
behind_first bytes [] = []
behind_first bytes (first ∷ rest) = (first ++ bytes) ∷ rest

-- an added record is appended to what part 0 wrote
abbrev pub with_added : Effect → List (List ℕ) → List (List ℕ)
with_added effect.Keep blocks = blocks
with_added (effect.Add bytes) blocks = behind_first (padded bytes) blocks
with_added effect.Trim blocks = blocks
with_added effect.Drop blocks = blocks

-- the bytes of the blocks of a job that was run
abbrev pub worked_bytes : JobKind → ℕ → View → Command → List (List ℕ)
worked_bytes Begin part view command = []
worked_bytes Part part view command = frame_of (moved_part part view command) ∷ []
worked_bytes Join part view command = with_added (answer_of view command).effect (map frame_of (moved_parts view command))

abbrev pub HoldsWork : TicketView → Type 0
HoldsWork t = (view : View) → IsSeen view t.input → bytes_of t.frames ≡ worked_bytes t.input.job.kind t.input.job.part view t.input.command
