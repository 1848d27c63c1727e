-- The frames of a game after each event.
use Rattle.std.specs.Prelude.{◌≡◌, ◌≢◌, ℕ, List, [], map, replicate, slice_set, Option, Some, None}
use Rattle.bs_fiber.specs.declared.job.JobKind.{JobKind}
use Rattle.bs_fiber.specs.declared.job.JobKind.TheVariants as kind
use Rattle.bs_pool.specs.Ledger.{Ledger, drawn}
use Rattle.bs_heap.specs.HeldBlocks.{Holds}
use Rattle.bs_counter.specs.Keys.{Key, TallyId}
use Rattle.bs_sched.specs.Frames.{FramesView, Written}

-- no move is in progress
abbrev pub idle_frames : ℕ → Option TallyId → FramesView
idle_frames tag tally = record { tag = tag; tally = tally; keys = []; numbers = []; moved = [] }

-- no move was played yet
abbrev pub no_frames : ℕ → FramesView
no_frames tag = idle_frames tag None

-- an accepted move begins with `parts` parts, none of them taken
abbrev pub forked_frames : ℕ → Option TallyId → ℕ → FramesView
forked_frames tag tally parts = record { tag = tag; tally = tally; keys = []; numbers = replicate parts None; moved = replicate parts None }

-- a command is begun, with these keys of that tally
abbrev pub with_keys : Option TallyId → List Key → FramesView → FramesView
with_keys tally keys f = record f { tally = tally; keys = keys }

abbrev pub with_number : ℕ → ℕ → FramesView → FramesView
with_number p number f = record f { numbers = slice_set f.numbers p (Some number) }

abbrev pub with_moved : ℕ → Written → FramesView → FramesView
with_moved p moved f = record f { moved = slice_set f.moved p (Some moved) }

-- the Join has all blocks
abbrev pub joining_frames : FramesView → FramesView
joining_frames f = record f { moved = map (λ _. None) f.moved }

-- the frames and the pool after a job is taken: a Begin stores these keys of that tally, a part
-- draws the block of that number
abbrev pub frames_taken : JobKind → ℕ → ℕ → Option TallyId → List Key → FramesView → FramesView
frames_taken kind.Begin p number tally keys f = with_keys tally keys f
frames_taken kind.Part p number tally keys f = with_number p number f
frames_taken kind.Join p number tally keys f = joining_frames f

abbrev pub pool_taken : JobKind → ℕ → ℕ → Ledger → Ledger
pool_taken kind.Begin tag number pool = pool
pool_taken kind.Part tag number pool = drawn tag number pool
pool_taken kind.Join tag number pool = pool

-- the blocks of all tags except these two are unchanged, and so are the reservations
pub record LeavesBut (tag other : ℕ) (old new : Ledger) : Type 0 where
  pub holds : (own : ℕ) (numbers : List ℕ) → own ≢ tag → own ≢ other → Holds own numbers old → Holds own numbers new
  pub reservations : new.reservations ≡ old.reservations
