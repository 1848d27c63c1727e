-- What private contracts add to specs/Live.
use Rattle.std.specs.Prelude.{◌≡◌, ℕ, ◌+◌, ◌≤◌, Ok, List, [], ◌∷◌, ◌++◌, ◌==◌, length, map, take, Option, Some, None}
use Rattle.std.specs.Io.KnownBytes.{Appends}
use Rattle.std.specs.List.{position}
use Rattle.bs_board.specs.declared.plans.plan.Plan.{Plan}
use Rattle.bs_board.specs.declared.plans.version.Version.{Version}
use Rattle.bs_board.specs.plans.Plan.{GameRow}
use Rattle.bs_json.specs.declared.limits.TheConstants.{MAX_LINE}
use Rattle.bs_json.specs.PlanLine.{plan_line_of}
use Rattle.bs_registry.specs.Blocks.{blocks_of_all}
use Rattle.bs_host.specs.declared.limits.TheConstants.{BLOCK_BYTES}
use Rattle.bs_host.specs.declared.lines.TheConstants.{LINE_FEED}
use Rattle.bs_host.specs.declared.fault.Fault.{Fault}
use Rattle.bs_host.specs.declared.live.Flow.{Flow}
use Rattle.bs_host.specs.declared.live_host.LiveHost.{LiveHost}
use Rattle.bs_host.specs.File.{pieces_of}
use Rattle.bs_host.specs.inner.LiveHost.{host_behind, host_of}
use Rattle.bs_host.specs.inner.LiveFaults.{LeavesLines}
use Rattle.bs_host.specs.Live.{answers_from, live_lines_of}

-- The host has answered these lines, which follow the plan.
abbrev pub HasAnswered : ℕ → Version → List GameRow → List (List ℕ) → LiveHost → Type 0
HasAnswered blocks version rows lines host = host ≡ host_behind blocks (record { rows = rows; version = version }) lines

-- The kept bytes of a line: the longest line and one more byte. How a line is read does not depend
-- on the rest.
unfoldable pub held_of : List ℕ → List ℕ
held_of = take (MAX_LINE + 1)

-- the lines of both texts have the same kept bytes, whatever text follows them
abbrev pub IsSameText : List ℕ → List ℕ → Type 0
IsSameText old new = (more : List ℕ) → map held_of (pieces_of (old ++ more)) ≡ map held_of (pieces_of (new ++ more))

-- A text is split at its first line feed, or at any one; this holds whatever text follows it.
abbrev pub IsCutFirst : List ℕ → List ℕ → List ℕ → Type 0
IsCutFirst text first rest = (more : List ℕ) → pieces_of (text ++ more) ≡ first ∷ pieces_of (rest ++ more)

-- The first line of some bytes, and the bytes after it, if that line is complete.
abbrev pub IsBegun : List ℕ → List ℕ → Option (List ℕ) → Type 0
IsBegun bytes first (Some rest) = IsCutFirst bytes first rest
IsBegun bytes first None = (first ≡ bytes) × (position (λ byte. byte == LINE_FEED) bytes ≡ None)

-- the lines after it, with the bytes that are read later
abbrev pub lines_behind : Option (List ℕ) → List ℕ → List (List ℕ)
lines_behind (Some rest) later = pieces_of (rest ++ later)
lines_behind None later = []

abbrev pub IsCutLast : List ℕ → List ℕ → List ℕ → Type 0
IsCutLast text front back = (more : List ℕ) → pieces_of (text ++ more) ≡ pieces_of front ++ pieces_of (back ++ more)

-- Some lines after the plan's line are answered, and their answers, `count` bytes, are written; the
-- bytes after these lines are pending.
pub record IsServing (blocks : ℕ) (version : Version) (plan : List GameRow) (after pending : List ℕ) (old new : Option (List ℕ)) (count : ℕ) (host : LiveHost) : Type 0 where
  pub done : List (List ℕ)
  pub parts : (more : List ℕ) → map held_of (pieces_of (after ++ more)) ≡ map held_of done ++ map held_of (pieces_of (pending ++ more))
  pub answered : HasAnswered blocks version plan done host
  pub written : Appends old new (answers_from blocks version plan [] done)
  pub counted : count ≡ length (answers_from blocks version plan [] done)

-- Of a flow, whatever file it serves. `now` is what the writer had, `next` what it has.
-- it still serves the file
abbrev pub KeepsServing : Flow → Option (List ℕ) → Flow → Option (List ℕ) → Type 0
KeepsServing flow now behind next =
    (blocks : ℕ) (version : Version) (plan : List GameRow) (after : List ℕ) (first : Option (List ℕ))
    → IsServing blocks version plan after flow.pending.items first now flow.answers.written flow.answers.host
    → IsServing blocks version plan after behind.pending.items first next behind.answers.written behind.answers.host

-- it stopped by that fault, whatever would have been read
abbrev pub StopsServing : Flow → Option (List ℕ) → Option (List ℕ) → Fault → Type 0
StopsServing flow now next fault =
    (blocks : ℕ) (version : Version) (plan : List GameRow) (after : List ℕ) (first : Option (List ℕ))
    → IsServing blocks version plan after flow.pending.items first now flow.answers.written flow.answers.host
    → (more : List ℕ) → LeavesLines blocks version plan (pieces_of (after ++ more)) first next fault

-- all that was read is answered, and the final lines are written
abbrev pub EndsServing : Flow → Option (List ℕ) → Option (List ℕ) → Type 0
EndsServing flow now next =
    (blocks : ℕ) (version : Version) (plan : List GameRow) (after : List ℕ) (first : Option (List ℕ))
    → IsServing blocks version plan after flow.pending.items first now flow.answers.written flow.answers.host
    → Appends first next (live_lines_of blocks version plan (pieces_of after))

-- it stopped by that fault when all was read
abbrev pub StopsAtEnd : Flow → Option (List ℕ) → Option (List ℕ) → Fault → Type 0
StopsAtEnd flow now next fault =
    (blocks : ℕ) (version : Version) (plan : List GameRow) (after : List ℕ) (first : Option (List ℕ))
    → IsServing blocks version plan after flow.pending.items first now flow.answers.written flow.answers.host
    → LeavesLines blocks version plan (pieces_of after) first next fault

-- a host newly opened for a file with that first line
pub record HasOpened (blocks : ℕ) (first : List ℕ) (host : LiveHost) : Type 0 where
  pub plan : Plan
  pub is_plan : plan_line_of first ≡ Ok plan
  pub room : blocks_of_all BLOCK_BYTES plan.rows ≤ blocks
  pub is : host ≡ host_of blocks plan
