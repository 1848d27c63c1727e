-- Laws of the stays of a file, and of their lines.
use Rattle.std.specs.Prelude.{◌≡◌, ℕ, ◌<◌, ◌≤◌, true, false, List, ◌∷◌, ◌++◌, length, count_by, Some, None}
use Rattle.std.specs.List.{filter}
use Rattle.bs_board.specs.declared.commands.command.Command.{Command}
use Rattle.bs_board.specs.declared.limits.TheConstants.{MOST_ROWS}
use Rattle.bs_board.specs.plans.Plan.{GameRow}
use Rattle.bs_board.specs.plans.Version.{has_stays}
use Rattle.bs_board.specs.Texts.{is_same_text}
use Rattle.bs_json.specs.declared.line.Stray.{Stray}
use Rattle.bs_json.specs.declared.line.Stray.TheVariants as stray
use Rattle.bs_json.specs.Line.{line_of}
use Rattle.bs_sched.specs.declared.event.Event.TheVariants as event
use Rattle.bs_sched.specs.declared.stays.Admit.{Admit}
use Rattle.bs_sched.specs.declared.stays.Leave.TheVariants as leave
use Rattle.bs_sched.specs.Coming.{RefusesAdmit, RefusesLeave}
use Rattle.bs_sched.specs.Lane.{Lane, is_quiet}
use Rattle.bs_sched.specs.Machine.{Setting, is_enabled, lane_of}
use Rattle.bs_sched.specs.Registry.{capacity_of as capacity_in, registry_of}
use Rattle.bs_workers.specs.Acts.{opened, stay_named}
use Rattle.bs_host.specs.Cut.{nth_stay, own_lines_of, row_at}
use Rattle.bs_host.specs.File.{pieces_of, later_pieces, rows_of, version_of}
use Rattle.bs_host.specs.declared.limits.TheConstants.{MOST_FILE_BYTES}
use Rattle.bs_host.specs.declared.route.Route.TheVariants as route
use Rattle.bs_host.specs.Routing.{admit_refusal, behind_admit, capacity_of, is_command_for, registry_behind, route_at, stays_of, stray_of, until_leave}
use Rattle.bs_host.specs.Transcript.{transcript_of}

-- A stay's own lines are those that name its game, between its `admit` and its `leave`.
abbrev pub OwnLinesLaw : Type 0
OwnLinesLaw =
    (blocks : ℕ) (file : List ℕ) (stay : ℕ) → stay < length (stays_of blocks file)
    → own_lines_of blocks file stay
    ≡ filter (λ text. is_command_for (row_at (stays_of blocks file) stay).game (line_of (version_of file) text))
    (until_leave (version_of file) (row_at (stays_of blocks file) stay).game
    (behind_admit (capacity_of blocks) (version_of file) (opened (rows_of file)) stay (later_pieces (pieces_of file))))

-- In versions 1 and 2 the stays are the plan's rows, and the transcript does not depend on the
-- number of blocks.
pub record IsEarly (blocks other : ℕ) (file : List ℕ) : Type 0 where
  pub stays : stays_of blocks file ≡ rows_of file
  pub text : transcript_of blocks file ≡ transcript_of other file

abbrev pub EarlyLaw : Type 0
EarlyLaw = (blocks other : ℕ) (file : List ℕ) → has_stays (version_of file) ≡ false → IsEarly blocks other file

-- A stay that is found by its name is one of the file's, so the law of the cut holds of it.
pub record IsFound (blocks : ℕ) (file name : List ℕ) (n stay : ℕ) : Type 0 where
  pub within : stay < length (stays_of blocks file)
  pub named : is_same_text name (row_at (stays_of blocks file) stay).game ≡ true

abbrev pub FoundLaw : Type 0
FoundLaw = (blocks : ℕ) (file name : List ℕ) (n stay : ℕ) → nth_stay blocks file name n ≡ Some stay → IsFound blocks file name n stay

-- Whatever stays a core has, the host refuses an admission if and only if the core does, and for
-- the same reason. A command or a leave is routed to the open stay of its name, where it is
-- enabled, and is refused if each stay of the name is closed, as the core would refuse it.
pub record RefusesAsCore (setting : Setting) (lanes : List Lane) : Type 0 where
  pub refused : (row : GameRow) (kind : Stray) → admit_refusal (capacity_in setting) (registry_of lanes) row ≡ Some kind
      → (refusal : Admit) × ((stray_of refusal ≡ Some kind) × RefusesAdmit setting lanes row refusal)
  pub reason : (row : GameRow) (refusal : Admit) → RefusesAdmit setting lanes row refusal
      → admit_refusal (capacity_in setting) (registry_of lanes) row ≡ stray_of refusal
  pub admitted : (row : GameRow) → admit_refusal (capacity_in setting) (registry_of lanes) row ≡ None → is_enabled setting lanes (event.Admit row) ≡ true
  pub hands : (name : List ℕ) (stay : ℕ) (command : Command) → stay_named (registry_of lanes) name ≡ Some stay
      → is_enabled setting lanes (event.Hand stay command) ≡ true
  pub leaves : (name : List ℕ) (stay : ℕ) → stay_named (registry_of lanes) name ≡ Some stay → is_quiet (lane_of lanes stay) ≡ true
      → is_enabled setting lanes (event.Leave stay) ≡ true
  pub closed : (name : List ℕ) (stay : ℕ) → stay_named (registry_of lanes) name ≡ None → stay < length lanes
      → is_same_text name (lane_of lanes stay).row.game ≡ true → RefusesLeave (lane_of lanes stay) leave.Closed

abbrev pub CoreLaw : Type 0
CoreLaw = (setting : Setting) (lanes : List Lane) → RefusesAsCore setting lanes

-- In a file that is not too long, an admission is refused as `Full` only if as many stays are open
-- as a plan may have games. The number of stays that have left does not matter.
abbrev pub FullLaw : Type 0
FullLaw =
    (blocks : ℕ) (file text : List ℕ) (earlier later : List (List ℕ)) → length file ≤ MOST_FILE_BYTES
    → later_pieces (pieces_of file) ≡ earlier ++ text ∷ later
    → route_at (capacity_of blocks) (version_of file) (registry_behind (capacity_of blocks) (version_of file) (opened (rows_of file)) earlier) text ≡ route.Stray stray.Full
    → MOST_ROWS ≤ count_by (λ entry. entry.is_open) (registry_behind (capacity_of blocks) (version_of file) (opened (rows_of file)) earlier)
