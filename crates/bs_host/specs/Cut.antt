-- One stay's own lines as a command file, and the law that the stay is answered there as it is
-- among the others.
use Rattle.std.specs.Prelude.{◌≡◌, ℕ, ◌+◌, ◌-◌, ◌≤◌, ◌<◌, codes, List, [], ◌∷◌, length, nat_eq, nat_lt, slice_index_or, Bool, ◌&&◌, Option, Some, None, is_some, option_map, Result, Ok, Err, if◌then◌else◌}
use Rattle.std.specs.List.{join_with_byte}
use Rattle.serde_json.specs.Data.{Data, string, array}
use Rattle.serde_json.specs.View.{items_of}
use Rattle.serde_json.specs.Written.{compact_text}
use Rattle.bs_board.specs.declared.plans.plan.Plan.{Plan}
use Rattle.bs_board.specs.declared.plans.version.Version.{Version}
use Rattle.bs_board.specs.declared.plans.version.Version.TheVariants.{One, Two, Three, Five}
use Rattle.bs_board.specs.plans.Plan.{GameRow, row_of}
use Rattle.bs_board.specs.plans.Version.{has_stays}
use Rattle.bs_board.specs.Texts.{is_same_text}
use Rattle.bs_json.specs.declared.plan.PlanFault.{PlanFault}
use Rattle.bs_json.specs.declared.plan.PlanFault.TheVariants as plan
use Rattle.bs_json.specs.Boards.{object_of, whole_data}
use Rattle.bs_registry.specs.Blocks.{blocks_of_all}
use Rattle.bs_registry.specs.Stays.{Capacity, Stay}
use Rattle.bs_workers.specs.Acts.{opened}
use Rattle.bs_host.specs.declared.cut_fault.Cut.{Cut}
use Rattle.bs_host.specs.declared.cut_fault.Cut.TheVariants.{TooLong, Plan as OfPlan, NoSuchGame, Memory}
use Rattle.bs_host.specs.declared.fault.PlanRefusal.TheVariants as refusal
use Rattle.bs_host.specs.declared.limits.TheConstants.{BLOCK_BYTES, MOST_FILE_BYTES}
use Rattle.bs_host.specs.declared.lines.TheConstants.{LINE_FEED}
use Rattle.bs_host.specs.File.{pieces_of, later_pieces, plan_of, rows_of, version_of}
use Rattle.bs_host.specs.Routing.{command_to, commands_of, capacity_of, next_registry, route_at, stays_of}
use Rattle.bs_host.specs.Transcript.{section_of, transcript_of}

abbrev pub row_data : GameRow → Data
row_data row = object_of ((codes "game", string row.game) ∷ (codes "quota", whole_data row.quota) ∷ [])

-- version 1 is not written
abbrev pub version_members : Version → List (List ℕ × Data)
version_members One = []
version_members Two = (codes "version", whole_data 2) ∷ []
version_members Three = (codes "version", whole_data 3) ∷ []
version_members Five = (codes "version", whole_data 5) ∷ []

-- the plan of that version with this row alone
unfoldable pub lone_plan_data : Version → GameRow → Data
lone_plan_data version row = object_of ((codes "games", array (items_of (row_data row ∷ []))) ∷ version_members version)

abbrev pub lone_plan_of : Version → GameRow → List ℕ
lone_plan_of version row = compact_text (lone_plan_data version row)

abbrev pub is_own_line : Capacity → Version → List Stay → ℕ → List ℕ → Bool
is_own_line capacity version registry stay text = is_some (command_to stay (route_at capacity version registry text))

-- the lines of that stay, unchanged
abbrev pub own_lines_in : Capacity → Version → List Stay → ℕ → List (List ℕ) → List (List ℕ)
own_lines_in capacity version registry stay [] = []
own_lines_in capacity version registry stay (text ∷ lines) =
    if is_own_line capacity version registry stay text
    then text ∷ own_lines_in capacity version (next_registry capacity version registry text) stay lines
    else own_lines_in capacity version (next_registry capacity version registry text) stay lines

abbrev pub own_lines_of : ℕ → List ℕ → ℕ → List (List ℕ)
own_lines_of blocks file stay =
    own_lines_in (capacity_of blocks) (version_of file) (opened (rows_of file)) stay (later_pieces (pieces_of file))

abbrev pub row_at : List GameRow → ℕ → GameRow
row_at rows stay = slice_index_or rows stay (row_of [] 0)

-- The file of that stay alone: its plan and its lines, with a line feed between any two.
unfoldable pub cut_of : ℕ → List ℕ → ℕ → List ℕ
cut_of blocks file stay =
    join_with_byte LINE_FEED (lone_plan_of (version_of file) (row_at (stays_of blocks file) stay) ∷ own_lines_of blocks file stay)

-- The transcript of that file with as many blocks, and the size of the file.
pub record IsWrittenAlone (blocks : ℕ) (file : List ℕ) (stay : ℕ) (row : GameRow) : Type 0 where
  -- its plan is that stay's row, in the file's version
  pub plan : plan_of (cut_of blocks file stay) ≡ Ok (record { rows = row ∷ []; version = version_of file })
  -- its transcript is the stay's section of the whole file's transcript, and nothing else
  pub text : transcript_of blocks (cut_of blocks file stay) ≡ section_of row (commands_of blocks file stay)
  pub size : length (cut_of blocks file stay) ≤ length file
  -- if the plan's reservations fit the pool, this file's reservation fits it too
  pub fits : blocks_of_all BLOCK_BYTES (rows_of file) ≤ blocks → blocks_of_all BLOCK_BYTES (rows_of (cut_of blocks file stay)) ≤ blocks

-- each stay of each file, served alone by its own lines, is answered as it is in the file
abbrev pub SectionLaw : Type 0
SectionLaw =
    (blocks : ℕ) (file : List ℕ) (stay : ℕ) → stay < length (stays_of blocks file)
    → IsWrittenAlone blocks file stay (row_at (stays_of blocks file) stay)

-- Which stay a cut is of, and when there is none.
-- the n-th row of that name, from 1 on, and its number; the first of the rows has the given number
abbrev pub nth_from : ℕ → List GameRow → List ℕ → ℕ → Option (ℕ × GameRow)
nth_from first [] name n = None
nth_from first (row ∷ rows) name n =
    if is_same_text name row.game then (if nat_eq n 1 then Some (first, row) else nth_from (first + 1) rows name (n - 1))
    else nth_from (first + 1) rows name n

abbrev pub nth_stay : ℕ → List ℕ → List ℕ → ℕ → Option ℕ
nth_stay blocks file name n = option_map (λ found. found.0) (nth_from 0 (stays_of blocks file) name n)

abbrev pub cut_of_fault : PlanFault → Cut
cut_of_fault plan.Malformed = OfPlan refusal.Malformed
cut_of_fault plan.BadRow = OfPlan refusal.BadRow
cut_of_fault plan.TooMany = OfPlan refusal.TooMany
cut_of_fault plan.Memory = Memory

abbrev pub refusal_of_stay : Option ℕ → Option Cut
refusal_of_stay None = Some NoSuchGame
refusal_of_stay (Some stay) = None

-- whether there are fewer blocks than the plan reserves; judged only in files with stays, where it
-- decides which games are admitted
abbrev pub is_too_small : ℕ → Plan → Bool
is_too_small blocks plan = has_stays plan.version && nat_lt blocks (blocks_of_all BLOCK_BYTES plan.rows)

abbrev pub cut_refusal_of_plan : ℕ → List ℕ → List ℕ → ℕ → Result Plan PlanFault → Option Cut
cut_refusal_of_plan blocks file name n (Err fault) = Some (cut_of_fault fault)
cut_refusal_of_plan blocks file name n (Ok plan) =
    if is_too_small blocks plan then Some (OfPlan refusal.Short) else refusal_of_stay (nth_stay blocks file name n)

-- the first reason against cutting the file to that stay
unfoldable pub cut_refusal_of : ℕ → List ℕ → List ℕ → ℕ → Option Cut
cut_refusal_of blocks file name n =
    if nat_lt MOST_FILE_BYTES (length file) then Some TooLong else cut_refusal_of_plan blocks file name n (plan_of file)

-- the fault is that refusal; nothing is claimed of `Memory`
abbrev pub IsCutRefusal : Option Cut → Cut → Type 0
IsCutRefusal refusal TooLong = refusal ≡ Some TooLong
IsCutRefusal refusal (OfPlan reason) = refusal ≡ Some (OfPlan reason)
IsCutRefusal refusal NoSuchGame = refusal ≡ Some NoSuchGame
IsCutRefusal refusal Memory = Unit {0}
