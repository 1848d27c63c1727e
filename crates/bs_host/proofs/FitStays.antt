-- Each stay's row is within the limits, and its blocks are no more than the pool has.
use Rattle.std.proofs.Common.{◌≡◌, ℕ, ◌≤◌, ◌-◌, Bool, true, false, ◌&&◌, not, if◌then◌else◌, nat_lt, List, [], ◌∷◌, Option, Some, None, length, codes, zero, suc, All, inl, inr, refl, arith}
use Rattle.std.specs.Prelude.{is_some, nat_le}
use Rattle.std.specs.List.{list_all, list_any}
use Rattle.std.proofs.lemmas.Bool.{cases_Bool, and_parts, leb-true}
use Rattle.std.proofs.lemmas.List.Elements.{All-push, All-set}
use Rattle.std.proofs.lemmas.List.Quantifiers.{position-Some}
use Rattle.serde_json.specs.Data.{Data}
use Rattle.serde_json.specs.Find.{as_object}
use Rattle.bs_board.specs.declared.commands.command.Command.{Command}
use Rattle.bs_board.specs.declared.plans.version.Version.{Version}
use Rattle.bs_board.specs.plans.Plan.{GameRow, row_of, is_fit_row}
use Rattle.bs_board.specs.plans.Version.{has_stays}
use Rattle.bs_json.specs.declared.limits.TheConstants.{MAX_LINE}
use Rattle.bs_json.specs.declared.line.Line.{Line}
use Rattle.bs_json.specs.declared.line.Line.TheVariants as line
use Rattle.bs_json.specs.declared.line.Stray.{Stray}
use Rattle.bs_json.specs.declared.line.Stray.TheVariants as stray
use Rattle.bs_json.specs.Commands.{command_of}
use Rattle.bs_json.specs.Line.{admit_line, command_line, does, is_space, line_for, line_from, line_in, line_of}
use Rattle.bs_json.specs.PlanLine.{row_from}
use Rattle.bs_json.specs.Values.{text_at, value_of}
use Rattle.bs_registry.specs.Blocks.{blocks_of}
use Rattle.bs_registry.specs.declared.refusal.Refusal.TheVariants as refused
use Rattle.bs_registry.specs.Stays.{Capacity, Stay, blocks_in_registry, closed_stay, has_name, has_room, is_full, may_admit_in, no_stay, open_stay, refusal_in_order, stay_at}
use Rattle.bs_workers.specs.Acts.{opened, stay_named}
use Rattle.bs_host.specs.Routing.{admit_refusal, admit_route, registry_behind, registry_then, hand_route, leave_route, next_registry, route_of, stray_for}
use Rattle.bs_host.proofs.CutRows.{IsFitIfRead, row_from_is_fit}

-- the row of a line that admits

-- the reasons that the stays decide
abbrev pub is_of_stays : Stray → Bool
is_of_stays stray.Json = false
is_of_stays stray.Game = false
is_of_stays stray.Long = false
is_of_stays stray.BadRow = true
is_of_stays stray.NameOpen = true
is_of_stays stray.Full = true
is_of_stays stray.Short = true
is_of_stays stray.NoStay = true

abbrev pub IsFitLine : Line → Type 0
IsFitLine line.Blank = Unit {0}
IsFitLine (line.Command game command) = Unit {0}
IsFitLine (line.Bad game) = Unit {0}
IsFitLine (line.Stray kind) = is_of_stays kind ≡ false
IsFitLine (line.Admit row) = is_fit_row row ≡ true
IsFitLine line.BadAdmit = Unit {0}
IsFitLine (line.Leave game) = Unit {0}

admit_line_is_fit : (found : Option GameRow) → IsFitIfRead found → IsFitLine (admit_line found)
admit_line_is_fit None fit = tt
admit_line_is_fit (Some row) fit = fit

line_for_is_fit : (game : List ℕ) (command : Option Command) → IsFitLine (line_for game command)
line_for_is_fit game None = tt
line_for_is_fit game (Some command) = tt

command_line_is_fit : (version : Version) (d : Data) (name : Option (List ℕ)) → IsFitLine (command_line version d name)
command_line_is_fit version d None = refl
command_line_is_fit version d (Some game) = line_for_is_fit game (command_of version d)

line_in_is_fit : (version : Version) (d : Data) → IsFitLine (line_in version d)
line_in_is_fit version d = elim (cases_Bool (does (codes "admit") d && has_stays version)) [
  | inl comes ↦ rw comes (admit_line_is_fit (row_from d) (row_from_is_fit d))
  | inr stays ↦ elim (cases_Bool (does (codes "leave") d && has_stays version)) [
    | inl leaves ↦ rw (stays, leaves) tt
    | inr other ↦ rw (stays, other) (command_line_is_fit version d (text_at (codes "game") d))
  ]
]

line_from_is_fit : (version : Version) (d : Option Data) → IsFitLine (line_from version d)
line_from_is_fit version None = refl
line_from_is_fit version (Some d) = elim (cases_Bool (is_some (as_object d))) [
  | inl object ↦ rw object (line_in_is_fit version d)
  | inr other ↦ rw other refl
]

pub line_is_fit : (version : Version) (text : List ℕ) → IsFitLine (line_of version text)
unfolding line_of
line_is_fit version text = elim (cases_Bool (nat_lt MAX_LINE (length text))) [
  | inl long ↦ rw long refl
  | inr short ↦ elim (cases_Bool (list_all is_space text)) [
    | inl blank ↦ rw (short, blank) tt
    | inr some ↦ rw (short, some) (line_from_is_fit version (value_of text))
  ]
]

-- a row that is not refused may be admitted

has_room_for : (c : Bool) (left : ℕ) → stray_for (if c then None else Some (refused.Short left)) ≡ None → c ≡ true
has_room_for true left none = refl
has_room_for false left none = absurd cc

all_three : (a b : Bool) (needed left : ℕ) → stray_for (refusal_in_order a b needed left) ≡ None → (not a && (not b && nat_le needed left)) ≡ true
all_three true b needed left none = absurd cc
all_three false true needed left none = absurd cc
all_three false false needed left none = has_room_for (nat_le needed left) left none

pub may_come : (capacity : Capacity) (registry : List Stay) (row : GameRow) → admit_refusal capacity registry row ≡ None → may_admit_in capacity registry row ≡ true
may_come capacity registry row none =
    all_three (list_any (has_name row.game) registry) (is_full registry) (blocks_of capacity.cap row) (capacity.blocks - blocks_in_registry capacity.cap registry) none

pub fits_pool : (capacity : Capacity) (registry : List Stay) (row : GameRow) → admit_refusal capacity registry row ≡ None → blocks_of capacity.cap row ≤ capacity.blocks
fits_pool capacity registry row none =
    let outer = and_parts (not (list_any (has_name row.game) registry)) (not (is_full registry) && has_room capacity registry row) (may_come capacity registry row none) in
    let room = leb-true (blocks_of capacity.cap row) (capacity.blocks - blocks_in_registry capacity.cap registry) (and_parts (not (is_full registry)) (has_room capacity registry row) outer.1).1 in
    omega (arith, room)

-- what holds of the first rows and of each admitted row holds of all
module _ (capacity : Capacity) (version : Version) (Q : GameRow → Type 0) (comes : (registry : List Stay) (row : GameRow) → is_fit_row row ≡ true → admit_refusal capacity registry row ≡ None → Q row) where
  abbrev AllRows : List Stay → Type 0
  AllRows registry = All (λ (entry : Stay). Q entry.row) registry

  keeps_hand : (registry : List Stay) (name : List ℕ) (command : Command) (found : Option ℕ) → AllRows registry → AllRows (registry_then registry (hand_route found command))
  keeps_hand registry name command None all = all
  keeps_hand registry name command (Some stay) all = all

  keeps_admit : (registry : List Stay) (row : GameRow) (found : Option Stray) → admit_refusal capacity registry row ≡ found → is_fit_row row ≡ true → AllRows registry
      → AllRows (registry_then registry (admit_route found row))
  keeps_admit registry row None is fit all = All-push (λ (entry : Stay). Q entry.row) registry (open_stay row) all (comes registry row fit is)
  keeps_admit registry row (Some kind) is fit all = all

  keeps_leave : (registry : List Stay) (name : List ℕ) (found : Option ℕ) → stay_named registry name ≡ found → AllRows registry → AllRows (registry_then registry (leave_route found))
  keeps_leave registry name None is all = all
  keeps_leave registry name (Some to) is all =
      let within = (position-Some (has_name name) registry to no_stay is).0 in
      All-set (λ (entry : Stay). Q entry.row) registry to (closed_stay (stay_at registry to)) (all to no_stay within) all

  keeps_line : (registry : List Stay) (l : Line) → IsFitLine l → AllRows registry → AllRows (registry_then registry (route_of capacity registry l))
  keeps_line registry line.Blank fit all = all
  keeps_line registry (line.Command name command) fit all = keeps_hand registry name command (stay_named registry name) all
  keeps_line registry (line.Bad name) fit all = keeps_hand registry name _ (stay_named registry name) all
  keeps_line registry (line.Stray kind) fit all = all
  keeps_line registry (line.Admit row) fit all = keeps_admit registry row (admit_refusal capacity registry row) refl fit all
  keeps_line registry line.BadAdmit fit all = all
  keeps_line registry (line.Leave None) fit all = all
  keeps_line registry (line.Leave (Some name)) fit all = keeps_leave registry name (stay_named registry name) refl all

  pub all_behind : (registry : List Stay) (lines : List (List ℕ)) → AllRows registry → AllRows (registry_behind capacity version registry lines)
  all_behind registry [] all = all
  all_behind registry (text ∷ lines) all =
      all_behind (next_registry capacity version registry text) lines (keeps_line registry (line_of version text) (line_is_fit version text) all)

pub opened_all : (Q : GameRow → Type 0) (rows : List GameRow) → All Q rows → All (λ (entry : Stay). Q entry.row) (opened rows)
opened_all Q [] all k d within = absurd (omega arith)
opened_all Q (row ∷ rows) all zero d within = all zero (row_of [] 0) (omega arith)
opened_all Q (row ∷ rows) all (suc k) d within = opened_all Q rows (λ i e inside. all (suc i) e (omega (arith, inside))) k d (omega (arith, within))
