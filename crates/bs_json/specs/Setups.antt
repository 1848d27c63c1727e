-- The contents of a `new` line.
use Rattle.std.specs.Prelude.{ℕ, ◌-◌, ◌&&◌, pos, codes, List, [], Option, Some, None, if◌then◌else◌}
use Rattle.serde_json.specs.Data.{Data}
use Rattle.serde_json.specs.Find.{get}
use Rattle.bs_board.specs.declared.boards.point.Point.{Point}
use Rattle.bs_board.specs.declared.boards.board.Mode.{Mode}
use Rattle.bs_board.specs.declared.boards.hazards.Hazards.{Hazards}
use Rattle.bs_board.specs.declared.boards.board.Mode.TheVariants.{Standard, Solo, Constrictor, Wrapped}
use Rattle.bs_board.specs.declared.plans.version.Version.{Version}
use Rattle.bs_board.specs.commands.Setup.{Setup, setup_of, is_fit_setup}
use Rattle.bs_board.specs.plans.Version.{has_hazards, has_wrapped}
use Rattle.bs_board.specs.Texts.{is_same_text}
use Rattle.bs_board.specs.declared.limits.TheConstants.{LONGEST_SIDE, MOST_CHANCE, MOST_DAMAGE, MOST_MIN_FOOD}
use Rattle.bs_json.specs.declared.limits.TheConstants.{USUAL_CHANCE, USUAL_DAMAGE, USUAL_MIN_FOOD}
use Rattle.bs_json.specs.Values.{◌>>=◌, number_at, number_or, or_default, text_at, list_at, list_of}

-- `wrapped` names a mode only in versions that have it
abbrev pub mode_named : Version → List ℕ → Option Mode
mode_named version word =
    if is_same_text word (codes "standard") then Some Standard
    else (if is_same_text word (codes "solo") then Some Solo
    else (if is_same_text word (codes "constrictor") then Some Constrictor
    else (if is_same_text word (codes "wrapped") && has_wrapped version then Some Wrapped
    else None)))

abbrev pub mode_at : Version → Data → Option Mode
mode_at version d = text_at (codes "mode") d >>= mode_named version

-- columns and rows are counted from 0, and no board has more than the longest side
abbrev pub cell_from : Data → Option Point
cell_from d = do
  x ← number_at (codes "x") (LONGEST_SIDE - 1) d
  y ← number_at (codes "y") (LONGEST_SIDE - 1) d
  Some (record { x = pos x; y = pos y })

abbrev pub start_from : Data → Option (List ℕ × Point)
start_from d = do
  id ← text_at (codes "id") d
  cell ← cell_from d
  Some (id, cell)

abbrev pub fit_setup : Setup → Option Setup
fit_setup setup = if is_fit_setup setup then Some setup else None

-- the damage has a default; no cells if they are left out
abbrev pub hazards_from : Data → Option Hazards
hazards_from d = do
  damage ← number_or (codes "hazard_damage") MOST_DAMAGE USUAL_DAMAGE d
  cells ← or_default (list_of cell_from) [] (get (codes "hazards") d)
  Some (record { damage = damage; cells = cells })

abbrev pub with_hazards : Setup → Hazards → Option Setup
with_hazards setup hazards = fit_setup (record setup { hazards = Some hazards })

-- a game has hazards in versions that have them
abbrev pub hazardous : Version → Data → Setup → Option Setup
hazardous version d setup = if has_hazards version then hazards_from d >>= with_hazards setup else Some setup

-- the minimum of food and its chance have defaults
unfoldable pub setup_from : Version → Data → Option Setup
setup_from version d = do
  mode ← mode_at version d
  width ← number_at (codes "width") LONGEST_SIDE d
  height ← number_at (codes "height") LONGEST_SIDE d
  snakes ← list_at (codes "snakes") start_from d
  food ← list_at (codes "food") cell_from d
  min_food ← number_or (codes "min_food") MOST_MIN_FOOD USUAL_MIN_FOOD d
  chance ← number_or (codes "food_chance") MOST_CHANCE USUAL_CHANCE d
  setup ← fit_setup (setup_of mode width height snakes food min_food chance)
  hazardous version d setup
