-- The commands of files whose version has no hazards: a `new` has none.
use Rattle.std.proofs.Common.{◌≡◌, ℕ, ◌+◌, Bool, true, false, List, [], ◌∷◌, length, Option, Some, None, refl, inl, inr}
use Rattle.std.specs.Prelude.{All, IfSome, ◌&&◌, codes, if◌then◌else◌, is_some, nat_eq, nat_lt, option_map}
use Rattle.std.specs.List.{cons_option, list_all}
use Rattle.std.proofs.lemmas.Bool.{cases_Bool}
use Rattle.std.proofs.lemmas.List.Elements.{All-nil, All-cons}
use Rattle.serde_json.specs.Data.{Data}
use Rattle.serde_json.specs.Find.{as_object}
use Rattle.bs_board.specs.declared.boards.board.Mode.{Mode}
use Rattle.bs_board.specs.declared.boards.point.Point.{Point}
use Rattle.bs_board.specs.declared.commands.command.Command.{Command}
use Rattle.bs_board.specs.declared.commands.command.Command.TheVariants as command
use Rattle.bs_board.specs.declared.commands.command.Word.{Word}
use Rattle.bs_board.specs.declared.commands.command.Word.TheVariants as word
use Rattle.bs_board.specs.declared.limits.TheConstants.{LAST_TURN, LONGEST_SIDE, MOST_CHANCE, MOST_MIN_FOOD}
use Rattle.bs_board.specs.declared.plans.version.Version.{Version}
use Rattle.bs_board.specs.commands.Setup.{Setup, is_fit_setup, setup_of}
use Rattle.bs_board.specs.plans.Plan.{GameRow}
use Rattle.bs_board.specs.plans.Version.{has_hazards, has_stays}
use Rattle.bs_json.specs.declared.limits.TheConstants.{MAX_LINE, USUAL_CHANCE, USUAL_MIN_FOOD}
use Rattle.bs_json.specs.declared.line.Line.{Line}
use Rattle.bs_json.specs.declared.line.Line.TheVariants as line
use Rattle.bs_json.specs.declared.line.Stray.{Stray}
use Rattle.bs_json.specs.declared.line.Stray.TheVariants as stray
use Rattle.bs_json.specs.Commands.{command_for, command_of, word_at}
use Rattle.bs_json.specs.Line.{admit_line, command_line, does, is_space, line_for, line_from, line_in, line_of}
use Rattle.bs_json.specs.Moves.{orders_from}
use Rattle.bs_json.specs.PlanLine.{row_from}
use Rattle.bs_json.specs.Setups.{cell_from, fit_setup, hazardous, mode_at, setup_from, start_from}
use Rattle.bs_json.specs.Values.{◌>>=◌, list_at, number_at, number_or, text_at, value_of}
use Rattle.bs_registry.specs.Stays.{Capacity, Stay}
use Rattle.bs_workers.specs.Acts.{opened, stay_named}
use Rattle.bs_host.specs.File.{later_pieces, pieces_of, rows_of, version_of}
use Rattle.bs_host.specs.Plain.{PlainLaw}
use Rattle.bs_host.specs.Routing.{admit_refusal, admit_route, capacity_of, command_to, commands_to, hand_route, leave_route, next_registry, route_at, route_of, routes_from}
use Rattle.bs_host.proofs.PlainCourses.{BeginsWithout, plain_course}

-- options one after the other

after_any : {X Y : Type 0} (P : Y → Type 0) (o : Option X) (f : X → Option Y) → ((x : X) → IfSome (f x) P) → IfSome (o >>= f) P
after_any P None f all = tt
after_any P (Some x) f all = all x

after_some : {X Y : Type 0} (P : Y → Type 0) (Q : X → Type 0) (o : Option X) (f : X → Option Y) → IfSome o Q → ((x : X) → Q x → IfSome (f x) P) → IfSome (o >>= f) P
after_some P Q None f some all = tt
after_some P Q (Some x) f some all = all x some

mapped : {X Y : Type 0} (P : Y → Type 0) (o : Option X) (f : X → Y) → IfSome o (λ x. P (f x)) → IfSome (option_map f o) P
mapped P None f some = tt
mapped P (Some x) f some = some

mapped_any : {X Y : Type 0} (P : Y → Type 0) (o : Option X) (f : X → Y) → ((x : X) → P (f x)) → IfSome (option_map f o) P
mapped_any P None f all = tt
mapped_any P (Some x) f all = all x

-- a `new`

abbrev None_in : Setup → Type 0
None_in s = s.hazards ≡ None

fitting : (s : Setup) → None_in s → IfSome (fit_setup s) None_in
fitting s none =
    elim (cases_Bool (is_fit_setup s)) [
      | inl fits ↦ rw fits none
      | inr other ↦ rw other tt
    ]

unhazardous : (version : Version) (d : Data) (s : Setup) → has_hazards version ≡ false → None_in s → IfSome (hazardous version d s) None_in
unhazardous version d s early none = rw early none

-- what `setup_from` reads from each member on, with what it read before
abbrev Starts : Type 0
Starts = List (List ℕ × Point)

abbrev from_fit : Version → Data → Mode → ℕ → ℕ → Starts → List Point → ℕ → ℕ → Option Setup
from_fit version d mode width height snakes food min_food chance =
    fit_setup (setup_of mode width height snakes food min_food chance) >>= hazardous version d

abbrev from_chance : Version → Data → Mode → ℕ → ℕ → Starts → List Point → ℕ → Option Setup
from_chance version d mode width height snakes food min_food =
    number_or (codes "food_chance") MOST_CHANCE USUAL_CHANCE d >>= from_fit version d mode width height snakes food min_food

abbrev from_min_food : Version → Data → Mode → ℕ → ℕ → Starts → List Point → Option Setup
from_min_food version d mode width height snakes food =
    number_or (codes "min_food") MOST_MIN_FOOD USUAL_MIN_FOOD d >>= from_chance version d mode width height snakes food

abbrev from_food : Version → Data → Mode → ℕ → ℕ → Starts → Option Setup
from_food version d mode width height snakes = list_at (codes "food") cell_from d >>= from_min_food version d mode width height snakes

abbrev from_snakes : Version → Data → Mode → ℕ → ℕ → Option Setup
from_snakes version d mode width height = list_at (codes "snakes") start_from d >>= from_food version d mode width height

abbrev from_height : Version → Data → Mode → ℕ → Option Setup
from_height version d mode width = number_at (codes "height") LONGEST_SIDE d >>= from_snakes version d mode width

abbrev from_width : Version → Data → Mode → Option Setup
from_width version d mode = number_at (codes "width") LONGEST_SIDE d >>= from_height version d mode

fit_plain : (version : Version) (d : Data) (mode : Mode) (width height : ℕ) (snakes : Starts) (food : List Point) (min_food chance : ℕ) → has_hazards version ≡ false
    → IfSome (from_fit version d mode width height snakes food min_food chance) None_in
fit_plain version d mode width height snakes food min_food chance early =
    after_some None_in None_in (fit_setup (setup_of mode width height snakes food min_food chance)) (hazardous version d)
    (fitting (setup_of mode width height snakes food min_food chance) refl) (λ s none. unhazardous version d s early none)

chance_plain : (version : Version) (d : Data) (mode : Mode) (width height : ℕ) (snakes : Starts) (food : List Point) (min_food : ℕ) → has_hazards version ≡ false
    → IfSome (from_chance version d mode width height snakes food min_food) None_in
chance_plain version d mode width height snakes food min_food early =
    after_any None_in (number_or (codes "food_chance") MOST_CHANCE USUAL_CHANCE d) (from_fit version d mode width height snakes food min_food)
    (λ chance. fit_plain version d mode width height snakes food min_food chance early)

min_food_plain : (version : Version) (d : Data) (mode : Mode) (width height : ℕ) (snakes : Starts) (food : List Point) → has_hazards version ≡ false
    → IfSome (from_min_food version d mode width height snakes food) None_in
min_food_plain version d mode width height snakes food early =
    after_any None_in (number_or (codes "min_food") MOST_MIN_FOOD USUAL_MIN_FOOD d) (from_chance version d mode width height snakes food)
    (λ min_food. chance_plain version d mode width height snakes food min_food early)

food_plain : (version : Version) (d : Data) (mode : Mode) (width height : ℕ) (snakes : Starts) → has_hazards version ≡ false
    → IfSome (from_food version d mode width height snakes) None_in
food_plain version d mode width height snakes early =
    after_any None_in (list_at (codes "food") cell_from d) (from_min_food version d mode width height snakes)
    (λ food. min_food_plain version d mode width height snakes food early)

snakes_plain : (version : Version) (d : Data) (mode : Mode) (width height : ℕ) → has_hazards version ≡ false
    → IfSome (from_snakes version d mode width height) None_in
snakes_plain version d mode width height early =
    after_any None_in (list_at (codes "snakes") start_from d) (from_food version d mode width height)
    (λ snakes. food_plain version d mode width height snakes early)

sides_plain : (version : Version) (d : Data) (mode : Mode) → has_hazards version ≡ false → IfSome (from_width version d mode) None_in
sides_plain version d mode early =
    after_any None_in (number_at (codes "width") LONGEST_SIDE d) (from_height version d mode)
    (λ width. after_any None_in (number_at (codes "height") LONGEST_SIDE d) (from_snakes version d mode width) (λ height. snakes_plain version d mode width height early))

setup_plain : (version : Version) (d : Data) → has_hazards version ≡ false → IfSome (setup_from version d) None_in
unfolding setup_from
setup_plain version d early = after_any None_in (mode_at version d) (from_width version d) (λ mode. sides_plain version d mode early)

command_plain_for : (version : Version) (w : Word) (d : Data) → has_hazards version ≡ false → IfSome (command_for version w d) BeginsWithout
command_plain_for version word.New d early = mapped BeginsWithout (setup_from version d) command.New (setup_plain version d early)
command_plain_for version word.Move d early = mapped_any BeginsWithout (orders_from version d) command.Move (λ orders. tt)
command_plain_for version word.Show d early = tt
command_plain_for version word.Turn d early = mapped_any BeginsWithout (number_at (codes "at") LAST_TURN d) command.Turn (λ at. tt)
command_plain_for version word.Free d early = tt
command_plain_for version word.End d early = tt

command_plain : (version : Version) (d : Data) → has_hazards version ≡ false → IfSome (command_of version d) BeginsWithout
unfolding command_of
command_plain version d early = after_any BeginsWithout (word_at d) (λ w. command_for version w d) (λ w. command_plain_for version w d early)

-- a line

abbrev IsPlainLine : Line → Type 0
IsPlainLine line.Blank = Unit {0}
IsPlainLine (line.Command game c) = BeginsWithout c
IsPlainLine (line.Bad game) = Unit {0}
IsPlainLine (line.Stray kind) = Unit {0}
IsPlainLine (line.Admit row) = Unit {0}
IsPlainLine line.BadAdmit = Unit {0}
IsPlainLine (line.Leave game) = Unit {0}

either : (test : Bool) (x y : Line) → IsPlainLine x → IsPlainLine y → IsPlainLine (if test then x else y)
either true x y first second = first
either false x y first second = second

line_for_plain : (game : List ℕ) (c : Option Command) → IfSome c BeginsWithout → IsPlainLine (line_for game c)
line_for_plain game None some = tt
line_for_plain game (Some c) some = some

command_line_plain : (version : Version) (d : Data) (game : Option (List ℕ)) → has_hazards version ≡ false → IsPlainLine (command_line version d game)
command_line_plain version d None early = tt
command_line_plain version d (Some game) early = line_for_plain game (command_of version d) (command_plain version d early)

admit_line_plain : (row : Option GameRow) → IsPlainLine (admit_line row)
admit_line_plain None = tt
admit_line_plain (Some row) = tt

line_in_plain : (version : Version) (d : Data) → has_hazards version ≡ false → IsPlainLine (line_in version d)
line_in_plain version d early =
    either (does (codes "admit") d && has_stays version) (admit_line (row_from d))
    (if does (codes "leave") d && has_stays version then line.Leave (text_at (codes "game") d) else command_line version d (text_at (codes "game") d))
    (admit_line_plain (row_from d))
    (either (does (codes "leave") d && has_stays version) (line.Leave (text_at (codes "game") d)) (command_line version d (text_at (codes "game") d)) tt
    (command_line_plain version d (text_at (codes "game") d) early))

line_from_plain : (version : Version) (d : Option Data) → has_hazards version ≡ false → IsPlainLine (line_from version d)
line_from_plain version None early = tt
line_from_plain version (Some d) early = either (is_some (as_object d)) (line_in version d) (line.Stray stray.Json) (line_in_plain version d early) tt

line_plain : (version : Version) (text : List ℕ) → has_hazards version ≡ false → IsPlainLine (line_of version text)
unfolding line_of
line_plain version text early =
    either (nat_lt MAX_LINE (length text)) (line.Stray stray.Long) (if list_all is_space text then line.Blank else line_from version (value_of text)) tt
    (either (list_all is_space text) line.Blank (line_from version (value_of text)) tt (line_from_plain version (value_of text) early))

-- the commands of a stay

given_to : (to stay : ℕ) (c : Command) → BeginsWithout c → IfSome (if nat_eq to stay then Some c else None) BeginsWithout
given_to to stay c plain =
    elim (cases_Bool (nat_eq to stay)) [
      | inl same ↦ rw same plain
      | inr other ↦ rw other tt
    ]

handed : (stay : ℕ) (to : Option ℕ) (c : Command) → BeginsWithout c → IfSome (command_to stay (hand_route to c)) BeginsWithout
handed stay None c plain = tt
handed stay (Some to) c plain = given_to to stay c plain

admitted : (stay : ℕ) (refusal : Option Stray) (row : GameRow) → IfSome (command_to stay (admit_route refusal row)) BeginsWithout
admitted stay None row = tt
admitted stay (Some kind) row = tt

left : (stay : ℕ) (to : Option ℕ) → IfSome (command_to stay (leave_route to)) BeginsWithout
left stay None = tt
left stay (Some to) = tt

routed : (capacity : Capacity) (registry : List Stay) (stay : ℕ) (l : Line) → IsPlainLine l → IfSome (command_to stay (route_of capacity registry l)) BeginsWithout
routed capacity registry stay line.Blank plain = tt
routed capacity registry stay (line.Command game c) plain = handed stay (stay_named registry game) c plain
routed capacity registry stay (line.Bad game) plain = handed stay (stay_named registry game) command.Bad tt
routed capacity registry stay (line.Stray kind) plain = tt
routed capacity registry stay (line.Admit row) plain = admitted stay (admit_refusal capacity registry row) row
routed capacity registry stay line.BadAdmit plain = tt
routed capacity registry stay (line.Leave None) plain = tt
routed capacity registry stay (line.Leave (Some game)) plain = left stay (stay_named registry game)

one_listed : (c : Option Command) (commands : List Command) → IfSome c BeginsWithout → All BeginsWithout commands → All BeginsWithout (cons_option c commands)
one_listed None commands some all = all
one_listed (Some c) commands some all = All-cons BeginsWithout c commands some all

all_routed : (capacity : Capacity) (version : Version) (registry : List Stay) (number stay : ℕ) (lines : List (List ℕ)) → has_hazards version ≡ false
    → All BeginsWithout (commands_to stay (routes_from capacity version registry number lines))
all_routed capacity version registry number stay [] early = All-nil BeginsWithout
all_routed capacity version registry number stay (text ∷ lines) early =
    one_listed (command_to stay (route_at capacity version registry text))
    (commands_to stay (routes_from capacity version (next_registry capacity version registry text) (number + 1) lines))
    (routed capacity registry stay (line_of version text) (line_plain version text early))
    (all_routed capacity version (next_registry capacity version registry text) (number + 1) stay lines early)

pub plain_law : PlainLaw
plain_law blocks file stay early =
    plain_course _ _ (all_routed (capacity_of blocks) (version_of file) (opened (rows_of file)) 2 stay (later_pieces (pieces_of file)) early)
