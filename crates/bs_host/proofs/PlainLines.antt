-- Without admissions and leaves each line is routed by itself.
use Rattle.std.proofs.Common.{◌≡◌, ℕ, ◌+◌, Bool, true, false, ◌&&◌, List, [], ◌∷◌, ◌++◌, Option, Some, None, is_some, length, nat_lt, codes, inl, inr, refl, sym, ap, ◌∙◌}
use Rattle.std.specs.List.{enumerate_from, flat_map, list_all}
use Rattle.std.proofs.lemmas.Bool.{cases_Bool}
use Rattle.serde_json.specs.Data.{Data}
use Rattle.serde_json.specs.Find.{as_object}
use Rattle.bs_board.specs.declared.commands.command.Command.{Command}
use Rattle.bs_board.specs.plans.Plan.{GameRow}
use Rattle.bs_board.specs.plans.Version.{has_stays}
use Rattle.bs_board.specs.declared.plans.version.Version.{Version}
use Rattle.bs_board.specs.declared.commands.command.Command.TheVariants as command
use Rattle.bs_json.specs.declared.limits.TheConstants.{MAX_LINE}
use Rattle.bs_json.specs.Commands.{command_of}
use Rattle.bs_json.specs.Line.{is_space, command_line, does, line_for, line_from, line_in, line_of}
use Rattle.bs_json.specs.Values.{text_at, value_of}
use Rattle.bs_json.specs.declared.line.Line.{Line}
use Rattle.bs_json.specs.declared.line.Line.TheVariants as line
use Rattle.bs_transcript.specs.Lines.{stray_lines_of}
use Rattle.bs_registry.specs.Stays.{Capacity, Stay}
use Rattle.bs_workers.specs.Acts.{opened, rows_in_registry, stay_named}
use Rattle.bs_host.specs.declared.route.Route.{Route}
use Rattle.bs_host.specs.Laws.{EarlyLaw}
use Rattle.bs_host.specs.File.{rows_of, version_of, pieces_of, later_pieces}
use Rattle.bs_host.specs.Transcript.{transcript_of, section_of}
use Rattle.bs_host.specs.Routing.{registry_behind, registry_then, hand_route, next_registry, route_at, route_of, routes_from, routes_of, stays_behind, stays_of, strays_in, commands_to, capacity_of}

-- a line that leaves the registry unchanged
abbrev IsPlain : Line → Type 0
IsPlain line.Blank = Unit {0}
IsPlain (line.Command game command) = Unit {0}
IsPlain (line.Bad game) = Unit {0}
IsPlain (line.Stray kind) = Unit {0}
IsPlain (line.Admit row) = ⊥
IsPlain line.BadAdmit = ⊥
IsPlain (line.Leave game) = ⊥

plain_for : (game : List ℕ) (command : Option Command) → IsPlain (line_for game command)
plain_for game None = tt
plain_for game (Some command) = tt

plain_command : (version : Version) (d : Data) (name : Option (List ℕ)) → IsPlain (command_line version d name)
plain_command version d None = tt
plain_command version d (Some game) = plain_for game (command_of version d)

and_false : (b : Bool) → (b && false) ≡ false
and_false true = refl
and_false false = refl

plain_in : (version : Version) (d : Data) → has_stays version ≡ false → IsPlain (line_in version d)
plain_in version d early =
    let no_admit : (does (codes "admit") d && has_stays version) ≡ false = rw early (and_false (does (codes "admit") d)) in
    let no_leave : (does (codes "leave") d && has_stays version) ≡ false = rw early (and_false (does (codes "leave") d)) in
    rw (no_admit, no_leave) (plain_command version d (text_at (codes "game") d))

plain_from : (version : Version) (d : Option Data) → has_stays version ≡ false → IsPlain (line_from version d)
plain_from version None early = tt
plain_from version (Some d) early = elim (cases_Bool (is_some (as_object d))) [
  | inl object ↦ rw object (plain_in version d early)
  | inr other ↦ rw other tt
]

plain_line : (version : Version) (text : List ℕ) → has_stays version ≡ false → IsPlain (line_of version text)
unfolding line_of
plain_line version text early = elim (cases_Bool (nat_lt MAX_LINE (length text))) [
  | inl long ↦ rw long tt
  | inr short ↦ elim (cases_Bool (list_all is_space text)) [
    | inl blank ↦ rw (short, blank) tt
    | inr some ↦ rw (short, some) (plain_from version (value_of text) early)
  ]
]

same_by_hand : (registry : List Stay) (command : Command) (found : Option ℕ) → registry_then registry (hand_route found command) ≡ registry
same_by_hand registry command None = refl
same_by_hand registry command (Some stay) = refl

same_registry : (capacity : Capacity) (registry : List Stay) (l : Line) → IsPlain l → registry_then registry (route_of capacity registry l) ≡ registry
same_registry capacity registry line.Blank plain = refl
same_registry capacity registry (line.Command game command) plain = same_by_hand registry command (stay_named registry game)
same_registry capacity registry (line.Bad game) plain = same_by_hand registry command.Bad (stay_named registry game)
same_registry capacity registry (line.Stray kind) plain = refl
same_registry capacity registry (line.Admit row) plain = absurd plain
same_registry capacity registry line.BadAdmit plain = absurd plain
same_registry capacity registry (line.Leave game) plain = absurd plain

-- all of the lines
same_behind : (capacity : Capacity) (version : Version) (registry : List Stay) (lines : List (List ℕ)) → has_stays version ≡ false → registry_behind capacity version registry lines ≡ registry
same_behind capacity version registry [] early = refl
same_behind capacity version registry (text ∷ lines) early =
    let same : next_registry capacity version registry text ≡ registry = same_registry capacity registry (line_of version text) (plain_line version text early) in
    ap (λ b. registry_behind capacity version b lines) same ∙ same_behind capacity version registry lines early

-- nor does the number of blocks matter

same_route : (capacity other : Capacity) (registry : List Stay) (l : Line) → IsPlain l → route_of capacity registry l ≡ route_of other registry l
same_route capacity other registry line.Blank plain = refl
same_route capacity other registry (line.Command game command) plain = refl
same_route capacity other registry (line.Bad game) plain = refl
same_route capacity other registry (line.Stray kind) plain = refl
same_route capacity other registry (line.Admit row) plain = absurd plain
same_route capacity other registry line.BadAdmit plain = absurd plain
same_route capacity other registry (line.Leave game) plain = absurd plain

same_routes : (capacity other : Capacity) (version : Version) (number : ℕ) (registry : List Stay) (lines : List (List ℕ)) → has_stays version ≡ false
    → routes_from capacity version registry number lines ≡ routes_from other version registry number lines
same_routes capacity other version number registry [] early = refl
same_routes capacity other version number registry (text ∷ lines) early =
    let plain = plain_line version text early in
    let same = same_route capacity other registry (line_of version text) plain in
    ap (λ r. (number, r) ∷ routes_from capacity version (registry_then registry r) (number + 1) lines) same
    ∙ ap (λ ls. (number, route_at other version registry text) ∷ ls) (same_routes capacity other version (number + 1) (next_registry other version registry text) lines early)

pub rows_opened : (rows : List GameRow) → rows_in_registry (opened rows) ≡ rows
rows_opened [] = refl
rows_opened (row ∷ rows) = ap (λ rest. row ∷ rest) (rows_opened rows)

pub stays_plain : (capacity : Capacity) (version : Version) (rows : List GameRow) (lines : List (List ℕ)) → has_stays version ≡ false → stays_behind capacity version rows lines ≡ rows
stays_plain capacity version rows lines early = ap rows_in_registry (same_behind capacity version (opened rows) lines early) ∙ rows_opened rows

pub stays_early : (blocks : ℕ) (file : List ℕ) → has_stays (version_of file) ≡ false → stays_of blocks file ≡ rows_of file
stays_early blocks file early =
    ap rows_in_registry (same_behind (capacity_of blocks) (version_of file) (opened (rows_of file)) (later_pieces (pieces_of file)) early) ∙ rows_opened (rows_of file)

abbrev text_by : List GameRow → List (ℕ × Route) → List ℕ
text_by stays routes = flat_map (λ stay. section_of stay.1 (commands_to stay.0 routes)) (enumerate_from 0 stays) ++ stray_lines_of (strays_in routes)

text_early : (blocks other : ℕ) (file : List ℕ) → has_stays (version_of file) ≡ false → transcript_of blocks file ≡ transcript_of other file
unfolding transcript_of
text_early blocks other file early =
    let stays = stays_early blocks file early ∙ sym (stays_early other file early) in
    let routes = same_routes (capacity_of blocks) (capacity_of other) (version_of file) 2 (opened (rows_of file)) (later_pieces (pieces_of file)) early in
    ap (λ all. text_by all (routes_of blocks file)) stays ∙ ap (text_by (stays_of other file)) routes

pub early_law : EarlyLaw
early_law blocks other file early =
    record { stays = stays_early blocks file early; text = text_early blocks other file early }
