-- If an admission is refused as `Full`, as many stays are open as a plan may have games: no file
-- has lines for as many rows as a core may have.
use Rattle.std.proofs.Common.{◌≡◌, ℕ, suc, ◌+◌, ◌-◌, ◌≤◌, Bool, true, false, ◌&&◌, not, nat_le, nat_lt, if◌then◌else◌, List, [], ◌∷◌, Option, Some, None, length, refl, ap, ◌∙◌, arith, length-append}
use Rattle.std.specs.Prelude.{count_by}
use Rattle.std.specs.List.{list_any}
use Rattle.std.proofs.lemmas.Bool.{lt-ltb, ltb-false}
use Rattle.std.proofs.lemmas.List.{length-map, length-set}
use Rattle.std.proofs.lemmas.List.Splits.{join_with_byte-slice_split}
use Rattle.std.proofs.lemmas.List.Sums.{sum_by-cons}
use Rattle.bs_board.specs.declared.commands.command.Command.{Command}
use Rattle.bs_board.specs.declared.commands.command.Command.TheVariants as command
use Rattle.bs_board.specs.declared.limits.TheConstants.{MOST_ROWS}
use Rattle.bs_board.specs.declared.plans.version.Version.{Version}
use Rattle.bs_board.specs.plans.Plan.{GameRow}
use Rattle.bs_json.specs.declared.line.Line.{Line}
use Rattle.bs_json.specs.declared.line.Line.TheVariants as line
use Rattle.bs_json.specs.declared.line.Stray.{Stray}
use Rattle.bs_json.specs.declared.line.Stray.TheVariants as stray
use Rattle.bs_json.specs.Line.{line_of}
use Rattle.bs_registry.specs.declared.blocks.TheConstants.{MOST_STAYS}
use Rattle.bs_registry.specs.declared.refusal.Refusal.TheVariants as refused
use Rattle.bs_registry.specs.Blocks.{blocks_of}
use Rattle.bs_registry.specs.Stays.{Capacity, Stay, blocks_in_registry, closed_stay, has_name, is_full, open_stay, refusal_in_order, stay_at}
use Rattle.bs_workers.specs.Acts.{opened, stay_named}
use Rattle.bs_workers.specs.declared.act.Act.TheVariants as act
use Rattle.bs_host.specs.declared.lines.TheConstants.{LINE_FEED}
use Rattle.bs_host.specs.declared.route.Route.{Route}
use Rattle.bs_host.specs.declared.route.Route.TheVariants as route
use Rattle.bs_host.specs.File.{later_pieces, pieces_of, rows_of, version_of}
use Rattle.bs_host.specs.Laws.{FullLaw}
use Rattle.bs_host.specs.Routing.{admit_refusal, admit_route, capacity_of, hand_route, leave_route, next_registry, registry_behind, registry_then, route_at, route_of, stray_for}
use Rattle.bs_host.proofs.CutLines.{bytes_of, later_fit}
use Rattle.bs_host.proofs.CutRows.{file_is_fit}
use Rattle.bs_host.proofs.FitStays.{IsFitLine, line_is_fit}

-- a line makes at most one row, and has at least one byte

one_row_more : (registry : List Stay) (r : Route) → length (registry_then registry r) ≤ length registry + 1
one_row_more registry (route.Act (act.Hand stay command)) = omega arith
one_row_more registry (route.Act (act.Admit row)) = omega (arith, length-append registry (open_stay row ∷ []))
one_row_more registry (route.Act (act.Leave stay)) = omega (arith, length-set registry stay (closed_stay (stay_at registry stay)))
one_row_more registry (route.Stray kind) = omega arith
one_row_more registry route.Nowhere = omega arith

rows_behind : (capacity : Capacity) (version : Version) (registry : List Stay) (lines : List (List ℕ))
    → length (registry_behind capacity version registry lines) ≤ length registry + length lines
rows_behind capacity version registry [] = omega arith
rows_behind capacity version registry (text ∷ lines) =
    let next = next_registry capacity version registry text in
    let one = one_row_more registry (route_at capacity version registry text) in
    let rest = rows_behind capacity version next lines in
    omega (arith, one, rest)

as_many_bytes : (lines : List (List ℕ)) → length lines ≤ bytes_of lines
as_many_bytes [] = omega arith
as_many_bytes (text ∷ lines) =
    let all = sum_by-cons (λ (line : List ℕ). suc (length line)) text lines in
    let rest = as_many_bytes lines in
    omega (arith, all, rest)

lines_fit : (file : List ℕ) → length (later_pieces (pieces_of file)) ≤ length file
lines_fit file =
    let many = as_many_bytes (later_pieces (pieces_of file)) in
    let fit = later_fit (pieces_of file) in
    let whole = ap length (join_with_byte-slice_split LINE_FEED file) in
    omega (arith, many, fit, whole)

-- the line that is refused as `Full`

not_short : (c : Bool) (left : ℕ) → stray_for (if c then None else Some (refused.Short left)) ≡ Some stray.Full → false ≡ true
not_short true left is = absurd cc
not_short false left is = absurd cc

full_in_order : (a b : Bool) (needed left : ℕ) → stray_for (refusal_in_order a b needed left) ≡ Some stray.Full → b ≡ true
full_in_order true b needed left is = absurd cc
full_in_order false true needed left is = refl
full_in_order false false needed left is = not_short (nat_le needed left) left is

of_refusal : (capacity : Capacity) (registry : List Stay) (row : GameRow) (found : Option Stray) → admit_refusal capacity registry row ≡ found
    → admit_route found row ≡ route.Stray stray.Full → is_full registry ≡ true
of_refusal capacity registry row None told is = absurd cc
of_refusal capacity registry row (Some kind) told is =
    let full : kind ≡ stray.Full = cc in
    full_in_order (list_any (has_name row.game) registry) (is_full registry) (blocks_of capacity.cap row) (capacity.blocks - blocks_in_registry capacity.cap registry)
    (told ∙ ap Some full)

never_by_hand : (command : Command) (found : Option ℕ) → hand_route found command ≡ route.Stray stray.Full → false ≡ true
never_by_hand command None is = absurd cc
never_by_hand command (Some stay) is = absurd cc

never_by_leave : (found : Option ℕ) → leave_route found ≡ route.Stray stray.Full → false ≡ true
never_by_leave None is = absurd cc
never_by_leave (Some stay) is = absurd cc

of_line : (capacity : Capacity) (registry : List Stay) (l : Line) → IsFitLine l → route_of capacity registry l ≡ route.Stray stray.Full → is_full registry ≡ true
of_line capacity registry line.Blank fit is = absurd cc
of_line capacity registry (line.Command name command) fit is = let wrong : false ≡ true = never_by_hand command (stay_named registry name) is in absurd cc
of_line capacity registry (line.Bad name) fit is = let wrong : false ≡ true = never_by_hand command.Bad (stay_named registry name) is in absurd cc
of_line capacity registry (line.Stray kind) fit is = let full : kind ≡ stray.Full = cc in let wrong : true ≡ false = rw full at fit in absurd cc
of_line capacity registry (line.Admit row) fit is = of_refusal capacity registry row (admit_refusal capacity registry row) refl is
of_line capacity registry line.BadAdmit fit is = absurd cc
of_line capacity registry (line.Leave None) fit is = absurd cc
of_line capacity registry (line.Leave (Some name)) fit is = let wrong : false ≡ true = never_by_leave (stay_named registry name) is in absurd cc

-- then that many are open

off_with_room : (b : Bool) → not (b && true) ≡ true → b ≡ false
off_with_room true off = absurd cc
off_with_room false off = refl

many_open : (many made : ℕ) → not (nat_lt many MOST_ROWS && nat_lt made MOST_STAYS) ≡ true → nat_lt made MOST_STAYS ≡ true → nat_lt many MOST_ROWS ≡ false
many_open many made full room = let off : not (nat_lt many MOST_ROWS && true) ≡ true = rw room at full in off_with_room (nat_lt many MOST_ROWS) off

pub full_law : FullLaw
full_law blocks file text earlier later short are is =
    let capacity = capacity_of blocks in
    let version = version_of file in
    let registry = registry_behind capacity version (opened (rows_of file)) earlier in
    let full = of_line capacity registry (line_of version text) (line_is_fit version text) is in
    let made = rows_behind capacity version (opened (rows_of file)) earlier in
    let planned = length-map (rows_of file) open_stay in
    let few = (file_is_fit file).few in
    let lines = ap length are in
    let behind = length-append earlier (text ∷ later) in
    let fit = lines_fit file in
    let room : nat_lt (length registry) MOST_STAYS ≡ true = lt-ltb (length registry) MOST_STAYS (omega (arith, made, planned, few, lines, behind, fit, short)) in
    ltb-false (count_by (λ (entry : Stay). entry.is_open) registry) MOST_ROWS
    (many_open (count_by (λ (entry : Stay). entry.is_open) registry) (length registry) full room)
