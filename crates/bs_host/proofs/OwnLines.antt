-- A stay's own lines are those that name its game, between its `admit` and its `leave`.
use Rattle.std.proofs.Common.{◌≡◌, ℕ, ◌<◌, ◌≤◌, Bool, true, false, List, [], ◌∷◌, Option, Some, None, is_some, length, inl, inr, refl, sym, ap, ◌∙◌, arith, length-append}
use Rattle.std.specs.List.{filter}
use Rattle.std.proofs.Math.Seq.{get_or-append_seam}
use Rattle.std.proofs.lemmas.Bool.{and_from, and_parts, cases_Bool, cases_eq, cases_lt, eq-eqb, lt-ltb, le-ltb}
use Rattle.std.proofs.lemmas.List.{get_or_append_left, get_or-set_same, get_or-set_other, length-set}
use Rattle.std.proofs.lemmas.List.Quantifiers.{position-Some}
use Rattle.bs_board.specs.declared.commands.command.Command.{Command}
use Rattle.bs_board.specs.plans.Plan.{GameRow}
use Rattle.bs_board.specs.Texts.{is_same_text}
use Rattle.bs_board.specs.declared.plans.version.Version.{Version}
use Rattle.bs_board.specs.declared.commands.command.Command.TheVariants as command
use Rattle.bs_json.specs.declared.line.Line.{Line}
use Rattle.bs_json.specs.declared.line.Stray.{Stray}
use Rattle.bs_json.specs.Line.{line_of}
use Rattle.bs_json.specs.declared.line.Line.TheVariants as line
use Rattle.bs_registry.specs.Stays.{Capacity, Stay, closed_stay, has_name, no_stay, open_stay, stay_at}
use Rattle.bs_workers.specs.Acts.{opened, stay_named}
use Rattle.bs_workers.specs.declared.act.Act.TheVariants as act
use Rattle.bs_host.specs.File.{pieces_of, later_pieces, rows_of, version_of}
use Rattle.bs_host.specs.declared.route.Route.{Route}
use Rattle.bs_host.specs.Laws.{OwnLinesLaw}
use Rattle.bs_host.specs.Cut.{is_own_line, own_lines_in, row_at}
use Rattle.bs_host.specs.Routing.{admit_refusal, admit_route, behind_admit, registry_behind, registry_then, command_to, hand_route, capacity_of, is_command_for, is_leave_of, leave_route, next_registry, route_at, route_of, stays_of, until_leave}
use Rattle.bs_host.specs.declared.route.Route.TheVariants as route
use Rattle.bs_host.proofs.ApartStays.{Apart, apart_opened, apart_then, only_named, opened_at}
use Rattle.bs_host.proofs.CutRows.{file_is_fit}
use Rattle.bs_host.proofs.StayLines.{handed}
use Rattle.bs_host.proofs.StayRows.{length_kept, row_behind, row_in_registry}

-- a line of the stay: the stay exists and is open, and the line names it

record GoesTo (registry : List Stay) (stay : ℕ) (l : Line) : Type 0 where
  within : stay < length registry
  is_open : (stay_at registry stay).is_open ≡ true
  named : is_command_for (stay_at registry stay).row.game l ≡ true

not_by_admit : (stay : ℕ) (refused : Option Stray) (row : GameRow) → is_some (command_to stay (admit_route refused row)) ≡ true → ⊥
not_by_admit stay None row own = absurd cc
not_by_admit stay (Some kind) row own = absurd cc

not_by_leave : (stay : ℕ) (found : Option ℕ) → is_some (command_to stay (leave_route found)) ≡ true → ⊥
not_by_leave stay None own = absurd cc
not_by_leave stay (Some to) own = absurd cc

goes_to : (capacity : Capacity) (registry : List Stay) (stay : ℕ) (l : Line) → is_some (command_to stay (route_of capacity registry l)) ≡ true → GoesTo registry stay l
goes_to capacity registry stay line.Blank own = absurd cc
goes_to capacity registry stay (line.Command name command) own =
    let on = handed registry stay name command (stay_named registry name) refl own in record { within = on.within; is_open = on.is_open; named = on.same }
goes_to capacity registry stay (line.Bad name) own =
    let on = handed registry stay name command.Bad (stay_named registry name) refl own in record { within = on.within; is_open = on.is_open; named = on.same }
goes_to capacity registry stay (line.Stray kind) own = absurd cc
goes_to capacity registry stay (line.Admit row) own = absurd (not_by_admit stay (admit_refusal capacity registry row) row own)
goes_to capacity registry stay line.BadAdmit own = absurd cc
goes_to capacity registry stay (line.Leave None) own = absurd cc
goes_to capacity registry stay (line.Leave (Some name)) own = absurd (not_by_leave stay (stay_named registry name) own)

is_not_true : (b : Bool) → (b ≡ true → ⊥) → b ≡ false
is_not_true true never = absurd (never refl)
is_not_true false never = refl

-- a closed stay remains closed

closed_then : (registry : List Stay) (r : Route) (stay : ℕ) → stay < length registry → (stay_at registry stay).is_open ≡ false → (stay_at (registry_then registry r) stay).is_open ≡ false
closed_then registry (route.Act (act.Hand to command)) stay within closed = closed
closed_then registry (route.Act (act.Admit row)) stay within closed =
    ap (λ (e : Stay). e.is_open) (get_or_append_left registry (open_stay row ∷ []) no_stay stay within) ∙ closed
closed_then registry (route.Act (act.Leave to)) stay within closed = elim (cases_eq stay to) [
  | inl same ↦
      let there : to < length registry = omega (arith, same, within) in
      rw same (ap (λ (e : Stay). e.is_open) (get_or-set_same registry to (closed_stay (stay_at registry to)) no_stay there))
  | inr other ↦ ap (λ (e : Stay). e.is_open) (get_or-set_other registry to stay (closed_stay (stay_at registry to)) no_stay other) ∙ closed
]
closed_then registry (route.Stray kind) stay within closed = closed
closed_then registry route.Nowhere stay within closed = closed

-- the effect of a line on an open stay
module _ (capacity : Capacity) (registry : List Stay) (stay : ℕ) (within : stay < length registry) (is_open : (stay_at registry stay).is_open ≡ true) (apart : Apart registry) where
  abbrev name : List ℕ
  name = (stay_at registry stay).row.game

  found : (game : List ℕ) → is_same_text game name ≡ true → stay_named registry game ≡ Some stay
  found game same = only_named registry stay game apart within (and_from (stay_at registry stay).is_open (is_same_text game name) is_open same)

  asks : (game : List ℕ) (command : Command) → is_same_text game name ≡ true → is_some (command_to stay (hand_route (stay_named registry game) command)) ≡ true
  asks game command same =
      let self = eq-eqb stay stay refl in
      ap (λ o. is_some (command_to stay (hand_route o command))) (found game same) ∙ (rw self refl)

  own_if_named : (l : Line) → is_command_for name l ≡ true → is_some (command_to stay (route_of capacity registry l)) ≡ true
  own_if_named line.Blank named = absurd cc
  own_if_named (line.Command game command) named = asks game command named
  own_if_named (line.Bad game) named = asks game command.Bad named
  own_if_named (line.Stray kind) named = absurd cc
  own_if_named (line.Admit row) named = absurd cc
  own_if_named line.BadAdmit named = absurd cc
  own_if_named (line.Leave game) named = absurd cc

  own_is_named : (l : Line) → is_some (command_to stay (route_of capacity registry l)) ≡ is_command_for name l
  own_is_named l = elim (cases_Bool (is_command_for name l)) [
    | inl named ↦ own_if_named l named ∙ sym named
    | inr other ↦
        let off = is_not_true (is_some (command_to stay (route_of capacity registry l))) (λ own. let wrong : false ≡ true = sym other ∙ (goes_to capacity registry stay l own).named in absurd cc) in
        off ∙ sym other
  ]

  closes : (l : Line) → is_leave_of name l ≡ true → route_of capacity registry l ≡ route.Act (act.Leave stay)
  closes line.Blank leaves = absurd cc
  closes (line.Command game command) leaves = absurd cc
  closes (line.Bad game) leaves = absurd cc
  closes (line.Stray kind) leaves = absurd cc
  closes (line.Admit row) leaves = absurd cc
  closes line.BadAdmit leaves = absurd cc
  closes (line.Leave None) leaves = absurd cc
  closes (line.Leave (Some game)) leaves = ap leave_route (found game leaves)

  closed : (l : Line) → is_leave_of name l ≡ true → (stay_at (registry_then registry (route_of capacity registry l)) stay).is_open ≡ false
  closed l leaves =
      ap (λ r. (stay_at (registry_then registry r) stay).is_open) (closes l leaves)
      ∙ ap (λ (e : Stay). e.is_open) (get_or-set_same registry stay (closed_stay (stay_at registry stay)) no_stay within)

  by_hand : (o : Option ℕ) (command : Command) → stay_at (registry_then registry (hand_route o command)) stay ≡ stay_at registry stay
  by_hand None command = refl
  by_hand (Some to) command = refl

  by_admit : (o : Option Stray) (row : GameRow) → stay_at (registry_then registry (admit_route o row)) stay ≡ stay_at registry stay
  by_admit None row = get_or_append_left registry (open_stay row ∷ []) no_stay stay within
  by_admit (Some kind) row = refl

  by_leave : (game : List ℕ) (o : Option ℕ) → stay_named registry game ≡ o → is_same_text game name ≡ false → stay_at (registry_then registry (leave_route o)) stay ≡ stay_at registry stay
  by_leave game None is other = refl
  by_leave game (Some to) is other = elim (cases_eq stay to) [
    | inl same ↦
        let hit : has_name game (stay_at registry to) ≡ true = (position-Some (has_name game) registry to no_stay is).1 in
        let here : has_name game (stay_at registry stay) ≡ true = ap (λ n. has_name game (stay_at registry n)) same ∙ hit in
        let named : is_same_text game name ≡ true = (and_parts (stay_at registry stay).is_open (is_same_text game name) here).1 in
        let wrong : false ≡ true = sym other ∙ named in
        absurd cc
    | inr apart_from ↦ get_or-set_other registry to stay (closed_stay (stay_at registry to)) no_stay apart_from
  ]

  stands : (l : Line) → is_leave_of name l ≡ false → stay_at (registry_then registry (route_of capacity registry l)) stay ≡ stay_at registry stay
  stands line.Blank remains = refl
  stands (line.Command game command) remains = by_hand (stay_named registry game) command
  stands (line.Bad game) remains = by_hand (stay_named registry game) command.Bad
  stands (line.Stray kind) remains = refl
  stands (line.Admit row) remains = by_admit (admit_refusal capacity registry row) row
  stands line.BadAdmit remains = refl
  stands (line.Leave None) remains = refl
  stands (line.Leave (Some game)) remains = by_leave game (stay_named registry game) refl remains

  not_its_leave : (l : Line) → is_leave_of name l ≡ true → is_some (command_to stay (route_of capacity registry l)) ≡ false
  not_its_leave l leaves = ap (λ r. is_some (command_to stay r)) (closes l leaves)

-- a new stay is open, in the next row
comes_open : (registry : List Stay) (r : Route) (stay : ℕ) → length registry ≤ stay → stay < length (registry_then registry r) → (stay_at (registry_then registry r) stay).is_open ≡ true
comes_open registry (route.Act (act.Hand to command)) stay past within = absurd (omega (arith, past, within))
comes_open registry (route.Act (act.Admit row)) stay past within =
    let last : stay ≡ length registry = omega (arith, past, within, length-append registry (open_stay row ∷ [])) in
    rw last (ap (λ (e : Stay). e.is_open) (get_or-append_seam registry (open_stay row) [] no_stay))
comes_open registry (route.Act (act.Leave to)) stay past within = absurd (omega (arith, past, within, length-set registry to (closed_stay (stay_at registry to))))
comes_open registry (route.Stray kind) stay past within = absurd (omega (arith, past, within))
comes_open registry route.Nowhere stay past within = absurd (omega (arith, past, within))

module _ (capacity : Capacity) (version : Version) (stay : ℕ) where
  abbrev own : List Stay → List (List ℕ) → List (List ℕ)
  own registry lines = own_lines_in capacity version registry stay lines

  abbrev named_until : List ℕ → List (List ℕ) → List (List ℕ)
  named_until name lines = filter (λ text. is_command_for name (line_of version text)) (until_leave version name lines)

  none_when_closed : (registry : List Stay) (lines : List (List ℕ)) → stay < length registry → (stay_at registry stay).is_open ≡ false → own registry lines ≡ []
  none_when_closed registry [] within closed_now = refl
  none_when_closed registry (text ∷ lines) within closed_now =
      let next = next_registry capacity version registry text in
      let other = is_not_true (is_own_line capacity version registry stay text) (λ on. let wrong : false ≡ true = sym closed_now ∙ (goes_to capacity registry stay (line_of version text) on).is_open in absurd cc) in
      let longer = length_kept registry (route_at capacity version registry text) in
      rw other (none_when_closed next lines (omega (arith, within, longer)) (closed_then registry (route_at capacity version registry text) stay within closed_now))

  while_open : (registry : List Stay) (lines : List (List ℕ)) (game : List ℕ) → stay < length registry → (stay_at registry stay).is_open ≡ true → (stay_at registry stay).row.game ≡ game → Apart registry
      → own registry lines ≡ named_until game lines
  while_open registry [] game within on its_name apart = refl
  while_open registry (text ∷ lines) game within on its_name apart =
      let l = line_of version text in
      let next = next_registry capacity version registry text in
      let longer : stay < length next = omega (arith, within, length_kept registry (route_at capacity version registry text)) in
      elim (cases_Bool (is_leave_of game l)) [
        | inl leaves ↦
            let here : is_leave_of (stay_at registry stay).row.game l ≡ true = ap (λ n. is_leave_of n l) its_name ∙ leaves in
            let none = none_when_closed next lines longer (closed capacity registry stay within on apart l here) in
            let other : is_own_line capacity version registry stay text ≡ false = not_its_leave capacity registry stay within on apart l here in
            rw (leaves, other) none
        | inr remains ↦
            let here : is_leave_of (stay_at registry stay).row.game l ≡ false = ap (λ n. is_leave_of n l) its_name ∙ remains in
            let same = stands capacity registry stay within on apart l here in
            let rest = while_open next lines game longer (ap (λ (e : Stay). e.is_open) same ∙ on) (ap (λ (e : Stay). e.row.game) same ∙ its_name) (apart_then capacity registry l apart) in
            let asked : is_own_line capacity version registry stay text ≡ is_command_for game l = own_is_named capacity registry stay within on apart l ∙ ap (λ n. is_command_for n l) its_name in
            elim (cases_Bool (is_command_for game l)) [
              | inl named ↦ let owned = asked ∙ named in rw (remains, named, owned) (ap (λ ls. text ∷ ls) rest)
              | inr other ↦ let not_owned = asked ∙ other in rw (remains, other, not_owned) rest
            ]
      ]

  -- not admitted yet, or open
  abbrev IsToCome : List Stay → Type 0
  IsToCome registry = stay < length registry → (stay_at registry stay).is_open ≡ true

  pub own_between : (registry : List Stay) (lines : List (List ℕ)) (row : GameRow) → (stay_at (registry_behind capacity version registry lines) stay).row ≡ row → IsToCome registry → Apart registry
      → own registry lines ≡ named_until row.game (behind_admit capacity version registry stay lines)
  own_between registry [] row is to_come apart = refl
  own_between registry (text ∷ lines) row is to_come apart = elim (cases_lt stay (length registry)) [
    | inl within ↦
        let there = lt-ltb stay (length registry) within in
        let its_name = ap (λ (r : GameRow). r.game) (sym (row_behind capacity version registry (text ∷ lines) stay within) ∙ is) in
        rw there (while_open registry (text ∷ lines) row.game within (to_come within) its_name apart)
    | inr past ↦
        let l = line_of version text in
        let next = next_registry capacity version registry text in
        let absent = le-ltb stay (length registry) past in
        let other = is_not_true (is_own_line capacity version registry stay text) (λ on. let inside = (goes_to capacity registry stay l on).within in absurd (omega (arith, past, inside))) in
        let comes : IsToCome next = λ inside. comes_open registry (route_at capacity version registry text) stay (omega (arith, past)) inside in
        rw (absent, other) (own_between next lines row is comes (apart_then capacity registry l apart))
  ]

pub own_lines_law : OwnLinesLaw
own_lines_law blocks file stay within =
    let capacity = capacity_of blocks in
    let version = version_of file in
    let rows = rows_of file in
    let lines = later_pieces (pieces_of file) in
    let last = registry_behind capacity version (opened rows) lines in
    let is = sym (row_in_registry last stay) in
    own_between capacity version stay (opened rows) lines (row_at (stays_of blocks file) stay) is (λ inside. ap (λ (e : Stay). e.is_open) (opened_at rows stay)) (apart_opened rows (file_is_fit file))
