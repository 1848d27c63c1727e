-- The requests of a stay's own lines in a file where the stay is alone.
use Rattle.std.proofs.Common.{◌≡◌, ℕ, ◌+◌, ◌<◌, true, false, List, [], ◌∷◌, Option, Some, None, is_some, length, inl, inr, refl, sym, ap, ◌∙◌, arith}
use Rattle.std.specs.Prelude.{nat_eq}
use Rattle.std.specs.List.{cons_option}
use Rattle.std.proofs.lemmas.Bool.{cases_Bool, eqb-true, and_parts}
use Rattle.std.proofs.lemmas.List.Quantifiers.{position-Some}
use Rattle.bs_board.specs.declared.commands.command.Command.{Command}
use Rattle.bs_board.specs.plans.Plan.{GameRow}
use Rattle.bs_board.specs.Texts.{is_same_text}
use Rattle.bs_board.specs.declared.plans.version.Version.{Version}
use Rattle.bs_board.specs.declared.commands.command.Command.TheVariants as command
use Rattle.bs_json.specs.declared.line.Line.{Line}
use Rattle.bs_json.specs.declared.line.Stray.{Stray}
use Rattle.bs_json.specs.Line.{line_of}
use Rattle.bs_json.specs.declared.line.Line.TheVariants as line
use Rattle.bs_registry.specs.Stays.{Capacity, Stay, has_name, no_stay, stay_at}
use Rattle.bs_workers.specs.Acts.{opened, stay_named}
use Rattle.bs_host.specs.Cut.{is_own_line, own_lines_in}
use Rattle.bs_host.specs.Routing.{admit_refusal, admit_route, registry_behind, registry_then, command_to, commands_to, hand_route, leave_route, next_registry, route_at, route_of, routes_from, stray_kind, strays_in}
use Rattle.bs_host.proofs.StayRows.{row_behind}

-- a command of a stay names it, and the stay is open
pub record IsHanded (registry : List Stay) (stay : ℕ) (name : List ℕ) (command : Command) (found : Option ℕ) : Type 0 where
  pub found_it : found ≡ Some stay
  pub within : stay < length registry
  pub is_open : (stay_at registry stay).is_open ≡ true
  pub same : is_same_text name (stay_at registry stay).row.game ≡ true
  pub asked : command_to stay (hand_route found command) ≡ Some command

pub handed : (registry : List Stay) (stay : ℕ) (name : List ℕ) (command : Command) (found : Option ℕ) → stay_named registry name ≡ found
    → is_some (command_to stay (hand_route found command)) ≡ true → IsHanded registry stay name command found
handed registry stay name command None is own = absurd cc
handed registry stay name command (Some at) is own = elim (cases_Bool (nat_eq at stay)) [
  | inl same ↦
      let here : at ≡ stay = eqb-true at stay same in
      let (within, hit, before) = position-Some (has_name name) registry at no_stay is in
      let both = and_parts (stay_at registry at).is_open (is_same_text name (stay_at registry at).row.game) hit in
      record {
        found_it = ap (λ n. Some n) here;
        within = omega (arith, within, here);
        is_open = rw (← here) both.0;
        same = rw (← here) both.1;
        asked = rw same refl;
      }
  | inr other ↦ let wrong : false ≡ true = rw other at own in absurd cc
]

-- the registry of a stay alone
abbrev pub lone_registry : GameRow → List Stay
lone_registry row = opened (row ∷ [])

pub record GoesAlone (capacity : Capacity) (registry : List Stay) (stay : ℕ) (row : GameRow) (l : Line) : Type 0 where
  pub command : command_to 0 (route_of capacity (lone_registry row) l) ≡ command_to stay (route_of capacity registry l)
  pub stray : stray_kind (route_of capacity (lone_registry row) l) ≡ None
  pub lone : registry_then (lone_registry row) (route_of capacity (lone_registry row) l) ≡ lone_registry row

named_alone : (row : GameRow) (name : List ℕ) → is_same_text name row.game ≡ true → stay_named (lone_registry row) name ≡ Some 0
named_alone row name same = rw same refl

goes_by_name : (registry : List Stay) (stay : ℕ) (row : GameRow) (name : List ℕ) (command : Command) → IsHanded registry stay name command (stay_named registry name)
    → (stay_at registry stay).row ≡ row
    → (command_to 0 (hand_route (stay_named (lone_registry row) name) command) ≡ command_to stay (hand_route (stay_named registry name) command))
    × (stray_kind (hand_route (stay_named (lone_registry row) name) command) ≡ None)
    × (registry_then (lone_registry row) (hand_route (stay_named (lone_registry row) name) command) ≡ lone_registry row)
goes_by_name registry stay row name command is its_row =
    let named : is_same_text name row.game ≡ true = ap (λ (r : GameRow). is_same_text name r.game) (sym its_row) ∙ is.same in
    let alone = named_alone row name named in (
      ap (λ o. command_to 0 (hand_route o command)) alone ∙ sym is.asked,
      ap (λ o. stray_kind (hand_route o command)) alone,
      ap (λ o. registry_then (lone_registry row) (hand_route o command)) alone,
    )

not_by_admit : (stay : ℕ) (refused : Option Stray) (row : GameRow) → command_to stay (admit_route refused row) ≡ None
not_by_admit stay None row = refl
not_by_admit stay (Some kind) row = refl

not_by_leave : (stay : ℕ) (found : Option ℕ) → command_to stay (leave_route found) ≡ None
not_by_leave stay None = refl
not_by_leave stay (Some to) = refl

no_command : (o : Option Command) → o ≡ None → is_some o ≡ true → ⊥
no_command o none some = let wrong : false ≡ true = rw none at some in absurd cc

pub goes_alone : (capacity : Capacity) (registry : List Stay) (stay : ℕ) (row : GameRow) (l : Line) → (stay < length registry → (stay_at registry stay).row ≡ row)
    → is_some (command_to stay (route_of capacity registry l)) ≡ true → GoesAlone capacity registry stay row l
goes_alone capacity registry stay row line.Blank is own = absurd cc
goes_alone capacity registry stay row (line.Command name command) is own =
    let on = handed registry stay name command (stay_named registry name) refl own in
    let all = goes_by_name registry stay row name command on (is on.within) in
    record { command = all.0; stray = all.1; lone = all.2 }
goes_alone capacity registry stay row (line.Bad name) is own =
    let on = handed registry stay name command.Bad (stay_named registry name) refl own in
    let all = goes_by_name registry stay row name command.Bad on (is on.within) in
    record { command = all.0; stray = all.1; lone = all.2 }
goes_alone capacity registry stay row (line.Stray kind) is own = absurd cc
goes_alone capacity registry stay row (line.Admit new) is own = absurd (no_command _ (not_by_admit stay (admit_refusal capacity registry new) new) own)
goes_alone capacity registry stay row line.BadAdmit is own = absurd cc
goes_alone capacity registry stay row (line.Leave None) is own = absurd cc
goes_alone capacity registry stay row (line.Leave (Some name)) is own = absurd (no_command _ (not_by_leave stay (stay_named registry name)) own)

not_asked : (o : Option Command) → is_some o ≡ false → o ≡ None
not_asked None none = refl
not_asked (Some command) none = absurd cc

module _ (capacity : Capacity) (version : Version) (stay : ℕ) (row : GameRow) where
  -- the row of the stay, if it exists at the end
  abbrev IsItsRow : List Stay → List (List ℕ) → Type 0
  IsItsRow registry lines = (stay_at (registry_behind capacity version registry lines) stay).row ≡ row

  its_row : (registry : List Stay) (lines : List (List ℕ)) → IsItsRow registry lines → stay < length registry → (stay_at registry stay).row ≡ row
  its_row registry lines is within = sym (row_behind capacity version registry lines stay within) ∙ is

  goes : (registry : List Stay) (text : List ℕ) (lines : List (List ℕ)) → IsItsRow registry (text ∷ lines) → is_own_line capacity version registry stay text ≡ true
      → GoesAlone capacity registry stay row (line_of version text)
  goes registry text lines is own = goes_alone capacity registry stay row (line_of version text) (its_row registry (text ∷ lines) is) own

  -- its own lines have the same commands for it where it is alone
  pub own_commands : (registry : List Stay) (number first : ℕ) (lines : List (List ℕ)) → IsItsRow registry lines
      → commands_to 0 (routes_from capacity version (lone_registry row) number (own_lines_in capacity version registry stay lines))
      ≡ commands_to stay (routes_from capacity version registry first lines)
  own_commands registry number first [] is = refl
  own_commands registry number first (text ∷ lines) is = elim (cases_Bool (is_own_line capacity version registry stay text)) [
    | inl own ↦
        let on = goes registry text lines is own in
        let rest = own_lines_in capacity version (next_registry capacity version registry text) stay lines in
        let asked = command_to stay (route_at capacity version registry text) in
        rw own (
        ap (λ o. cons_option o (commands_to 0 (routes_from capacity version (next_registry capacity version (lone_registry row) text) (number + 1) rest))) on.command
        ∙ ap (λ (b : List Stay). cons_option asked (commands_to 0 (routes_from capacity version b (number + 1) rest))) on.lone
        ∙ ap (λ cs. cons_option asked cs) (own_commands (next_registry capacity version registry text) (number + 1) (first + 1) lines is))
    | inr other ↦
        let none = not_asked (command_to stay (route_at capacity version registry text)) other in
        rw (other, none) (own_commands (next_registry capacity version registry text) number (first + 1) lines is)
  ]

  -- and none of them is a stray
  pub own_strays : (registry : List Stay) (number : ℕ) (lines : List (List ℕ)) → IsItsRow registry lines
      → strays_in (routes_from capacity version (lone_registry row) number (own_lines_in capacity version registry stay lines)) ≡ []
  own_strays registry number [] is = refl
  own_strays registry number (text ∷ lines) is = elim (cases_Bool (is_own_line capacity version registry stay text)) [
    | inl own ↦
        let on = goes registry text lines is own in
        let rest = own_lines_in capacity version (next_registry capacity version registry text) stay lines in
        rw (own, on.stray) (
        ap (λ (b : List Stay). strays_in (routes_from capacity version b (number + 1) rest)) on.lone
        ∙ own_strays (next_registry capacity version registry text) (number + 1) lines is)
    | inr other ↦ rw other (own_strays (next_registry capacity version registry text) number lines is)
  ]

  -- no stay is admitted and none leaves there
  pub own_registry : (registry : List Stay) (lines : List (List ℕ)) → IsItsRow registry lines
      → registry_behind capacity version (lone_registry row) (own_lines_in capacity version registry stay lines) ≡ lone_registry row
  own_registry registry [] is = refl
  own_registry registry (text ∷ lines) is = elim (cases_Bool (is_own_line capacity version registry stay text)) [
    | inl own ↦
        let on = goes registry text lines is own in
        let rest = own_lines_in capacity version (next_registry capacity version registry text) stay lines in
        rw own (ap (λ (b : List Stay). registry_behind capacity version b rest) on.lone ∙ own_registry (next_registry capacity version registry text) lines is)
    | inr other ↦ rw other (own_registry (next_registry capacity version registry text) lines is)
  ]
