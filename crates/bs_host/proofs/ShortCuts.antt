-- The file of one stay alone is no longer than its file.
use Rattle.std.proofs.Common.{◌≡◌, ℕ, suc, ◌+◌, ◌<◌, ◌≤◌, Bool, false, List, [], ◌∷◌, ◌++◌, length, Option, Some, None, Result, Ok, Err, inl, inr, refl, sym, ap, ◌∙◌, arith, length-append}
use Rattle.std.proofs.lemmas.Bool.{cases_Bool, cases_lt}
use Rattle.std.proofs.lemmas.List.{get_or_push, length-map, length-set}
use Rattle.std.proofs.lemmas.List.Sums.{sum_by-cons}
use Rattle.std.proofs.lemmas.List.Splits.{join_with_byte-slice_split}
use Rattle.std.specs.List.{join_with_byte}
use Rattle.std.specs.Prelude.{is_some}
use Rattle.bs_board.specs.declared.commands.command.Command.{Command}
use Rattle.bs_board.specs.declared.commands.command.Command.TheVariants as command
use Rattle.bs_board.specs.declared.plans.plan.Plan.{Plan}
use Rattle.bs_board.specs.declared.plans.version.Version.{Version}
use Rattle.bs_board.specs.plans.Plan.{GameRow, row_of}
use Rattle.bs_board.specs.plans.Version.{has_stays}
use Rattle.bs_json.specs.declared.line.Line.{Line}
use Rattle.bs_json.specs.declared.line.Line.TheVariants as line
use Rattle.bs_json.specs.declared.line.Stray.{Stray}
use Rattle.bs_json.specs.declared.plan.PlanFault.{PlanFault}
use Rattle.bs_json.specs.Line.{line_of}
use Rattle.bs_registry.specs.Stays.{Capacity, Stay, closed_stay, no_stay, open_stay, stay_at}
use Rattle.bs_workers.specs.Acts.{opened, stay_named}
use Rattle.bs_host.specs.declared.lines.TheConstants.{LINE_FEED}
use Rattle.bs_host.specs.Cut.{is_own_line, lone_plan_of, own_lines_in, row_at}
use Rattle.bs_host.specs.File.{first_piece, later_pieces, pieces_of, plan_of, rows_in, rows_of, version_in, version_of}
use Rattle.bs_host.specs.Routing.{admit_refusal, admit_route, capacity_of, command_to, hand_route, leave_route, next_registry, registry_behind, registry_then, route_of, stays_of}
use Rattle.bs_host.proofs.CutLines.{bytes_of, length_of_joined, own_are_fewer}
use Rattle.bs_host.proofs.PlainLines.{rows_opened, stays_early}
use Rattle.bs_host.proofs.ShortPlans.{CostsLine, IsCheapPlan, line_costs, lone_plan_cheap, plan_cost, plan_line_cheap, row_cost}
use Rattle.bs_host.proofs.StayRows.{row_behind, row_in_registry}

-- The line that admits a stay costs as much as its row, and is not one of its own lines.

record Makes (n : ℕ) (registry : List Stay) (stay : ℕ) (r : Bool) (new : List Stay) : Type 0 where
  costs : row_cost (stay_at new stay).row ≤ n
  others : r ≡ false

abbrev GoesOn : ℕ → List Stay → ℕ → Line → Capacity → Type 0
GoesOn n registry stay l capacity =
    length registry ≤ stay → stay < length (registry_then registry (route_of capacity registry l))
    → Makes n registry stay (is_some (command_to stay (route_of capacity registry l))) (registry_then registry (route_of capacity registry l))

makes_hand : (n : ℕ) (registry : List Stay) (stay : ℕ) (command : Command) (o : Option ℕ) → length registry ≤ stay → stay < length (registry_then registry (hand_route o command))
    → Makes n registry stay (is_some (command_to stay (hand_route o command))) (registry_then registry (hand_route o command))
makes_hand n registry stay command None later within = absurd (omega (arith, later, within))
makes_hand n registry stay command (Some to) later within = absurd (omega (arith, later, within))

makes_leave : (n : ℕ) (registry : List Stay) (stay : ℕ) (o : Option ℕ) → length registry ≤ stay → stay < length (registry_then registry (leave_route o))
    → Makes n registry stay (is_some (command_to stay (leave_route o))) (registry_then registry (leave_route o))
makes_leave n registry stay None later within = absurd (omega (arith, later, within))
makes_leave n registry stay (Some to) later within =
    let same = length-set registry to (closed_stay (stay_at registry to)) in
    absurd (omega (arith, later, within, same))

makes_admit : (n : ℕ) (registry : List Stay) (stay : ℕ) (row : GameRow) (o : Option Stray) → row_cost row ≤ n → length registry ≤ stay
    → stay < length (registry_then registry (admit_route o row)) → Makes n registry stay (is_some (command_to stay (admit_route o row))) (registry_then registry (admit_route o row))
makes_admit n registry stay row (Some kind) few later within = absurd (omega (arith, later, within))
makes_admit n registry stay row None few later within =
    let more = length-append registry (open_stay row ∷ []) in
    let last : stay ≡ length registry = omega (arith, later, within, more) in
    let is : (stay_at (registry ++ open_stay row ∷ []) stay).row ≡ row = ap (λ (e : Stay). e.row) (get_or_push registry (open_stay row) no_stay stay (sym last)) in
    let same = ap row_cost is in
    record { costs = omega (arith, few, same); others = refl }

makes_by : (n : ℕ) (capacity : Capacity) (registry : List Stay) (stay : ℕ) (l : Line) → CostsLine n l → GoesOn n registry stay l capacity
makes_by n capacity registry stay line.Blank costs later within = absurd (omega (arith, later, within))
makes_by n capacity registry stay (line.Command name asked) costs later within = makes_hand n registry stay asked (stay_named registry name) later within
makes_by n capacity registry stay (line.Bad name) costs later within = makes_hand n registry stay command.Bad (stay_named registry name) later within
makes_by n capacity registry stay (line.Stray kind) costs later within = absurd (omega (arith, later, within))
makes_by n capacity registry stay (line.Admit row) costs later within = makes_admit n registry stay row (admit_refusal capacity registry row) costs later within
makes_by n capacity registry stay line.BadAdmit costs later within = absurd (omega (arith, later, within))
makes_by n capacity registry stay (line.Leave None) costs later within = absurd (omega (arith, later, within))
makes_by n capacity registry stay (line.Leave (Some name)) costs later within = makes_leave n registry stay (stay_named registry name) later within

-- So that line makes up for the row, and the stay's own lines are among the others.

module _ (capacity : Capacity) (version : Version) (stay : ℕ) where
  abbrev own_bytes : List Stay → List (List ℕ) → ℕ
  own_bytes registry lines = bytes_of (own_lines_in capacity version registry stay lines)

  own_or_not : (registry : List Stay) (text : List ℕ) (lines : List (List ℕ))
      → own_bytes registry (text ∷ lines) ≤ suc (length text) + own_bytes (next_registry capacity version registry text) lines
  own_or_not registry text lines =
      let next = next_registry capacity version registry text in
      elim (cases_Bool (is_own_line capacity version registry stay text)) [
        | inl own ↦
            let some = sum_by-cons (λ (line : List ℕ). suc (length line)) text (own_lines_in capacity version next stay lines) in
            rw own (omega (arith, some))
        | inr other ↦ rw other (omega arith)
      ]

  not_own : (registry : List Stay) (text : List ℕ) (lines : List (List ℕ)) → is_own_line capacity version registry stay text ≡ false
      → own_bytes registry (text ∷ lines) ≡ own_bytes (next_registry capacity version registry text) lines
  not_own registry text lines other = rw other refl

  admission_fits : (registry : List Stay) (lines : List (List ℕ)) → length registry ≤ stay → stay < length (registry_behind capacity version registry lines)
      → 1 + row_cost (stay_at (registry_behind capacity version registry lines) stay).row + own_bytes registry lines ≤ bytes_of lines
  admission_fits registry [] later within = absurd (omega (arith, later, within))
  admission_fits registry (text ∷ lines) later within =
      let next = next_registry capacity version registry text in
      let all = sum_by-cons (λ (line : List ℕ). suc (length line)) text lines in
      elim (cases_lt stay (length next)) [
        | inl made ↦
            let makes = makes_by (length text) capacity registry stay (line_of version text) (line_costs version text) later made in
            let few = makes.costs in
            let kept = ap row_cost (row_behind capacity version next lines stay made) in
            let rest = own_are_fewer capacity version stay next lines in
            let own = not_own registry text lines makes.others in
            omega (arith, few, kept, rest, own, all)
        | inr still ↦
            let rest = admission_fits next lines still within in
            let own = own_or_not registry text lines in
            omega (arith, rest, own, all)
      ]

-- A whole file.

whole_file : (lines : List (List ℕ)) → length (first_piece lines) + bytes_of (later_pieces lines) ≤ length (join_with_byte LINE_FEED lines)
whole_file [] = omega arith
whole_file (first ∷ lines) = let all = length_of_joined first lines in omega (arith, all)

-- of a stay of the plan, or of one that is admitted
fits_by : (blocks : ℕ) (file : List ℕ) (stay : ℕ) (plan : Result Plan PlanFault) → plan_of file ≡ plan → IsCheapPlan (length (first_piece (pieces_of file))) plan
    → stay < length (stays_of blocks file)
    → length (lone_plan_of (version_of file) (row_at (stays_of blocks file) stay))
    + bytes_of (own_lines_in (capacity_of blocks) (version_of file) (opened (rows_of file)) stay (later_pieces (pieces_of file))) ≤ length file
fits_by blocks file stay (Err fault) is cheap within =
    let early = stays_early blocks file (ap (λ p. has_stays (version_in p)) is) in
    let none : length (stays_of blocks file) ≡ 0 = ap length early ∙ ap (λ p. length (rows_in p)) is in
    absurd (omega (arith, within, none))
fits_by blocks file stay (Ok plan) is cheap within =
    let capacity = capacity_of blocks in
    let version = version_of file in
    let first = opened (rows_of file) in
    let lines = later_pieces (pieces_of file) in
    let last = registry_behind capacity version first lines in
    let row = row_at (stays_of blocks file) stay in
    let same_version : version ≡ plan.version = ap version_in is in
    let same_rows : rows_of file ≡ plan.rows = ap rows_in is in
    let base = ap plan_cost same_version in
    let there : stay < length last = omega (arith, within, length-map last (λ (e : Stay). e.row)) in
    let is_row : row ≡ (stay_at last stay).row = row_in_registry last stay in
    let cost = ap row_cost is_row in
    let whole = ap length (join_with_byte-slice_split LINE_FEED file) in
    let all = whole_file (pieces_of file) in
    let line = length (first_piece (pieces_of file)) in
    elim (cases_lt stay (length first)) [
      | inl planned ↦
          let kept : row ≡ (stay_at first stay).row = is_row ∙ row_behind capacity version first lines stay planned in
          let in_plan : row ≡ row_at plan.rows stay
          = kept ∙ sym (row_in_registry first stay) ∙ ap (λ rows. row_at rows stay) (rows_opened (rows_of file) ∙ same_rows) in
          let many = sym (length-map first (λ (e : Stay). e.row)) ∙ ap length (rows_opened (rows_of file) ∙ same_rows) in
          let few = cheap.1 stay (row_of [] 0) (omega (arith, planned, many)) in
          let costs = ap row_cost in_plan in
          let short = lone_plan_cheap line version row (omega (arith, few, costs, base)) in
          let own = own_are_fewer capacity version stay first lines in
          omega (arith, short, own, all, whole)
      | inr admitted ↦
          let few = cheap.0 in
          let short = lone_plan_cheap (line + 1 + row_cost row) version row (omega (arith, few, base)) in
          let fits = admission_fits capacity version stay first lines admitted there in
          omega (arith, short, fits, cost, all, whole)
    ]

pub cut_fits : (blocks : ℕ) (file : List ℕ) (stay : ℕ) → stay < length (stays_of blocks file)
    → length (join_with_byte LINE_FEED (lone_plan_of (version_of file) (row_at (stays_of blocks file) stay)
    ∷ own_lines_in (capacity_of blocks) (version_of file) (opened (rows_of file)) stay (later_pieces (pieces_of file)))) ≤ length file
cut_fits blocks file stay within =
    let plan = lone_plan_of (version_of file) (row_at (stays_of blocks file) stay) in
    let own = own_lines_in (capacity_of blocks) (version_of file) (opened (rows_of file)) stay (later_pieces (pieces_of file)) in
    let all = length_of_joined plan own in
    let few = fits_by blocks file stay (plan_of file) refl (plan_line_cheap (first_piece (pieces_of file))) within in
    omega (arith, all, few)
