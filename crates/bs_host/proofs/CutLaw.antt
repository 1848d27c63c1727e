-- Each stay of each file is answered by its own lines alone as it is in the file.
use Rattle.std.proofs.Common.{◌≡◌, ℕ, ◌<◌, ◌≤◌, true, List, [], ◌∷◌, ◌++◌, Ok, All, length, sym, ap, ◌∙◌, arith, append-nil}
use Rattle.std.proofs.lemmas.List.{length-map}
use Rattle.std.proofs.lemmas.List.Concat.{flat_map-cons}
use Rattle.std.proofs.lemmas.List.Sums.{sum_by-cons, get_or-le-sum_by}
use Rattle.std.specs.List.{enumerate_from, flat_map}
use Rattle.bs_board.specs.plans.Plan.{GameRow, is_fit_row}
use Rattle.bs_json.specs.PlanLine.{plan_line_of}
use Rattle.bs_registry.specs.Blocks.{blocks_of, blocks_of_all}
use Rattle.bs_transcript.specs.Lines.{stray_lines_of}
use Rattle.bs_registry.specs.Stays.{Stay, no_stay, stay_at}
use Rattle.bs_workers.specs.Acts.{opened, rows_in_registry}
use Rattle.bs_host.specs.declared.limits.TheConstants.{BLOCK_BYTES}
use Rattle.bs_host.specs.File.{pieces_of, first_piece, later_pieces, plan_of, rows_in, rows_of, version_of, version_in}
use Rattle.bs_host.specs.Transcript.{section_of, transcript_of}
use Rattle.bs_host.specs.declared.route.Route.{Route}
use Rattle.bs_host.specs.Cut.{IsWrittenAlone, SectionLaw, cut_of, lone_plan_of, own_lines_of, row_at}
use Rattle.bs_host.specs.Routing.{registry_behind, commands_to, capacity_of, routes_from, routes_of, stays_of, strays_in}
use Rattle.bs_host.proofs.CutLines.{later_are_lines, pieces_are_lines, pieces_of_joined, own_are_lines}
use Rattle.bs_host.proofs.CutPlan.{fit_parts, lone_plan_has_no_feed, lone_plan_is_plan}
use Rattle.bs_host.proofs.CutRows.{file_is_fit}
use Rattle.bs_host.proofs.FitStays.{all_behind, fits_pool, opened_all}
use Rattle.bs_host.proofs.ShortCuts.{cut_fits}
use Rattle.bs_host.proofs.StayLines.{lone_registry, own_registry, own_commands, own_strays}
use Rattle.bs_host.proofs.StayRows.{row_in_registry}

-- a file with one stay

abbrev section_by : List (ℕ × Route) → ℕ × GameRow → List ℕ
section_by routes row = section_of row.1 (commands_to row.0 routes)

text_alone : (blocks : ℕ) (file : List ℕ) (row : GameRow) → stays_of blocks file ≡ row ∷ [] → strays_in (routes_of blocks file) ≡ []
    → transcript_of blocks file ≡ section_of row (commands_to 0 (routes_of blocks file))
unfolding transcript_of
text_alone blocks file row stays none =
    let sections = section_by (routes_of blocks file) in
    ap (λ all. flat_map sections (enumerate_from 0 all) ++ stray_lines_of (strays_in (routes_of blocks file))) stays
    ∙ ap (λ strays. flat_map sections ((0, row) ∷ []) ++ stray_lines_of strays) none
    ∙ append-nil (flat_map sections ((0, row) ∷ []))
    ∙ flat_map-cons sections (0, row) []
    ∙ append-nil (sections (0, row))

module _ (blocks : ℕ) (file : List ℕ) (stay : ℕ) (within : stay < length (stays_of blocks file)) where
  abbrev row : GameRow
  row = row_at (stays_of blocks file) stay

  abbrev lines : List (List ℕ)
  lines = later_pieces (pieces_of file)

  abbrev last : List Stay
  last = registry_behind (capacity_of blocks) (version_of file) (opened (rows_of file)) lines

  there : stay < length last
  there = omega (arith, within, length-map last (λ (e : Stay). e.row))

  is_row : (stay_at last stay).row ≡ row
  is_row = sym (row_in_registry last stay)

  row_is_fit : is_fit_row row ≡ true
  row_is_fit =
      let first = opened_all (λ r. is_fit_row r ≡ true) (rows_of file) (file_is_fit file).rows_fit in
      let all = all_behind (capacity_of blocks) (version_of file) (λ r. is_fit_row r ≡ true) (λ registry r fit none. fit) (opened (rows_of file)) lines first in
      ap is_fit_row (sym is_row) ∙ all stay no_stay there

  row_fits : blocks_of_all BLOCK_BYTES (rows_of file) ≤ blocks → blocks_of BLOCK_BYTES row ≤ blocks
  row_fits plan_fits =
      let few : All (λ r. blocks_of BLOCK_BYTES r ≤ blocks) (rows_of file) = λ k d inside.
      let one = get_or-le-sum_by (blocks_of BLOCK_BYTES) (rows_of file) k d inside in omega (arith, one, plan_fits) in
      let first = opened_all (λ r. blocks_of BLOCK_BYTES r ≤ blocks) (rows_of file) few in
      let all = all_behind (capacity_of blocks) (version_of file) (λ r. blocks_of BLOCK_BYTES r ≤ blocks) (λ registry r fit none. fits_pool (capacity_of blocks) registry r none) (opened (rows_of file)) lines first in
      let same = ap (blocks_of BLOCK_BYTES) is_row in
      let here = all stay no_stay there in
      omega (arith, same, here)

  pub cut_pieces : pieces_of (cut_of blocks file stay) ≡ lone_plan_of (version_of file) row ∷ own_lines_of blocks file stay
  unfolding cut_of
  cut_pieces =
      pieces_of_joined (lone_plan_of (version_of file) row) (own_lines_of blocks file stay)
      (lone_plan_has_no_feed (version_of file) row (fit_parts row row_is_fit))
      (own_are_lines (capacity_of blocks) (version_of file) stay (opened (rows_of file)) lines (later_are_lines (pieces_of file) (pieces_are_lines file)))

  cut_is_short : length (cut_of blocks file stay) ≤ length file
  unfolding cut_of
  cut_is_short = cut_fits blocks file stay within

  pub served_alone : IsWrittenAlone blocks file stay row
  served_alone =
      let capacity = capacity_of blocks in
      let version = version_of file in
      let own = own_lines_of blocks file stay in
      let cut = cut_of blocks file stay in
      let plan : plan_of cut ≡ Ok (record { rows = row ∷ []; version = version }) =
      ap (λ all. plan_line_of (first_piece all)) cut_pieces ∙ lone_plan_is_plan version row row_is_fit in
      let rows : rows_of cut ≡ row ∷ [] = ap rows_in plan in
      let routes : routes_of blocks cut ≡ routes_from capacity version (lone_registry row) 2 own =
      ap (λ p. routes_from capacity (version_in p) (opened (rows_in p)) 2 (later_pieces (pieces_of cut))) plan
      ∙ ap (λ all. routes_from capacity version (lone_registry row) 2 (later_pieces all)) cut_pieces in
      let stays : stays_of blocks cut ≡ row ∷ [] =
      ap (λ p. rows_in_registry (registry_behind capacity (version_in p) (opened (rows_in p)) (later_pieces (pieces_of cut)))) plan
      ∙ ap (λ all. rows_in_registry (registry_behind capacity version (lone_registry row) (later_pieces all))) cut_pieces
      ∙ ap rows_in_registry (own_registry capacity version stay row (opened (rows_of file)) lines is_row) in
      let none = ap strays_in routes ∙ own_strays capacity version stay row (opened (rows_of file)) 2 lines is_row in
      let commands = ap (commands_to 0) routes ∙ own_commands capacity version stay row (opened (rows_of file)) 2 2 lines is_row in
      let one = sum_by-cons (blocks_of BLOCK_BYTES) row [] in
      let all = ap (blocks_of_all BLOCK_BYTES) rows in
      record {
        plan = plan;
        text = text_alone blocks cut row stays none ∙ ap (section_of row) commands;
        size = cut_is_short;
        fits = λ plan_fits. let few = row_fits plan_fits in omega (arith, one, all, few);
      }

pub section_law : SectionLaw
section_law = served_alone
