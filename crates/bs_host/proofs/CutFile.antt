-- The cut of a file, from its first line and the other lines, one after the other.
use Rattle.std.proofs.Common.{◌≡◌, ℕ, suc, ◌<◌, ◌≤◌, true, false, List, ◌∷◌, ◌++◌, Option, Some, None, Ok, is_some, length, if◌then◌else◌, refl, sym, ap, ◌∙◌, arith, append-nil, append_assoc}
use Rattle.std.proofs.lemmas.Bool.{lt-ltb, le-ltb, cond-true, cond-false}
use Rattle.std.proofs.lemmas.List.Concat.{flat_map-cons}
use Rattle.std.specs.Borrow.{Bor}
use Rattle.std.specs.Prelude.{IfSome, option_copied, option_map, unwrap_or}
use Rattle.bs_board.specs.declared.plans.plan.Plan.{Plan}
use Rattle.bs_board.specs.declared.plans.version.Version.{Version}
use Rattle.bs_board.specs.plans.Plan.{GameRow}
use Rattle.bs_json.specs.Line.{line_of}
use Rattle.bs_json.specs.PlanLine.{plan_line_of}
use Rattle.bs_registry.specs.Stays.{Capacity}
use Rattle.bs_workers.specs.Acts.{opened}
use Rattle.bs_host.specs.declared.cut_fault.Cut.TheVariants.{TooLong, Plan as OfPlan}
use Rattle.bs_host.specs.declared.fault.PlanRefusal.TheVariants as refusal
use Rattle.bs_host.specs.declared.limits.TheConstants.{MOST_FILE_BYTES}
use Rattle.bs_host.specs.declared.lines.TheConstants.{LINE_FEED}
use Rattle.bs_host.specs.declared.route.Route.{Route}
use Rattle.bs_host.specs.Cut.{cut_of, cut_refusal_of, cut_refusal_of_plan, is_too_small, lone_plan_of, nth_from, nth_stay, own_lines_in, own_lines_of, refusal_of_stay, row_at}
use Rattle.bs_host.specs.inner.Cut.{behind_feeds, planned_cut, planned_refusal, planned_stay}
use Rattle.bs_host.specs.File.{pieces_of, first_piece, later_pieces, plan_of, rows_in, version_in, version_of}
use Rattle.bs_host.specs.inner.File.{pieces_after}
use Rattle.bs_registry.specs.OpenStays.{OpenStayList, open_stays_of}
use Rattle.bs_host.specs.inner.OpenStays.{open_stays_then, own_by_open_stays, route_by}
use Rattle.bs_host.specs.Routing.{command_to, capacity_of, stays_behind, stays_of}
use Rattle.bs_host.proofs.CutLines.{joined_behind}
use Rattle.bs_host.proofs.FoundStays.{found_row}
use Rattle.bs_host.proofs.OpenStayRoutes.{open_stay_lines_law}

pub refusal_of_long : (blocks : ℕ) (file game : List ℕ) (n : ℕ) → MOST_FILE_BYTES < length file → cut_refusal_of blocks file game n ≡ Some TooLong
unfolding cut_refusal_of
refusal_of_long blocks file game n long =
    cond-true _ (Some TooLong) (cut_refusal_of_plan blocks file game n (plan_of file)) (lt-ltb MOST_FILE_BYTES (length file) long)

pub refusal_of_first : (blocks : ℕ) (file game first : List ℕ) (n : ℕ) (rest : List (List ℕ)) → length file ≤ MOST_FILE_BYTES → pieces_of file ≡ first ∷ rest
    → cut_refusal_of blocks file game n ≡ cut_refusal_of_plan blocks file game n (plan_line_of first)
unfolding cut_refusal_of
refusal_of_first blocks file game first n rest short pieces =
    cond-false _ (Some TooLong) (cut_refusal_of_plan blocks file game n (plan_of file)) (le-ltb MOST_FILE_BYTES (length file) short)
    ∙ ap (λ all. cut_refusal_of_plan blocks file game n (plan_line_of (first_piece all))) pieces

-- a file whose first line is that plan
module _ (blocks : ℕ) (file first : List ℕ) (rest : List (List ℕ)) (plan : Plan) (pieces : pieces_of file ≡ first ∷ rest) (read : plan_line_of first ≡ Ok plan) where
  stays_of_first : stays_of blocks file ≡ stays_behind (capacity_of blocks) plan.version plan.rows rest
  stays_of_first =
      ap (λ all. stays_behind (capacity_of blocks) (version_in (plan_line_of (first_piece all))) (rows_in (plan_line_of (first_piece all))) (later_pieces all)) pieces
      ∙ ap (λ found. stays_behind (capacity_of blocks) (version_in found) (rows_in found) rest) read

  abbrev cut_from : ℕ → List ℕ
  cut_from stay = planned_cut blocks plan rest (stay, row_at (stays_behind (capacity_of blocks) plan.version plan.rows rest) stay)

  cut_of_first : (stay : ℕ) → cut_of blocks file stay ≡ cut_from stay
  unfolding cut_of
  cut_of_first stay =
      joined_behind (lone_plan_of (version_of file) (row_at (stays_of blocks file) stay)) (own_lines_of blocks file stay)
      ∙ ap (λ stays. lone_plan_of (version_of file) (row_at stays stay) ++ behind_feeds (own_lines_of blocks file stay)) stays_of_first
      ∙ ap (λ all.
      lone_plan_of (version_in (plan_line_of (first_piece all))) (row_at (stays_behind (capacity_of blocks) plan.version plan.rows rest) stay)
      ++ behind_feeds (own_lines_in (capacity_of blocks) (version_in (plan_line_of (first_piece all))) (opened (rows_in (plan_line_of (first_piece all)))) stay (later_pieces all))) pieces
      ∙ ap (λ found.
      lone_plan_of (version_in found) (row_at (stays_behind (capacity_of blocks) plan.version plan.rows rest) stay)
      ++ behind_feeds (own_lines_in (capacity_of blocks) (version_in found) (opened (rows_in found)) stay rest)) read

  pub refusal_of_planned : (game : List ℕ) (n : ℕ) → length file ≤ MOST_FILE_BYTES → cut_refusal_of blocks file game n ≡ planned_refusal blocks plan rest game n
  refusal_of_planned game n short =
      refusal_of_first blocks file game first n rest short pieces ∙ ap (cut_refusal_of_plan blocks file game n) read
      ∙ ap (λ rows.
      if is_too_small blocks plan then Some (OfPlan refusal.Short) else refusal_of_stay (option_map (λ (f : ℕ × GameRow). f.0) (nth_from 0 rows game n))) stays_of_first

  text_of : (found : Option (ℕ × GameRow)) (game text : List ℕ) (n : ℕ) → planned_stay blocks plan rest game n ≡ found
      → option_map (planned_cut blocks plan rest) found ≡ Some text
      → option_map (cut_of blocks file) (option_map (λ (f : ℕ × GameRow). f.0) found) ≡ Some text
  text_of None game text n looked made = absurd cc
  text_of (Some found) game text n looked made =
      let its_row = found_row (stays_behind (capacity_of blocks) plan.version plan.rows rest) game n found looked in
      ap Some (cut_of_first found.0 ∙ ap (λ row. planned_cut blocks plan rest (found.0, row)) (sym its_row)) ∙ made

  -- the text made for the stay is the file's cut
  pub cut_of_planned : (game text : List ℕ) (n : ℕ) → option_map (planned_cut blocks plan rest) (planned_stay blocks plan rest game n) ≡ Some text
      → option_map (cut_of blocks file) (nth_stay blocks file game n) ≡ Some text
  cut_of_planned game text n made =
      ap (λ rows. option_map (cut_of blocks file) (option_map (λ (f : ℕ × GameRow). f.0) (nth_from 0 rows game n))) stays_of_first
      ∙ text_of (planned_stay blocks plan rest game n) game text n refl made

-- the bytes and line feeds that remain of the file
abbrev pub bytes_left : Option (Bor (List ℕ)) → ℕ
bytes_left left = unwrap_or (option_map (λ text. suc (length text.now)) left) 0

pub fewer_left : (left more : Option (Bor (List ℕ))) (text : Bor (List ℕ)) → left ≡ Some text → IfSome more (λ rest. length rest.now < length text.now) → bytes_left more < bytes_left left
fewer_left left None text is shorter = rw is (omega arith)
fewer_left left (Some rest) text is shorter = rw is (omega (arith, shorter))

-- the line belongs to the stay and is appended; or it does not
module _ (capacity : Capacity) (version : Version) (open_stays : OpenStayList) (stay : ℕ) (line written : List ℕ) (lines : List (List ℕ)) where
  abbrev goes : Route
  goes = route_by capacity open_stays (line_of version line)

  abbrev own_behind : List (List ℕ)
  own_behind = own_by_open_stays capacity version (open_stays_then open_stays goes) stay lines

  pub own_line_goes : is_some (command_to stay goes) ≡ true
      → (written ++ LINE_FEED ∷ line) ++ behind_feeds own_behind ≡ written ++ behind_feeds (own_by_open_stays capacity version open_stays stay (line ∷ lines))
  own_line_goes own =
      rw own (append_assoc written (LINE_FEED ∷ line) (behind_feeds own_behind)
      ∙ ap (λ rest. written ++ rest) (sym (flat_map-cons (λ l. LINE_FEED ∷ l) line own_behind)))

  pub other_line_goes : is_some (command_to stay goes) ≡ false
      → written ++ behind_feeds own_behind ≡ written ++ behind_feeds (own_by_open_stays capacity version open_stays stay (line ∷ lines))
  other_line_goes other = rw other refl

-- when all lines are done
pub none_left : (capacity : Capacity) (version : Version) (open_stays : OpenStayList) (stay : ℕ) (rows : List GameRow) (lines : List (List ℕ)) (written before : List ℕ)
    (left : Option (Bor (List ℕ))) → left ≡ None
    → written ++ behind_feeds (own_by_open_stays capacity version open_stays stay (pieces_after (option_copied left)))
    ≡ before ++ behind_feeds (own_by_open_stays capacity version (open_stays_of (opened rows)) stay lines)
    → written ≡ before ++ behind_feeds (own_lines_in capacity version (opened rows) stay lines)
none_left capacity version open_stays stay rows lines written before left is told =
    sym (append-nil written)
    ∙ ap (λ rest. written ++ behind_feeds (own_by_open_stays capacity version open_stays stay (pieces_after (option_copied rest)))) (sym is) ∙ told
    ∙ ap (λ own. before ++ behind_feeds own) (sym (open_stay_lines_law capacity version stay (opened rows) lines))
