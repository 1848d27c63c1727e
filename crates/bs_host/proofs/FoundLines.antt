-- The search for a stay, among the rows of the plan and then among those that lines admit.
use Rattle.std.proofs.Common.{◌≡◌, ℕ, ◌+◌, ◌-◌, ◌<◌, true, false, ◌&&◌, if◌then◌else◌, List, [], ◌∷◌, ◌++◌, Option, Some, None, drop, length, refl, sym, ap, ◌∙◌, append-nil, arith}
use Rattle.std.specs.Prelude.{Result, Ok, Err, IfOk, nat_eq}
use Rattle.std.proofs.lemmas.List.{drop_all, drop_more}
use Rattle.bs_board.specs.declared.plans.version.Version.{Version}
use Rattle.bs_board.specs.plans.Plan.{GameRow, row_of}
use Rattle.bs_board.specs.plans.Version.{has_stays}
use Rattle.bs_board.specs.Texts.{is_same_text}
use Rattle.bs_json.specs.Line.{line_of}
use Rattle.bs_registry.specs.Stays.{Capacity}
use Rattle.bs_workers.specs.Acts.{opened}
use Rattle.bs_workers.specs.declared.act.Act.TheVariants as act
use Rattle.bs_host.specs.declared.route.Route.{Route}
use Rattle.bs_host.specs.declared.route.Route.TheVariants as route
use Rattle.bs_host.specs.Cut.{nth_from, row_at}
use Rattle.bs_registry.specs.OpenStays.{OpenStayList, open_stays_of}
use Rattle.bs_host.specs.inner.OpenStays.{open_stays_then, route_by, rows_by_open_stays, rows_in_route}
use Rattle.bs_host.specs.Routing.{stays_behind}
use Rattle.bs_host.proofs.ActsLaw.{stays_walked}
use Rattle.bs_host.proofs.FoundStays.{found_first, passed_by}
use Rattle.bs_host.proofs.PlainLines.{stays_plain}

-- among the rows of the plan, whatever rows follow them

next_row : (rows more : List GameRow) (stay : ℕ) (row : GameRow) → stay < length rows → row ≡ row_at rows stay
    → drop stay rows ++ more ≡ row ∷ (drop (stay + 1) rows ++ more)
next_row rows more stay row within is =
    ap (λ left. left ++ more) (drop_more rows stay (row_of [] 0) within ∙ ap (λ first. first ∷ drop (stay + 1) rows) (sym is))

pub passed_planned : (rows more : List GameRow) (stay : ℕ) (row : GameRow) (name : List ℕ) (n left : ℕ) (total : Option (ℕ × GameRow)) → stay < length rows
    → row ≡ row_at rows stay → (is_same_text name row.game && nat_eq n 1) ≡ false → left ≡ (if is_same_text name row.game then n - 1 else n)
    → nth_from stay (drop stay rows ++ more) name n ≡ total → nth_from (stay + 1) (drop (stay + 1) rows ++ more) name left ≡ total
passed_planned rows more stay row name n left total within is other few before =
    sym (passed_by stay row (drop (stay + 1) rows ++ more) name n left other few)
    ∙ sym (ap (λ all. nth_from stay all name n) (next_row rows more stay row within is)) ∙ before

-- the result of a search in the remaining rows and any after them is the stay that is looked for
abbrev IsSought : ℕ → List GameRow → List ℕ → ℕ → List ℕ → ℕ → Type 0
IsSought stay rows sought n name nth = (more : List GameRow) → nth_from stay (drop stay rows ++ more) sought n ≡ nth_from 0 (rows ++ more) name nth

module _ (capacity : Capacity) (version : Version) (rows all : List GameRow) (lines : List (List ℕ)) (name : List ℕ) (nth : ℕ) (same : all ≡ rows) where
  abbrev later : List GameRow
  later = rows_by_open_stays capacity version (open_stays_of (opened rows)) lines

  among_stays : nth_from 0 (all ++ later) name nth ≡ nth_from 0 (stays_behind capacity version rows lines) name nth
  among_stays =
      ap (λ (first : List GameRow). nth_from 0 (first ++ later) name nth) same
      ∙ ap (λ (list : List GameRow). nth_from 0 list name nth) (sym (stays_walked capacity version rows lines))

  pub found_planned : (stay : ℕ) (row : GameRow) (sought : List ℕ) (n : ℕ) → stay < length all → row ≡ row_at all stay
      → (is_same_text sought row.game && nat_eq n 1) ≡ true → IsSought stay all sought n name nth
      → Some (stay, row) ≡ nth_from 0 (stays_behind capacity version rows lines) name nth
  found_planned stay row sought n within is both told =
      sym (found_first stay row (drop (stay + 1) all ++ later) sought n both)
      ∙ sym (ap (λ list. nth_from stay list sought n) (next_row all later stay row within is)) ∙ told later ∙ among_stays

  pub found_behind : (at : ℕ) (sought : List ℕ) (n : ℕ) (found : Option (ℕ × GameRow)) → at ≡ length all → found ≡ nth_from (length rows) later sought n
      → IsSought at all sought n name nth → found ≡ nth_from 0 (stays_behind capacity version rows lines) name nth
  found_behind at sought n found end is told =
      let none : [] ≡ drop at all = sym (drop_all at all (omega (arith, end))) in
      is ∙ ap (λ first. nth_from first later sought n) (sym (end ∙ ap length same))
      ∙ ap (λ (front : List GameRow). nth_from at (front ++ later) sought n) none ∙ told later ∙ among_stays

  pub found_if_ok : {E : Type 0} (at : ℕ) (sought : List ℕ) (n : ℕ) (result : Result (Option (ℕ × GameRow)) E) → at ≡ length all
      → IfOk result (λ found. found ≡ nth_from (length rows) later sought n) → IsSought at all sought n name nth
      → IfOk result (λ found. found ≡ nth_from 0 (stays_behind capacity version rows lines) name nth)
  found_if_ok at sought n (Ok found) end is told = found_behind at sought n found end is told
  found_if_ok at sought n (Err error) end is told = tt

  pub found_early : (at : ℕ) (sought : List ℕ) (n : ℕ) → at ≡ length all → has_stays version ≡ false → IsSought at all sought n name nth
      → None ≡ nth_from 0 (stays_behind capacity version rows lines) name nth
  found_early at sought n end early told =
      let none : [] ≡ drop at all ++ [] = sym (append-nil (drop at all) ∙ drop_all at all (omega (arith, end))) in
      ap (λ (left : List GameRow). nth_from at left sought n) none ∙ told []
      ∙ ap (λ (list : List GameRow). nth_from 0 list name nth) (append-nil all ∙ same ∙ sym (stays_plain capacity version rows lines early))

-- among the rows that lines admit

one_more_made : (open_stays : OpenStayList) (r : Route) (row : GameRow) → rows_in_route r ≡ row ∷ [] → (open_stays_then open_stays r).made ≡ open_stays.made + 1
one_more_made open_stays (route.Act (act.Hand stay command)) row is = absurd cc
one_more_made open_stays (route.Act (act.Admit new)) row is = refl
one_more_made open_stays (route.Act (act.Leave stay)) row is = absurd cc
one_more_made open_stays (route.Stray kind) row is = absurd cc
one_more_made open_stays route.Nowhere row is = absurd cc

none_more_made : (open_stays : OpenStayList) (r : Route) → rows_in_route r ≡ [] → (open_stays_then open_stays r).made ≡ open_stays.made
none_more_made open_stays (route.Act (act.Hand stay command)) is = refl
none_more_made open_stays (route.Act (act.Admit new)) is = absurd cc
none_more_made open_stays (route.Act (act.Leave stay)) is = refl
none_more_made open_stays (route.Stray kind) is = refl
none_more_made open_stays route.Nowhere is = refl

module _ (capacity : Capacity) (version : Version) (open_stays after : OpenStayList) (line : List ℕ) (lines : List (List ℕ)) (r : Route) (name : List ℕ) (n : ℕ) (total : Option (ℕ × GameRow)) (is : r ≡ route_by capacity open_stays (line_of version line)) (moved : after ≡ open_stays_then open_stays r) (before : nth_from open_stays.made (rows_by_open_stays capacity version open_stays (line ∷ lines)) name n ≡ total) where
  abbrev rest : List GameRow
  rest = rows_by_open_stays capacity version after lines

  looked_at : nth_from open_stays.made (rows_in_route r ++ rest) name n ≡ total
  looked_at =
      ap (λ (g : OpenStayList). nth_from open_stays.made (rows_in_route r ++ rows_by_open_stays capacity version g lines) name n) moved
      ∙ ap (λ (q : Route). nth_from open_stays.made (rows_in_route q ++ rows_by_open_stays capacity version (open_stays_then open_stays q) lines) name n) is ∙ before

  pub found_admitted : (row : GameRow) → rows_in_route r ≡ row ∷ [] → (is_same_text name row.game && nat_eq n 1) ≡ true → Some (open_stays.made, row) ≡ total
  found_admitted row rows both =
      sym (found_first open_stays.made row rest name n both) ∙ ap (λ front. nth_from open_stays.made (front ++ rest) name n) (sym rows) ∙ looked_at

  pub passed_admitted : (row : GameRow) (left : ℕ) → rows_in_route r ≡ row ∷ [] → (is_same_text name row.game && nat_eq n 1) ≡ false
      → left ≡ (if is_same_text name row.game then n - 1 else n) → nth_from after.made rest name left ≡ total
  passed_admitted row left rows other few =
      let made : after.made ≡ open_stays.made + 1 = ap (λ (g : OpenStayList). g.made) moved ∙ one_more_made open_stays r row rows in
      ap (λ first. nth_from first rest name left) made ∙ sym (passed_by open_stays.made row rest name n left other few)
      ∙ ap (λ front. nth_from open_stays.made (front ++ rest) name n) (sym rows) ∙ looked_at

  pub passed_others : rows_in_route r ≡ [] → nth_from after.made rest name n ≡ total
  passed_others rows =
      let made : after.made ≡ open_stays.made = ap (λ (g : OpenStayList). g.made) moved ∙ none_more_made open_stays r rows in
      ap (λ first. nth_from first rest name n) made ∙ ap (λ front. nth_from open_stays.made (front ++ rest) name n) (sym rows) ∙ looked_at
