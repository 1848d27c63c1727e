-- Parsed lines, and their routes.
use Rattle.std.proofs.Common.{◌≡◌, ℕ, ◌+◌, ◌<◌, List, [], ◌∷◌, ◌++◌, Option, Some, None, drop, get_or, length, refl, sym, ap, subst, ◌∙◌, arith, append-nil, append_assoc, inl, inr}
use Rattle.std.specs.Prelude.{All, option_copied, option_map, option_to_list, slice_set, unwrap_or, IfSome}
use Rattle.std.specs.Borrow.{Bor}
use Rattle.std.specs.List.{cons_option}
use Rattle.std.proofs.Math.ListN.{get_or-eq_default}
use Rattle.std.proofs.lemmas.Bool.{cases_lt}
use Rattle.std.proofs.lemmas.Bool.Decides.{eqb_tells}
use Rattle.std.proofs.lemmas.Grind.{get_or-set_at}
use Rattle.std.proofs.lemmas.List.{drop_more, get_or-set_other, length-set, map-append}
use Rattle.bs_board.specs.declared.commands.command.Command.{Command}
use Rattle.bs_board.specs.declared.plans.plan.Plan.{Plan}
use Rattle.bs_board.specs.declared.plans.version.Version.{Version}
use Rattle.bs_board.specs.plans.Plan.{GameRow}
use Rattle.bs_json.specs.declared.line.Line.{Line}
use Rattle.bs_json.specs.declared.line.Line.TheVariants as line
use Rattle.bs_json.specs.Line.{line_of}
use Rattle.bs_registry.specs.Stays.{Capacity}
use Rattle.bs_workers.specs.Acts.{opened}
use Rattle.bs_host.specs.declared.parse.ParsedLine.{ParsedLine}
use Rattle.bs_host.specs.declared.parse.ParsedLine.TheVariants as a_parsed
use Rattle.bs_host.specs.declared.route.Requests.{Requests}
use Rattle.bs_host.specs.declared.route.Route.{Route}
use Rattle.bs_registry.specs.OpenStays.{OpenStayList, open_stays_of}
use Rattle.bs_host.specs.inner.OpenStays.{open_stays_then, route_by, routes_by_open_stays}
use Rattle.bs_host.specs.File.{pieces_of}
use Rattle.bs_host.specs.inner.File.{pieces_after}
use Rattle.bs_host.specs.inner.Parsed.{AreShares, IsShare, all_lines, parsed_line, parsed_lines, pieces_in, route_parsed, routes_parsed}
use Rattle.bs_host.specs.Routing.{act_in, acts_in, numbered_stray, routes_from, strays_in}
use Rattle.bs_host.specs.inner.Routing.{AreLeft, IsRouted}
use Rattle.bs_host.proofs.OpenStayRoutes.{open_stays_law}

-- parsing

pieces_more : (chunks : List (Bor (List ℕ))) (chunk : Bor (List ℕ)) → pieces_in (chunks ++ chunk ∷ []) ≡ pieces_in chunks ++ pieces_of chunk.now
pieces_more [] chunk = append-nil (pieces_of chunk.now)
pieces_more (first ∷ chunks) chunk =
    ap (λ pieces. pieces_of first.now ++ pieces) (pieces_more chunks chunk) ∙ sym (append_assoc (pieces_of first.now) (pieces_in chunks) (pieces_of chunk.now))

-- one more chunk of the text, then the rest of it
pub one_more_chunk : (old new : List (Bor (List ℕ))) (chunk : Bor (List ℕ)) (left rest all : List (List ℕ)) → new ≡ old ++ chunk ∷ []
    → left ≡ pieces_of chunk.now ++ rest → pieces_in old ++ left ≡ all → pieces_in new ++ rest ≡ all
one_more_chunk old new chunk left rest all pushed cut before =
    ap (λ chunks. pieces_in chunks ++ rest) pushed ∙ ap (λ pieces. pieces ++ rest) (pieces_more old chunk)
    ∙ append_assoc (pieces_in old) (pieces_of chunk.now) rest ∙ ap (λ pieces. pieces_in old ++ pieces) (sym cut) ∙ before

-- the rest is the last chunk
pub last_chunk : (old new : List (Bor (List ℕ))) (chunk : Bor (List ℕ)) (all : List (List ℕ)) → new ≡ old ++ chunk ∷ []
    → pieces_in old ++ pieces_of chunk.now ≡ all → pieces_in new ≡ all
last_chunk old new chunk all pushed before = ap pieces_in pushed ∙ pieces_more old chunk ∙ before

some_chunk : (chunks : List (Bor (List ℕ))) (number : ℕ) → number < length chunks → Bor (List ℕ)
some_chunk [] number within = absurd (omega (arith, within))
some_chunk (chunk ∷ chunks) number within = chunk

lines_more : (shares : List (List ParsedLine)) (share : List ParsedLine) → all_lines (shares ++ share ∷ []) ≡ all_lines shares ++ share
lines_more [] share = append-nil share
lines_more (first ∷ shares) share =
    ap (λ lines. first ++ lines) (lines_more shares share) ∙ sym (append_assoc first (all_lines shares) share)

module _ (version : Version) (chunks : List (Bor (List ℕ))) where
  -- one more slot is filled
  pub one_more_share : (old new : List (Option (List ParsedLine))) (number : ℕ) (share : List ParsedLine) → new ≡ slice_set old number (Some share)
      → IsShare version chunks number share → AreShares version chunks old → AreShares version chunks new
  one_more_share old new number share is parsed before =
      λ at found there.
      elim (eqb_tells at number) [
        | inl on ↦
            let same : at ≡ number = on.1 in
            elim (cases_lt number (length old)) [
              | inl inside ↦
                  let gets : Some share ≡ Some found
                  = sym (get_or-set_at old number at (Some share) None same inside) ∙ ap (λ slots. get_or slots at None) (sym is) ∙ there in
                  let share_same : share ≡ found = cc in
                  subst (λ n. IsShare version chunks n found) (sym same) (subst (λ s. IsShare version chunks number s) share_same parsed)
              | inr past ↦
                  let many : length new ≡ length old = ap length is ∙ length-set old number (Some share) in
                  let wrong : None ≡ Some found = sym (get_or-eq_default new None (omega (arith, past, many, same))) ∙ there in
                  absurd cc
            ]
        | inr off ↦ before at found (sym (get_or-set_other old number at (Some share) None off.1) ∙ ap (λ slots. get_or slots at None) (sym is) ∙ there)
      ]

  -- one slot was emptied
  pub one_share_less : (old new : List (Option (List ParsedLine))) (number : ℕ) → new ≡ slice_set old number None
      → AreShares version chunks old → AreShares version chunks new
  one_share_less old new number is before =
      λ at found there.
      elim (eqb_tells at number) [
        | inl on ↦
            let same : at ≡ number = on.1 in
            elim (cases_lt number (length old)) [
              | inl inside ↦
                  let wrong : None ≡ Some found
                  = sym (get_or-set_at old number at None None same inside) ∙ ap (λ slots. get_or slots at None) (sym is) ∙ there in
                  absurd cc
              | inr past ↦
                  let many : length new ≡ length old = ap length is ∙ length-set old number None in
                  let wrong : None ≡ Some found = sym (get_or-eq_default new None (omega (arith, past, many, same))) ∙ there in
                  absurd cc
            ]
        | inr off ↦ before at found (sym (get_or-set_other old number at None None off.1) ∙ ap (λ slots. get_or slots at None) (sym is) ∙ there)
      ]

  -- no slot is filled
  pub no_share : (slots : List (Option (List ParsedLine))) → All (λ slot. slot ≡ None) slots → AreShares version chunks slots
  no_share slots none =
      λ number share there.
      let wrong : None ≡ Some share =
      elim (cases_lt number (length slots)) [
        | inl less ↦ sym (none number None less) ∙ there
        | inr past ↦ sym (get_or-eq_default slots None (omega (arith, past))) ∙ there
      ] in
      absurd cc

  -- one more share, then the remaining chunks
  pub next_share : (number : ℕ) (old new : List (List ParsedLine)) (share : List ParsedLine) → number < length chunks → new ≡ old ++ share ∷ []
      → IsShare version chunks number share → all_lines old ++ parsed_lines version (pieces_in (drop number chunks)) ≡ parsed_lines version (pieces_in chunks)
      → all_lines new ++ parsed_lines version (pieces_in (drop (number + 1) chunks)) ≡ parsed_lines version (pieces_in chunks)
  next_share number old new share within pushed is before =
      let none : Bor (List ℕ) = some_chunk chunks number within in
      let chunk = get_or chunks number none in
      let rest = pieces_in (drop (number + 1) chunks) in
      ap (λ shares. all_lines shares ++ parsed_lines version rest) pushed ∙ ap (λ lines. lines ++ parsed_lines version rest) (lines_more old share)
      ∙ append_assoc (all_lines old) share (parsed_lines version rest)
      ∙ ap (λ lines. all_lines old ++ (lines ++ parsed_lines version rest)) (is none)
      ∙ ap (λ lines. all_lines old ++ lines) (sym (map-append (λ piece. parsed_line (line_of version piece)) (pieces_of chunk.now) rest))
      ∙ ap (λ some. all_lines old ++ parsed_lines version (pieces_in some)) (sym (drop_more chunks number none within)) ∙ before

-- one more line, then the remaining ones
pub one_more_parsed : (version : Version) (left : List (List ℕ)) (piece : List ℕ) (rest : List (List ℕ)) (old new total : List ParsedLine) (parsed : ParsedLine)
    → left ≡ piece ∷ rest → parsed ≡ parsed_line (line_of version piece) → new ≡ old ++ parsed ∷ []
    → old ++ parsed_lines version left ≡ total → new ++ parsed_lines version rest ≡ total
one_more_parsed version left piece rest old new total parsed is read pushed before =
    ap (λ lines. lines ++ parsed_lines version rest) pushed ∙ append_assoc old (parsed ∷ []) (parsed_lines version rest)
    ∙ ap (λ first. old ++ first ∷ parsed_lines version rest) read ∙ ap (λ pieces. old ++ parsed_lines version pieces) (sym is) ∙ before

-- a short command, whose line was read as that command
pub parsed_short : (version : Version) (text game : List ℕ) (c shared : Command) → line_of version text ≡ line.Command game c → shared ≡ c
    → a_parsed.Command game shared ≡ parsed_line (line_of version text)
parsed_short version text game c shared is same = ap (a_parsed.Command game) same ∙ ap parsed_line (sym is)

-- the next line, then the remaining ones
pub next_parsed : (version : Version) (left more : Option (Bor (List ℕ))) (text : Bor (List ℕ)) (piece : List ℕ) (first : ParsedLine)
    → left ≡ Some text → pieces_of text.now ≡ piece ∷ pieces_after (option_copied more) → first ≡ parsed_line (line_of version piece)
    → parsed_lines version (pieces_after (option_copied left)) ≡ first ∷ parsed_lines version (pieces_after (option_copied more))
next_parsed version left more text piece first is cut read =
    ap (λ some. parsed_lines version (pieces_after (option_copied some))) is ∙ ap (parsed_lines version) cut
    ∙ ap (λ l. l ∷ parsed_lines version (pieces_after (option_copied more))) (sym read)

-- routing

pub route_of_parsed : (capacity : Capacity) (open_stays : OpenStayList) (l : Line) → route_parsed capacity open_stays (parsed_line l) ≡ route_by capacity open_stays l
route_of_parsed capacity open_stays line.Blank = refl
route_of_parsed capacity open_stays (line.Command game command) = refl
route_of_parsed capacity open_stays (line.Bad game) = refl
route_of_parsed capacity open_stays (line.Stray kind) = refl
route_of_parsed capacity open_stays (line.Admit row) = refl
route_of_parsed capacity open_stays line.BadAdmit = refl
route_of_parsed capacity open_stays (line.Leave None) = refl
route_of_parsed capacity open_stays (line.Leave (Some game)) = refl

routes_by_parsed : (capacity : Capacity) (version : Version) (open_stays : OpenStayList) (number : ℕ) (pieces : List (List ℕ))
    → routes_parsed capacity open_stays number (parsed_lines version pieces) ≡ routes_by_open_stays capacity version open_stays number pieces
routes_by_parsed capacity version open_stays number [] = refl
routes_by_parsed capacity version open_stays number (piece ∷ pieces) =
    let same = route_of_parsed capacity open_stays (line_of version piece) in
    let goes = route_by capacity open_stays (line_of version piece) in
    ap (λ r. (number, r) ∷ routes_parsed capacity (open_stays_then open_stays r) (number + 1) (parsed_lines version pieces)) same
    ∙ ap (λ rest. (number, goes) ∷ rest) (routes_by_parsed capacity version (open_stays_then open_stays goes) (number + 1) pieces)

pub routed : (capacity : Capacity) (plan : Plan) (pieces : List (List ℕ)) (lines : List ParsedLine) (requests : Requests) → lines ≡ parsed_lines plan.version pieces
    → IsRouted (routes_parsed capacity (open_stays_of (opened plan.rows)) 2 lines) requests → IsRouted (routes_from capacity plan.version (opened plan.rows) 2 pieces) requests
routed capacity plan pieces lines requests is goes =
    subst (λ routes. IsRouted routes requests) (
    ap (routes_parsed capacity (open_stays_of (opened plan.rows)) 2) is ∙ routes_by_parsed capacity plan.version (open_stays_of (opened plan.rows)) 2 pieces
    ∙ sym (open_stays_law capacity plan.version 2 (opened plan.rows) pieces)) goes

cons_is_append : {X : Type 0} (first : Option X) (rest : List X) → cons_option first rest ≡ option_to_list first ++ rest
cons_is_append None rest = refl
cons_is_append (Some x) rest = refl

-- what a line adds, then what the later ones add
moves_on : {X : Type 0} (before after : List X) (first : Option X) (rest : List X) → after ≡ before ++ option_to_list first
    → after ++ rest ≡ before ++ cons_option first rest
moves_on before after first rest is = rw (is, cons_is_append first rest) (append_assoc before (option_to_list first) rest)

module _ (capacity : Capacity) where
  pub goes_on : (all : List (ℕ × Route)) (before after : OpenStayList) (number next : ℕ) (line : ParsedLine) (left rest : List ParsedLine) (goes : Route) (old new : Requests)
      → left ≡ line ∷ rest → goes ≡ route_parsed capacity before line → after ≡ open_stays_then before goes → next ≡ number + 1
      → new.acts.items ≡ old.acts.items ++ option_to_list (act_in goes)
      → new.strays.items ≡ old.strays.items ++ option_to_list (numbered_stray (number, goes))
      → AreLeft all (routes_parsed capacity before number left) old → AreLeft all (routes_parsed capacity after next rest) new
  goes_on all before after number next line left rest goes old new is to moved more acts strays so_far =
      let to_route = route_parsed capacity before line in
      let behind = routes_parsed capacity (open_stays_then before to_route) (number + 1) rest in
      let routes : routes_parsed capacity before number left ≡ (number, to_route) ∷ behind = ap (routes_parsed capacity before number) is in
      let state : after ≡ open_stays_then before to_route = moved ∙ ap (open_stays_then before) to in
      let now : routes_parsed capacity after next rest ≡ behind
      = ap (λ g. routes_parsed capacity g next rest) state ∙ ap (λ n. routes_parsed capacity (open_stays_then before to_route) n rest) more in
      let asked = rw to at acts in
      let told = rw to at strays in
      record {
        acts =
            ap (λ routes. new.acts.items ++ acts_in routes) now
            ∙ moves_on old.acts.items new.acts.items (act_in to_route) (acts_in behind) asked
            ∙ ap (λ routes. old.acts.items ++ acts_in routes) (sym routes) ∙ so_far.acts;
        strays =
            ap (λ routes. new.strays.items ++ strays_in routes) now
            ∙ moves_on old.strays.items new.strays.items (numbered_stray (number, to_route)) (strays_in behind) told
            ∙ ap (λ routes. old.strays.items ++ strays_in routes) (sym routes) ∙ so_far.strays;
      }

  pub none_read : (open_stays : OpenStayList) (rows : List GameRow) (lines left : List ParsedLine) (requests : Requests) → open_stays ≡ open_stays_of (opened rows)
      → left ≡ lines → requests.acts.items ≡ [] → requests.strays.items ≡ []
      → AreLeft (routes_parsed capacity (open_stays_of (opened rows)) 2 lines) (routes_parsed capacity open_stays 2 left) requests
  none_read open_stays rows lines left requests is all no_act no_stray =
      let same : routes_parsed capacity open_stays 2 left ≡ routes_parsed capacity (open_stays_of (opened rows)) 2 lines
      = ap (λ (g : OpenStayList). routes_parsed capacity g 2 left) is ∙ ap (routes_parsed capacity (open_stays_of (opened rows)) 2) all in
      record {
        acts = ap (λ acts. acts ++ acts_in (routes_parsed capacity open_stays 2 left)) no_act ∙ ap acts_in same;
        strays = ap (λ strays. strays ++ strays_in (routes_parsed capacity open_stays 2 left)) no_stray ∙ ap strays_in same;
      }

  pub all_read : (open_stays : OpenStayList) (number : ℕ) (left : List ParsedLine) (all : List (ℕ × Route)) (requests : Requests) → left ≡ []
      → AreLeft all (routes_parsed capacity open_stays number left) requests → IsRouted all requests
  all_read open_stays number left all requests none so_far =
      let routes : routes_parsed capacity open_stays number left ≡ [] = ap (routes_parsed capacity open_stays number) none in
      record {
        acts = sym (append-nil requests.acts.items) ∙ ap (λ routes. requests.acts.items ++ acts_in routes) (sym routes) ∙ so_far.acts;
        strays = sym (append-nil requests.strays.items) ∙ ap (λ routes. requests.strays.items ++ strays_in routes) (sym routes) ∙ so_far.strays;
      }

-- the bytes and line feeds that remain of the text
abbrev pub bytes_left : Option (Bor (List ℕ)) → ℕ
bytes_left left = unwrap_or (option_map (λ text. length text.now + 1) left) 0

pub fewer_left : (left more : Option (Bor (List ℕ))) (text : Bor (List ℕ)) → left ≡ Some text → IfSome more (λ rest. length rest.now < length text.now)
    → bytes_left more < bytes_left left
fewer_left left None text is few = rw is (omega arith)
fewer_left left (Some rest) text is few = rw is (omega (arith, few))
