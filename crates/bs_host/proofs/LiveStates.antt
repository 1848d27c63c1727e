-- The state of a live host after some lines: of each open stay the row and what its commands alone
-- give. So what it writes for a line is the answer that the definition gives.
use Rattle.std.proofs.Common.{◌≡◌, ℕ, zero, suc, ◌+◌, ◌<◌, ◌≤◌, true, false, List, [], ◌∷◌, ◌++◌, Option, Some, None, length, map, refl, sym, ap, subst, ◌∙◌, arith, inl, inr, append-nil, append_assoc, length-append}
use Rattle.std.specs.Prelude.{find, fold, nat_eq, nat_lt, not, option_to_list}
use Rattle.std.specs.List.{cons_option, filter}
use Rattle.std.proofs.lemmas.Bool.{and_parts, cases_Bool, eq-eqb, eqb-true, ltb-true, ne_eqb}
use Rattle.std.proofs.Math.ListN.{get_or-map}
use Rattle.std.proofs.lemmas.List.{length-map, length-set, map-append}
use Rattle.std.proofs.lemmas.List.Concat.{flat_map-cons}
use Rattle.std.proofs.lemmas.List.Sums.{fold-append}
use Rattle.bs_board.specs.declared.commands.command.Command.{Command}
use Rattle.bs_board.specs.declared.plans.version.Version.{Version}
use Rattle.bs_board.specs.plans.Plan.{GameRow}
use Rattle.bs_json.specs.Line.{line_of}
use Rattle.bs_game.specs.Alone.{alone}
use Rattle.bs_game.proofs.Courses.{course_snoc}
use Rattle.bs_live.specs.Stay.{Stay as LiveStay, final_line, stay_after}
use Rattle.bs_registry.specs.Blocks.{blocks_of}
use Rattle.bs_registry.specs.Stays.{Capacity, Stay, closed_stay, is_in, no_stay, open_stay, stay_at}
use Rattle.bs_workers.specs.declared.act.Act.{Act}
use Rattle.bs_workers.specs.declared.act.Act.TheVariants as act
use Rattle.bs_workers.specs.Acts.{opened, rows_in_registry}
use Rattle.bs_host.specs.declared.limits.TheConstants.{BLOCK_BYTES}
use Rattle.bs_host.specs.declared.live_host.LiveHost.{LiveHost}
use Rattle.bs_host.specs.declared.parse.ParsedLine.{ParsedLine}
use Rattle.bs_host.specs.declared.route.Route.{Route}
use Rattle.bs_host.specs.declared.route.Route.TheVariants as route
use Rattle.bs_host.specs.Cut.{row_at}
use Rattle.bs_host.specs.Live.{acts_behind, answer_after, answers_from, closing_behind, closing_line, closing_of, commands_given, next_line, route_line, rows_behind, stays_left}
use Rattle.bs_host.specs.inner.Live.{HasAnswered}
use Rattle.bs_host.specs.inner.LiveHost.{answered_by, final_in, finals_of, host_of, live_after, live_end, live_stay, live_text, live_texts, reply_in, stays_then, text_then}
use Rattle.bs_registry.specs.declared.registry.Listed.{Listed}
use Rattle.bs_registry.specs.Registry.{Listing, is_numbered, listing_of, rows_open, seen}
use Rattle.bs_host.specs.inner.Parsed.{parsed_line, route_parsed}
use Rattle.bs_registry.specs.OpenStays.{open_from, open_of, open_stays_of}
use Rattle.bs_host.specs.inner.OpenStays.{route_by}
use Rattle.bs_host.specs.Routing.{act_in, acts_in, capacity_of, next_registry, registry_behind, registry_then, route_at, route_of, routes_from}
use Rattle.bs_host.proofs.ActsLaw.{IsAcceptable, route_acceptable}
use Rattle.bs_host.proofs.LiveLines.{given_append}
use Rattle.bs_host.proofs.LiveTexts.{rows_left}
use Rattle.bs_registry.proofs.OpenStays.{open_law}
use Rattle.bs_host.proofs.ParsedLines.{route_of_parsed}
use Rattle.bs_registry.proofs.Planned.{rows_are_open}
use Rattle.bs_host.proofs.OpenStayRoutes.{open_stays_with, same_route}

-- a stay that was given its commands among these acts
abbrev stay_behind : List Act → ℕ × GameRow → Listed LiveStay
stay_behind acts stay =
    record {
      number = stay.0;
      row = stay.1;
      kept = record {
        row = stay.1;
        game = (alone stay.1 (commands_given stay.0 acts)).game;
        answered = length (commands_given stay.0 acts);
        blocks = blocks_of BLOCK_BYTES stay.1;
      };
    }

abbrev stays_behind : List Act → List (ℕ × GameRow) → List (Listed LiveStay)
stays_behind acts = map (stay_behind acts)

-- without what is kept for them they are the open stays
rows_behind_are : (acts : List Act) (stays : List (ℕ × GameRow)) → rows_open (stays_behind acts stays) ≡ stays
rows_behind_are acts [] = refl
rows_behind_are acts (stay ∷ stays) = ap (λ rest. stay ∷ rest) (rows_behind_are acts stays)

-- one more act

kept : (acts more : List Act) (stay : ℕ × GameRow) → commands_given stay.0 more ≡ [] → stay_behind (acts ++ more) stay ≡ stay_behind acts stay
kept acts more stay none =
    let same : commands_given stay.0 (acts ++ more) ≡ commands_given stay.0 acts
    = given_append stay.0 acts more ∙ ap (λ given. commands_given stay.0 acts ++ given) none ∙ append-nil (commands_given stay.0 acts) in
    rw same refl

given_to : (stay other : ℕ) (command : Command) → nat_eq stay other ≡ true → commands_given other (act.Hand stay command ∷ []) ≡ command ∷ []
given_to stay other command same = rw same refl

given_not : (stay other : ℕ) (command : Command) → nat_eq stay other ≡ false → commands_given other (act.Hand stay command ∷ []) ≡ []
given_not stay other command differ = rw differ refl

answers : (acts : List Act) (stay : ℕ × GameRow) (command : Command) (more : List Act) → commands_given stay.0 more ≡ command ∷ []
    → stay_behind (acts ++ more) stay ≡ record { number = stay.0; row = stay.1; kept = stay_after command (stay_behind acts stay).kept }
answers acts stay command more one =
    let before = commands_given stay.0 acts in
    let given : commands_given stay.0 (acts ++ more) ≡ before ++ command ∷ []
    = given_append stay.0 acts more ∙ ap (λ given. before ++ given) one in
    let course = course_snoc stay.1.quota before command in
    let many = length-append before (command ∷ []) in
    rw (given, course, many) refl

swapped : (m n : ℕ) → nat_eq m n ≡ nat_eq n m
swapped m n = elim (cases_Bool (nat_eq n m)) [
  | inl same ↦ eq-eqb m n (sym (eqb-true n m same)) ∙ sym same
  | inr differ ↦ ne_eqb m n (λ met. let wrong : true ≡ false = sym (eq-eqb n m (sym met)) ∙ differ in absurd cc) ∙ sym differ
]

module _ (acts : List Act) (stay : ℕ) (command : Command) where
  abbrev hand : List Act
  hand = act.Hand stay command ∷ []

  -- the later stays do not answer
  others : (first : ℕ) (registry : List Stay) → stay < first → map (stay_behind (acts ++ hand)) (open_from first registry) ≡ map (stay_behind acts) (open_from first registry)
  others first [] below = refl
  others first (entry ∷ registry) below =
      let rest = others (first + 1) registry (omega (arith, below)) in
      let apart : nat_eq stay first ≡ false = ne_eqb stay first (λ met. absurd (omega (arith, met, below))) in
      elim (cases_Bool entry.is_open) [
        | inl is_open ↦
            rw is_open (ap (λ one. one ∷ map (stay_behind (acts ++ hand)) (open_from (first + 1) registry)) (kept acts hand (first, entry.row) (given_not stay first command apart))
            ∙ ap (λ stays. stay_behind acts (first, entry.row) ∷ stays) rest)
        | inr closed ↦ rw closed rest
      ]

  one_answers : (first : ℕ) (registry : List Stay)
      → answered_by stay command (map (stay_behind acts) (open_from first registry)) ≡ map (stay_behind (acts ++ hand)) (open_from first registry)
  one_answers first [] = refl
  one_answers first (entry ∷ registry) =
      let rest = one_answers (first + 1) registry in
      elim (cases_Bool entry.is_open) [
        | inr closed ↦ rw closed rest
        | inl is_open ↦ elim (cases_Bool (nat_eq first stay)) [
          | inl here ↦
              let same = eqb-true first stay here in
              let to : nat_eq stay first ≡ true = eq-eqb stay first (sym same) in
              let now = answers acts (first, entry.row) command hand (given_to stay first command to) in
              let rest = others (first + 1) registry (omega (arith, same)) in
              rw (is_open, here) (ap (λ one. one ∷ map (stay_behind acts) (open_from (first + 1) registry)) (sym now)
              ∙ ap (λ stays. stay_behind (acts ++ hand) (first, entry.row) ∷ stays) (sym rest))
          | inr other ↦
              let apart : nat_eq stay first ≡ false = swapped stay first ∙ other in
              let now = kept acts hand (first, entry.row) (given_not stay first command apart) in
              rw (is_open, other) (ap (λ one. one ∷ answered_by stay command (map (stay_behind acts) (open_from (first + 1) registry))) (sym now)
              ∙ ap (λ stays. stay_behind (acts ++ hand) (first, entry.row) ∷ stays) rest)
        ]
      ]

all_kept : (acts more : List Act) (stays : List (ℕ × GameRow)) → ((stay : ℕ) → commands_given stay more ≡ []) → map (stay_behind (acts ++ more)) stays ≡ map (stay_behind acts) stays
all_kept acts more [] none = refl
all_kept acts more (stay ∷ stays) none =
    ap (λ one. one ∷ map (stay_behind (acts ++ more)) stays) (kept acts more stay (none stay.0))
    ∙ ap (λ rest. stay_behind acts stay ∷ rest) (all_kept acts more stays none)

filtered : (acts : List Act) (stay : ℕ) (stays : List (ℕ × GameRow))
    → filter (λ (other : Listed LiveStay). not (nat_eq other.number stay)) (map (stay_behind acts) stays) ≡ map (stay_behind acts) (filter (λ other. not (nat_eq other.0 stay)) stays)
filtered acts stay [] = refl
filtered acts stay (first ∷ stays) = elim (cases_Bool (nat_eq first.0 stay)) [
  | inl left ↦ rw left (filtered acts stay stays)
  | inr stands ↦ rw stands (ap (λ rest. stay_behind acts first ∷ rest) (filtered acts stay stays))
]

-- the final lines of these stays
all_close : (acts : List Act) (stays : List (ℕ × GameRow)) → finals_of (map (stay_behind acts) stays) ≡ closing_of acts stays
unfolding closing_line
all_close acts [] = refl
all_close acts (stay ∷ stays) =
    flat_map-cons (λ (stay : Listed LiveStay). final_line stay.kept) (stay_behind acts stay) (map (stay_behind acts) stays)
    ∙ ap (λ rest. closing_line stay.1 (commands_given stay.0 acts) ++ rest) (all_close acts stays)
    ∙ sym (flat_map-cons (λ (stay : ℕ × GameRow). closing_line stay.1 (commands_given stay.0 acts)) stay stays)

one_more : {X : Type 0} (first : Option X) (rest : List X) → option_to_list first ++ rest ≡ cons_option first rest
one_more None rest = refl
one_more (Some x) rest = refl

-- a stay that does not exist yet was given no command
abbrev IsFresh : List Act → List Stay → Type 0
IsFresh acts registry = (stay : ℕ) → length registry ≤ stay → commands_given stay acts ≡ []

admitted : (acts : List Act) (row : GameRow) (registry : List Stay) → IsFresh acts registry
    → map (stay_behind acts) (open_of registry) ++ record { number = length registry; row = row; kept = live_stay row } ∷ []
    ≡ map (stay_behind (acts ++ act.Admit row ∷ [])) (open_of registry ++ (length registry, row) ∷ [])
admitted acts row registry fresh =
    let more = act.Admit row ∷ [] in
    let none : commands_given (length registry) (acts ++ more) ≡ []
    = given_append (length registry) acts more ∙ append-nil (commands_given (length registry) acts) ∙ fresh (length registry) (omega arith) in
    let new : stay_behind (acts ++ more) (length registry, row) ≡ record { number = length registry; row = row; kept = live_stay row } = rw none refl in
    ap (λ stays. stays ++ record { number = length registry; row = row; kept = live_stay row } ∷ []) (sym (all_kept acts more (open_of registry) (λ stay. refl)))
    ∙ ap (λ one. map (stay_behind (acts ++ more)) (open_of registry) ++ one ∷ []) (sym new)
    ∙ sym (map-append (stay_behind (acts ++ more)) (open_of registry) ((length registry, row) ∷ []))

-- the open stays, of which each was given its commands among these acts
abbrev stays_open : List Act → List Stay → Listing LiveStay
stays_open acts registry = listing_of (length registry) (map (stay_behind acts) (open_of registry))

seen_open : (acts : List Act) (registry : List Stay) → seen (stays_open acts registry) ≡ open_stays_of registry
seen_open acts registry = ap (open_stays_with (length registry)) (rows_behind_are acts (open_of registry))

module _ (capacity : Capacity) where
  stays_step : (acts : List Act) (registry : List Stay) (r : Route) → IsFresh acts registry
      → stays_then r (stays_open acts registry) ≡ stays_open (acts ++ option_to_list (act_in r)) (registry_then registry r)
  stays_step acts registry (route.Act (act.Hand stay command)) fresh = ap (listing_of (length registry)) (one_answers acts stay command 0 registry)
  stays_step acts registry (route.Act (act.Admit row)) fresh =
      let more = acts ++ act.Admit row ∷ [] in
      let many : length registry + 1 ≡ length (registry ++ open_stay row ∷ []) = omega (arith, length-append registry (open_stay row ∷ [])) in
      ap (listing_of (length registry + 1)) (admitted acts row registry fresh ∙ ap (map (stay_behind more)) (sym ((open_law capacity.cap registry).admits row)))
      ∙ ap (λ made. listing_of made (map (stay_behind more) (open_of (registry ++ open_stay row ∷ [])))) many
  stays_step acts registry (route.Act (act.Leave stay)) fresh =
      let more = acts ++ act.Leave stay ∷ [] in
      let left = registry_then registry (route.Act (act.Leave stay)) in
      let many : length registry ≡ length left = sym (length-set registry stay (closed_stay (stay_at registry stay))) in
      ap (listing_of (length registry)) (filtered acts stay (open_of registry)
      ∙ sym (all_kept acts (act.Leave stay ∷ []) (filter (λ other. not (nat_eq other.0 stay)) (open_of registry)) (λ other. refl))
      ∙ ap (map (stay_behind more)) (sym ((open_law capacity.cap registry).leaves stay)))
      ∙ ap (λ made. listing_of made (map (stay_behind more) (open_of left))) many
  stays_step acts registry (route.Stray kind) fresh = ap (λ all. stays_open all registry) (sym (append-nil acts))
  stays_step acts registry route.Nowhere fresh = ap (λ all. stays_open all registry) (sym (append-nil acts))

  fresh_still : (acts more : List Act) (registry new : List Stay) → IsFresh acts registry → length registry ≤ length new
      → ((stay : ℕ) → length new ≤ stay → commands_given stay more ≡ []) → IsFresh (acts ++ more) new
  fresh_still acts more registry new fresh longer none =
      λ stay beyond.
      given_append stay acts more ∙ ap (λ given. given ++ commands_given stay more) (fresh stay (omega (arith, longer, beyond))) ∙ none stay beyond

  inside : (registry : List Stay) (stay : ℕ) → is_in registry stay ≡ true → stay < length registry
  inside registry stay is = ltb-true stay (length registry) (and_parts (nat_lt stay (length registry)) (stay_at registry stay).is_open is).0

  is_open_there : (registry : List Stay) (stay : ℕ) → is_in registry stay ≡ true → (stay_at registry stay).is_open ≡ true
  is_open_there registry stay is = (and_parts (nat_lt stay (length registry)) (stay_at registry stay).is_open is).1

  fresh_step : (acts : List Act) (registry : List Stay) (r : Route) → IsAcceptable capacity registry r → IsFresh acts registry
      → IsFresh (acts ++ option_to_list (act_in r)) (registry_then registry r)
  fresh_step acts registry (route.Act (act.Hand stay command)) is fresh =
      let there = inside registry stay is in
      fresh_still acts (act.Hand stay command ∷ []) registry registry fresh (omega arith)
      (λ other beyond. given_not stay other command (ne_eqb stay other (λ met. absurd (omega (arith, met, there, beyond)))))
  fresh_step acts registry (route.Act (act.Admit row)) is fresh =
      fresh_still acts (act.Admit row ∷ []) registry (registry_then registry (route.Act (act.Admit row))) fresh
      (let many = length-append registry (open_stay row ∷ []) in omega (arith, many)) (λ other beyond. refl)
  fresh_step acts registry (route.Act (act.Leave stay)) is fresh =
      fresh_still acts (act.Leave stay ∷ []) registry (registry_then registry (route.Act (act.Leave stay))) fresh
      (let many = length-set registry stay (closed_stay (stay_at registry stay)) in omega (arith, many)) (λ other beyond. refl)
  fresh_step acts registry (route.Stray kind) is fresh = subst (λ all. IsFresh all registry) (sym (append-nil acts)) fresh
  fresh_step acts registry route.Nowhere is fresh = subst (λ all. IsFresh all registry) (sym (append-nil acts)) fresh

  -- an open stay is found by its number

  found_open : (acts : List Act) (first at : ℕ) (registry : List Stay) → at < length registry → (stay_at registry at).is_open ≡ true
      → find (is_numbered (first + at)) (map (stay_behind acts) (open_from first registry)) ≡ Some (stay_behind acts (first + at, (stay_at registry at).row))
  found_open acts first at [] within is = absurd (omega (arith, within))
  found_open acts first zero (entry ∷ registry) within is =
      let here : nat_eq first (first + 0) ≡ true = eq-eqb first (first + 0) (omega arith) in
      let same : first ≡ first + 0 = omega arith in
      rw (is, here) (ap (λ n. Some (stay_behind acts (n, entry.row))) same)
  found_open acts first (suc at) (entry ∷ registry) within is =
      let few : suc at < suc (length registry) = within in
      let apart : nat_eq first (first + suc at) ≡ false = ne_eqb first (first + suc at) (λ met. absurd (omega (arith, met))) in
      let rest = found_open acts (first + 1) at registry (omega (arith, few)) is in
      let same : first + 1 + at ≡ first + suc at = omega arith in
      let found : find (is_numbered (first + suc at)) (map (stay_behind acts) (open_from (first + 1) registry))
      ≡ Some (stay_behind acts (first + suc at, (stay_at registry at).row))
      = subst (λ n. find (is_numbered n) (map (stay_behind acts) (open_from (first + 1) registry)) ≡ Some (stay_behind acts (n, (stay_at registry at).row))) same rest in
      elim (cases_Bool entry.is_open) [
        | inl is_open ↦ rw (is_open, apart) found
        | inr closed ↦ rw closed found
      ]

  found_there : (acts : List Act) (registry : List Stay) (stay : ℕ) → is_in registry stay ≡ true
      → find (is_numbered stay) (map (stay_behind acts) (open_of registry)) ≡ Some (stay_behind acts (stay, (stay_at registry stay).row))
  found_there acts registry stay is =
      let same : 0 + stay ≡ stay = omega arith in
      subst (λ n. find (is_numbered n) (map (stay_behind acts) (open_of registry)) ≡ Some (stay_behind acts (n, (stay_at registry stay).row))) same
      (found_open acts 0 stay registry (inside registry stay is) (is_open_there registry stay is))

  row_there : (plan : List GameRow) (acts : List Act) (registry : List Stay) (stay : ℕ) → rows_in_registry registry ≡ rows_behind plan acts
      → (stay_at registry stay).row ≡ row_at (rows_behind plan acts) stay
  row_there plan acts registry stay rows =
      sym (get_or-map (λ (entry : Stay). entry.row) registry stay no_stay) ∙ ap (λ all. row_at all stay) rows

  text_step : (plan : List GameRow) (acts : List Act) (registry : List Stay) (number : ℕ) (r : Route) → IsAcceptable capacity registry r
      → rows_in_registry registry ≡ rows_behind plan acts → text_then number r (stays_open acts registry) ≡ route_line plan acts number r
  unfolding next_line closing_line
  text_step plan acts registry number (route.Act (act.Hand stay command)) is rows =
      let found = found_there acts registry stay is in
      ap (reply_in command) found ∙ ap (λ row. next_line row (commands_given stay acts) command) (row_there plan acts registry stay rows)
  text_step plan acts registry number (route.Act (act.Admit row)) is rows = refl
  text_step plan acts registry number (route.Act (act.Leave stay)) is rows =
      let found = found_there acts registry stay is in
      ap final_in found ∙ ap (λ row. closing_line row (commands_given stay acts)) (row_there plan acts registry stay rows)
  text_step plan acts registry number (route.Stray kind) is rows = refl
  text_step plan acts registry number route.Nowhere is rows = refl

module _ (blocks : ℕ) (version : Version) where
  abbrev state : List Act → List Stay → ℕ → LiveHost
  state acts registry number = record {
    blocks = blocks;
    version = version;
    stays = stays_open acts registry;
    number = number;
  }

  one_line : (acts : List Act) (registry : List Stay) (number : ℕ) (text : List ℕ) → IsFresh acts registry
      → live_after (state acts registry number) text
      ≡ state (acts ++ option_to_list (act_in (route_at (capacity_of blocks) version registry text))) (next_registry (capacity_of blocks) version registry text) (number + 1)
  unfolding live_after
  one_line acts registry number text fresh =
      let capacity = capacity_of blocks in
      let r = route_at capacity version registry text in
      let stays = stays_open acts registry in
      let host : Listing LiveStay → LiveHost = λ stays. record { blocks = blocks; version = version; stays = stays; number = number + 1 } in
      ap (λ open_stays. host (stays_then (route_by capacity open_stays (line_of version text)) stays)) (seen_open acts registry)
      ∙ ap (λ (goes : Route). host (stays_then goes stays)) (sym (same_route capacity registry (line_of version text)))
      ∙ ap host (stays_step capacity acts registry r fresh)

  all_lines : (acts : List Act) (registry : List Stay) (number : ℕ) (lines : List (List ℕ)) → IsFresh acts registry
      → fold live_after (state acts registry number) lines
      ≡ state (acts ++ acts_in (routes_from (capacity_of blocks) version registry number lines)) (registry_behind (capacity_of blocks) version registry lines) (number + length lines)
  all_lines acts registry number [] fresh =
      let same : number ≡ number + 0 = omega arith in
      ap (λ all. state all registry number) (sym (append-nil acts)) ∙ ap (state (acts ++ []) registry) same
  all_lines acts registry number (text ∷ lines) fresh =
      let capacity = capacity_of blocks in
      let r = route_at capacity version registry text in
      let next = next_registry capacity version registry text in
      let rest = acts_in (routes_from capacity version next (number + 1) lines) in
      let same : number + 1 + length lines ≡ number + suc (length lines) = omega arith in
      ap (λ host. fold live_after host lines) (one_line acts registry number text fresh)
      ∙ all_lines (acts ++ option_to_list (act_in r)) next (number + 1) lines (fresh_step capacity acts registry r (route_acceptable capacity registry (line_of version text)) fresh)
      ∙ ap (λ all. state all (registry_behind capacity version next lines) (number + 1 + length lines)) (append_assoc acts (option_to_list (act_in r)) rest ∙ ap (λ all. acts ++ all) (one_more (act_in r) rest))
      ∙ ap (state (acts ++ cons_option (act_in r) rest) (registry_behind capacity version next lines)) same

  begins : (rows : List GameRow) → host_of blocks (record { rows = rows; version = version }) ≡ state [] (opened rows) 2
  begins rows =
      let host : Listing LiveStay → LiveHost = λ stays. record { blocks = blocks; version = version; stays = stays; number = 2 } in
      ap (λ stays. host (listing_of (length rows) (map (stay_behind []) stays))) (sym (rows_are_open 0 rows))
      ∙ ap (λ made. host (listing_of made (map (stay_behind []) (open_of (opened rows))))) (sym (length-map rows open_stay))

  module _ (plan : List GameRow) where
    state_is : (lines : List (List ℕ)) (host : LiveHost) → HasAnswered blocks version plan lines host
        → host ≡ state (acts_behind blocks version plan lines) (stays_left blocks version plan lines) (2 + length lines)
    state_is lines host is =
        is ∙ ap (λ first. fold live_after first lines) (begins plan) ∙ all_lines [] (opened plan) 2 lines (λ stay beyond. refl)

    -- what is written for a line is the answer to it
    text_is : (lines : List (List ℕ)) (host : LiveHost) (text : List ℕ) → HasAnswered blocks version plan lines host
        → live_text host text ≡ answer_after blocks version plan lines text
    unfolding live_text answer_after
    text_is lines host text is =
        let capacity = capacity_of blocks in
        let acts = acts_behind blocks version plan lines in
        let registry = stays_left blocks version plan lines in
        let l = line_of version text in
        ap (λ host. live_text host text) (state_is lines host is)
        ∙ ap (λ open_stays. text_then (2 + length lines) (route_by capacity open_stays l) (stays_open acts registry)) (seen_open acts registry)
        ∙ ap (λ goes. text_then (2 + length lines) goes (stays_open acts registry)) (sym (same_route capacity registry l))
        ∙ text_step capacity plan acts registry (2 + length lines) (route_of capacity registry l) (route_acceptable capacity registry l) (rows_left blocks version plan lines)

    pub answered_more : (before lines : List (List ℕ)) (host new : LiveHost) → HasAnswered blocks version plan before host → new ≡ fold live_after host lines
        → HasAnswered blocks version plan (before ++ lines) new
    answered_more before lines host new has is =
        is ∙ ap (λ first. fold live_after first lines) has
        ∙ sym (fold-append live_after (host_of blocks (record { rows = plan; version = version })) before lines)

    pub texts_are : (before lines : List (List ℕ)) (host : LiveHost) → HasAnswered blocks version plan before host
        → live_texts host lines ≡ answers_from blocks version plan before lines
    texts_are before [] host has = refl
    texts_are before (text ∷ lines) host has =
        ap (λ first. first ++ live_texts (live_after host text) lines) (text_is before host text has)
        ∙ ap (λ rest. answer_after blocks version plan before text ++ rest)
        (texts_are (before ++ text ∷ []) lines (live_after host text) (answered_more before (text ∷ []) host (live_after host text) has refl))

    pub end_is : (lines : List (List ℕ)) (host : LiveHost) → HasAnswered blocks version plan lines host → live_end host ≡ closing_behind blocks version plan lines
    unfolding closing_behind
    end_is lines host is =
        ap (λ host. live_end host) (state_is lines host is) ∙ all_close (acts_behind blocks version plan lines) (open_of (stays_left blocks version plan lines))

-- a routed line

pub step_is : (host new : LiveHost) (text : List ℕ) (parsed : ParsedLine) (r : Route) (number : ℕ) → parsed ≡ parsed_line (line_of host.version text)
    → r ≡ route_parsed (capacity_of host.blocks) (seen host.stays) parsed → number ≡ host.number + 1 → new ≡ record host { stays = stays_then r host.stays }
    → record new { number = number } ≡ live_after host text
unfolding live_after
step_is host new text parsed r number is goes next moved =
    let same = route_of_parsed (capacity_of host.blocks) (seen host.stays) (line_of host.version text) in
    rw (moved, next, goes, is, same) refl

pub told_is : (host : LiveHost) (text : List ℕ) (parsed : ParsedLine) (r : Route) (old new : List ℕ) → parsed ≡ parsed_line (line_of host.version text)
    → r ≡ route_parsed (capacity_of host.blocks) (seen host.stays) parsed → new ≡ old ++ text_then host.number r host.stays → new ≡ old ++ live_text host text
unfolding live_text
told_is host text parsed r old new is goes told =
    let same = route_of_parsed (capacity_of host.blocks) (seen host.stays) (line_of host.version text) in
    rw (goes, is, same) at told
