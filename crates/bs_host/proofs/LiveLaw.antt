-- The lines that a live host writes of one stay are the stay's section.
use Rattle.std.proofs.Common.{◌≡◌, ◌≢◌, ℕ, zero, suc, ◌+◌, ◌<◌, Bool, true, false, if◌then◌else◌, List, [], ◌∷◌, ◌++◌, length, inl, inr, refl, sym, ap, subst, ◌∙◌, arith, append-nil, append_assoc, length-append}
use Rattle.std.specs.Prelude.{nat_eq, nat_lt, fold, option_to_list}
use Rattle.std.specs.List.{cons_option, enumerate_from, filter, flat_map}
use Rattle.std.proofs.Math.ListN.{get_or-map}
use Rattle.std.proofs.lemmas.Bool.{and_parts, cases_Bool, cases_eq, eq-eqb, ne_eqb, ltb-true}
use Rattle.std.proofs.lemmas.List.{get_or_append_left, get_or-set_other, get_or-set_same, length-map, length-set}
use Rattle.std.proofs.lemmas.List.Concat.{flat_map-cons}
use Rattle.bs_board.specs.declared.commands.command.Command.{Command}
use Rattle.bs_board.specs.declared.commands.reply.Reply.{Reply}
use Rattle.bs_board.specs.declared.plans.version.Version.{Version}
use Rattle.bs_board.specs.plans.Plan.{GameRow, row_of}
use Rattle.bs_json.specs.Replies.{reply_line_of, stray_line_of}
use Rattle.bs_game.specs.Alone.{alone}
use Rattle.bs_game.specs.Answer.{answer_to}
use Rattle.bs_registry.specs.Stays.{Capacity, Stay, closed_stay, is_in, no_stay, open_stay, stay_at}
use Rattle.bs_transcript.specs.Lines.{reply_lines_from, last_line_of, stray_lines_of}
use Rattle.bs_workers.specs.declared.act.Act.{Act}
use Rattle.bs_workers.specs.declared.act.Act.TheVariants as act
use Rattle.bs_workers.specs.Acts.{are_acceptable, is_acceptable, opened, registry_after, rows_admitted}
use Rattle.bs_host.specs.declared.route.Route.{Route}
use Rattle.bs_host.specs.declared.route.Route.TheVariants as route
use Rattle.bs_host.specs.Cut.{row_at}
use Rattle.bs_host.specs.File.{later_pieces, pieces_of, rows_of, version_of}
use Rattle.bs_registry.specs.OpenStays.{open_from, open_of}
use Rattle.bs_host.specs.Live.{LiveLaw, TranscriptLaw, own_live_of, act_line, acts_behind, answer_after, closing_line, closing_of, commands_given, is_of_act, is_of_stay, is_stray, next_line, own_closing, route_behind, route_line, rows_behind, some_answers, stays_left}
use Rattle.bs_host.specs.Routing.{act_in, acts_in, capacity_of, commands_of, next_registry, registry_behind, registry_then, route_at, routes_from, routes_of, stays_of, strays_in}
use Rattle.bs_host.specs.inner.Routing.{acts_of}
use Rattle.bs_host.specs.Transcript.{section_of, transcript_of}
use Rattle.bs_host.proofs.ActsLaw.{acts_law}
use Rattle.bs_host.proofs.LiveLines.{acts_more, given_append, registry_more, replies_with, rows_append}

-- the replies to some commands of a stay, after earlier ones

replies_text : GameRow → List Command → List Command → List ℕ
replies_text row before [] = []
replies_text row before (command ∷ commands) = next_line row before command ++ replies_text row (before ++ command ∷ []) commands

-- replies from a place on, numbered
abbrev numbered : GameRow → ℕ → List Reply → List ℕ
numbered row first replies = reply_lines_from first row.game replies

replies_behind : (row : GameRow) (before commands : List Command) → Type 0
replies_behind row before commands = (rest : List Reply) × ((alone row (before ++ commands)).replies ≡ (alone row before).replies ++ rest)
    × (replies_text row before commands ≡ numbered row (length before + 1) rest)

text_behind : (row : GameRow) (before commands : List Command) → replies_behind row before commands
unfolding replies_behind replies_text next_line
text_behind row before [] = (
  [],
  ap (λ cs. (alone row cs).replies) (append-nil before) ∙ sym (append-nil (alone row before).replies),
  refl,
)
text_behind row before (command ∷ commands) =
    let (rest, all, told) = text_behind row (before ++ command ∷ []) commands in
    let r = (answer_to row.quota (alone row before).game command).reply in
    let line = reply_line_of row.game (length before + 1) r in
    let one : length (before ++ command ∷ []) + 1 ≡ length before + 1 + 1 = omega (arith, length-append before (command ∷ [])) in (
      r ∷ rest,
      ap (λ cs. (alone row cs).replies) (sym (append_assoc before (command ∷ []) commands)) ∙ all
          ∙ ap (λ rs. rs ++ rest) (replies_with row before command) ∙ append_assoc (alone row before).replies (r ∷ []) rest,
      ap (λ more. line ++ more) (told ∙ ap (λ n. numbered row n rest) one)
          ∙ sym (flat_map-cons (λ reply. reply_line_of row.game reply.0 reply.1) (length before + 1, r) (enumerate_from (length before + 1 + 1) rest)),
    )

section_text : (row : GameRow) (commands : List Command) → replies_text row [] commands ++ closing_line row commands ≡ section_of row commands
unfolding replies_behind section_of closing_line
section_text row commands =
    let (rest, all, told) = text_behind row [] commands in
    ap (λ text. text ++ last_line_of row.game (alone row commands).game) (told ∙ ap (λ (rs : List Reply). numbered row 1 rs) (sym all))

-- the lines that are written for the acts of one stay

own_acts : ℕ → List GameRow → List Act → List Act → List ℕ
own_acts stay plan before [] = []
own_acts stay plan before (a ∷ acts) = (if is_of_act stay a then act_line plan before a else []) ++ own_acts stay plan (before ++ a ∷ []) acts

module _ (stay : ℕ) (plan : List GameRow) where
  one_route : (acts : List Act) (number : ℕ) (r : Route) (rest : List Act)
      → (if is_of_stay stay r then route_line plan acts number r else []) ++ own_acts stay plan (acts ++ option_to_list (act_in r)) rest
      ≡ own_acts stay plan acts (cons_option (act_in r) rest)
  unfolding own_acts
  one_route acts number (route.Act a) rest = refl
  one_route acts number (route.Stray kind) rest = ap (λ all. own_acts stay plan all rest) (append-nil acts)
  one_route acts number route.Nowhere rest = ap (λ all. own_acts stay plan all rest) (append-nil acts)

  module _ (blocks : ℕ) (version : Version) where
    abbrev acts_left : List (List ℕ) → List (List ℕ) → List Act
    acts_left before lines = acts_in (routes_from (capacity_of blocks) version (stays_left blocks version plan before) (2 + length before) lines)

    answers_of_acts : (before lines : List (List ℕ))
        → some_answers (is_of_stay stay) blocks version plan before lines ≡ own_acts stay plan (acts_behind blocks version plan before) (acts_left before lines)
    unfolding own_acts answer_after
    answers_of_acts before [] = refl
    answers_of_acts before (text ∷ lines) =
        let capacity = capacity_of blocks in
        let r = route_behind blocks version plan before text in
        let acts = acts_behind blocks version plan before in
        let next = next_registry capacity version (stays_left blocks version plan before) text in
        let here = if is_of_stay stay r then route_line plan acts (2 + length before) r else [] in
        let rest = acts_in (routes_from capacity version next (2 + length before + 1) lines) in
        let many : 2 + length (before ++ text ∷ []) ≡ 2 + length before + 1 = omega (arith, length-append before (text ∷ [])) in
        let left : acts_left (before ++ text ∷ []) lines ≡ rest
        = ap (λ registry. acts_in (routes_from capacity version registry (2 + length (before ++ text ∷ [])) lines)) (registry_more capacity version (opened plan) before text)
        ∙ ap (λ n. acts_in (routes_from capacity version next n lines)) many in
        ap (λ more. here ++ more) (
        answers_of_acts (before ++ text ∷ []) lines
        ∙ ap (λ all. own_acts stay plan all (acts_left (before ++ text ∷ []) lines)) (acts_more capacity version (opened plan) 2 before text)
        ∙ ap (λ more. own_acts stay plan (acts ++ option_to_list (act_in r)) more) left)
        ∙ one_route acts (2 + length before) r rest

-- once a stay has left

abbrev is_open_in : List Stay → ℕ → Bool
is_open_in registry stay = (stay_at registry stay).is_open

within : (registry : List Stay) (stay : ℕ) → is_open_in registry stay ≡ false → stay < length registry
within [] stay closed = absurd cc
within (entry ∷ registry) zero closed = omega arith
within (entry ∷ registry) (suc stay) closed = let more = within registry stay closed in omega (arith, more)

other_stay : (registry : List Stay) (stay to : ℕ) → is_open_in registry stay ≡ false → is_in registry to ≡ true → to ≢ stay
other_stay registry stay to closed there same =
    let open_there : is_open_in registry to ≡ true = (and_parts (nat_lt to (length registry)) (is_open_in registry to) there).1 in
    let wrong : true ≡ false = sym open_there ∙ ap (is_open_in registry) same ∙ closed in
    absurd cc

open_other : (registry : List Stay) (stay to : ℕ) → to ≢ stay → is_open_in (registry_after registry (act.Leave to)) stay ≡ is_open_in registry stay
open_other registry stay to other =
    ap (λ (e : Stay). e.is_open) (get_or-set_other registry to stay (closed_stay (stay_at registry to)) no_stay (λ same. other (sym same)))

open_admitted : (registry : List Stay) (row : GameRow) (stay : ℕ) → is_open_in registry stay ≡ true → is_open_in (registry_after registry (act.Admit row)) stay ≡ true
open_admitted [] row zero is = refl
open_admitted [] row (suc stay) is = refl
open_admitted (entry ∷ registry) row zero is = is
open_admitted (entry ∷ registry) row (suc stay) is = open_admitted registry row stay is

record IsSilent (stay : ℕ) (plan : List GameRow) (before acts : List Act) (registry : List Stay) : Type 0 where
  text : own_acts stay plan before acts ≡ []
  given : commands_given stay acts ≡ []
  closed : is_open_in (fold registry_after registry acts) stay ≡ false

silent : (capacity : Capacity) (stay : ℕ) (plan : List GameRow) (registry : List Stay) (before acts : List Act) → are_acceptable capacity registry acts ≡ true
    → is_open_in registry stay ≡ false → IsSilent stay plan before acts registry
unfolding own_acts
silent capacity stay plan registry before [] accepted closed = record { text = refl; given = refl; closed = closed }
silent capacity stay plan registry before (act.Hand to command ∷ acts) accepted closed =
    let both = and_parts (is_in registry to) (are_acceptable capacity registry acts) accepted in
    let other : nat_eq to stay ≡ false = ne_eqb to stay (other_stay registry stay to closed both.0) in
    let rest = silent capacity stay plan registry (before ++ act.Hand to command ∷ []) acts both.1 closed in
    record { text = rw other rest.text; given = rw other rest.given; closed = rest.closed }
silent capacity stay plan registry before (act.Admit row ∷ acts) accepted closed =
    let next = registry_after registry (act.Admit row) in
    let both = and_parts (is_acceptable capacity registry (act.Admit row)) (are_acceptable capacity next acts) accepted in
    let still : is_open_in next stay ≡ false
    = ap (λ (e : Stay). e.is_open) (get_or_append_left registry (open_stay row ∷ []) no_stay stay (within registry stay closed)) ∙ closed in
    let rest = silent capacity stay plan next (before ++ act.Admit row ∷ []) acts both.1 still in
    record { text = rest.text; given = rest.given; closed = rest.closed }
silent capacity stay plan registry before (act.Leave to ∷ acts) accepted closed =
    let next = registry_after registry (act.Leave to) in
    let both = and_parts (is_in registry to) (are_acceptable capacity next acts) accepted in
    let differs = other_stay registry stay to closed both.0 in
    let other : nat_eq to stay ≡ false = ne_eqb to stay differs in
    let rest = silent capacity stay plan next (before ++ act.Leave to ∷ []) acts both.1 (open_other registry stay to differs ∙ closed) in
    record { text = rw other rest.text; given = rest.given; closed = rest.closed }

-- while it is open

abbrev closing_then : Bool → GameRow → List Command → List ℕ
closing_then is_now row commands = if is_now then closing_line row commands else []

module _ (capacity : Capacity) (stay : ℕ) (plan all : List GameRow) where
  abbrev its_row : GameRow
  its_row = row_at all stay

  -- what is written for the stay from here on
  abbrev own_rest : List Stay → List Act → List Act → List ℕ
  own_rest registry before acts =
      own_acts stay plan before acts ++ closing_then (is_open_in (fold registry_after registry acts) stay) its_row (commands_given stay (before ++ acts))

  abbrev section_rest : List Act → List Act → List ℕ
  section_rest before acts =
      replies_text its_row (commands_given stay before) (commands_given stay acts) ++ closing_line its_row (commands_given stay before ++ commands_given stay acts)

  record IsPlace (registry : List Stay) (before acts : List Act) : Type 0 where
    accepted : are_acceptable capacity registry acts ≡ true
    is_open : is_open_in registry stay ≡ true
    rows : all ≡ rows_behind plan before ++ rows_admitted acts
    many : length registry ≡ length (rows_behind plan before)

  row_here : (registry : List Stay) (before acts : List Act) → IsPlace registry before acts → is_in registry stay ≡ true → row_at (rows_behind plan before) stay ≡ its_row
  row_here registry before acts place there =
      let few : stay < length registry = ltb-true stay (length registry) (and_parts (nat_lt stay (length registry)) (is_open_in registry stay) there).0 in
      let many = place.many in
      let inside : stay < length (rows_behind plan before) = omega (arith, few, many) in
      sym (ap (λ rows. row_at rows stay) place.rows ∙ get_or_append_left (rows_behind plan before) (rows_admitted acts) (row_of [] 0) stay inside)

  rows_on : (before acts : List Act) (a : Act) → all ≡ rows_behind plan before ++ rows_admitted (a ∷ acts) → rows_admitted (a ∷ acts) ≡ rows_admitted (a ∷ []) ++ rows_admitted acts
      → all ≡ rows_behind plan (before ++ a ∷ []) ++ rows_admitted acts
  rows_on before acts a is split =
      is ∙ ap (λ more. rows_behind plan before ++ more) split ∙ sym (append_assoc (rows_behind plan before) (rows_admitted (a ∷ [])) (rows_admitted acts))
      ∙ ap (λ rows. rows ++ rows_admitted acts) (append_assoc plan (rows_admitted before) (rows_admitted (a ∷ [])) ∙ ap (λ rows. plan ++ rows) (sym (rows_append before (a ∷ []))))

  rows_one : (before : List Act) (a : Act) → rows_behind plan (before ++ a ∷ []) ≡ rows_behind plan before ++ rows_admitted (a ∷ [])
  rows_one before a = ap (λ rows. plan ++ rows) (rows_append before (a ∷ [])) ∙ sym (append_assoc plan (rows_admitted before) (rows_admitted (a ∷ [])))

  given_one : (before : List Act) (a : Act) (given : List Command) → commands_given stay (a ∷ []) ≡ given → commands_given stay (before ++ a ∷ []) ≡ commands_given stay before ++ given
  given_one before a given is = given_append stay before (a ∷ []) ∙ ap (λ more. commands_given stay before ++ more) is

  ends : (registry : List Stay) (before : List Act) (a : Act) (acts : List Act)
      → closing_then (is_open_in (fold registry_after (registry_after registry a) acts) stay) its_row (commands_given stay ((before ++ a ∷ []) ++ acts))
      ≡ closing_then (is_open_in (fold registry_after registry (a ∷ acts)) stay) its_row (commands_given stay (before ++ a ∷ acts))
  ends registry before a acts =
      ap (λ every. closing_then (is_open_in (fold registry_after registry (a ∷ acts)) stay) its_row (commands_given stay every)) (append_assoc before (a ∷ []) acts)

  -- an act of another stay, or an admission, writes nothing for this one
  passed : (registry : List Stay) (before : List Act) (a : Act) (acts : List Act) → is_of_act stay a ≡ false → commands_given stay (a ∷ []) ≡ []
      → commands_given stay (a ∷ acts) ≡ commands_given stay acts → own_rest (registry_after registry a) (before ++ a ∷ []) acts ≡ section_rest (before ++ a ∷ []) acts
      → own_rest registry before (a ∷ acts) ≡ section_rest before (a ∷ acts)
  unfolding own_acts
  passed registry before a acts other none same rest =
      let given : commands_given stay (before ++ a ∷ []) ≡ commands_given stay before = given_one before a [] none ∙ append-nil (commands_given stay before) in
      let texts : own_acts stay plan before (a ∷ acts) ≡ own_acts stay plan (before ++ a ∷ []) acts = rw other refl in
      ap (λ text. text ++ closing_then (is_open_in (fold registry_after registry (a ∷ acts)) stay) its_row (commands_given stay (before ++ a ∷ acts))) texts
      ∙ ap (λ last. own_acts stay plan (before ++ a ∷ []) acts ++ last) (sym (ends registry before a acts)) ∙ rest
      ∙ ap (λ cs. replies_text its_row cs (commands_given stay acts) ++ closing_line its_row (cs ++ commands_given stay acts)) given
      ∙ ap (λ ds. replies_text its_row (commands_given stay before) ds ++ closing_line its_row (commands_given stay before ++ ds)) (sym same)

  place_on : (registry : List Stay) (before acts : List Act) (a : Act) → IsPlace registry before (a ∷ acts) → are_acceptable capacity (registry_after registry a) acts ≡ true
      → is_open_in (registry_after registry a) stay ≡ true → rows_admitted (a ∷ acts) ≡ rows_admitted (a ∷ []) ++ rows_admitted acts
      → length (registry_after registry a) ≡ length registry + length (rows_admitted (a ∷ [])) → IsPlace (registry_after registry a) (before ++ a ∷ []) acts
  place_on registry before acts a place accepted is_now split longer =
      let many = place.many in
      let behind = ap length (rows_one before a) in
      let both = length-append (rows_behind plan before) (rows_admitted (a ∷ [])) in
      record {
        accepted = accepted;
        is_open = is_now;
        rows = rows_on before acts a place.rows split;
        many = omega (arith, many, behind, both, longer);
      }

  -- a command of this stay
  hand_own : (registry : List Stay) (before : List Act) (command : Command) (acts : List Act) → IsPlace registry before (act.Hand stay command ∷ acts)
      → own_rest registry (before ++ act.Hand stay command ∷ []) acts ≡ section_rest (before ++ act.Hand stay command ∷ []) acts
      → own_rest registry before (act.Hand stay command ∷ acts) ≡ section_rest before (act.Hand stay command ∷ acts)
  unfolding own_acts replies_text
  hand_own registry before command acts place rest =
      let a = act.Hand stay command in
      let on : nat_eq stay stay ≡ true = eq-eqb stay stay refl in
      let cs = commands_given stay before in
      let ds = commands_given stay acts in
      let there = (and_parts (is_in registry stay) (are_acceptable capacity registry acts) place.accepted).0 in
      let line = next_line its_row cs command in
      let own = own_acts stay plan (before ++ a ∷ []) acts in
      let last = closing_then (is_open_in (fold registry_after registry (a ∷ acts)) stay) its_row (commands_given stay (before ++ a ∷ acts)) in
      let texts : own_acts stay plan before (a ∷ acts) ≡ next_line (row_at (rows_behind plan before) stay) cs command ++ own = rw on refl in
      let lines : own_acts stay plan before (a ∷ acts) ≡ line ++ own
      = texts ∙ ap (λ row. next_line row cs command ++ own) (row_here registry before (a ∷ acts) place there) in
      let itself : commands_given stay (a ∷ []) ≡ command ∷ [] = rw on refl in
      let given : commands_given stay (before ++ a ∷ []) ≡ cs ++ command ∷ [] = given_one before a (command ∷ []) itself in
      let asked : commands_given stay (a ∷ acts) ≡ command ∷ ds = rw on refl in
      ap (λ text. text ++ last) lines ∙ append_assoc line own last
      ∙ ap (λ end. line ++ (own ++ end)) (sym (ends registry before a acts)) ∙ ap (λ more. line ++ more) rest
      ∙ ap (λ c. line ++ (replies_text its_row c ds ++ closing_line its_row (c ++ ds))) given
      ∙ ap (λ c. line ++ (replies_text its_row (cs ++ command ∷ []) ds ++ closing_line its_row c)) (append_assoc cs (command ∷ []) ds)
      ∙ sym (append_assoc line (replies_text its_row (cs ++ command ∷ []) ds) (closing_line its_row (cs ++ command ∷ ds)))
      ∙ ap (λ d. replies_text its_row cs d ++ closing_line its_row (cs ++ d)) (sym asked)

  -- this stay leaves
  leave_own : (registry : List Stay) (before acts : List Act) → IsPlace registry before (act.Leave stay ∷ acts)
      → own_rest registry before (act.Leave stay ∷ acts) ≡ section_rest before (act.Leave stay ∷ acts)
  unfolding own_acts replies_text
  leave_own registry before acts place =
      let a = act.Leave stay in
      let next = registry_after registry a in
      let on : nat_eq stay stay ≡ true = eq-eqb stay stay refl in
      let cs = commands_given stay before in
      let both = and_parts (is_in registry stay) (are_acceptable capacity next acts) place.accepted in
      let inside : stay < length registry = ltb-true stay (length registry) (and_parts (nat_lt stay (length registry)) (is_open_in registry stay) both.0).0 in
      let closed : is_open_in next stay ≡ false
      = ap (λ (e : Stay). e.is_open) (get_or-set_same registry stay (closed_stay (stay_at registry stay)) no_stay inside) in
      let rest = silent capacity stay plan next (before ++ a ∷ []) acts both.1 closed in
      let own = own_acts stay plan (before ++ a ∷ []) acts in
      let every = commands_given stay (before ++ a ∷ acts) in
      let texts : own_acts stay plan before (a ∷ acts) ≡ closing_line (row_at (rows_behind plan before) stay) cs ++ own = rw on refl in
      let lines : own_acts stay plan before (a ∷ acts) ≡ closing_line its_row cs
      = texts ∙ ap (λ row. closing_line row cs ++ own) (row_here registry before (a ∷ acts) place both.0)
      ∙ ap (λ more. closing_line its_row cs ++ more) rest.text ∙ append-nil (closing_line its_row cs) in
      ap (λ text. text ++ closing_then (is_open_in (fold registry_after registry (a ∷ acts)) stay) its_row every) lines
      ∙ ap (λ b. closing_line its_row cs ++ closing_then b its_row every) rest.closed ∙ append-nil (closing_line its_row cs)
      ∙ ap (closing_line its_row) (sym (append-nil cs)) ∙ ap (λ d. replies_text its_row cs d ++ closing_line its_row (cs ++ d)) (sym rest.given)

  written_of : (registry : List Stay) (before acts : List Act) → IsPlace registry before acts → own_rest registry before acts ≡ section_rest before acts
  unfolding own_acts replies_text
  written_of registry before [] place =
      let same : commands_given stay (before ++ []) ≡ commands_given stay before ++ [] = ap (commands_given stay) (append-nil before) ∙ sym (append-nil (commands_given stay before)) in
      let is_now = place.is_open in
      rw is_now (ap (closing_line its_row) same)
  written_of registry before (act.Hand to command ∷ acts) place =
      let a = act.Hand to command in
      let both = and_parts (is_in registry to) (are_acceptable capacity registry acts) place.accepted in
      let rest = written_of registry (before ++ a ∷ []) acts (place_on registry before acts a place both.1 place.is_open refl (omega arith)) in
      elim (cases_eq to stay) [
        | inl same ↦
            subst (λ n. own_rest registry before (act.Hand n command ∷ acts) ≡ section_rest before (act.Hand n command ∷ acts)) (sym same)
            (hand_own registry before command acts (subst (λ n. IsPlace registry before (act.Hand n command ∷ acts)) same place)
            (subst (λ n. own_rest registry (before ++ act.Hand n command ∷ []) acts ≡ section_rest (before ++ act.Hand n command ∷ []) acts) same rest))
        | inr other ↦
            let off : nat_eq to stay ≡ false = ne_eqb to stay other in
            passed registry before a acts off (rw off refl) (rw off refl) rest
      ]
  written_of registry before (act.Admit row ∷ acts) place =
      let a = act.Admit row in
      let both = and_parts (is_acceptable capacity registry a) (are_acceptable capacity (registry_after registry a) acts) place.accepted in
      passed registry before a acts refl refl refl
      (written_of (registry_after registry a) (before ++ a ∷ []) acts
      (place_on registry before acts a place both.1 (open_admitted registry row stay place.is_open) refl (length-append registry (open_stay row ∷ []))))
  written_of registry before (act.Leave to ∷ acts) place =
      let a = act.Leave to in
      elim (cases_eq to stay) [
        | inl same ↦
            subst (λ n. own_rest registry before (act.Leave n ∷ acts) ≡ section_rest before (act.Leave n ∷ acts)) (sym same)
            (leave_own registry before acts (subst (λ n. IsPlace registry before (act.Leave n ∷ acts)) same place))
        | inr other ↦
            let both = and_parts (is_in registry to) (are_acceptable capacity (registry_after registry a) acts) place.accepted in
            let longer = length-set registry to (closed_stay (stay_at registry to)) in
            passed registry before a acts (ne_eqb to stay other) refl refl
            (written_of (registry_after registry a) (before ++ a ∷ []) acts
            (place_on registry before acts a place both.1 (open_other registry stay to other ∙ place.is_open) refl (omega (arith, longer))))
      ]

-- the final line at the end

registry_acted : (registry : List Stay) (r : Route) (acts : List Act) → fold registry_after (registry_then registry r) acts ≡ fold registry_after registry (cons_option (act_in r) acts)
registry_acted registry (route.Act a) acts = refl
registry_acted registry (route.Stray kind) acts = refl
registry_acted registry route.Nowhere acts = refl

registry_of_acts : (capacity : Capacity) (version : Version) (registry : List Stay) (number : ℕ) (lines : List (List ℕ))
    → registry_behind capacity version registry lines ≡ fold registry_after registry (acts_in (routes_from capacity version registry number lines))
registry_of_acts capacity version registry number [] = refl
registry_of_acts capacity version registry number (text ∷ lines) =
    let next = next_registry capacity version registry text in
    registry_of_acts capacity version next (number + 1) lines
    ∙ registry_acted registry (route_at capacity version registry text) (acts_in (routes_from capacity version next (number + 1) lines))

abbrev numbered_as : ℕ → ℕ × GameRow → Bool
numbered_as stay other = nat_eq other.0 stay

none_numbered : (stay first : ℕ) (registry : List Stay) → stay < first → filter (numbered_as stay) (open_from first registry) ≡ []
none_numbered stay first [] below = refl
none_numbered stay first (entry ∷ registry) below =
    let rest = none_numbered stay (first + 1) registry (omega (arith, below)) in
    let off : nat_eq first stay ≡ false = ne_eqb first stay (λ same. absurd (omega (arith, same, below))) in
    elim (cases_Bool entry.is_open) [
      | inl is_now ↦ rw (is_now, off) rest
      | inr closed ↦ rw closed rest
    ]

open_numbered : (first at : ℕ) (registry : List Stay) → at < length registry
    → filter (numbered_as (first + at)) (open_from first registry) ≡ (if is_open_in registry at then (first + at, (stay_at registry at).row) ∷ [] else [])
open_numbered first at [] inside = absurd (omega arith)
open_numbered first zero (entry ∷ registry) inside =
    let here : first + 0 ≡ first = omega arith in
    let on : nat_eq first first ≡ true = eq-eqb first first refl in
    let rest = none_numbered first (first + 1) registry (omega arith) in
    elim (cases_Bool entry.is_open) [
      | inl is_now ↦ rw (here, is_now, on, rest) refl
      | inr closed ↦ rw (here, closed, rest) refl
    ]
open_numbered first (suc at) (entry ∷ registry) inside =
    let next : first + suc at ≡ first + 1 + at = omega arith in
    let rest = open_numbered (first + 1) at registry (omega arith) in
    let off : nat_eq first (first + 1 + at) ≡ false = ne_eqb first (first + 1 + at) (λ same. absurd (omega (arith, same))) in
    elim (cases_Bool entry.is_open) [
      | inl is_now ↦ rw (next, is_now, off) rest
      | inr closed ↦ rw (next, closed) rest
    ]

open_one : (stay : ℕ) (registry : List Stay) → stay < length registry
    → filter (numbered_as stay) (open_of registry) ≡ (if is_open_in registry stay then (stay, (stay_at registry stay).row) ∷ [] else [])
open_one stay registry inside =
    let same : 0 + stay ≡ stay = omega arith in
    subst (λ n. filter (numbered_as n) (open_from 0 registry) ≡ (if is_open_in registry stay then (n, (stay_at registry stay).row) ∷ [] else [])) same
    (open_numbered 0 stay registry inside)

closing_one : (acts : List Act) (is_now : Bool) (stay : ℕ) (row : GameRow)
    → closing_of acts (if is_now then (stay, row) ∷ [] else []) ≡ closing_then is_now row (commands_given stay acts)
closing_one acts true stay row = append-nil (closing_line row (commands_given stay acts))
closing_one acts false stay row = refl

all_open : (rows : List GameRow) (stay : ℕ) → is_open_in (opened rows) stay ≡ true
all_open [] zero = refl
all_open [] (suc stay) = refl
all_open (row ∷ rows) zero = refl
all_open (row ∷ rows) (suc stay) = all_open rows stay

-- the stray lines

stray_text : (plan : List GameRow) (acts : List Act) (number : ℕ) (r : Route) (rest : List (ℕ × Route))
    → (if is_stray r then route_line plan acts number r else []) ++ stray_lines_of (strays_in rest) ≡ stray_lines_of (strays_in ((number, r) ∷ rest))
stray_text plan acts number (route.Act a) rest = refl
stray_text plan acts number (route.Stray kind) rest = sym (flat_map-cons (λ stray. stray_line_of stray.0 stray.1) (number, kind) (strays_in rest))
stray_text plan acts number route.Nowhere rest = refl

strays_written : (blocks : ℕ) (version : Version) (plan : List GameRow) (before lines : List (List ℕ))
    → some_answers is_stray blocks version plan before lines
    ≡ stray_lines_of (strays_in (routes_from (capacity_of blocks) version (stays_left blocks version plan before) (2 + length before) lines))
unfolding answer_after
strays_written blocks version plan before [] = refl
strays_written blocks version plan before (text ∷ lines) =
    let capacity = capacity_of blocks in
    let registry = stays_left blocks version plan before in
    let r = route_behind blocks version plan before text in
    let next = next_registry capacity version registry text in
    let here = if is_stray r then route_line plan (acts_behind blocks version plan before) (2 + length before) r else [] in
    let many : 2 + length (before ++ text ∷ []) ≡ 2 + length before + 1 = omega (arith, length-append before (text ∷ [])) in
    ap (λ more. here ++ more) (strays_written blocks version plan (before ++ text ∷ []) lines
    ∙ ap (λ stays. stray_lines_of (strays_in (routes_from capacity version stays (2 + length (before ++ text ∷ [])) lines))) (registry_more capacity version (opened plan) before text)
    ∙ ap (λ n. stray_lines_of (strays_in (routes_from capacity version next n lines))) many)
    ∙ stray_text plan (acts_behind blocks version plan before) (2 + length before) r (routes_from capacity version next (2 + length before + 1) lines)

pub live_law : LiveLaw
live_law blocks file =
    let capacity = capacity_of blocks in
    let version = version_of file in
    let plan = rows_of file in
    let lines = later_pieces (pieces_of file) in
    let acts = acts_of blocks file in
    let law = acts_law blocks file in
    let registry = opened plan in
    let left = stays_left blocks version plan lines in
    let acted : left ≡ fold registry_after registry acts = registry_of_acts capacity version registry 2 lines in
    record {
      sections =
          λ stay inside.
          let all = stays_of blocks file in
          let row = row_at all stay in
          let place : IsPlace capacity stay plan all registry [] acts
          = record {
            accepted = law.acceptable;
            is_open = all_open plan stay;
            rows = law.stays ∙ ap (λ rows. rows ++ rows_admitted acts) (sym (append-nil plan));
            many = length-map plan open_stay ∙ ap length (sym (append-nil plan));
          } in
          let there : stay < length left = (let many = length-map left (λ (e : Stay). e.row) in omega (arith, inside, many)) in
          let its : (stay_at left stay).row ≡ row = sym (get_or-map (λ (e : Stay). e.row) left stay no_stay) in
          let closing : own_closing stay blocks version plan lines ≡ closing_then (is_open_in left stay) row (commands_given stay acts)
          = ap (closing_of acts) (open_one stay left there) ∙ closing_one acts (is_open_in left stay) stay (stay_at left stay).row
          ∙ ap (λ (w : GameRow). closing_then (is_open_in left stay) w (commands_given stay acts)) its in
          ap (λ text. text ++ own_closing stay blocks version plan lines) (answers_of_acts stay plan blocks version [] lines)
          ∙ ap (λ text. own_acts stay plan [] acts ++ text) (closing ∙ ap (λ stays. closing_then (is_open_in stays stay) row (commands_given stay acts)) acted)
          ∙ written_of capacity stay plan all registry [] acts place
          ∙ section_text row (commands_given stay acts) ∙ ap (section_of row) (sym (law.commands stay));
      strays = strays_written blocks version plan [] lines;
    }

-- the transcript

same_texts : (f g : ℕ × GameRow → List ℕ) (first : ℕ) (rows : List GameRow) → ((at : ℕ) → at < length rows → f (first + at, row_at rows at) ≡ g (first + at, row_at rows at))
    → flat_map f (enumerate_from first rows) ≡ flat_map g (enumerate_from first rows)
same_texts f g first [] each = refl
same_texts f g first (row ∷ rows) each =
    let here : first + 0 ≡ first = omega arith in
    let head : f (first, row) ≡ g (first, row) = subst (λ n. f (n, row) ≡ g (n, row)) here (each 0 (omega arith)) in
    let tail = same_texts f g (first + 1) rows
    (λ at inside. let next : first + suc at ≡ first + 1 + at = omega arith in
    subst (λ n. f (n, row_at rows at) ≡ g (n, row_at rows at)) next (each (suc at) (omega (arith, inside)))) in
    flat_map-cons f (first, row) (enumerate_from (first + 1) rows) ∙ ap (λ text. text ++ flat_map f (enumerate_from (first + 1) rows)) head
    ∙ ap (λ text. g (first, row) ++ text) tail ∙ sym (flat_map-cons g (first, row) (enumerate_from (first + 1) rows))

pub transcript_law : TranscriptLaw
unfolding transcript_of
transcript_law blocks file =
    let law = live_law blocks file in
    let stays = stays_of blocks file in
    ap (λ text. text ++ stray_lines_of (strays_in (routes_of blocks file)))
    (same_texts (λ stay. section_of stay.1 (commands_of blocks file stay.0)) (λ stay. own_live_of blocks file stay.0) 0 stays
    (λ at inside. let here : 0 + at ≡ at = omega arith in
    subst (λ n. section_of (row_at stays at) (commands_of blocks file n) ≡ own_live_of blocks file n) (sym here) (sym (law.sections at inside))))
    ∙ ap (λ text. flat_map (λ stay. own_live_of blocks file stay.0) (enumerate_from 0 stays) ++ text) (sym law.strays)
