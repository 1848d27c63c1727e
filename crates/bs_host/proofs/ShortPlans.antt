-- A row costs at most as much as the line that it was read from, and the plan of one row at most as
-- much as the plan's line.
use Rattle.std.proofs.Common.{◌≡◌, ℕ, zero, suc, ◌+◌, ◌≤◌, Bool, true, false, ◌&&◌, nat_lt, nat_le, List, ◌∷◌, ◌++◌, length, All, Option, Some, None, Result, Ok, Err, option_map, codes, decimal, ◌⊎◌, inl, inr, refl, ap, arith, length-append}
use Rattle.std.proofs.lemmas.Bool.{cases_Bool}
use Rattle.std.specs.List.{list_all}
use Rattle.std.specs.Prelude.{is_some, if◌then◌else◌}
use Rattle.std.specs.Str.{is_utf8}
use Rattle.json.specs.Print.{quoted, escape_byte}
use Rattle.serde_json.specs.Data.{unsigned, negative, float, Data, null, boolean, number, string, array, object, Items, no_items, item}
use Rattle.serde_json.specs.Find.{as_array, as_object, as_str, get}
use Rattle.serde_json.specs.Read.{read}
use Rattle.bs_board.specs.declared.commands.command.Command.{Command}
use Rattle.bs_board.specs.declared.limits.TheConstants.{MOST_QUOTA, MOST_ROWS}
use Rattle.bs_board.specs.declared.plans.plan.Plan.{Plan}
use Rattle.bs_board.specs.declared.plans.version.Version.{Version}
use Rattle.bs_board.specs.declared.plans.version.Version.TheVariants.{One, Two, Three, Five}
use Rattle.bs_board.specs.plans.Plan.{GameRow, row_of, is_fit_row, have_distinct_names}
use Rattle.bs_board.specs.plans.Version.{has_stays}
use Rattle.bs_json.specs.declared.limits.TheConstants.{MAX_LINE}
use Rattle.bs_json.specs.declared.line.Line.{Line}
use Rattle.bs_json.specs.declared.line.Line.TheVariants as line
use Rattle.bs_json.specs.declared.plan.PlanFault.{PlanFault}
use Rattle.bs_json.specs.Commands.{command_of}
use Rattle.bs_json.specs.Line.{admit_line, command_line, does, is_space, line_for, line_from, line_in, line_of}
use Rattle.bs_json.specs.PlanLine.{fit_row, plan_from, plan_line_of, plan_of_games, plan_of_rows, row_from, version_of}
use Rattle.bs_json.specs.Values.{◌>>=◌, each, number_at, text_at, value_of, whole_to}
use Rattle.bs_host.specs.Cut.{lone_plan_of, row_data}
use Rattle.bs_host.proofs.CutPlan.{lone_plan_text, plan_end}
use Rattle.bs_host.proofs.ShortObjects.{holds_one, holds_two}
use Rattle.bs_host.proofs.ShortValues.{read_few}
use Rattle.bs_host.proofs.TextCost.{data_cost, list_cost}

-- rows

abbrev pub row_cost : GameRow → ℕ
row_cost row = data_cost (row_data row)

abbrev CostsIfRead : ℕ → Option GameRow → Type 0
CostsIfRead n None = Unit {0}
CostsIfRead n (Some row) = row_cost row ≤ n

-- the value that was found is that text
found_text : (o : Option Data) (game : List ℕ) → (o >>= as_str) ≡ Some game → o ≡ Some (string game)
found_text None game is = absurd cc
found_text (Some null) game is = absurd cc
found_text (Some (boolean b)) game is = absurd cc
found_text (Some (number n)) game is = absurd cc
found_text (Some (string s)) game is = ap (λ (o : Option (List ℕ)). option_map string o) is
found_text (Some (array ds)) game is = absurd cc
found_text (Some (object ms)) game is = absurd cc

at_most_same : (b : Bool) (m n : ℕ) → (if b then Some m else None) ≡ Some n → Some m ≡ Some n
at_most_same true m n is = is
at_most_same false m n is = absurd cc

found_number : (o : Option Data) (most n : ℕ) → (o >>= whole_to most) ≡ Some n → o ≡ Some (number (unsigned n))
found_number None most n is = absurd cc
found_number (Some null) most n is = absurd cc
found_number (Some (boolean b)) most n is = absurd cc
found_number (Some (number (unsigned m))) most n is = ap (λ (o : Option ℕ). option_map (λ k. number (unsigned k)) o) (at_most_same (nat_le m most) m n is)
found_number (Some (number (negative z))) most n is = absurd cc
found_number (Some (number (float x))) most n is = absurd cc
found_number (Some (string s)) most n is = absurd cc
found_number (Some (array ds)) most n is = absurd cc
found_number (Some (object ms)) most n is = absurd cc

costs_then : {A : Type 0} (n : ℕ) (f : A → Option GameRow) (o : Option A) → ((a : A) → o ≡ Some a → CostsIfRead n (f a)) → CostsIfRead n (o >>= f)
costs_then n f None each = tt
costs_then n f (Some a) each = each a refl

fit_costs : (n : ℕ) (row : GameRow) → row_cost row ≤ n → CostsIfRead n (fit_row row)
fit_costs n row few = elim (cases_Bool (is_fit_row row)) [
  | inl fits ↦ rw fits few
  | inr bad ↦ rw bad tt
]

row_from_costs : (d : Data) → CostsIfRead (data_cost d) (row_from d)
row_from_costs d =
    costs_then (data_cost d) (λ game. number_at (codes "quota") MOST_QUOTA d >>= λ quota. fit_row (row_of game quota)) (text_at (codes "game") d) (λ game named.
    costs_then (data_cost d) (λ quota. fit_row (row_of game quota)) (number_at (codes "quota") MOST_QUOTA d) (λ quota counted.
    let few = holds_two (codes "game") (codes "quota") (string game) (number (unsigned quota)) d refl (found_text (get (codes "game") d) game named)
    (found_number (get (codes "quota") d) MOST_QUOTA quota counted) in
    fit_costs (data_cost d) (row_of game quota) (omega (arith, few))))

-- lines

abbrev pub CostsLine : ℕ → Line → Type 0
CostsLine n line.Blank = Unit {0}
CostsLine n (line.Command game command) = Unit {0}
CostsLine n (line.Bad game) = Unit {0}
CostsLine n (line.Stray kind) = Unit {0}
CostsLine n (line.Admit row) = row_cost row ≤ n
CostsLine n line.BadAdmit = Unit {0}
CostsLine n (line.Leave game) = Unit {0}

admit_line_costs : (n : ℕ) (found : Option GameRow) → CostsIfRead n found → CostsLine n (admit_line found)
admit_line_costs n None few = tt
admit_line_costs n (Some row) few = few

line_for_costs : (n : ℕ) (game : List ℕ) (command : Option Command) → CostsLine n (line_for game command)
line_for_costs n game None = tt
line_for_costs n game (Some command) = tt

command_line_costs : (n : ℕ) (version : Version) (d : Data) (name : Option (List ℕ)) → CostsLine n (command_line version d name)
command_line_costs n version d None = tt
command_line_costs n version d (Some game) = line_for_costs n game (command_of version d)

line_in_costs : (version : Version) (d : Data) → CostsLine (data_cost d) (line_in version d)
line_in_costs version d = elim (cases_Bool (does (codes "admit") d && has_stays version)) [
  | inl comes ↦ rw comes (admit_line_costs (data_cost d) (row_from d) (row_from_costs d))
  | inr stays ↦ elim (cases_Bool (does (codes "leave") d && has_stays version)) [
    | inl leaves ↦ rw (stays, leaves) tt
    | inr others ↦ rw (stays, others) (command_line_costs (data_cost d) version d (text_at (codes "game") d))
  ]
]

line_more : (m n : ℕ) (l : Line) → m ≤ n → CostsLine m l → CostsLine n l
line_more m n line.Blank few costs = tt
line_more m n (line.Command game command) few costs = tt
line_more m n (line.Bad game) few costs = tt
line_more m n (line.Stray kind) few costs = tt
line_more m n (line.Admit row) few costs = omega (arith, few, costs)
line_more m n line.BadAdmit few costs = tt
line_more m n (line.Leave game) few costs = tt

abbrev DataCosts : ℕ → Option Data → Type 0
DataCosts n None = Unit {0}
DataCosts n (Some d) = data_cost d ≤ n

read_costs : (n : ℕ) (o : Option Data) → ((d : Data) → o ≡ Some d → data_cost d ≤ n) → DataCosts n o
read_costs n None few = tt
read_costs n (Some d) few = few d refl

value_costs : (text : List ℕ) → DataCosts (length text) (value_of text)
unfolding value_of
value_costs text = elim (cases_Bool (is_utf8 text)) [
  | inl is ↦ rw is (read_costs (length text) (read text) (λ d found. rw found at (read_few text)))
  | inr bad ↦ rw bad tt
]

line_from_costs : (version : Version) (n : ℕ) (d : Option Data) → DataCosts n d → CostsLine n (line_from version d)
line_from_costs version n None few = tt
line_from_costs version n (Some d) few = elim (cases_Bool (is_some (as_object d))) [
  | inl is ↦ rw is (line_more (data_cost d) n (line_in version d) few (line_in_costs version d))
  | inr others ↦ rw others tt
]

pub line_costs : (version : Version) (text : List ℕ) → CostsLine (length text) (line_of version text)
unfolding line_of
line_costs version text = elim (cases_Bool (nat_lt MAX_LINE (length text))) [
  | inl long ↦ rw long tt
  | inr short ↦ elim (cases_Bool (list_all is_space text)) [
    | inl blank ↦ rw (short, blank) tt
    | inr some ↦ rw (short, some) (line_from_costs version (length text) (value_of text) (value_costs text))
  ]
]

-- plans: the text around the rows, one byte less than around one row

abbrev pub plan_cost : Version → ℕ
plan_cost One = 11
plan_cost Two = 23
plan_cost Three = 23
plan_cost Five = 23

lone_length : (version : Version) (row : GameRow) → length (lone_plan_of version row) ≤ plan_cost version + 1 + row_cost row
unfolding escape_byte
lone_length One row =
    let all = ap length (lone_plan_text One row) in
    omega (arith, all, length-append (quoted row.game) (codes ",\"quota\":" ++ (decimal row.quota ++ plan_end One)), length-append (decimal row.quota) (plan_end One))
lone_length Two row =
    let all = ap length (lone_plan_text Two row) in
    omega (arith, all, length-append (quoted row.game) (codes ",\"quota\":" ++ (decimal row.quota ++ plan_end Two)), length-append (decimal row.quota) (plan_end Two))
lone_length Three row =
    let all = ap length (lone_plan_text Three row) in
    omega (arith, all, length-append (quoted row.game) (codes ",\"quota\":" ++ (decimal row.quota ++ plan_end Three)), length-append (decimal row.quota) (plan_end Three))
lone_length Five row =
    let all = ap length (lone_plan_text Five row) in
    omega (arith, all, length-append (quoted row.game) (codes ",\"quota\":" ++ (decimal row.quota ++ plan_end Five)), length-append (decimal row.quota) (plan_end Five))

-- each with its comma
abbrev AreCheap : ℕ → List GameRow → Type 0
AreCheap n rows = All (λ row. 1 + row_cost row ≤ n) rows

abbrev AreCheapIfRead : ℕ → Option (List GameRow) → Type 0
AreCheapIfRead n None = Unit {0}
AreCheapIfRead n (Some rows) = AreCheap n rows

one_more_cheap : (m n k : ℕ) (row : GameRow) (rows : List GameRow) → row_cost row ≤ m → AreCheap n rows → 1 + m + n ≤ k → AreCheap k (row ∷ rows)
one_more_cheap m n k row rows few rest le zero d within = omega (arith, few, le)
one_more_cheap m n k row rows few rest le (suc i) d within = let more = rest i d (omega (arith, within)) in omega (arith, more, le)

next_are_cheap : (m n k : ℕ) (first : Option GameRow) (rest : Option (List GameRow)) → CostsIfRead m first → AreCheapIfRead n rest → 1 + m + n ≤ k
    → AreCheapIfRead k (first >>= λ row. option_map (λ rows. row ∷ rows) rest)
next_are_cheap m n k None rest few others le = tt
next_are_cheap m n k (Some row) None few others le = tt
next_are_cheap m n k (Some row) (Some rows) few others le = one_more_cheap m n k row rows few others le

each_is_cheap : (games : Items) → AreCheapIfRead (list_cost games) (each row_from games)
each_is_cheap no_items = λ k d within. absurd (omega arith)
each_is_cheap (item d ds) = next_are_cheap (data_cost d) (list_cost ds) _ (row_from d) (each row_from ds) (row_from_costs d) (each_is_cheap ds) (omega arith)

-- the plan, whose line has some text besides its rows
abbrev pub IsCheapPlan : ℕ → Result Plan PlanFault → Type 0
IsCheapPlan n (Ok plan) = (plan_cost plan.version ≤ n) × All (λ row. plan_cost plan.version + 1 + row_cost row ≤ n) plan.rows
IsCheapPlan n (Err fault) = Unit {0}

rows_cheap : (m n : ℕ) (version : Version) (rows : List GameRow) → plan_cost version + m ≤ n → AreCheap m rows → IsCheapPlan n (Ok (record { rows = rows; version = version }))
rows_cheap m n version rows le cheap = (omega (arith, le), λ k d within. let few = cheap k d within in omega (arith, le, few))

plan_of_rows_cheap : (m n : ℕ) (version : Version) (rows : Option (List GameRow)) → plan_cost version + m ≤ n → AreCheapIfRead m rows → IsCheapPlan n (plan_of_rows version rows)
plan_of_rows_cheap m n version None le cheap = tt
plan_of_rows_cheap m n version (Some rows) le cheap = elim (cases_Bool (have_distinct_names rows)) [
  | inl distinct ↦ elim (cases_Bool (nat_le (length rows) MOST_ROWS)) [
    | inl few ↦ rw (distinct, few) (rows_cheap m n version rows le cheap)
    | inr many ↦ rw (distinct, many) tt
  ]
  | inr twice ↦ rw twice tt
]

-- the version of a plan costs a byte if it is not left out

abbrev cost_if_read : Option Version → ℕ
cost_if_read None = 0
cost_if_read (Some version) = plan_cost version

most_plan : (version : Version) → plan_cost version ≤ 23
most_plan One = omega arith
most_plan Two = omega arith
most_plan Three = omega arith
most_plan Five = omega arith

found_version : (o : Option Data) (version : Version) → version_of o ≡ Some version → (plan_cost version ≤ 11) ⊎ ((e : Data) × (o ≡ Some e) × (1 ≤ data_cost e))
found_version None version is = inl (omega (arith, ap (λ (o : Option Version). cost_if_read o) is))
found_version (Some null) version is = absurd cc
found_version (Some (boolean b)) version is = absurd cc
found_version (Some (number (unsigned m))) version is = inr (number (unsigned m), refl, omega arith)
found_version (Some (number (negative z))) version is = absurd cc
found_version (Some (number (float x))) version is = absurd cc
found_version (Some (string s)) version is = absurd cc
found_version (Some (array ds)) version is = absurd cc
found_version (Some (object ms)) version is = absurd cc

found_games : (o : Option Data) (games : Items) → (o >>= as_array) ≡ Some games → o ≡ Some (array games)
found_games None games is = absurd cc
found_games (Some null) games is = absurd cc
found_games (Some (boolean b)) games is = absurd cc
found_games (Some (number n)) games is = absurd cc
found_games (Some (string s)) games is = absurd cc
found_games (Some (array ds)) games is = ap (λ (o : Option Items). option_map array o) is
found_games (Some (object ms)) games is = absurd cc

plan_fits : (d : Data) (version : Version) (games : Items) → version_of (get (codes "version") d) ≡ Some version → (get (codes "games") d >>= as_array) ≡ Some games
    → plan_cost version + list_cost games ≤ data_cost d
unfolding escape_byte
plan_fits d version games numbered listed =
    let held = found_games (get (codes "games") d) games listed in
    elim (found_version (get (codes "version") d) version numbered) [
      | inl low ↦ let few = holds_one (codes "games") (array games) d held in omega (arith, few, low)
      | inr some ↦ let few = holds_two (codes "games") (codes "version") (array games) some.0 d refl held some.1 in omega (arith, few, some.2, most_plan version)
    ]

plan_of_games_cheap : (d : Data) (version : Option Version) (games : Option Items) → version_of (get (codes "version") d) ≡ version → (get (codes "games") d >>= as_array) ≡ games
    → IsCheapPlan (data_cost d) (plan_of_games version games)
plan_of_games_cheap d (Some version) (Some games) numbered listed =
    plan_of_rows_cheap (list_cost games) (data_cost d) version (each row_from games) (plan_fits d version games numbered listed) (each_is_cheap games)
plan_of_games_cheap d (Some version) None numbered listed = tt
plan_of_games_cheap d None games numbered listed = tt

cheap_more : (m n : ℕ) (plan : Result Plan PlanFault) → m ≤ n → IsCheapPlan m plan → IsCheapPlan n plan
cheap_more m n (Ok plan) le cheap = (omega (arith, le, cheap.0), λ k d within. let few = cheap.1 k d within in omega (arith, le, few))
cheap_more m n (Err fault) le cheap = tt

plan_from_cheap : (n : ℕ) (d : Option Data) → DataCosts n d → IsCheapPlan n (plan_from d)
plan_from_cheap n None few = tt
plan_from_cheap n (Some d) few = cheap_more (data_cost d) n (plan_from (Some d)) few (plan_of_games_cheap d _ _ refl refl)

pub plan_line_cheap : (text : List ℕ) → IsCheapPlan (length text) (plan_line_of text)
unfolding plan_line_of
plan_line_cheap text = elim (cases_Bool (nat_lt MAX_LINE (length text))) [
  | inl long ↦ rw long tt
  | inr short ↦ rw short (plan_from_cheap (length text) (value_of text) (value_costs text))
]

pub lone_plan_cheap : (n : ℕ) (version : Version) (row : GameRow) → plan_cost version + 1 + row_cost row ≤ n → length (lone_plan_of version row) ≤ n
lone_plan_cheap n version row few = omega (arith, few, lone_length version row)
