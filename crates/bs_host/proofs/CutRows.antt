-- A plan that was read is within its limits, and so is each row that was read.
use Rattle.std.proofs.Common.{◌≡◌, ℕ, true, refl, nat_le, nat_lt, List, ◌∷◌, Option, Some, None, Result, Ok, Err, length, option_map, codes, zero, suc, All, inl, inr, arith}
use Rattle.std.proofs.lemmas.Bool.{cases_Bool, leb-true}
use Rattle.serde_json.specs.Data.{Data, Items, no_items, item}
use Rattle.serde_json.specs.Find.{get, as_array}
use Rattle.bs_board.specs.declared.limits.TheConstants.{MOST_QUOTA, MOST_ROWS}
use Rattle.bs_board.specs.declared.plans.plan.Plan.{Plan}
use Rattle.bs_board.specs.declared.plans.version.Version.{Version}
use Rattle.bs_board.specs.plans.Plan.{GameRow, row_of, is_fit_row, have_distinct_names, IsFitPlan}
use Rattle.bs_json.specs.declared.limits.TheConstants.{MAX_LINE}
use Rattle.bs_json.specs.declared.plan.PlanFault.{PlanFault}
use Rattle.bs_json.specs.PlanLine.{fit_row, row_from, plan_of_rows, plan_of_games, plan_from, plan_line_of, version_of}
use Rattle.bs_json.specs.Values.{◌>>=◌, each, number_at, text_at, value_of}
use Rattle.bs_host.specs.File.{plan_of, rows_in, rows_of}

abbrev AreFit : List GameRow → Type 0
AreFit rows = All (λ row. is_fit_row row ≡ true) rows

-- the row is within its limits, if it was read
abbrev pub IsFitIfRead : Option GameRow → Type 0
IsFitIfRead None = Unit {0}
IsFitIfRead (Some row) = is_fit_row row ≡ true

abbrev AreFitIfRead : Option (List GameRow) → Type 0
AreFitIfRead None = Unit {0}
AreFitIfRead (Some rows) = AreFit rows

abbrev IsFitPlanIfRead : Result Plan PlanFault → Type 0
IsFitPlanIfRead (Ok plan) = IsFitPlan plan.rows
IsFitPlanIfRead (Err fault) = Unit {0}

bound_is_fit : {A : Type 0} (o : Option A) (f : A → Option GameRow) → ((a : A) → IsFitIfRead (f a)) → IsFitIfRead (o >>= f)
bound_is_fit None f fits = tt
bound_is_fit (Some a) f fits = fits a

fit_row_is_fit : (row : GameRow) → IsFitIfRead (fit_row row)
fit_row_is_fit row = elim (cases_Bool (is_fit_row row)) [
  | inl fits ↦ rw fits fits
  | inr bad ↦ rw bad tt
]

pub row_from_is_fit : (d : Data) → IsFitIfRead (row_from d)
row_from_is_fit d =
    bound_is_fit (text_at (codes "game") d) (λ game. number_at (codes "quota") MOST_QUOTA d >>= λ quota. fit_row (row_of game quota)) (λ game.
    bound_is_fit (number_at (codes "quota") MOST_QUOTA d) (λ quota. fit_row (row_of game quota)) (λ quota. fit_row_is_fit (row_of game quota)))

one_more : (row : GameRow) (rows : List GameRow) → is_fit_row row ≡ true → AreFit rows → AreFit (row ∷ rows)
one_more row rows fit rest zero d within = fit
one_more row rows fit rest (suc k) d within = rest k d (omega arith)

next_are_fit : (first : Option GameRow) (rest : Option (List GameRow)) → IsFitIfRead first → AreFitIfRead rest
    → AreFitIfRead (first >>= λ row. option_map (λ rows. row ∷ rows) rest)
next_are_fit None rest fit others = tt
next_are_fit (Some row) None fit others = tt
next_are_fit (Some row) (Some rows) fit others = one_more row rows fit others

each_is_fit : (games : Items) → AreFitIfRead (each row_from games)
each_is_fit no_items = λ k d within. absurd (omega arith)
each_is_fit (item d ds) = next_are_fit (row_from d) (each row_from ds) (row_from_is_fit d) (each_is_fit ds)

plan_of_rows_is_fit : (version : Version) (rows : Option (List GameRow)) → AreFitIfRead rows → IsFitPlanIfRead (plan_of_rows version rows)
plan_of_rows_is_fit version None fit = tt
plan_of_rows_is_fit version (Some rows) fit = elim (cases_Bool (have_distinct_names rows)) [
  | inl distinct ↦ elim (cases_Bool (nat_le (length rows) MOST_ROWS)) [
    | inl few ↦ rw (distinct, few) (record { rows_fit = fit; distinct = distinct; few = leb-true (length rows) MOST_ROWS few })
    | inr many ↦ rw (distinct, many) tt
  ]
  | inr twice ↦ rw twice tt
]

plan_of_games_is_fit : (version : Option Version) (games : Option Items) → IsFitPlanIfRead (plan_of_games version games)
plan_of_games_is_fit (Some version) (Some games) = plan_of_rows_is_fit version (each row_from games) (each_is_fit games)
plan_of_games_is_fit (Some version) None = tt
plan_of_games_is_fit None games = tt

plan_from_is_fit : (d : Option Data) → IsFitPlanIfRead (plan_from d)
plan_from_is_fit None = tt
plan_from_is_fit (Some d) = plan_of_games_is_fit (version_of (get (codes "version") d)) (get (codes "games") d >>= as_array)

plan_line_is_fit : (line : List ℕ) → IsFitPlanIfRead (plan_line_of line)
unfolding plan_line_of
plan_line_is_fit line = elim (cases_Bool (nat_lt MAX_LINE (length line))) [
  | inl long ↦ rw long tt
  | inr short ↦ rw short (plan_from_is_fit (value_of line))
]

rows_in_are_fit : (plan : Result Plan PlanFault) → IsFitPlanIfRead plan → IsFitPlan (rows_in plan)
rows_in_are_fit (Ok plan) fit = fit
rows_in_are_fit (Err fault) fit = record { rows_fit = λ k d within. absurd (omega arith); distinct = refl; few = omega arith }

pub file_is_fit : (file : List ℕ) → IsFitPlan (rows_of file)
file_is_fit file = rows_in_are_fit (plan_of file) (plan_line_is_fit _)
