-- The games of a plan, and when it is within its limits.
use Rattle.std.specs.Prelude.{◌≡◌, ℕ, ◌≤◌, Bool, true, ◌&&◌, List, length, nat_le, All}
use Rattle.bs_board.specs.declared.limits.TheConstants.{LEAST_QUOTA, MOST_QUOTA, MOST_ROWS}
use Rattle.bs_board.specs.Distinct.{are_distinct}
use Rattle.bs_board.specs.Texts.{is_same_text, is_short_text}

pub record GameRow : Type 0 where
  pub game : List ℕ
  pub quota : ℕ

abbrev pub row_of : List ℕ → ℕ → GameRow
row_of game quota = record { game = game; quota = quota }

abbrev pub is_fit_row : GameRow → Bool
is_fit_row row = is_short_text row.game && nat_le LEAST_QUOTA row.quota && nat_le row.quota MOST_QUOTA

abbrev pub have_distinct_names : List GameRow → Bool
have_distinct_names = are_distinct (λ r s. is_same_text r.game s.game)

-- a plan within its limits
pub record IsFitPlan (rows : List GameRow) : Type 0 where
  pub rows_fit : All (λ row. is_fit_row row ≡ true) rows
  pub distinct : have_distinct_names rows ≡ true
  pub few : length rows ≤ MOST_ROWS
