-- The row of a name in a plan with distinct names.
use Rattle.std.proofs.Common.{◌≡◌, ℕ, ◌<◌, true, List, [], Some, length, refl}
use Rattle.std.specs.Prelude.{Option, slice_index_or}
use Rattle.std.specs.List.{position}
use Rattle.std.proofs.lemmas.Bool.{lt-ltb}
use Rattle.std.proofs.lemmas.Slice.Eq.{bytes_eq-Decides}
use Rattle.bs_board.specs.plans.Plan.{GameRow, IsFitPlan, row_of}
use Rattle.bs_board.specs.Texts.{is_same_text}
use Rattle.bs_registry.proofs.NamedOnce.{only_first}

-- the row of that name, if there is one
abbrev pub row_named : List GameRow → List ℕ → Option ℕ
row_named rows game = position (λ row. is_same_text game row.game) rows

-- that row has that name
pub record HasName (rows : List GameRow) (row : ℕ) (game : List ℕ) : Type 0 where
  pub within : row < length rows
  pub same : is_same_text game (slice_index_or rows row (row_of [] 0)).game ≡ true

same_names : (name : List ℕ) (r s : GameRow) → is_same_text name r.game ≡ true → is_same_text name s.game ≡ true → is_same_text r.game s.game ≡ true
same_names name r s one two =
    let first : name ≡ r.game = (bytes_eq-Decides name r.game).0 one in
    rw first at two

pub only_row_named : (rows : List GameRow) (row : ℕ) (name : List ℕ) → IsFitPlan rows → HasName rows row name → row_named rows name ≡ Some row
only_row_named rows row name fit has =
    let at = only_first (λ r s. is_same_text r.game s.game) (λ r. is_same_text name r.game) (same_names name) rows row (row_of [] 0) fit.distinct has.within has.same in
    let inside = lt-ltb row (length rows) has.within in
    rw (at, inside) refl
