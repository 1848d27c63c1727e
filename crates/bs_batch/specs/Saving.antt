-- The record of a game's board.
use Rattle.std.specs.Prelude.{◌≡◌, ℕ, ◌+◌, ◌≤◌, List, [], ◌∷◌, length, take, None}
use Rattle.bs_board.specs.declared.boards.board.Board.{Board}
use Rattle.bs_board.specs.boards.Legal.{EachSeat, IsLegal}
use Rattle.bs_board.specs.records.Record.{record_of}
use Rattle.bs_batch.specs.declared.layout.Head.{Head}
use Rattle.bs_batch.specs.Loading.{FitsSides}
use Rattle.bs_batch.specs.Shown.{ShowsGame}

-- a game has no ids: the record has the digit of the seat
abbrev pub digit_of : ℕ → List ℕ
digit_of seat = (48 + seat) ∷ []

-- the legal board that a game shows, with the digits of its seats as ids
pub record IsSavedAs (head : Head) (food plane bodies : List ℕ) (b : Board) : Type 0 where
  pub legal : IsLegal b
  pub ids : EachSeat (λ seat s. s.id ≡ digit_of seat) b.snakes
  pub shows : ShowsGame head food plane bodies b

-- a game has no hazards, so its record has none
abbrev pub without_hazards : Board → Board
without_hazards b = record b { hazards = None }

-- the bytes come first in the list, if there is room for all of them
pub record BeginsWithBytes (text into : List ℕ) (n : ℕ) : Type 0 where
  pub count : n ≡ length text
  pub bytes : length text ≤ length into → take (length text) into ≡ text

abbrev pub SavesGame : Head → List ℕ → List ℕ → List ℕ → ℕ → Type 0
SavesGame head food bodies into result = (b : Board) (plane : List ℕ) → IsSavedAs head food plane bodies b → BeginsWithBytes (record_of (without_hazards b)) into result

-- a board with sides up to that many cells
abbrev pub SavesGameOf : ℕ → Head → List ℕ → List ℕ → List ℕ → ℕ → Type 0
SavesGameOf longest head food bodies into result =
    (b : Board) (plane : List ℕ) → FitsSides longest b → IsSavedAs head food plane bodies b → BeginsWithBytes (record_of (without_hazards b)) into result
