-- What a call that makes a game of a record says.
use Rattle.std.specs.Prelude.{◌≡◌, ◌⊎◌, ℕ, List, is_none, None, true}
use Rattle.bs_board.specs.declared.boards.board.Board.{Board}
use Rattle.bs_batch.specs.declared.layout.Head.{Head}
use Rattle.bs_batch.specs.Lasting.{IsLasting}
use Rattle.bs_batch.specs.Loading.{cleared, misfit_of}
use Rattle.bs_batch.specs.Shown.{ShowsGame}
use Rattle.bs_calls.specs.Records.{IsNoRecord, IsRecordOf}
use Rattle.arena_c.specs.Status.{status_of_misfit}

-- the record of a board that fits: the memory shows it, and each later turn of it is exact
pub record IsInGame (fits : Board → Type 0) (bytes : List ℕ) (head : Head) (food plane bodies : List ℕ) (b : Board) : Type 0 where
  pub record_is : IsRecordOf bytes b
  pub fitting : fits b
  pub shows : ShowsGame head food plane bodies b
  pub plain : b.hazards ≡ None
  pub lasts : IsLasting b

-- the record of a board that has hazards or does not fit: the game is over, without a snake
pub record IsUnfit (fits : Board → Type 0) (bytes : List ℕ) (status : ℕ) (head : Head) (b : Board) : Type 0 where
  pub record_is : IsRecordOf bytes b
  pub unfit : is_none b.hazards ≡ true → fits b → ⊥
  pub misfit : status ≡ status_of_misfit (misfit_of b)
  pub none : head ≡ cleared head.settings

-- Which status a load has, and what it leaves: `same` says that nothing has changed. There is no
-- other status.
abbrev pub IsLoadStatus : (Board → Type 0) → List ℕ → ℕ → Type 0 → Head → List ℕ → List ℕ → List ℕ → Type 0
IsLoadStatus fits bytes status same head food plane bodies =
    ((status ≡ 0) × ((b : Board) × IsInGame fits bytes head food plane bodies b))
    ⊎ (((b : Board) × IsUnfit fits bytes status head b)
    ⊎ (((status ≡ 1) × IsNoRecord bytes × same)
    ⊎ ((status ≡ 5) × same)))
