-- A turn of some games, a start of others, and the planes of both.
use Rattle.std.specs.Prelude.{◌≡◌, ℕ, ◌+◌, ◌*◌, ◌≤◌, ◌<◌, Bool, IsFalse, List, length, slice_index, slice_index_or}
use Rattle.bs_board.specs.declared.boards.board.Board.{Board}
use Rattle.bs_batch.specs.declared.layout.LargeGame.{LargeGame}
use Rattle.bs_batch.specs.declared.layout.SmallGame.{SmallGame}
use Rattle.bs_batch.specs.declared.many.ManyOrders.{ManyOrders}
use Rattle.bs_batch.specs.declared.many.ManyStarts.{ManyStarts}
use Rattle.bs_batch.specs.Games.{StepsLarge, StepsSmall, words_of}
use Rattle.bs_batch.specs.Showing.{ShowsPlanes}
use Rattle.bs_batch.specs.Starting.{StartsLarge, StartsSmall, piece_of}

-- the byte of a game; a game without one plays its turn
abbrev pub act_of : ManyStarts → ℕ → ℕ
act_of first number = slice_index_or first.which.now number 0

-- A game plays its turn if its byte is 0, is started if it is 1, and else stays as it is. The result
-- says whether it was started.
pub record AdvancesOne (act : ℕ) (plays starts stays : Type 0) (result : Bool) : Type 0 where
  pub turn : act ≡ 0 → plays × IsFalse result
  pub start : act ≡ 1 → starts
  pub left : 1 < act → stays × IsFalse result

abbrev pub AdvancesSmall : ManyOrders → ManyStarts → ℕ → SmallGame → SmallGame → Bool → Type 0
AdvancesSmall orders first number old new result =
    AdvancesOne (act_of first number) (StepsSmall (piece_of orders.moves.now number orders.moves_each) (words_of orders.words.now number orders.words_each)
    (piece_of orders.hazards.now number orders.hazards_each) (slice_index orders.damages.now number) old new) (StartsSmall first number old new result) (new ≡ old) result

abbrev pub AdvancesLarge : ManyOrders → ManyStarts → ℕ → LargeGame → LargeGame → Bool → Type 0
AdvancesLarge orders first number old new result =
    AdvancesOne (act_of first number) (StepsLarge (piece_of orders.moves.now number orders.moves_each) (words_of orders.words.now number orders.words_each)
    (piece_of orders.hazards.now number orders.hazards_each) (slice_index orders.damages.now number) old new) (StartsLarge first number old new result) (new ≡ old) result

-- The planes of each game that played or was started are in its piece of the list, as after
-- `ShowsEach`; the pieces of the others stay.
pub record ShowsAdvanced {G : Type 0} (Shows : G → Board → Type 0) (first : ManyStarts) (games : List G) (each : ℕ) (old new : List ℕ) : Type 0 where
  pub shown : (k : ℕ) (d : G) (b : Board) → k < length games → act_of first k ≤ 1 → Shows (slice_index_or games k d) b → k * each + each ≤ length new
      → ShowsPlanes b (piece_of new k each)
  pub kept : (k : ℕ) → 1 < act_of first k → piece_of new k each ≡ piece_of old k each
