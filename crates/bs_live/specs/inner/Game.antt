-- What private contracts add to specs/Game.
use Rattle.std.specs.Prelude.{◌≡◌, ℕ, ◌-◌, ◌≤◌, List, [], length, map, Option, IfSome, slice_get}
use Rattle.bs_board.specs.declared.commands.command.Command.{Command}
use Rattle.bs_board.specs.declared.limits.TheConstants.{MOST_QUOTA}
use Rattle.bs_board.specs.inner.Kept.{board_in}
use Rattle.bs_game.specs.Answer.{answer_to}
use Rattle.bs_game.specs.inner.Recorded.{IsRecorded}
use Rattle.bs_heap.specs.Charge.{blocks_for}
use Rattle.bs_heap.specs.HeldBlocks.{IsKeptIn}
use Rattle.bs_pool.specs.Ledger.{reserved, size}
use Rattle.bs_live.specs.declared.kept_game.KeptGame.TheInside.{Inside}
use Rattle.bs_live.specs.Game.{KeptBoards}

-- no game runs
abbrev pub no_game : ℕ → ℕ → KeptBoards
no_game quota blocks = record { game = []; quota = quota; blocks = blocks }

-- after a command, as the definition of a game answers it
abbrev pub game_after : Command → KeptBoards → KeptBoards
game_after command kept = record kept { game = (answer_to kept.quota kept.game command).game }

-- the value of a game, from its fields
abbrev pub kept_in : {cap : ℕ} → Inside cap → KeptBoards
kept_in k = record { game = map board_in k.heap.records; quota = k.quota; blocks = size k.pool }

-- the newest of the records, if there is one
abbrev pub newest_record : List (List ℕ) → Option (List ℕ)
newest_record records = slice_get records (length records - 1)

-- its invariant: the records are those of a game; the blocks of the records are the tag's, which
-- has reserved as many as the quota allows; the newest record is kept apart
pub record IsKept (cap : ℕ) {most : ℕ} (k : Inside most) : Type 0 where
  pub small : k.quota ≤ MOST_QUOTA
  pub quota : k.heap.quota ≡ k.quota
  pub recorded : IsRecorded (map board_in k.heap.records) k.heap.records
  pub kept : IsKeptIn k.heap k.pool
  pub reserved : blocks_for cap k.quota ≤ reserved k.heap.tag k.pool
  pub newest : k.last ≡ newest_record k.heap.records
