-- The newest board of a stay.
use Rattle.std.specs.Prelude.{Option, Some, None}
use Rattle.bs_board.specs.declared.boards.board.Board.{Board}
use Rattle.bs_board.specs.inner.Kept.{board_in}
use Rattle.bs_game.specs.declared.reply.Effect.{Effect}
use Rattle.bs_game.specs.declared.reply.Effect.TheVariants as effect

-- the newest board after an effect
abbrev pub last_after : Effect → Option Board → Option Board
last_after effect.Keep last = last
last_after (effect.Add bytes) last = Some (board_in bytes)
last_after effect.Trim last = last
last_after effect.Drop last = None
