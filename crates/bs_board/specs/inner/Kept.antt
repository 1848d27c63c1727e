-- What private contracts add to specs/records/Kept.
use Rattle.std.specs.Prelude.{ℕ, List, [], None, unwrap_or}
use Rattle.std.specs.Str.{is_utf8}
use Rattle.bs_board.specs.declared.boards.board.Board.{Board}
use Rattle.bs_board.specs.declared.boards.board.Mode.TheVariants.{Standard}
use Rattle.bs_board.specs.inner.Decoder.{read_board}

abbrev no_board : Board
no_board = record { mode = Standard; width = 0; height = 0; turn = 0; min_food = 0; chance = 0; food = []; hazards = None; snakes = [] }

-- the board whose record the bytes are; one without cells if they are no record
unfoldable pub board_in : List ℕ → Board
board_in bytes = unwrap_or (read_board is_utf8 bytes) no_board
