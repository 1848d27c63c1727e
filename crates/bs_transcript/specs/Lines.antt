-- The lines of a transcript.
use Rattle.std.specs.Prelude.{ℕ, List, ◌++◌, option_copied}
use Rattle.std.specs.List.{enumerate_from, flat_map}
use Rattle.bs_board.specs.declared.commands.reply.Reply.{Reply}
use Rattle.bs_json.specs.declared.line.Stray.{Stray}
use Rattle.bs_json.specs.Replies.{reply_line_of, final_line_of, stray_line_of}
use Rattle.bs_game.specs.Game.{Game, last_board, game_charge}
use Rattle.bs_transcript.specs.declared.section.Section.{Section}

-- the replies of a game, numbered from `first` on
abbrev pub reply_lines_from : ℕ → List ℕ → List Reply → List ℕ
reply_lines_from first name replies = flat_map (λ reply. reply_line_of name reply.0 reply.1) (enumerate_from first replies)

-- a game's replies, numbered from 1
abbrev pub reply_lines_of : List ℕ → List Reply → List ℕ
reply_lines_of = reply_lines_from 1

-- the final line of a game: its last board and its charge
abbrev pub last_line_of : List ℕ → Game → List ℕ
last_line_of name game = final_line_of name (last_board game) (game_charge game)

abbrev pub stray_lines_of : List (ℕ × Stray) → List ℕ
stray_lines_of = flat_map (λ stray. stray_line_of stray.0 stray.1)

-- The same lines for the values that the calls take.

abbrev pub section_lines_of : Section → List ℕ
section_lines_of section = reply_lines_of section.name.now section.replies.now ++ final_line_of section.name.now (option_copied section.board) section.charge

abbrev pub text_of : List Section → List (ℕ × Stray) → List ℕ
text_of sections strays = flat_map section_lines_of sections ++ stray_lines_of strays
