-- What private contracts add to specs/Replies.
use Rattle.std.specs.Prelude.{◌≡◌, ℕ, codes, decimal, List, [], ◌∷◌, ◌++◌, Some}
use Rattle.serde_json.specs.Data.{string}
use Rattle.serde_json.specs.Sent.{IsTextOf}
use Rattle.serde_json.specs.Written.{compact_text}
use Rattle.serde.specs.Event.{Log}
use Rattle.bs_board.specs.declared.commands.command.Word.{Word}
use Rattle.bs_board.specs.declared.commands.reply.Refusal.{Refusal}
use Rattle.bs_json.specs.Replies.{refusal_code, refusal_text, word_text}

-- The members of a reply from the charge's number on, as a JSON text.
abbrev pub tail_pieces : List ℕ → ℕ → Word → ℕ → List ℕ
tail_pieces game seq word charge =
    decimal charge ++ (codes ",\"do\":" ++ (compact_text (string (word_text word)) ++ (codes ",\"game\":" ++ (compact_text (string game)
    ++ (codes ",\"seq\":" ++ (decimal seq ++ codes "}"))))))

-- Its text before the game's name, and the text behind that.
abbrev pub answer_pieces : Word → ℕ → List ℕ
answer_pieces word charge = decimal charge ++ (codes ",\"do\":" ++ (compact_text (string (word_text word)) ++ codes ",\"game\":\""))

abbrev pub seq_pieces : ℕ → List ℕ
seq_pieces seq = codes "\",\"seq\":" ++ (decimal seq ++ codes "}")

-- the text that is sent to an empty log, then a line feed
abbrev pub IsLineOf : (Log → Log → Type 0) → List ℕ → Type 0
IsLineOf Sends line = (text : List ℕ) × (log : Log) × Sends (Some []) log × IsTextOf log text × (line ≡ text ++ 10 ∷ [])

-- The text of a refusal between the game's name and its number, and the text behind the number.
abbrev pub code_text : Refusal → List ℕ
code_text refusal = codes "\",\"no\":" ++ (compact_text (string (refusal_code refusal)) ++ codes ",\"seq\":")

abbrev pub reason_text : Refusal → List ℕ
reason_text refusal = codes ",\"why\":" ++ (compact_text (string (refusal_text refusal)) ++ codes "}")
