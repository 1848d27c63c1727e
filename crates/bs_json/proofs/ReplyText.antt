-- The pieces of replies are the texts of their data.
use Rattle.std.proofs.Common.{◌≡◌, ℕ, List, [], ◌∷◌, ◌++◌, codes, Option, refl, sym, ap, ◌∙◌, append_assoc}
use Rattle.std.specs.Prelude.{decimal}
use Rattle.json.specs.Print.{escape, escape_byte}
use Rattle.serde_json.specs.Data.{string}
use Rattle.serde_json.specs.Written.{compact_text}
use Rattle.bs_board.specs.declared.boards.board.Board.{Board}
use Rattle.bs_board.specs.declared.commands.command.Word.{Word}
use Rattle.bs_board.specs.declared.commands.reply.Refusal.{Refusal}
use Rattle.bs_board.specs.declared.commands.reply.Reply.TheVariants.{Shown, Plain, Refused}
use Rattle.bs_json.specs.declared.line.Stray.{Stray}
use Rattle.bs_json.specs.Boards.{board_data}
use Rattle.bs_json.specs.Replies.{final_data, last_data, refusal_code, refusal_text, reply_data, stray_code, stray_data, stray_text, word_text}
use Rattle.bs_json.specs.inner.Replies.{answer_pieces, code_text, reason_text, seq_pieces, tail_pieces}

-- a reply's members from the charge's number on, by the pieces that are appended
pub tail_is : (game : List ℕ) (seq : ℕ) (word : Word) (charge : ℕ) → answer_pieces word charge ++ (escape game ++ seq_pieces seq) ≡ tail_pieces game seq word charge
unfolding escape_byte
tail_is game seq word charge =
    let own = compact_text (string (word_text word)) in
    let name = codes ",\"game\":\"" in
    let rest = escape game ++ seq_pieces seq in
    append_assoc (decimal charge) (codes ",\"do\":" ++ (own ++ name)) rest
    ∙ ap (λ (t : List ℕ). decimal charge ++ (codes ",\"do\":" ++ t)) (append_assoc own name rest)
    ∙ ap (λ (t : List ℕ). decimal charge ++ (codes ",\"do\":" ++ (own ++ (name ++ t)))) (sym (append_assoc (escape game) (34 ∷ []) (codes ",\"seq\":" ++ (decimal seq ++ codes "}"))))

pub shown_is : (game : List ℕ) (seq : ℕ) (word : Word) (board : Board) (charge : ℕ)
    → codes "{\"board\":" ++ (compact_text (board_data board) ++ (codes ",\"charge\":" ++ tail_pieces game seq word charge)) ≡ compact_text (reply_data game seq (Shown word board charge))
unfolding escape_byte reply_data
shown_is game seq word board charge = refl

pub plain_is : (game : List ℕ) (seq : ℕ) (word : Word) (charge : ℕ) → codes "{\"charge\":" ++ tail_pieces game seq word charge ≡ compact_text (reply_data game seq (Plain word charge))
unfolding escape_byte reply_data
plain_is game seq word charge = refl

pub refused_is : (game : List ℕ) (seq : ℕ) (refusal : Refusal)
    → codes "{\"game\":" ++ (compact_text (string game) ++ (codes ",\"no\":" ++ (compact_text (string (refusal_code refusal)) ++ (codes ",\"seq\":" ++ (decimal seq
    ++ (codes ",\"why\":" ++ (compact_text (string (refusal_text refusal)) ++ codes "}"))))))) ≡ compact_text (reply_data game seq (Refused refusal))
unfolding escape_byte reply_data
refused_is game seq refusal = refl

regroup_refused : (lead game member code next seq tail : List ℕ) → (lead ++ codes "\"") ++ (game ++ ((codes "\"" ++ (member ++ (code ++ next))) ++ (seq ++ tail)))
    ≡ lead ++ ((codes "\"" ++ (game ++ codes "\"")) ++ (member ++ (code ++ (next ++ (seq ++ tail)))))
regroup_refused lead game member code next seq tail = simp append_assoc

-- in the pieces in which it is appended
pub refused_pieces : (game : List ℕ) (seq : ℕ) (refusal : Refusal)
    → codes "{\"game\":\"" ++ (escape game ++ (code_text refusal ++ (decimal seq ++ reason_text refusal))) ≡ compact_text (reply_data game seq (Refused refusal))
refused_pieces game seq refusal =
    regroup_refused (codes "{\"game\":") (escape game) (codes ",\"no\":") (compact_text (string (refusal_code refusal))) (codes ",\"seq\":") (decimal seq) (reason_text refusal)
    ∙ refused_is game seq refusal

pub final_is : (game : List ℕ) (board : Option Board) (charge : ℕ)
    → codes "{\"board\":" ++ (compact_text (last_data board) ++ (codes ",\"charge\":" ++ (decimal charge ++ (codes ",\"final\":true,\"game\":" ++ (compact_text (string game) ++ codes "}")))))
    ≡ compact_text (final_data game board charge)
unfolding escape_byte final_data
final_is game board charge = refl

pub stray_is : (line : ℕ) (stray : Stray)
    → codes "{\"line\":" ++ (decimal line ++ (codes ",\"no\":" ++ (compact_text (string (stray_code stray)) ++ (codes ",\"why\":" ++ (compact_text (string (stray_text stray)) ++ codes "}")))))
    ≡ compact_text (stray_data line stray)
unfolding escape_byte stray_data
stray_is line stray = refl
