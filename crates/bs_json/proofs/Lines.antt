-- The line of a value that has no float is the text of that value.
use Rattle.std.proofs.Common.{◌≡◌, ℕ, List, [], ◌∷◌, ◌++◌, false, Option, Result, Ok, Err, Vec, Global, IfOk, ap, subst, ◌∙◌}
use Rattle.serde_json.specs.Data.{Data}
use Rattle.serde_json.specs.Events.{SendsValue}
use Rattle.serde_json.specs.Written.{has_float}
use Rattle.serde_json.proofs.FreeTexts.{text_of_value}
use Rattle.bs_board.specs.declared.boards.board.Board.{Board}
use Rattle.bs_json.specs.Replies.{final_data, final_line_of, text_line}
use Rattle.bs_json.specs.inner.Replies.{IsLineOf}
use Rattle.bs_json.proofs.Floats.{final_has_no_float}

text_of_line : (d : Data) (line : List ℕ) → has_float d ≡ false → IsLineOf (SendsValue d) line → line ≡ text_line d
text_of_line d line whole sent = sent.4 ∙ ap (λ text. text ++ 10 ∷ []) (text_of_value d sent.1 sent.0 sent.2 sent.3 whole)

pub final_text : {E : Type 0} (d : Data) (game : List ℕ) (board : Option Board) (charge : ℕ) (line : Result (Vec ℕ Global) E)
    → d ≡ final_data game board charge → IfOk line (λ l. IsLineOf (SendsValue d) l.items) → IfOk line (λ l. l.items ≡ final_line_of game board charge)
final_text d game board charge (Ok line) is sent =
    text_of_line (final_data game board charge) line.items (final_has_no_float game board charge) (subst (λ v. IsLineOf (SendsValue v) line.items) is sent)
final_text d game board charge (Err e) is sent = tt
