-- Pieces that are written from an index of a slice on.
use Rattle.std.proofs.Common.{◌≡◌, ℕ, ◌+◌, ◌*◌, ◌-◌, ◌≤◌, ◌<◌, Bool, true, List, [], ◌∷◌, ◌++◌, codes, length, get_or, take, drop, Some, None, sym, ap, ap₂, subst, ◌∙◌, append_assoc, length-append, arith, min}
use Rattle.std.specs.Prelude.{decimal, map}
use Rattle.std.proofs.lemmas.List.{length-take, length-take-le, take-take, take_rest}
use Rattle.std.proofs.Math.Seq.{take-append-add, take-append_seam}
use Rattle.serde_json.specs.View.{items_of}
use Rattle.serde_json.specs.Written.{compact_text, items_text}
use Rattle.json.specs.Print.{escape_byte}
use Rattle.serde_json.specs.Data.{no_items, null}
use Rattle.bs_board.specs.declared.records.layout.SnakeBytes.{SnakeBytes}
use Rattle.bs_board.specs.inner.Writing.{Puts}
use Rattle.bs_board.proofs.records.Parts.{puts_both}
use Rattle.bs_json.specs.Boards.{cell_data, cells_data}
use Rattle.bs_json.specs.inner.BoardText.{byte_before, cell_of, cells_of, list_rest, snake_of, snake_pieces}
use Rattle.bs_json.specs.inner.Compact.{are_plain}
use Rattle.bs_json.specs.inner.Writing.{Writes}
use Rattle.bs_json.specs.Text.{Text, put}
use Rattle.bs_json.proofs.CompactLines.{escape_plain}
use Rattle.bs_json.proofs.Puts.{put_whole}
use Rattle.bs_json.proofs.ShownCells.{coordinate_inside, rest_of_item}
use Rattle.bs_json.proofs.ShownSnakes.{living_text}

-- what was written is inside
pub inside : (at next : ℕ) (piece old new : List ℕ) → Puts at piece old new next → at ≤ length old → next ≤ length new
inside at next piece old new p low =
    let whole : min next (length new) ≡ length (take at old) + length piece = sym (length-take next new) ∙ ap length p.front ∙ length-append (take at old) piece in
    let front = length-take-le at old low in
    omega (arith, whole, front, p.place)

-- what is before the piece is kept
pub puts_kept : (at next : ℕ) (piece old new : List ℕ) → Puts at piece old new next → at ≤ length old → take at new ≡ take at old
puts_kept at next piece old new p low =
    let front = length-take-le at old low in
    sym (take-take at next new (omega (arith, p.place)))
    ∙ ap (take at) p.front ∙ ap (λ (k : ℕ). take k (take at old ++ piece)) (sym front) ∙ take-append_seam (take at old) piece

pub is_written : (at next : ℕ) (piece old new : List ℕ) → Puts at piece old new next → at ≤ length old → Writes at piece old new (Some next)
is_written at next piece old new p low = record { front = puts_kept at next piece old new p low; room = p.room; written = p }

-- the first bytes of a piece that was written whole
pub puts_first : (at next count behind : ℕ) (piece old new : List ℕ) → Puts at piece old new next → behind ≡ at + count → count ≤ length piece → at + length piece ≤ length old
    → Puts at (take count piece) old new behind
puts_first at next count behind piece old new p is within fits =
    let front = length-take-le at old (omega (arith, fits)) in
    let short : length (take count piece) ≡ count = length-take-le count piece within in
    record {
      place = omega (arith, is, short);
      front = ap (λ (k : ℕ). take k new) is ∙ sym (take-take (at + count) next new (omega (arith, p.place, within))) ∙ ap (take (at + count)) p.front
          ∙ ap (λ (k : ℕ). take (k + count) (take at old ++ piece)) (sym front) ∙ take-append-add (take at old) piece count;
      room = p.room;
    }

-- ---- a list of cells

-- the cells written so far, the rest of the list, and the room for it
pub record AreWritten (at : ℕ) (old new : List ℕ) (next : ℕ) (later : Bool) (raised : ℕ) (left cells : List ℕ) : Type 0 where
  pub done : List ℕ
  pub written : Puts at done old new next
  pub rest : done ++ list_rest later (items_of (map cell_data (cells_of raised left))) ≡ compact_text (cells_data (cells_of raised cells))
  pub room : next + 8 * length left ≤ at + 8 * length cells

cell_text : (lead raised x y : ℕ) → raised ≤ x → raised ≤ y
    → (lead ∷ (codes "{\"x\":" ++ decimal (x - raised))) ++ (codes ",\"y\":" ++ (decimal (y - raised) ++ codes "}")) ≡ lead ∷ compact_text (cell_data (cell_of raised x y))
unfolding escape_byte
cell_text lead raised x y inside_x inside_y =
    ap₂ (λ (a : List ℕ) (b : List ℕ). (lead ∷ (codes "{\"x\":" ++ a)) ++ (codes ",\"y\":" ++ (b ++ codes "}"))) (sym (coordinate_inside raised x inside_x)) (sym (coordinate_inside raised y inside_y))

-- one cell more
pub one_written : (left cells : List ℕ) (at next end raised lead x y : ℕ) (later : Bool) (old bytes new : List ℕ) → 2 ≤ length left → AreWritten at old bytes next later raised left cells
    → lead ≡ byte_before later → x ≡ get_or left 0 0 → y ≡ get_or left 1 0 → raised ≤ x → raised ≤ y
    → Puts next ((lead ∷ (codes "{\"x\":" ++ decimal (x - raised))) ++ (codes ",\"y\":" ++ (decimal (y - raised) ++ codes "}"))) bytes new end → end ≤ next + 16
    → AreWritten at old new end true raised (take (length left - 2) (drop 2 left)) cells
one_written [] cells at next end raised lead x y later old bytes new many so_far opens first second inside_x inside_y p few = absurd (omega (arith, many))
one_written (a ∷ []) cells at next end raised lead x y later old bytes new many so_far opens first second inside_x inside_y p few = absurd (omega (arith, many))
one_written (a ∷ b ∷ rest) cells at next end raised lead x y later old bytes new many so_far opens first second inside_x inside_y p few =
    let text = byte_before later ∷ compact_text (cell_data (cell_of raised a b)) in
    let items = items_of (map cell_data (cells_of raised rest)) in
    let same : (lead ∷ (codes "{\"x\":" ++ decimal (x - raised))) ++ (codes ",\"y\":" ++ (decimal (y - raised) ++ codes "}")) ≡ text =
    cell_text lead raised x y inside_x inside_y ∙ ap (λ (l : ℕ). l ∷ compact_text (cell_data (cell_of raised x y))) opens
    ∙ ap₂ (λ (p : ℕ) (q : ℕ). byte_before later ∷ compact_text (cell_data (cell_of raised p q))) first second in
    let here : Puts next text bytes new end = subst (λ (t : List ℕ). Puts next t bytes new end) same p in
    let behind = take_rest (a ∷ b ∷ rest) 2 in
    let fewer = ap length behind in
    record {
      done = so_far.done ++ text;
      written = puts_both at next end so_far.done text old bytes new so_far.written here;
      rest = ap (λ (left : List ℕ). (so_far.done ++ text) ++ items_text true (items_of (map cell_data (cells_of raised left)))) behind
          ∙ append_assoc so_far.done text (items_text true items)
          ∙ ap (λ (l : List ℕ). so_far.done ++ l) (sym (rest_of_item later (cell_data (cell_of raised a b)) items)) ∙ so_far.rest;
      room = (let room = so_far.room in omega (arith, fewer, room, few));
    }

-- the end of the list
all_of : (left cells : List ℕ) (at next raised : ℕ) (later : Bool) (old bytes : List ℕ) (so_far : AreWritten at old bytes next later raised left cells) → length left < 2
    → so_far.done ++ list_rest later no_items ≡ compact_text (cells_data (cells_of raised cells))
all_of [] cells at next raised later old bytes so_far few = so_far.rest
all_of (a ∷ []) cells at next raised later old bytes so_far few = so_far.rest
all_of (a ∷ b ∷ rest) cells at next raised later old bytes so_far few = absurd (omega (arith, few))

pub all_written : (left cells : List ℕ) (at next end raised : ℕ) (later : Bool) (old bytes new : List ℕ) → AreWritten at old bytes next later raised left cells → length left < 2
    → Puts next (list_rest later no_items) bytes new end → Puts at (compact_text (cells_data (cells_of raised cells))) old new end
all_written left cells at next end raised later old bytes new so_far few p =
    subst (λ (t : List ℕ). Puts at t old new end) (all_of left cells at next raised later old bytes so_far few)
    (puts_both at next end so_far.done (list_rest later no_items) old bytes new so_far.written p)

-- ---- in a text

pub put_written : (room new items piece : List ℕ) (len missing end : ℕ) (text : Text) → record { bytes = take len room; missing = missing; room = length room } ≡ text
    → len ≤ length room → Puts len piece room new end → items ≡ new → record { bytes = take end items; missing = missing; room = length items } ≡ put text piece
put_written room new items piece len missing end text is low p same =
    let long = length-take-le len room low in
    let within = inside len end piece room new p low in
    let text_is = put_whole (record { bytes = take len room; missing = missing; room = length room }) piece (omega (arith, long, within, p.place, p.room)) in
    ap₂ (λ (b : List ℕ) (r : ℕ). record { bytes = b; missing = missing; room = r }) (ap (take end) same ∙ p.front) (ap length same ∙ p.room)
    ∙ sym text_is ∙ ap (λ t. put t piece) is

-- ---- a snake that is not eliminated

pub living_written : (at i1 i2 i3 i4 i5 i6 i7 : ℕ) (b0 b1 b2 b3 b4 b5 b6 b7 : List ℕ) (snake : SnakeBytes) → snake.cause ≡ None → snake.out ≡ None → are_plain snake.id.now ≡ true
    → Puts at (codes "{\"body\":") b0 b1 i1 → Puts i1 (compact_text (cells_data (cells_of 1 snake.body.now))) b1 b2 i2
    → Puts i2 (codes ",\"by\":null,\"cause\":null,\"health\":") b2 b3 i3 → Puts i3 (decimal snake.health) b3 b4 i4
    → Puts i4 (codes ",\"id\":\"") b4 b5 i5 → Puts i5 snake.id.now b5 b6 i6 → Puts i6 (codes "\",\"out\":null}") b6 b7 i7
    → Puts at (snake_pieces null (snake_of snake)) b0 b7 i7
living_written at i1 i2 i3 i4 i5 i6 i7 b0 b1 b2 b3 b4 b5 b6 b7 snake no_cause not_out plain one two three four five six seven =
    let own = subst (λ (t : List ℕ). Puts i5 t b5 b6 i6) (sym (escape_plain snake.id.now plain)) six in
    let pieces = puts_both _ _ _ _ _ _ _ _ one (puts_both _ _ _ _ _ _ _ _ two (puts_both _ _ _ _ _ _ _ _ three (puts_both _ _ _ _ _ _ _ _ four
    (puts_both _ _ _ _ _ _ _ _ five (puts_both _ _ _ _ _ _ _ _ own seven))))) in
    subst (λ (t : List ℕ). Puts at t b0 b7 i7) (living_text snake no_cause not_out) pieces
