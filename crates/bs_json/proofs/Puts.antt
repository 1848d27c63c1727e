-- Pieces that are appended one after the other.
use Rattle.std.proofs.Common.{◌≡◌, ℕ, suc, ◌+◌, ◌-◌, ◌^◌, ◌≤◌, ◌<◌, List, [], ◌∷◌, ◌++◌, length, take, drop, min, refl, sym, ap, ap₂, ◌∙◌, append_assoc, length-append, take-append-drop, arith}
use Rattle.std.proofs.lemmas.Bool.{le-ltb, lt-ltb}
use Rattle.std.proofs.lemmas.List.{append-nil, length-take-le, take_all}
use Rattle.std.proofs.lemmas.List.Edits.{length-paste, take-paste}
use Rattle.std.proofs.Math.Seq.{paste}
use Rattle.bs_json.specs.Text.{Text, blank, put, put_byte}

pub put_none : (text : Text) → put text [] ≡ text
unfolding put
put_none text = refl

pub put_put : (text : Text) (a b : List ℕ) → put (put text a) b ≡ put text (a ++ b)
unfolding put
put_put text [] b = refl
put_put text (byte ∷ a) b = put_put (put_byte text byte) a b

byte_stored : (text : Text) (byte : ℕ) → length text.bytes < text.room → put_byte text byte ≡ record { bytes = text.bytes ++ byte ∷ []; missing = text.missing; room = text.room }
byte_stored text byte fits = rw (lt-ltb (length text.bytes) text.room fits) refl

byte_counted : (text : Text) (byte : ℕ) → text.room ≤ length text.bytes
    → put_byte text byte ≡ record { bytes = text.bytes; missing = min (text.missing + 1) (2 ^ 64 - 1); room = text.room }
byte_counted text byte full = rw (le-ltb (length text.bytes) text.room full) refl

-- a piece for which there is room
pub put_whole : (text : Text) (piece : List ℕ) → length text.bytes + length piece ≤ text.room
    → put text piece ≡ record { bytes = text.bytes ++ piece; missing = text.missing; room = text.room }
unfolding put
put_whole text [] fits = rw (append-nil text.bytes) refl
put_whole text (byte ∷ piece) fits =
    let longer : length (text.bytes ++ byte ∷ []) ≡ length text.bytes + 1 = length-append text.bytes (byte ∷ []) in
    let more : Text = record { bytes = text.bytes ++ byte ∷ []; missing = text.missing; room = text.room } in
    ap (λ t. put t piece) (byte_stored text byte (omega (arith, fits)))
    ∙ put_whole more piece (omega (arith, fits, longer))
    ∙ ap (λ bytes. record { bytes = bytes; missing = text.missing; room = text.room }) (append_assoc text.bytes (byte ∷ []) piece)

-- a piece for which there is room, written behind the stored bytes
pub put_over : (room written piece : List ℕ) (len missing : ℕ) (text : Text) → record { bytes = take len room; missing = missing; room = length room } ≡ text
    → written ≡ paste room len piece (length piece) → len + length piece ≤ length room
    → record { bytes = take (len + length piece) written; missing = missing; room = length written } ≡ put text piece
put_over room written piece len missing text is over fits =
    let long : length (take len room) ≡ len = length-take-le len room (omega arith) in
    let front : take (len + length piece) written ≡ take len room ++ piece =
    ap (take (len + length piece)) over ∙ take-paste room len piece (length piece) (omega arith) (omega arith)
    ∙ ap (λ (l : List ℕ). take len room ++ l) (take_all (length piece) piece (omega arith)) in
    let same : length written ≡ length room = ap length over ∙ length-paste room len piece (length piece) fits (omega arith) in
    let text_is = put_whole (record { bytes = take len room; missing = missing; room = length room }) piece (omega (arith, long, fits)) in
    ap₂ (λ (b : List ℕ) (r : ℕ). record { bytes = b; missing = missing; room = r }) front same ∙ sym text_is ∙ ap (λ t. put t piece) is

-- a piece for which there is no room at all
pub put_full : (text : Text) (piece : List ℕ) → text.room ≤ length text.bytes → text.missing < 2 ^ 64
    → put text piece ≡ record { bytes = text.bytes; missing = min (text.missing + length piece) (2 ^ 64 - 1); room = text.room }
unfolding put
put_full text [] full few =
    let same : text.missing ≡ min (text.missing + 0) (2 ^ 64 - 1) = omega (arith, few) in
    ap (λ n. record { bytes = text.bytes; missing = n; room = text.room }) same
put_full text (byte ∷ piece) full few =
    let more : Text = record { bytes = text.bytes; missing = min (text.missing + 1) (2 ^ 64 - 1); room = text.room } in
    let same : min (min (text.missing + 1) (2 ^ 64 - 1) + length piece) (2 ^ 64 - 1) ≡ min (text.missing + suc (length piece)) (2 ^ 64 - 1) = omega arith in
    ap (λ t. put t piece) (byte_counted text byte full)
    ∙ put_full more piece full (omega arith)
    ∙ ap (λ n. record { bytes = text.bytes; missing = n; room = text.room }) same

-- without room the bytes are counted
pub put_counted : (piece : List ℕ) → (put (blank 0) piece).missing ≡ min (length piece) (2 ^ 64 - 1)
put_counted piece =
    let plain : min (0 + length piece) (2 ^ 64 - 1) ≡ min (length piece) (2 ^ 64 - 1) = omega arith in
    ap (λ (t : Text). t.missing) (put_full (blank 0) piece (omega arith) (omega arith)) ∙ plain

-- a piece that was counted first, and then put into a buffer of that capacity
pub put_measured : (piece : List ℕ) (counted line : Text) (room : ℕ) → counted ≡ put (blank 0) piece → room ≡ counted.missing → room < 2 ^ 63
    → line ≡ put (blank room) piece → line.bytes ≡ piece
put_measured piece counted line room counts is few puts =
    let long : room ≡ min (length piece) (2 ^ 64 - 1) = is ∙ ap (λ (t : Text). t.missing) counts ∙ put_counted piece in
    let fits : 0 + length piece ≤ room = omega (arith, long, few) in
    ap (λ (t : Text). t.bytes) (puts ∙ put_whole (blank room) piece fits)

-- a piece whose first bytes fill the buffer
pub put_part : (text middle : Text) (piece front rest : List ℕ) (left missing : ℕ) → front ≡ take left piece → rest ≡ drop left piece → left ≤ length piece
    → left + length text.bytes ≡ text.room → middle ≡ put text front → middle.missing < 2 ^ 64 → missing ≡ min (middle.missing + length rest) (2 ^ 64 - 1)
    → record { bytes = middle.bytes; missing = missing; room = middle.room } ≡ put text piece
put_part text middle piece front rest left missing front_is rest_is within fills is few many =
    let long : length front ≡ left = ap length front_is ∙ length-take-le left piece within in
    let whole = is ∙ put_whole text front (omega (arith, fills, long)) in
    let longer = ap (λ (t : Text). length t.bytes) whole ∙ length-append text.bytes front in
    let room = ap (λ (t : Text). t.room) whole in
    ap (λ n. record { bytes = middle.bytes; missing = n; room = middle.room }) many
    ∙ sym (put_full middle rest (omega (arith, fills, long, longer, room)) few)
    ∙ ap (λ t. put t rest) is ∙ put_put text front rest
    ∙ ap (put text) (ap₂ (λ a b. a ++ b) front_is rest_is ∙ take-append-drop left piece)

-- ---- pieces one after the other

pub next : (t0 t1 t2 : Text) (a b : List ℕ) → t1 ≡ put t0 a → t2 ≡ put t1 b → t2 ≡ put t0 (a ++ b)
next t0 t1 t2 a b one two = two ∙ ap (λ t. put t b) one ∙ put_put t0 a b

pub put_more : (t0 t1 : Text) (a b : List ℕ) → t1 ≡ put t0 a → put t1 b ≡ put t0 (a ++ b)
put_more t0 t1 a b one = ap (λ t. put t b) one ∙ put_put t0 a b

-- one piece of those that are left
pub put_step : (t0 t1 total : Text) (a b : List ℕ) → t1 ≡ put t0 a → put t0 (a ++ b) ≡ total → put t1 b ≡ total
put_step t0 t1 total a b one so_far = put_more t0 t1 a b one ∙ so_far
