-- Lines that are appended to a text buffer with room for them.
use Rattle.std.proofs.Common.{◌≡◌, ℕ, ◌+◌, ◌≤◌, List, ◌++◌, length, ap, ◌∙◌, arith}
use Rattle.bs_json.specs.Text.{Text, blank, put}
use Rattle.bs_json.proofs.Puts.{put_whole}

-- a piece of at most `most` bytes, for which there is room
pub put_within : (text new : Text) (piece : List ℕ) (most : ℕ) → length text.bytes + most ≤ text.room → length piece ≤ most → new ≡ put text piece
    → new.bytes ≡ text.bytes ++ piece
put_within text new piece most room few is = ap (λ (t : Text). t.bytes) (is ∙ put_whole text piece (omega (arith, room, few)))

-- a text that is put into an empty buffer with room for it
pub moved_text : (text new : Text) (bytes : List ℕ) (room more : ℕ) → text ≡ blank room → new ≡ put text bytes → length bytes + more ≤ room
    → (new.bytes ≡ bytes) × (length new.bytes + more ≤ new.room)
moved_text text new bytes room more empty is fits =
    let whole = is ∙ ap (λ t. put t bytes) empty ∙ put_whole (blank room) bytes (omega (arith, fits)) in
    let same : new.bytes ≡ bytes = ap (λ (t : Text). t.bytes) whole in
    let wide : new.room ≡ room = ap (λ (t : Text). t.room) whole in
    (same, omega (arith, fits, wide, ap length same))
