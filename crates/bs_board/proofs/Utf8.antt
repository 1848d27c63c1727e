-- Bytes that are text.
use Rattle.std.proofs.Common.{◌≡◌, ℕ, ◌≤◌, true, false, ◌&&◌, List, length, inl, inr}
use Rattle.std.proofs.lemmas.Bool.{cases_Bool, leb-true}
use Rattle.std.specs.Prelude.{nat_le}
use Rattle.bs_board.specs.Texts.{is_short_text}
use Rattle.bs_board.proofs.Chains.{and_both}
use Rattle.std.specs.Str.{IsUtf8, is_utf8}
use Rattle.std.proofs.lemmas.Str.{is_utf8-from_IsUtf8, IsUtf8-from_is_utf8}

pub is_text : (bytes : List ℕ) → IsUtf8 bytes → is_utf8 bytes ≡ true
is_text bytes = is_utf8-from_IsUtf8 bytes

pub is_no_text : (bytes : List ℕ) → (IsUtf8 bytes → ⊥) → is_utf8 bytes ≡ false
is_no_text bytes none =
    elim (cases_Bool (is_utf8 bytes)) [
      | inl on ↦ absurd (none (IsUtf8-from_is_utf8 bytes on))
      | inr off ↦ off
    ]

pub short_text : (text : List ℕ) → is_short_text text ≡ true → length text ≤ 64
short_text text short = leb-true (length text) 64 (and_both (is_utf8 text && nat_le 1 (length text)) (nat_le (length text) 64) short).1
