-- Texts as their bytes.
use Rattle.std.specs.Prelude.{◌≡◌, ℕ, Bool, true, ◌&&◌, List, length, nat_eq, nat_le, All}
use Rattle.std.specs.Str.{is_utf8}
use Rattle.std.specs.Cmp.Lexicographic.{pointwise, slice_cmp}
use Rattle.bs_board.specs.declared.limits.TheConstants.{LONGEST_ID}
use Rattle.std.specs.Ordering.{nat_cmp, is_lt}

abbrev pub is_same_text : List ℕ → List ℕ → Bool
is_same_text = pointwise nat_eq

-- in the order of their bytes
abbrev pub is_text_below : List ℕ → List ℕ → Bool
is_text_below a b = is_lt (slice_cmp nat_cmp a b)

-- 1 to 64 bytes of UTF-8
abbrev pub is_short_text : List ℕ → Bool
is_short_text text = is_utf8 text && nat_le 1 (length text) && nat_le (length text) LONGEST_ID

-- the id of each entry is a text, of any length
abbrev pub IdsAreTexts : {X : Type 0} → List (List ℕ × X) → Type 0
IdsAreTexts = All (λ entry. is_utf8 entry.0 ≡ true)
