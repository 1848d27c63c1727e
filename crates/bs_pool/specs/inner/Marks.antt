-- The free numbers of a pool as words of 64 bits.
use Rattle.std.specs.Prelude.{◌≡◌, ◌≢◌, ℕ, ◌+◌, ◌/◌, ◌%◌, ◌<◌, Bool, cond, List, length, slice_index_or, Option, Some, MatchOption}
use Rattle.std.specs.Int.{bit_at}
use Rattle.bs_pool.specs.Ledger.{is_unowned}

-- the bit of number i; 0 after the last word
abbrev pub mark_of : List ℕ → ℕ → ℕ
mark_of words i = bit_at (slice_index_or words (i / 64) 0) (i % 64)

-- the bit of i is set, and no lower one
abbrev pub IsFirstMark : List ℕ → ℕ → Type 0
IsFirstMark words i = (mark_of words i ≡ 1) × ((k : ℕ) → k < i → mark_of words k ≡ 0)

-- None if no bit is set
abbrev pub FindsMark : List ℕ → Option ℕ → Type 0
FindsMark words answer = MatchOption answer ((i : ℕ) → mark_of words i ≡ 0) (IsFirstMark words)

-- the bit of the number is b, and each other is unchanged
abbrev pub SetsMark : List ℕ → ℕ → ℕ → List ℕ → Type 0
SetsMark old number b new =
    (length new ≡ length old)
    × (mark_of new number ≡ b)
    × ((i : ℕ) → i ≢ number → mark_of new i ≡ mark_of old i)

-- the number exists and is free
abbrev pub is_free_at : List (Option ℕ) → ℕ → Bool
is_free_at owners i = is_unowned (slice_index_or owners i (Some 0))

-- the bits of the free numbers are set, and no others
pub record MarksFree (words : List ℕ) (owners : List (Option ℕ)) : Type 0 where
  pub enough : length words ≡ (length owners + 63) / 64
  pub marks : (i : ℕ) → mark_of words i ≡ cond (is_free_at owners i) 1 0
