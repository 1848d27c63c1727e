-- The bits after a word is written, and the number of the lowest bit of the first word that is not
-- 0.
use Rattle.std.proofs.Common.{◌≡◌, ◌≢◌, ℕ, ◌+◌, ◌*◌, ◌/◌, ◌%◌, ◌<◌, ◌^◌, List, length, slice_index_or, slice_set, sym, ap, ◌∙◌, arith, inl, inr, w64}
use Rattle.std.specs.Int.{bit_at, bit_not, trailing_zeros}
use Rattle.std.specs.Int.RustNames.{bit_or}
use Rattle.bs_pool.specs.Ledger.{is_unowned}
use Rattle.std.specs.Prelude.{cond, replicate, false, not, nat_eq, nat_lt, position, Option, Some, None}
use Rattle.std.proofs.lemmas.Bool.{cases_Bool, cases_eq, cases_lt, eqb-true, lt-ltb, le-ltb}
use Rattle.std.proofs.lemmas.List.Quantifiers.{position-Some}
use Rattle.std.proofs.lemmas.List.{length-set, get_or-set_same, get_or-set_other, get_or_past, get_or-replicate, length-replicate}
use Rattle.std.proofs.lemmas.Nat.Bits.{bit_at-zero, bit_at-trailing_zeros, bit_at_set_same, bit_at_set_other, bit_at_clear_same, bit_at_clear_other}
use lib.Bits.{bit_and}
use Rattle.bs_pool.proofs.Positions.{none_passes}
use Rattle.bs_pool.specs.inner.Marks.{mark_of, IsFirstMark, SetsMark, is_free_at, MarksFree}

-- a word is written: the bit of the number is b, and each other bit is unchanged
set_word : (words : List ℕ) (number b word : ℕ) → number / 64 < length words → bit_at word (number % 64) ≡ b
    → ((j : ℕ) → j < 64 → j ≢ number % 64 → bit_at word j ≡ bit_at (slice_index_or words (number / 64) 0) j)
    → SetsMark words number b (slice_set words (number / 64) word)
set_word words number b word within here others =
    let same : slice_index_or (slice_set words (number / 64) word) (number / 64) 0 ≡ word = get_or-set_same words (number / 64) word 0 within in (
      length-set words (number / 64) word,
      ap (λ w. bit_at w (number % 64)) same ∙ here,
      λ i apart. elim (cases_eq (i / 64) (number / 64)) [
        | inl at ↦
            let differ : i % 64 ≢ number % 64 = λ same_bit. apart (omega (arith, at, same_bit)) in
            ap (λ k. bit_at (slice_index_or (slice_set words (number / 64) word) k 0) (i % 64)) at
            ∙ ap (λ w. bit_at w (i % 64)) same ∙ others (i % 64) (omega arith) differ
            ∙ ap (λ k. bit_at (slice_index_or words k 0) (i % 64)) (sym at)
        | inr away ↦ ap (λ w. bit_at w (i % 64)) (get_or-set_other words (number / 64) (i / 64) word 0 away)
      ],
    )

pub marked : (words : List ℕ) (number : ℕ) → number / 64 < length words
    → SetsMark words number 1 (slice_set words (number / 64) (bit_or (slice_index_or words (number / 64) 0) (1 * 2 ^ (number % 64) % 2 ^ 64)))
marked words number within =
    let old = slice_index_or words (number / 64) 0 in let bit = number % 64 in let few : bit < 64 = omega arith in
    set_word words number 1 (bit_or old (1 * 2 ^ bit % 2 ^ 64)) within (bit_at_set_same w64 old bit few) (λ j less apart. bit_at_set_other w64 old bit few j apart)

pub unmarked : (words : List ℕ) (number : ℕ) → number / 64 < length words
    → SetsMark words number 0 (slice_set words (number / 64) (bit_and (slice_index_or words (number / 64) 0) (bit_not w64 (1 * 2 ^ (number % 64) % 2 ^ 64))))
unmarked words number within =
    let old = slice_index_or words (number / 64) 0 in let bit = number % 64 in let few : bit < 64 = omega arith in
    set_word words number 0 (bit_and old (bit_not w64 (1 * 2 ^ bit % 2 ^ 64))) within (bit_at_clear_same w64 old bit few) (λ j less apart. bit_at_clear_other w64 old bit few j less apart)

-- the lowest bit of the first word that is not 0
pub first_mark : (words : List ℕ) (at : ℕ) → slice_index_or words at 0 ≢ 0 → slice_index_or words at 0 < 2 ^ 64
    → ((k : ℕ) → k < at → slice_index_or words k 0 ≡ 0) → IsFirstMark words (64 * at + trailing_zeros w64 (slice_index_or words at 0))
first_mark words at some small before =
    let word = slice_index_or words at 0 in let low = bit_at-trailing_zeros w64 word (omega (arith, some)) small in
    let zeros = trailing_zeros w64 word in let less : zeros < 64 = low.0 in
    let here : (64 * at + zeros) / 64 ≡ at = omega (arith, less) in let bit : (64 * at + zeros) % 64 ≡ zeros = omega (arith, less) in (
      (λ i. bit_at (slice_index_or words (here i) 0) (bit i)) ∙ low.1,
      λ k lower. elim (cases_eq (k / 64) at) as (λ _. mark_of words k ≡ 0) [
        | inl same ↦ ap (λ j. bit_at (slice_index_or words j 0) (k % 64)) same ∙ low.2 (k % 64) (omega (arith, same, lower, less))
        | inr apart ↦ ap (λ w. bit_at w (k % 64)) (before (k / 64) (omega (arith, apart, lower, less))) ∙ bit_at-zero (k % 64)
      ],
    )

zero_from : (word : ℕ) → not (nat_eq word 0) ≡ false → word ≡ 0
zero_from word is = elim (cases_Bool (nat_eq word 0)) [
  | inl same ↦ eqb-true word 0 same
  | inr differ ↦ let e = rw differ at is in cc
]

-- what `first_word` returns
pub words_before : (words : List ℕ) (at : ℕ) → position (λ word. not (nat_eq word 0)) words ≡ Some at
    → (at < length words) × (slice_index_or words at 0 ≢ 0) × ((k : ℕ) → k < at → slice_index_or words k 0 ≡ 0)
words_before words at is =
    let found = position-Some (λ word. not (nat_eq word 0)) words at 0 is in
    (found.0, λ zero_there. (let e = rw zero_there at found.1 in cc), λ k less. zero_from (slice_index_or words k 0) (found.2 k less))

pub all_zero : (words : List ℕ) → position (λ word. not (nat_eq word 0)) words ≡ None → (i : ℕ) → mark_of words i ≡ 0
all_zero words none i = elim (cases_lt (i / 64) (length words)) [
  | inl there ↦ ap (λ w. bit_at w (i % 64)) (zero_from _ (none_passes (λ word. not (nat_eq word 0)) words none (i / 64) 0 there)) ∙ bit_at-zero (i % 64)
  | inr past ↦ ap (λ w. bit_at w (i % 64)) (get_or_past words (i / 64) 0 past) ∙ bit_at-zero (i % 64)
]

-- there are `count` words, and the numbers below the given one are marked
abbrev pub MarksBelow : List ℕ → ℕ → ℕ → Type 0
MarksBelow words count number =
    (length words ≡ count) × ((i : ℕ) → mark_of words i ≡ cond (nat_lt i number) 1 0)

free_in_new : (n i : ℕ) → is_free_at (replicate n None) i ≡ nat_lt i n
free_in_new n i = elim (cases_lt i n) [
  | inl there ↦ ap is_unowned (get_or-replicate n i None (Some 0) there) ∙ sym (lt-ltb i n there)
  | inr past ↦ ap is_unowned (get_or_past (replicate n None) i (Some 0) (omega (arith, past, length-replicate {A = Option ℕ} n None))) ∙ sym (le-ltb i n past)
]

pub all_below : (words : List ℕ) (n : ℕ) → MarksBelow words ((n + 63) / 64) n → MarksFree words (replicate n None)
all_below words n below = record {
  enough = below.0 ∙ ap (λ k. (k + 63) / 64) (sym (length-replicate {A = Option ℕ} n None));
  marks = λ i. below.1 i ∙ ap (λ b. cond b 1 0) (sym (free_in_new n i));
}
