-- If no position is found, no element passes.
use Rattle.std.proofs.Common.{◌≡◌, ℕ, zero, suc, ◌<◌, ◌≤◌, Bool, false, List, [], ◌∷◌, length, slice_index_or, None, arith, inl, inr}
use Rattle.std.specs.Prelude.{nat_lt, position}
use Rattle.std.specs.List.{position_or_len}
use Rattle.std.proofs.lemmas.Bool.{cases_Bool, ltb-false}

-- no element before the first that passes does
past_none : {X : Type 0} (p : X → Bool) (xs : List X) → length xs ≤ position_or_len p xs
    → (k : ℕ) (d : X) → k < length xs → p (slice_index_or xs k d) ≡ false
past_none p [] none k d less = absurd (omega arith)
past_none p (x ∷ xs) none k d less = elim (cases_Bool (p x)) [
  | inl here ↦ let e = rw here at none in absurd (omega (arith, e))
  | inr later ↦ elim k as (λ j. j < length (x ∷ xs) → p (slice_index_or (x ∷ xs) j d) ≡ false) [
    | zero ↦ λ _. later
    | suc j ↦ λ less. past_none p xs (let e = rw later at none in omega (arith, e)) j d (omega (arith, less))
  ] less
]

pub none_passes : {X : Type 0} (p : X → Bool) (xs : List X) → position p xs ≡ None
    → (k : ℕ) (d : X) → k < length xs → p (slice_index_or xs k d) ≡ false
none_passes p xs none = elim (cases_Bool (nat_lt (position_or_len p xs) (length xs))) [
  | inl some ↦ let e = rw some at none in cc
  | inr past ↦ past_none p xs (ltb-false (position_or_len p xs) (length xs) past)
]
