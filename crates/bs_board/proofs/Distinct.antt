-- Lists without duplicates, and the elements that a filter leaves.
use Rattle.std.proofs.Common.{◌≡◌, suc, Bool, true, false, not, List, [], ◌∷◌, length, map, refl, ap, inl, inr}
use Rattle.std.specs.List.{filter, list_any, list_all}
use Rattle.std.proofs.lemmas.Bool.{cases_Bool, not-true}
use Rattle.bs_board.specs.Distinct.{are_distinct}
use Rattle.bs_board.proofs.Chains.{and_both, or_both}

pub list_any_map : {X Y : Type 0} (p : Y → Bool) (f : X → Y) (xs : List X) → list_any p (map f xs) ≡ list_any (λ x. p (f x)) xs
list_any_map p f [] = refl
list_any_map p f (x ∷ xs) = rw (list_any_map p f xs) refl

-- only the compared values matter
pub are_distinct_map : {X Y : Type 0} (same : Y → Y → Bool) (f : X → Y) (xs : List X)
    → are_distinct same (map f xs) ≡ are_distinct (λ a b. same (f a) (f b)) xs
are_distinct_map same f [] = refl
are_distinct_map same f (x ∷ xs) = rw (list_any_map (same (f x)) f xs, are_distinct_map same f xs) refl

-- a test that all elements pass removes none
pub filter_all : {X : Type 0} (p : X → Bool) (xs : List X) → list_all p xs ≡ true → length (filter p xs) ≡ length xs
filter_all p [] all = refl
filter_all p (x ∷ xs) all =
    let parts : (p x ≡ true) × (list_all p xs ≡ true) = and_both _ _ all in
    rw parts.0 (ap suc (filter_all p xs parts.1))

-- the remaining elements pass
pub filter_passes : {X : Type 0} (p : X → Bool) (xs : List X) → list_all p (filter p xs) ≡ true
filter_passes p [] = refl
filter_passes p (x ∷ xs) =
    elim (cases_Bool (p x)) [
      | inl in_it ↦ rw (in_it, in_it) (filter_passes p xs)
      | inr not_in ↦ rw not_in (filter_passes p xs)
    ]

-- what holds of all holds of the remaining ones
pub all_of_filter : {X : Type 0} (p q : X → Bool) (xs : List X) → list_all q xs ≡ true → list_all q (filter p xs) ≡ true
all_of_filter p q [] all = refl
all_of_filter p q (x ∷ xs) all =
    let parts : (q x ≡ true) × (list_all q xs ≡ true) = and_both _ _ all in
    elim (cases_Bool (p x)) [
      | inl in_it ↦ rw (in_it, parts.0) (all_of_filter p q xs parts.1)
      | inr not_in ↦ rw not_in (all_of_filter p q xs parts.1)
    ]

pub none_of_filter : {X : Type 0} (p q : X → Bool) (xs : List X) → list_any q xs ≡ false → list_any q (filter p xs) ≡ false
none_of_filter p q [] none = refl
none_of_filter p q (x ∷ xs) none =
    let apart : (q x ≡ false) × (list_any q xs ≡ false) = or_both _ _ none in
    elim (cases_Bool (p x)) [
      | inl in_it ↦ rw (in_it, apart.0) (none_of_filter p q xs apart.1)
      | inr not_in ↦ rw not_in (none_of_filter p q xs apart.1)
    ]

pub distinct_of_filter : {X : Type 0} (same : X → X → Bool) (p : X → Bool) (xs : List X) → are_distinct same xs ≡ true → are_distinct same (filter p xs) ≡ true
distinct_of_filter same p [] distinct = refl
distinct_of_filter same p (x ∷ xs) distinct =
    let apart : (not (list_any (same x) xs) ≡ true) × (are_distinct same xs ≡ true) = and_both _ _ distinct in
    elim (cases_Bool (p x)) [
      | inl in_it ↦
          let none = none_of_filter p (same x) xs (not-true _ apart.0) in
          rw (in_it, none) (distinct_of_filter same p xs apart.1)
      | inr not_in ↦ rw not_in (distinct_of_filter same p xs apart.1)
    ]
