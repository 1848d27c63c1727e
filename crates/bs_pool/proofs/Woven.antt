-- A pool inside a larger one: draws and gives commute with the renaming.
use Rattle.std.proofs.Common.{◌≡◌, ℕ, zero, suc, ◌+◌, ◌<◌, ◌≤◌, Bool, List, [], ◌∷◌, length, map, replicate, Option, Some, None, slice_set, refl, ap, ◌∙◌, arith, inl, inr}
use Rattle.std.specs.Prelude.{nat_lt, count_by, position, option_map}
use Rattle.std.specs.List.{position_or_len}
use Rattle.std.proofs.lemmas.Bool.{cases_Bool, lt-ltb, ltb-true}
use Rattle.bs_pool.specs.Ledger.{is_unowned}
use Rattle.bs_pool.specs.Woven.{woven, place_in}
use Rattle.bs_pool.proofs.Counts.{count_cons}

set_map : (rename : ℕ → ℕ) (group : List (Option ℕ)) (n : ℕ) (o : Option ℕ)
    → slice_set (map (option_map rename) group) n (option_map rename o) ≡ map (option_map rename) (slice_set group n o)
set_map rename [] n o = refl
set_map rename (x ∷ group) zero o = refl
set_map rename (x ∷ group) (suc n) o = ap (λ xs. option_map rename x ∷ xs) (set_map rename group n o)

-- one write in the group is one write in the whole, whoever owns it then: a draw, and a give
pub sets_woven : (rename : ℕ → ℕ) (whole group : List (Option ℕ)) (n : ℕ) (o : Option ℕ) → n < length group
    → slice_set (woven rename whole group) (place_in whole n) (option_map rename o) ≡ woven rename whole (slice_set group n o)
sets_woven rename [] group n o within = set_map rename group n o
sets_woven rename (Some owner ∷ whole) group n o within = ap (λ xs. Some owner ∷ xs) (sets_woven rename whole group n o within)
sets_woven rename (None ∷ whole) [] n o within = absurd (omega (arith, within))
sets_woven rename (None ∷ whole) (x ∷ group) zero o within = refl
sets_woven rename (None ∷ whole) (x ∷ group) (suc n) o within =
    ap (λ xs. option_map rename x ∷ xs) (sets_woven rename whole group n o (omega (arith, within)))

-- the first free number, as a length

first_map : (rename : ℕ → ℕ) (group : List (Option ℕ)) → position_or_len is_unowned (map (option_map rename) group) ≡ position_or_len is_unowned group
first_map rename [] = refl
first_map rename (None ∷ group) = refl
first_map rename (Some owner ∷ group) = ap (λ n. 1 + n) (first_map rename group)

long_map : (rename : ℕ → ℕ) (group : List (Option ℕ)) → length (map (option_map rename) group) ≡ length group
long_map rename [] = refl
long_map rename (o ∷ group) = ap suc (long_map rename group)

first_woven_at : (rename : ℕ → ℕ) (whole group : List (Option ℕ)) → position_or_len is_unowned group < length group
    → position_or_len is_unowned (woven rename whole group) ≡ place_in whole (position_or_len is_unowned group)
first_woven_at rename [] group some = first_map rename group
first_woven_at rename (Some owner ∷ whole) group some = let rest = first_woven_at rename whole group some in omega (arith, rest)
first_woven_at rename (None ∷ whole) [] some = absurd (omega (arith, some))
first_woven_at rename (None ∷ whole) (None ∷ group) some = refl
first_woven_at rename (None ∷ whole) (Some owner ∷ group) some =
    let rest = first_woven_at rename whole group (omega (arith, some)) in
    let next : suc (position_or_len is_unowned group) ≡ 1 + position_or_len is_unowned group = omega arith in
    let one : 1 + position_or_len is_unowned (woven rename whole group) ≡ suc (place_in whole (position_or_len is_unowned group)) = omega (arith, rest) in
    one ∙ ap (place_in (None ∷ whole)) next

pub place_within : (rename : ℕ → ℕ) (whole group : List (Option ℕ)) (n : ℕ) → n < length group → place_in whole n < length (woven rename whole group)
place_within rename [] group n within = let long = long_map rename group in omega (arith, long, within)
place_within rename (Some owner ∷ whole) group n within = let rest = place_within rename whole group n within in omega (arith, rest)
place_within rename (None ∷ whole) [] n within = absurd (omega (arith, within))
place_within rename (None ∷ whole) (o ∷ group) zero within = omega arith
place_within rename (None ∷ whole) (o ∷ group) (suc n) within =
    let rest = place_within rename whole group n (omega (arith, within)) in omega (arith, rest)

found : {X : Type 0} (p : X → Bool) (xs : List X) (n : ℕ) → position p xs ≡ Some n → (position_or_len p xs ≡ n) × (n < length xs)
found p xs n at = elim (cases_Bool (nat_lt (position_or_len p xs) (length xs))) [
  | inl some ↦
      let e = rw some at at in
      let is : position_or_len p xs ≡ n = cc in
      (is, let less = ltb-true _ _ some in omega (arith, less, is))
  | inr none ↦ let e = rw none at at in cc
]

there : {X : Type 0} (p : X → Bool) (xs : List X) (n : ℕ) → position_or_len p xs ≡ n → n < length xs → position p xs ≡ Some n
there p xs n is within = rw (lt-ltb (position_or_len p xs) (length xs) (omega (arith, is, within))) (ap Some is)

-- the least free number of the whole is that of the group, if the group has one
pub first_woven : (rename : ℕ → ℕ) (whole group : List (Option ℕ)) (n : ℕ) → position is_unowned group ≡ Some n
    → position is_unowned (woven rename whole group) ≡ Some (place_in whole n)
first_woven rename whole group n at =
    let here = found is_unowned group n at in
    let is = here.0 in let within = here.1 in
    there is_unowned (woven rename whole group) (place_in whole n)
    (first_woven_at rename whole group (omega (arith, is, within)) ∙ ap (place_in whole) is)
    (place_within rename whole group n within)

-- a fresh group changes nothing, if there is room
pub fresh_woven : (rename : ℕ → ℕ) (whole : List (Option ℕ)) (n : ℕ) → n ≤ count_by is_unowned whole → woven rename whole (replicate n None) ≡ whole
fresh_woven rename [] zero room = refl
fresh_woven rename [] (suc n) room = absurd (omega (arith, room))
fresh_woven rename (Some owner ∷ whole) n room =
    let e = count_cons is_unowned (Some owner) whole in
    ap (λ xs. Some owner ∷ xs) (fresh_woven rename whole n (omega (arith, e, room)))
fresh_woven rename (None ∷ whole) zero room = ap (λ xs. None ∷ xs) (fresh_woven rename whole zero (omega arith))
fresh_woven rename (None ∷ whole) (suc n) room =
    let e = count_cons is_unowned None whole in
    ap (λ xs. None ∷ xs) (fresh_woven rename whole n (omega (arith, e, room)))

-- no group changes the size, if there is room
pub size_woven : (rename : ℕ → ℕ) (whole group : List (Option ℕ)) → length group ≤ count_by is_unowned whole → length (woven rename whole group) ≡ length whole
size_woven rename [] [] room = refl
size_woven rename [] (o ∷ group) room = absurd (omega (arith, room))
size_woven rename (Some owner ∷ whole) group room =
    let e = count_cons is_unowned (Some owner) whole in
    ap suc (size_woven rename whole group (omega (arith, e, room)))
size_woven rename (None ∷ whole) [] room = ap suc (size_woven rename whole [] (omega arith))
size_woven rename (None ∷ whole) (o ∷ group) room =
    let e = count_cons is_unowned None whole in
    ap suc (size_woven rename whole group (omega (arith, e, room)))

-- different numbers stay different, and in their order
pub places_grow : (whole : List (Option ℕ)) (m n : ℕ) → m < n → place_in whole m < place_in whole n
places_grow [] m n less = less
places_grow (Some owner ∷ whole) m n less = let rest = places_grow whole m n less in omega (arith, rest)
places_grow (None ∷ whole) m zero less = absurd (omega (arith, less))
places_grow (None ∷ whole) zero (suc n) less = omega arith
places_grow (None ∷ whole) (suc m) (suc n) less = let rest = places_grow whole m n (omega (arith, less)) in omega (arith, rest)
