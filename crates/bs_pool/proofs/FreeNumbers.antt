-- The free numbers of a pool as groups are laid into them.
use Rattle.std.proofs.Common.{◌≡◌, ◌≢◌, ℕ, zero, suc, ◌+◌, ◌<◌, ◌≤◌, Bool, true, false, if◌then◌else◌, List, [], ◌∷◌, ◌++◌, length, take, drop, replicate, slice_index_or, slice_set, Option, Some, None, refl, sym, ap, ◌∙◌, arith, inl, inr}
use Rattle.std.specs.Prelude.{cond, count_by, AllPairs}
use Rattle.std.specs.List.{range_with_len}
use Rattle.std.proofs.Math.Seq.{drop-cons}
use Rattle.std.proofs.lemmas.List.{append_assoc}
use Rattle.std.proofs.lemmas.Bool.{cases_eq}
use Rattle.bs_pool.specs.inner.Marks.{mark_of, SetsMark, is_free_at}
use Rattle.bs_pool.specs.Ledger.{is_unowned}
use Rattle.bs_pool.specs.Woven.{woven, place_in, ArePlaces}
use Rattle.bs_pool.specs.inner.FreeNumbers.{number_from, AreFree, still_free}
use Rattle.bs_pool.proofs.Counts.{count_cons}
use Rattle.bs_pool.proofs.Woven.{places_grow}

-- a group laid into a group
pub place_woven : (rename : ℕ → ℕ) (whole group : List (Option ℕ)) (n : ℕ) → place_in (woven rename whole group) n ≡ place_in whole (place_in group n)
place_woven rename [] [] n = refl
place_woven rename [] (None ∷ group) zero = refl
place_woven rename [] (None ∷ group) (suc n) = ap suc (place_woven rename [] group n)
place_woven rename [] (Some owner ∷ group) n = ap suc (place_woven rename [] group n)
place_woven rename (Some owner ∷ whole) group n = ap suc (place_woven rename whole group n)
place_woven rename (None ∷ whole) [] zero = refl
place_woven rename (None ∷ whole) [] (suc n) = ap suc (place_woven rename whole [] n)
place_woven rename (None ∷ whole) (None ∷ group) zero = refl
place_woven rename (None ∷ whole) (None ∷ group) (suc n) = ap suc (place_woven rename whole group n)
place_woven rename (None ∷ whole) (Some owner ∷ group) n = ap suc (place_woven rename whole group n)

from_left : (low : List ℕ) (next : ℕ) (group : List (Option ℕ)) (n : ℕ) → length group ≤ length low
    → number_from (still_free low group) next n ≡ number_from low next (place_in group n)
from_left low next [] n few = refl
from_left [] next (o ∷ group) n few = absurd (omega (arith, few))
from_left (m ∷ low) next (None ∷ group) zero few = refl
from_left (m ∷ low) next (None ∷ group) (suc n) few = from_left low next group n (omega (arith, few))
from_left (m ∷ low) next (Some owner ∷ group) n few = from_left low next group n (omega (arith, few))

-- the numbers that are left are the free ones of the woven owners
pub left_are_free : (rename : ℕ → ℕ) (whole group : List (Option ℕ)) (low : List ℕ) (next : ℕ) → AreFree whole low next → length group ≤ length low
    → AreFree (woven rename whole group) (still_free low group) next
left_are_free rename whole group low next free few n =
    from_left low next group n few ∙ free (place_in group n) ∙ sym (place_woven rename whole group n)

-- numbers are appended to the list
from_range : (next more n end : ℕ) → end ≡ next + more → number_from (range_with_len next more) end n ≡ next + n
from_range next zero n end is = omega (arith, is)
from_range next (suc more) zero end is = omega arith
from_range next (suc more) (suc n) end is = let rest : number_from (range_with_len next (suc more)) end (suc n) ≡ next + 1 + n = from_range (next + 1) more n end (omega (arith, is)) in omega (arith, rest)

pub from_more : (low : List ℕ) (next more n : ℕ) → number_from (low ++ range_with_len next more) (next + more) n ≡ number_from low next n
from_more [] next more n = from_range next more n (next + more) refl
from_more (m ∷ low) next more zero = refl
from_more (m ∷ low) next more (suc n) = from_more low next more n

pub range_push : (a n j : ℕ) → a + n ≡ j → range_with_len a (suc n) ≡ range_with_len a n ++ j ∷ []
range_push a zero j is = ap (λ k. k ∷ []) (let e : a ≡ j = omega (arith, is) in e)
range_push a (suc n) j is = ap (λ xs. a ∷ xs) (range_push (a + 1) n j (omega (arith, is)))

pub from_low : (low : List ℕ) (next n d : ℕ) → n < length low → slice_index_or low n d ≡ number_from low next n
from_low [] next n d within = absurd (omega (arith, within))
from_low (m ∷ low) next zero d within = refl
from_low (m ∷ low) next (suc n) d within = from_low low next n d (omega (arith, within))

pub from_next : (low : List ℕ) (next n k : ℕ) → k ≡ length low + n → number_from low next k ≡ next + n
from_next [] next n k is = omega (arith, is)
from_next (m ∷ low) next n zero is = absurd (omega (arith, is))
from_next (m ∷ low) next n (suc k) is = from_next low next n k (omega (arith, is))

-- a free number is one of the owners'
pub place_below : (whole : List (Option ℕ)) (n : ℕ) → n < count_by is_unowned whole → place_in whole n < length whole
place_below [] n some = absurd (omega (arith, some))
place_below (Some owner ∷ whole) n some =
    let e = count_cons is_unowned (Some owner) whole in
    let rest = place_below whole n (omega (arith, e, some)) in omega (arith, rest)
place_below (None ∷ whole) zero some = omega arith
place_below (None ∷ whole) (suc n) some =
    let e = count_cons is_unowned None whole in
    let rest = place_below whole n (omega (arith, e, some)) in omega (arith, rest)

-- the places of different numbers differ
pub places_distinct : (whole : List (Option ℕ)) (n : ℕ) (numbers : List ℕ) → ArePlaces whole n numbers → AllPairs (λ a b. a ≢ b) numbers
places_distinct whole n numbers are i j d below within same =
    let at_i = are.each i d (omega (arith, below, within)) in let at_j = are.each j d within in
    let grow = places_grow whole i j below in omega (arith, at_i, at_j, same, grow)

-- the loop that collects the numbers that are left
pub left_step : (low : List ℕ) (group : List (Option ℕ)) (at d : ℕ) → at < length low
    → still_free (drop at low) (drop at group)
    ≡ (if is_unowned (slice_index_or group at None) then slice_index_or low at d ∷ still_free (drop (suc at) low) (drop (suc at) group) else still_free (drop (suc at) low) (drop (suc at) group))
left_step [] group at d within = absurd (omega (arith, within))
left_step (n ∷ low) [] zero d within = refl
left_step (n ∷ low) (None ∷ group) zero d within = refl
left_step (n ∷ low) (Some owner ∷ group) zero d within = refl
left_step (n ∷ low) [] (suc at) d within = drop-cons low at d (omega (arith, within))
left_step (n ∷ low) (o ∷ group) (suc at) d within = left_step low group at d (omega (arith, within))

pub left_next : (xs low : List ℕ) (group : List (Option ℕ)) (at d : ℕ) (b : Bool) → at < length low → b ≡ is_unowned (slice_index_or group at None)
    → xs ++ still_free (drop at low) (drop at group) ≡ (if b then xs ++ slice_index_or low at d ∷ [] else xs) ++ still_free (drop (at + 1) low) (drop (at + 1) group)
left_next xs low group at d b within is =
    let rest = still_free (drop (suc at) low) (drop (suc at) group) in
    let more : suc at ≡ at + 1 = omega arith in
    let by : (b : Bool) → xs ++ (if b then slice_index_or low at d ∷ rest else rest) ≡ (if b then xs ++ slice_index_or low at d ∷ [] else xs) ++ rest
    = λ b. elim b as (λ b. xs ++ (if b then slice_index_or low at d ∷ rest else rest) ≡ (if b then xs ++ slice_index_or low at d ∷ [] else xs) ++ rest) [
      | true ↦ sym (append_assoc xs (slice_index_or low at d ∷ []) rest)
      | false ↦ refl
    ] in
    ap (λ ys. xs ++ ys) (left_step low group at d within ∙ ap (λ b. if b then slice_index_or low at d ∷ rest else rest) (sym is)) ∙ by b
    ∙ ap (λ k. (if b then xs ++ slice_index_or low at d ∷ [] else xs) ++ still_free (drop k low) (drop k group)) more

-- the loop that marks the free numbers
pub free_same : (owners : List (Option ℕ)) (k i : ℕ) → i ≢ k → is_free_at (take (suc k) owners) i ≡ is_free_at (take k owners) i
free_same [] zero i apart = refl
free_same [] (suc k) i apart = refl
free_same (o ∷ owners) zero zero apart = absurd (apart refl)
free_same (o ∷ owners) zero (suc i) apart = refl
free_same (o ∷ owners) (suc k) zero apart = refl
free_same (o ∷ owners) (suc k) (suc i) apart = free_same owners k i (λ same. apart (ap suc same))

pub free_here : (owners : List (Option ℕ)) (k : ℕ) (d : Option ℕ) → k < length owners → is_free_at (take (suc k) owners) k ≡ is_unowned (slice_index_or owners k d)
free_here [] k d within = absurd (omega (arith, within))
free_here (o ∷ owners) zero d within = refl
free_here (o ∷ owners) (suc k) d within = free_here owners k d (omega (arith, within))

pub free_past : (owners : List (Option ℕ)) (k : ℕ) → is_free_at (take k owners) k ≡ false
free_past [] zero = refl
free_past [] (suc k) = refl
free_past (o ∷ owners) zero = refl
free_past (o ∷ owners) (suc k) = free_past owners k

abbrev pub MarkedBelow : List ℕ → List (Option ℕ) → ℕ → Type 0
MarkedBelow words owners k = (i : ℕ) → mark_of words i ≡ cond (is_free_at (take k owners) i) 1 0

pub marked_next : (words new : List ℕ) (owners : List (Option ℕ)) (k : ℕ) (d : Option ℕ) → MarkedBelow words owners k → SetsMark words k 1 new → k < length owners
    → is_unowned (slice_index_or owners k d) ≡ true → MarkedBelow new owners (suc k)
marked_next words new owners k d below set within free = λ i. elim (cases_eq i k) [
  | inl same ↦ ap (mark_of new) same ∙ set.1 ∙ sym (ap (λ b. cond b 1 0) (ap (is_free_at (take (suc k) owners)) same ∙ free_here owners k d within ∙ free))
  | inr apart ↦ set.2 i apart ∙ below i ∙ ap (λ b. cond b 1 0) (sym (free_same owners k i apart))
]

pub unmarked_next : (words : List ℕ) (owners : List (Option ℕ)) (k : ℕ) (d : Option ℕ) → MarkedBelow words owners k → k < length owners
    → is_unowned (slice_index_or owners k d) ≡ false → MarkedBelow words owners (suc k)
unmarked_next words owners k d below within owned = λ i. below i ∙ ap (λ b. cond b 1 0) (elim (cases_eq i k) as (λ _. is_free_at (take k owners) i ≡ is_free_at (take (suc k) owners) i) [
  | inl same ↦ ap (is_free_at (take k owners)) same ∙ free_past owners k ∙ sym (ap (is_free_at (take (suc k) owners)) same ∙ free_here owners k d within ∙ owned)
  | inr apart ↦ sym (free_same owners k i apart)
])

-- the loop that lays the owners: those of the first k numbers of the group are laid
abbrev pub laid_below : ℕ → List (Option ℕ) → List (Option ℕ)
laid_below k [] = []
laid_below zero (o ∷ group) = None ∷ laid_below zero group
laid_below (suc k) (o ∷ group) = o ∷ laid_below k group

pub none_laid : (group : List (Option ℕ)) → laid_below 0 group ≡ replicate (length group) None
none_laid [] = refl
none_laid (o ∷ group) = ap (λ os. None ∷ os) (none_laid group)

pub all_laid : (group : List (Option ℕ)) → laid_below (length group) group ≡ group
all_laid [] = refl
all_laid (o ∷ group) = ap (λ os. o ∷ os) (all_laid group)

pub next_laid : (group : List (Option ℕ)) (k : ℕ) (d : Option ℕ) → k < length group
    → slice_set (laid_below k group) k (slice_index_or group k d) ≡ laid_below (suc k) group
next_laid [] k d within = absurd (omega (arith, within))
next_laid (o ∷ group) zero d within = refl
next_laid (o ∷ group) (suc k) d within = ap (λ os. o ∷ os) (next_laid group k d (omega (arith, within)))

pub none_next : (group : List (Option ℕ)) (k : ℕ) (d : Option ℕ) → k < length group → slice_index_or group k d ≡ None → laid_below (suc k) group ≡ laid_below k group
none_next [] k d within none = absurd (omega (arith, within))
none_next (o ∷ group) zero d within none = ap (λ x. x ∷ laid_below 0 group) none
none_next (o ∷ group) (suc k) d within none = ap (λ os. o ∷ os) (none_next group k d (omega (arith, within)) none)

pub laid_long : (group : List (Option ℕ)) (k : ℕ) → length (laid_below k group) ≡ length group
laid_long [] k = refl
laid_long (o ∷ group) zero = ap suc (laid_long group zero)
laid_long (o ∷ group) (suc k) = ap suc (laid_long group k)
