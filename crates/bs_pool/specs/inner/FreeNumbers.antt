-- The free numbers of a pool in ascending order: the first in a list, and all from a number on.
use Rattle.std.specs.Prelude.{◌≡◌, ℕ, zero, suc, ◌+◌, ◌<◌, List, [], ◌∷◌, Option, Some, None, All, IfSome, ◌^◌}
use Rattle.bs_pool.specs.Woven.{place_in}

-- the n-th of them
abbrev pub number_from : List ℕ → ℕ → ℕ → ℕ
number_from [] next n = next + n
number_from (m ∷ low) next zero = m
number_from (m ∷ low) next (suc n) = number_from low next n

-- they are the free numbers of these owners
abbrev pub AreFree : List (Option ℕ) → List ℕ → ℕ → Type 0
AreFree owners low next = (n : ℕ) → number_from low next n ≡ place_in owners n

-- those of a list that are still free once a group is laid into them
abbrev pub still_free : List ℕ → List (Option ℕ) → List ℕ
still_free low [] = low
still_free [] (o ∷ group) = []
still_free (n ∷ low) (None ∷ group) = n ∷ still_free low group
still_free (n ∷ low) (Some owner ∷ group) = still_free low group

-- each tag is below 2^32 with the offset added
abbrev pub HaveRoom : ℕ → List (Option ℕ) → Type 0
HaveRoom offset owners = All (λ o. IfSome o (λ tag. tag + offset < 2 ^ 32)) owners
