-- A pool as its ledger: the owner of each block number, and the reservation of each tag.
use Rattle.std.specs.Prelude.{◌≡◌, ◌≢◌, ℕ, ◌-◌, ◌≤◌, Bool, true, false, nat_eq, List, [], ◌∷◌, ◌++◌, length, replicate, count_by, find, position, slice_get, slice_set, AllPairs, Option, Some, None}
use Rattle.bs_pool.specs.declared.reservation.Reservation.{Reservation}
use Rattle.bs_pool.specs.Reservations.{is_of, reserved_by, all_reserved, without}

-- the value of a pool
pub record Ledger : Type 0 where
  -- the owner of each block number; None if the block is free
  pub owners : List (Option ℕ)
  -- each tag at most once
  pub reservations : List Reservation

-- a ledger, from its two lists
abbrev pub ledger_of : List (Option ℕ) → List Reservation → Ledger
ledger_of owners reservations = record { owners = owners; reservations = reservations }

-- a number with that owner is free
abbrev pub is_unowned : Option ℕ → Bool
is_unowned None = true
is_unowned (Some owner) = false

-- a number with that owner is the tag's
abbrev pub is_owned_by : ℕ → Option ℕ → Bool
is_owned_by tag None = false
is_owned_by tag (Some owner) = nat_eq owner tag

-- the number of blocks
abbrev pub size : Ledger → ℕ
size pool = length pool.owners

-- the number of free blocks
abbrev pub free : Ledger → ℕ
free pool = count_by is_unowned pool.owners

-- the number of blocks of the tag
abbrev pub held : ℕ → Ledger → ℕ
held tag pool = count_by (is_owned_by tag) pool.owners

-- the tag's reservation, if it has one
abbrev pub reservation_of : ℕ → Ledger → Option Reservation
reservation_of tag pool = find (is_of tag) pool.reservations

-- the number of blocks that the tag may own; 0 if it has no reservation
abbrev pub reserved : ℕ → Ledger → ℕ
reserved tag pool = reserved_by tag pool.reservations

-- the number of blocks that can still be reserved
abbrev pub unreserved : Ledger → ℕ
unreserved pool = size pool - all_reserved pool.reservations

-- the least free number, if there is one
abbrev pub least_free : Ledger → Option ℕ
least_free pool = position is_unowned pool.owners

-- that number is the tag's
abbrev pub Owns : ℕ → ℕ → Ledger → Type 0
Owns tag number pool = slice_get pool.owners number ≡ Some (Some tag)

-- n free numbers, and no reservation
abbrev pub opened : ℕ → Ledger
opened n = ledger_of (replicate n None) []

-- the number is drawn by the tag
abbrev pub drawn : ℕ → ℕ → Ledger → Ledger
drawn tag number pool = record pool { owners = slice_set pool.owners number (Some tag) }

-- the number is given back
abbrev pub given : ℕ → Ledger → Ledger
given number pool = record pool { owners = slice_set pool.owners number None }

-- a reservation is added
abbrev pub with_reservation : ℕ → ℕ → Ledger → Ledger
with_reservation tag n pool = record pool { reservations = pool.reservations ++ record { tag = tag; blocks = n } ∷ [] }

-- the tag's reservation is ended
abbrev pub without_reservation : ℕ → Ledger → Ledger
without_reservation tag pool = record pool { reservations = without tag pool.reservations }

-- the invariant of a pool
pub record IsSound (pool : Ledger) : Type 0 where
  -- all reservations can be met at once
  pub within : all_reserved pool.reservations ≤ size pool
  pub distinct : AllPairs (λ r s. r.tag ≢ s.tag) pool.reservations
  pub kept : (tag : ℕ) → held tag pool ≤ reserved tag pool
