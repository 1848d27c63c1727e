-- The reservation of a tag in a list of reservations.
use Rattle.std.specs.Prelude.{ℕ, Bool, List, nat_eq, find, filter, not, sum_by, option_map, unwrap_or}
use Rattle.bs_pool.specs.declared.reservation.Reservation.{Reservation}

-- the reservation is the tag's
abbrev pub is_of : ℕ → Reservation → Bool
is_of tag r = nat_eq r.tag tag

-- 0 if the tag has no reservation
abbrev pub reserved_by : ℕ → List Reservation → ℕ
reserved_by tag rs = unwrap_or (option_map (λ r. r.blocks) (find (is_of tag) rs)) 0

-- the blocks of all reservations together
abbrev pub all_reserved : List Reservation → ℕ
all_reserved rs = sum_by (λ r. r.blocks) rs

-- all reservations except the tag's
abbrev pub without : ℕ → List Reservation → List Reservation
without tag rs = filter (λ r. not (is_of tag r)) rs
