-- What private contracts add to specs/Reservations.
use Rattle.std.specs.Prelude.{ℕ, Bool, List}
use Rattle.std.specs.List.{list_any}
use Rattle.bs_pool.specs.declared.reservation.Reservation.{Reservation}
use Rattle.bs_pool.specs.Reservations.{is_of}

-- the tag has a reservation
abbrev pub is_reserved : ℕ → List Reservation → Bool
is_reserved tag rs = list_any (is_of tag) rs
