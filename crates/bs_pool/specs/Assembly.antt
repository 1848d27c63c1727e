-- A pool that is put together from the pools of groups.
use Rattle.std.specs.Prelude.{◌≡◌, ℕ, ◌+◌, ◌-◌, ◌<◌, ◌^◌, ◌++◌, map, None, All}
use Rattle.bs_pool.specs.declared.reservation.Reservation.{Reservation}
use Rattle.bs_pool.specs.Ledger.{Ledger, ledger_of, opened, size, reservation_of}
use Rattle.bs_pool.specs.Woven.{woven}

-- the ledger so far, and how many of its free numbers have no block yet
pub record Assembled : Type 0 where
  pub ledger : Ledger
  pub missing : ℕ

-- n free numbers and that many blocks
abbrev pub unlaid : ℕ → ℕ → Assembled
unlaid n blocks = record { ledger = opened n; missing = n - blocks }

-- a tag, and a reservation, once the offset is added to the tag
abbrev pub raised : ℕ → ℕ → ℕ
raised offset tag = tag + offset

abbrev pub raised_reservation : ℕ → Reservation → Reservation
raised_reservation offset r = record { tag = raised offset r.tag; blocks = r.blocks }

-- the owners of a pool are laid into the free numbers, and its reservations follow the others
abbrev pub with_pool : ℕ → Ledger → Ledger → Ledger
with_pool offset pool whole =
    ledger_of (woven (raised offset) whole.owners pool.owners) (whole.reservations ++ map (raised_reservation offset) pool.reservations)

abbrev pub laid : ℕ → Ledger → Assembled → Assembled
laid offset pool a = record { ledger = with_pool offset pool a.ledger; missing = a.missing - size pool }

-- with the offset added, each tag of the pool is below 2^32 and has no reservation in the whole
abbrev pub AreNew : ℕ → Ledger → Ledger → Type 0
AreNew offset pool whole = All (λ r. (raised offset r.tag < 2 ^ 32) × (reservation_of (raised offset r.tag) whole ≡ None)) pool.reservations
