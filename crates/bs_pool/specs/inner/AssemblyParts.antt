-- The invariants of the parts of a pool that is put together.
use Rattle.std.specs.Prelude.{ℕ, ◌+◌, ◌-◌, ◌≤◌, List, length, count_by, Option}
use Rattle.bs_pool.specs.declared.reservation.Account.{Account}
use Rattle.bs_pool.specs.Assembly.{Assembled}
use Rattle.bs_pool.specs.Ledger.{IsSound, is_unowned}
use Rattle.bs_pool.specs.Reservations.{all_reserved}
use Rattle.bs_pool.specs.inner.Accounts.{reservations_of, AreCounted}
use Rattle.bs_pool.specs.inner.FreeNumbers.{AreFree}
use Rattle.bs_pool.specs.inner.PoolParts.{ledger_in}

-- how many free numbers have no block
abbrev pub missing_in : List (Option ℕ) → ℕ → ℕ
missing_in owners blocks = count_by is_unowned owners - blocks

abbrev pub assembled_in : List (Option ℕ) → List Account → ℕ → Assembled
assembled_in owners accounts blocks = record { ledger = ledger_in owners accounts; missing = missing_in owners blocks }

pub record AreAssembled (owners : List (Option ℕ)) (accounts : List Account) (blocks : ℕ) (low : List ℕ) (next : ℕ) : Type 0 where
  pub sound : IsSound (ledger_in owners accounts)
  pub counts : AreCounted owners accounts
  -- each block has a free number
  pub fits : blocks ≤ count_by is_unowned owners
  -- the numbers without a block are not reserved yet
  pub unreserved : all_reserved (reservations_of accounts) + missing_in owners blocks ≤ length owners
  pub free : AreFree owners low next
  pub few : next ≤ length owners
