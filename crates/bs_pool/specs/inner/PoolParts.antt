-- The invariants of a pool's parts.
use Rattle.std.specs.Prelude.{ℕ, List, Option}
use Rattle.bs_pool.specs.declared.reservation.Account.{Account}
use Rattle.bs_pool.specs.inner.Accounts.{reservations_of, AreCounted}
use Rattle.bs_pool.specs.Ledger.{Ledger, ledger_of, IsSound}
use Rattle.bs_pool.specs.inner.Marks.{MarksFree}

-- the ledger of the slots and the accounts
abbrev pub ledger_in : List (Option ℕ) → List Account → Ledger
ledger_in owners accounts = ledger_of owners (reservations_of accounts)

pub record AreParts (owners : List (Option ℕ)) (accounts : List Account) (words : List ℕ) : Type 0 where
  pub sound : IsSound (ledger_in owners accounts)
  pub counts : AreCounted owners accounts
  pub free : MarksFree words owners
