-- Reservations, each with how many numbers its tag owns.
use Rattle.std.specs.Prelude.{◌≡◌, ◌≢◌, ℕ, ◌+◌, Bool, List, map, find, position, count_by, slice_get, slice_set, All, AllPairs, Option, Some, MatchOption, option_map, unwrap_or, sum_by, filter, not}
use Rattle.std.specs.List.{list_any}
use Rattle.bs_pool.specs.declared.reservation.Account.{Account}
use Rattle.bs_pool.specs.declared.reservation.Reservation.{Reservation}
use Rattle.bs_pool.specs.Reservations.{is_of}
use Rattle.bs_pool.specs.Ledger.{is_owned_by}

abbrev pub reservations_of : List Account → List Reservation
reservations_of accounts = map (λ a. a.reservation) accounts

-- the account is the tag's
abbrev pub is_account_of : ℕ → Account → Bool
is_account_of tag a = is_of tag a.reservation

-- the tag has an account
abbrev pub has_account : ℕ → List Account → Bool
has_account tag accounts = list_any (is_account_of tag) accounts

-- the blocks that the tag's account reserves; 0 if it has none
abbrev pub granted : ℕ → List Account → ℕ
granted tag accounts = unwrap_or (option_map (λ a. a.reservation.blocks) (find (is_account_of tag) accounts)) 0

-- the blocks of all accounts together
abbrev pub all_granted : List Account → ℕ
all_granted accounts = sum_by (λ a. a.reservation.blocks) accounts

-- all accounts except the tag's
abbrev pub without_account : ℕ → List Account → List Account
without_account tag accounts = filter (λ a. not (is_account_of tag a)) accounts

-- the count of the tag's account; 0 if it has none
abbrev pub counted : ℕ → List Account → ℕ
counted tag accounts = unwrap_or (option_map (λ a. a.held) (find (is_account_of tag) accounts)) 0

-- no tag has two accounts
abbrev pub AreDistinct : List Account → Type 0
AreDistinct accounts = AllPairs (λ r s. r.tag ≢ s.tag) (reservations_of accounts)

-- each account counts the numbers that its tag owns
abbrev pub AreCounted : List (Option ℕ) → List Account → Type 0
AreCounted owners accounts = All (λ a. a.held ≡ count_by (is_owned_by a.reservation.tag) owners) accounts

-- only the count of the tag's account is changed
abbrev pub Recounts : (ℕ → ℕ) → ℕ → List Account → List Account → Type 0
Recounts change tag old new =
    MatchOption (position (is_account_of tag) old)
    (new ≡ old)
    (λ at. (a : Account) × (slice_get old at ≡ Some a) × (new ≡ slice_set old at (record a { held = change a.held })))

-- the account once the offset is added to its tag
abbrev pub raised_account : ℕ → Account → Account
raised_account offset a = record { reservation = record { tag = a.reservation.tag + offset; blocks = a.reservation.blocks }; held = a.held }
