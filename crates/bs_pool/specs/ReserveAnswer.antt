-- What `reserve` returns, and the pool after it.
use Rattle.std.specs.Prelude.{◌≡◌, ℕ, ◌≤◌, ◌<◌, None, IsSome, Result, MatchResult}
use Rattle.bs_pool.specs.declared.reservation.Reserve.{Reserve}
use Rattle.bs_pool.specs.declared.reservation.Reserve.TheVariants.{TagTaken, Short, Memory}
use Rattle.bs_pool.specs.Ledger.{Ledger, reservation_of, unreserved, with_reservation}

-- why `reserve` refuses, in the order in which the reasons are judged
abbrev pub Refuses : ℕ → ℕ → Ledger → Reserve → Type 0
Refuses tag n pool TagTaken = IsSome (reservation_of tag pool)
Refuses tag n pool (Short free_to_reserve) = (reservation_of tag pool ≡ None) × (unreserved pool < n) × (free_to_reserve ≡ unreserved pool)
Refuses tag n pool Memory = (reservation_of tag pool ≡ None) × (n ≤ unreserved pool)

-- the tag had no reservation, and now has one of n blocks that were not reserved; or the pool is
-- unchanged
abbrev pub Reserves : {U : Type 0} → ℕ → ℕ → Ledger → Result U Reserve → Ledger → Type 0
Reserves tag n old answer new =
    MatchResult answer
    (λ _. (reservation_of tag old ≡ None) × (n ≤ unreserved old) × (new ≡ with_reservation tag n old))
    (λ refusal. Refuses tag n old refusal × (new ≡ old))
