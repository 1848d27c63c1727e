-- What `draw` returns, and the pool after it.
use Rattle.std.specs.Prelude.{◌≡◌, ℕ, ◌≤◌, ◌<◌, [], Option, Some, MatchOption}
use Rattle.bs_pool.specs.declared.owned.Owned.{Owned}
use Rattle.bs_pool.specs.Ledger.{Ledger, held, reserved, least_free, drawn}

-- a tag that holds less than it reserved draws that block
abbrev pub IsDrawn : {most : ℕ} → ℕ → Ledger → Owned most → Ledger → Type 0
IsDrawn tag old owned new =
    held tag old < reserved tag old
    × (owned.tag ≡ tag)
    × (least_free old ≡ Some owned.number)
    × (owned.block ≡ [])
    × (new ≡ drawn tag owned.number old)

-- None if the tag holds all that it reserved
abbrev pub Draws : {most : ℕ} → ℕ → Ledger → Option (Owned most) → Ledger → Type 0
Draws tag old answer new =
    MatchOption answer
    (reserved tag old ≤ held tag old × (new ≡ old))
    (λ owned. IsDrawn tag old owned new)
