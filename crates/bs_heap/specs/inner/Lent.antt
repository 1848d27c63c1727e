-- Blocks that were drawn from a pool.
use Rattle.std.specs.Prelude.{◌≢◌, ℕ, List, map, All, AllPairs}
use Rattle.bs_pool.specs.Ledger.{Ledger, Owns}
use Rattle.bs_pool.specs.declared.owned.Owned.{Owned}

-- the numbers of the blocks
abbrev pub owned_numbers : {most : ℕ} → List (Owned most) → List ℕ
owned_numbers = map (λ owned. owned.number)

-- in the pool each block is owned by its tag, and no number occurs twice
pub record AreLent {most : ℕ} (blocks : List (Owned most)) (pool : Ledger) : Type 0 where
  pub each : All (λ owned. Owns owned.tag owned.number pool) blocks
  pub once : AllPairs (λ a b. a.number ≢ b.number) blocks
