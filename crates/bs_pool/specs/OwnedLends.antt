-- An owned block once a `&mut` into it has ended.
use Rattle.std.specs.Prelude.{ℕ, List}
use Rattle.std.specs.Borrow.{Fml, MutBor, RattleType, Lends}
use Rattle.bs_block.specs.contracts.block.Block as block
use Rattle.bs_pool.specs.contracts.owned.Owned as owned

-- its tag and its number are unchanged
abbrev pub lends_block : (CAP : RattleType) → MutBor (owned.the_row CAP).Denot → MutBor (List ℕ) → Fml
lends_block CAP s r = Lends (owned.the_row CAP) (block.the_row CAP) s r (λ w. record s.now { block = w })
