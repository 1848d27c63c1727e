use Rattle.std.proofs.Common.{◌≤◌, rules, ap, subst, arith}
use Rattle.bs_pool.specs.Ledger.{unreserved}
use Rattle.bs_pool.specs.inner.PoolParts.{ledger_in, AreParts}
use Rattle.bs_pool.proofs.Parts.{pushed_parts}
use Rattle.bs_pool.proofs.pool.Pool.reserve.Goals as goal

pub invariant_of-self-2 : goal.invariant_of-self-2
invariant_of-self-2 g c =
    let owners = c.self.inside.slots.items in let accounts = c.self.inside.reservations.items in let words = c.self.inside.words.items in
    let fits : c.args.n ≤ unreserved (ledger_in owners accounts) = omega (arith, ap unreserved c.self.view_is) in
    let parts = pushed_parts owners accounts words c.self.invariant c.args.tag c.args.n (search rules) fits in
    subst (λ xs. AreParts owners xs words) (search rules) parts
