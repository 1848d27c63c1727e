use Rattle.std.proofs.Common.{ap, sym, subst, ◌∙◌}
use Rattle.bs_pool.specs.Ledger.{held, ledger_of, without_reservation}
use Rattle.bs_pool.specs.inner.PoolParts.{AreParts}
use Rattle.bs_pool.proofs.Accounts.{without_in}
use Rattle.bs_pool.specs.inner.Accounts.{reservations_of}
use Rattle.bs_pool.proofs.Parts.{withdrawn_parts}
use Rattle.bs_pool.proofs.pool.Pool.unreserve.Goals as goal

pub invariant_of-self : goal.invariant_of-self
invariant_of-self g c =
    let owners = c.self.inside.slots.items in let accounts = c.self.inside.reservations.items in let words = c.self.inside.words.items in
    let idle = ap (held c.args.tag) c.self.view_is ∙ c.requires.idle in
    subst (λ xs. AreParts owners xs words) (sym c.withdraw.ensures) (withdrawn_parts owners accounts words c.self.invariant c.args.tag idle)

pub returns : goal.returns
returns g c =
    ap (λ xs. ledger_of c.self.inside.slots.items (reservations_of xs)) c.withdraw.ensures
    ∙ ap (ledger_of c.self.inside.slots.items) (without_in c.args.tag c.self.inside.reservations.items) ∙ ap (without_reservation c.args.tag) c.self.view_is
