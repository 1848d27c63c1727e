use Rattle.std.proofs.Common.{◌∙◌, ap}
use Rattle.bs_pool.specs.inner.Accounts.{granted}
use Rattle.bs_pool.specs.Ledger.{reserved}
use Rattle.bs_pool.proofs.Accounts.{reserved_in}
use Rattle.bs_pool.proofs.pool.Pool.reserved.Goals as goal

pub returns : goal.returns
returns g c =
    c.reserved_by.ensures ∙ ap (granted c.args.tag) c.as_slice.ensures.value
    ∙ reserved_in c.args.tag c.self.inside.reservations.items ∙ ap (reserved c.args.tag) c.self.view_is
