use Rattle.std.proofs.Common.{◌∙◌, ap, sym, subst}
use Rattle.bs_pool.specs.inner.Accounts.{counted, AreDistinct}
use Rattle.bs_pool.specs.Ledger.{held}
use Rattle.bs_pool.proofs.Parts.{held_counted}
use Rattle.bs_pool.proofs.pool.Pool.held.Goals as goal

pub counted-requires : goal.counted-requires
counted-requires g c = subst AreDistinct (sym c.as_slice.ensures.value) c.self.invariant.sound.distinct

pub returns : goal.returns
returns g c =
    c.counted.ensures ∙ ap (counted c.args.tag) c.as_slice.ensures.value
    ∙ held_counted c.self.inside.slots.items c.self.inside.reservations.items c.self.inside.words.items c.self.invariant c.args.tag
    ∙ ap (held c.args.tag) c.self.view_is
