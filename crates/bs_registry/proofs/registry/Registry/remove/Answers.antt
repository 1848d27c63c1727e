use Rattle.std.proofs.Common.{◌∙◌, ap}
use Rattle.bs_registry.specs.OpenStays.{are_named_once}
use Rattle.bs_registry.specs.Registry.{rows_open}
use Rattle.bs_registry.proofs.Rows.{removed_once}
use Rattle.bs_registry.proofs.registry.Registry.remove.Goals as goal

pub invariant_of-self : goal.invariant_of-self
invariant_of-self g c =
    ap (λ stays. are_named_once (rows_open stays)) c.remove_stay.ensures ∙ removed_once c.args.number c.self.inside.stays.items c.self.invariant
