use Rattle.std.proofs.Common.{rules, not, nat_eq}
use Rattle.std.proofs.lemmas.Fn.{filter_same}
use Rattle.bs_registry.specs.declared.registry.Listed.{Listed}
use Rattle.bs_registry.proofs.registry.remove_stay.Goals as goal

pub returns : goal.returns
returns g c =
    filter_same _ (λ (stay : Listed g.row.T.Denot). not (nat_eq stay.number c.args.number)) _ (λ stay kept f k. search rules) _ _ c.retain.ensures.filtered
