use Rattle.std.proofs.Common.{◌≡◌, false, ap, ◌∙◌}
use Rattle.std.specs.List.{list_any}
use Rattle.bs_registry.specs.OpenStays.{are_named_once, bears}
use Rattle.bs_registry.specs.Registry.{Listing, rows_in, rows_open}
use Rattle.bs_registry.proofs.Rows.{pushed_once}
use Rattle.bs_registry.proofs.registry.Registry.push.Goals as goal

pub invariant_of-self-2 : goal.invariant_of-self-2
invariant_of-self-2 g c =
    let stays = c.self.inside.stays.items in
    let new : list_any (bears c.args.row.game) (rows_open stays) ≡ false
    = ap (λ (all : Listing g.row.T.Denot). list_any (bears c.args.row.game) (rows_in all)) c.self.view_is ∙ c.requires.new in
    let is = c.in_ok-push.ensures.items in
    ap (λ all. are_named_once (rows_open all)) is ∙ pushed_once stays c.self.inside.made c.args.row c.args.kept c.self.invariant new
