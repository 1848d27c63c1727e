use Rattle.std.proofs.Common.{List, ap, ◌∙◌}
use Rattle.std.proofs.lemmas.List.{map-set}
use Rattle.bs_sched.specs.declared.parts.Part.TheVariants as field
use Rattle.bs_sched.specs.MoveParts.{PartView}
use Rattle.bs_sched.specs.inner.MoveParts.{part_completed}
use Rattle.bs_sched.specs.inner.PartsLayout.{view_of}
use Rattle.bs_sched.proofs.parts.MoveParts.complete.Goals as goal

pub returns : goal.returns
returns g c =
    let inside = c.self.inside in
    ap (λ (l : List PartView). record { tag = inside.tag; tally = inside.tally; keys = inside.keys.items; list = l })
    (map-set view_of inside.list.items c.args.part (field.Done c.args.moved c.args.owned))
    ∙ ap (part_completed c.args.part (record { pieces = c.args.moved; bytes = c.args.owned.block }) c.args.owned.number) c.self.view_is
