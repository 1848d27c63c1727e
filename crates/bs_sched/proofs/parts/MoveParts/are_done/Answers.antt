use Rattle.std.proofs.Common.{ap, ◌∙◌}
use Rattle.std.specs.List.{list_all}
use Rattle.bs_sched.specs.declared.parts.Part.{Part}
use Rattle.bs_sched.specs.inner.PartsLayout.{state_in}
use Rattle.bs_sched.specs.MoveParts.{PartsView}
use Rattle.bs_sched.specs.inner.MoveParts.{states_of}
use Rattle.bs_sched.specs.Lane.{is_part_done}
use Rattle.bs_sched.proofs.FrameBlocks.{all_done}
use Rattle.bs_sched.proofs.parts.MoveParts.are_done.Goals as goal

pub returns : goal.returns
returns g c =
    c.are_done.ensures ∙ ap (list_all (λ (p : Part g.row.CAP). is_part_done (state_in p))) c.deref.ensures.value ∙ all_done c.self.inside.list.items
    ∙ ap (λ (f : PartsView). list_all is_part_done (states_of f)) c.self.view_is
