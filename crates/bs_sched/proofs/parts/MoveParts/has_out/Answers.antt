use Rattle.std.proofs.Common.{List, ap, sym, ◌∙◌}
use Rattle.std.specs.Prelude.{slice_index_or}
use Rattle.bs_sched.specs.declared.parts.Part.{Part}
use Rattle.bs_sched.specs.PartState as state
use Rattle.bs_sched.specs.inner.PartsLayout.{part_in, state_in}
use Rattle.bs_sched.specs.MoveParts.{PartsView}
use Rattle.bs_sched.specs.inner.MoveParts.{states_of}
use Rattle.bs_sched.specs.Lane.{has_part}
use Rattle.bs_sched.proofs.FrameBlocks.{state_read}
use Rattle.bs_sched.proofs.parts.MoveParts.has_out.Goals as goal

pub returns : goal.returns
returns g c =
    c.has_part.ensures ∙ ap (λ (l : List (Part g.row.CAP)). has_part c.args.worker (state_in (part_in l c.args.part))) c.deref.ensures.value
    ∙ ap (has_part c.args.worker) (sym (state_read c.self.inside.list.items c.args.part))
    ∙ ap (λ (f : PartsView). has_part c.args.worker (slice_index_or (states_of f) c.args.part state.Done)) c.self.view_is
