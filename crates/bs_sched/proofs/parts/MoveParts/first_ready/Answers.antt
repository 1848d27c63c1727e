use Rattle.std.proofs.Common.{List, ap, ◌∙◌, map}
use Rattle.bs_sched.specs.declared.parts.Part.{Part}
use Rattle.bs_sched.specs.inner.PartsLayout.{view_of}
use Rattle.bs_sched.specs.MoveParts.{PartsView}
use Rattle.bs_sched.specs.inner.MoveParts.{state_of, states_of}
use Rattle.bs_sched.proofs.FrameBlocks.{found_state}
use Rattle.bs_sched.proofs.parts.MoveParts.first_ready.Goals as goal

pub returns : goal.returns
returns g c =
    found_state c.deref.result.now (states_of c.args.self.now) c.first_ready.result
    (ap (λ (l : List (Part g.row.CAP)). map state_of (map view_of l)) c.deref.ensures.value ∙ ap (λ (f : PartsView). states_of f) c.self.view_is) c.first_ready.ensures
