use Rattle.std.proofs.Common.{List, None, ap, map, sym, ◌∙◌}
use Rattle.std.specs.Prelude.{slice_index_or}
use Rattle.bs_sched.specs.declared.parts.Part.{Part}
use Rattle.bs_sched.specs.MoveParts.{PartsView}
use Rattle.bs_sched.specs.inner.MoveParts.{frames_of, number_of}
use Rattle.bs_sched.specs.inner.PartsLayout.{view_of}
use Rattle.bs_sched.proofs.FrameBlocks.{number_got}
use Rattle.bs_sched.proofs.parts.MoveParts.number.Goals as goal

pub returns-in-Some : goal.returns-in-Some
returns-in-Some g c =
    let p = c.args.part in
    c.number_in.ensures ∙ sym (number_got c.deref.result.now p c.in-Some.part.now c.in-Some.ensures.lookup.3.0 c.in-Some.ensures.lookup.1)
    ∙ ap (λ (l : List (Part g.row.CAP)). slice_index_or (map number_of (map view_of l)) p None) c.deref.ensures.value
    ∙ ap (λ (v : PartsView). slice_index_or (frames_of v).numbers p None) c.self.view_is
