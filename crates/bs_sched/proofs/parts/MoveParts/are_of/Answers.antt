use Rattle.std.proofs.Common.{◌≡◌, ◌↔◌, ℕ, List, map, ap, sym, subst, ◌∙◌}
use Rattle.std.specs.Prelude.{IsTrue}
use Rattle.bs_fiber.specs.declared.job.JobKind.{JobKind}
use Rattle.bs_fiber.specs.Tickets.{frames_in, names_of}
use Rattle.bs_sched.specs.declared.parts.Part.{Part}
use Rattle.bs_sched.specs.inner.PartsLayout.{number_in}
use Rattle.bs_sched.specs.Frames.{flattened}
use Rattle.bs_sched.specs.MoveParts.{PartsView}
use Rattle.bs_sched.specs.inner.MoveParts.{frames_of}
use Rattle.bs_sched.proofs.FrameBlocks.{numbers_read}
use Rattle.std.specs.Prelude.{Option}
use Rattle.bs_sched.specs.Inputs.{job_numbers}
use Rattle.bs_sched.proofs.parts.MoveParts.are_of.Goals as goal

pub returns-in-Join : goal.returns-in-Join
returns-in-Join g c =
    let parts : List (Part g.row.CAP) = c.as_slice.result.now in
    let named : ℕ → List ℕ → List (ℕ × ℕ) = λ tag ns. map (λ n. (tag, n)) ns in
    let here : named c.self.inside.tag (flattened (map number_in parts)) ≡ named c.args.self.now.tag (flattened (frames_of c.args.self.now).numbers) =
    ap (λ (l : List (Part g.row.CAP)). named c.self.inside.tag (flattened (map number_in l))) c.as_slice.ensures.value
    ∙ ap (λ (l : List (Option ℕ)). named c.self.inside.tag (flattened l)) (numbers_read c.self.inside.list.items)
    ∙ ap (λ (f : PartsView). named f.tag (flattened (frames_of f).numbers)) c.self.view_is in
    subst
    (λ (k : JobKind). IsTrue c.are_named.result ↔ names_of (frames_in c.args.blocks.now) ≡ named c.args.self.now.tag (job_numbers k c.args.job.part (frames_of c.args.self.now).numbers))
    (sym c.in-Join.is) (rw here at c.are_named.ensures)
