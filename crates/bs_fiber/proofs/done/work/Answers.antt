use Rattle.std.proofs.Common.{sym, subst, arith}
use Rattle.bs_fiber.specs.declared.contents.Contents.{Contents}
use Rattle.bs_fiber.specs.Fit.{IsFitInput}
use Rattle.bs_fiber.specs.Tickets.{IsFresh, ticket_in}
use Rattle.bs_fiber.proofs.done.work.Goals as goal

pub work_in-requires : goal.work_in-requires
work_in-requires g c =
    let at = c.deref_mut.ensures.value in
    let fit = c.into_contents-contents.ensures.fit in
    let fresh = subst IsFresh (sym c.into_contents-contents.ensures.value) c.requires in
    (omega arith, (fit.wide, (subst (λ (t : Contents g.row.CAP). IsFitInput t.input) (sym at) fit.fit, subst (λ (t : Contents g.row.CAP). IsFresh (ticket_in t)) (sym at) fresh)))
