use Rattle.std.proofs.Common.{◌∙◌, ap, arith}
use Rattle.bs_fiber.specs.declared.job.JobKind.{JobKind}
use Rattle.bs_fiber.specs.Tickets.{fresh_bytes}
use Rattle.bs_fiber.proofs.Seen.{some_view}
use Rattle.bs_fiber.proofs.done.out_of.Goals as goal

pub move_part-requires : goal.move_part-requires
move_part-requires g c =
    let input = c.args.input.now in
    let seen = some_view input c.requires.fit.game in
    (omega arith, (c.requires.wide, c.requires.fresh seen.0 seen.1 ∙ ap (λ (k : JobKind). fresh_bytes k seen.0 input.command) c.in-Part.is))
