use Rattle.std.proofs.Common.{arith}
use Rattle.bs_batch.proofs.Marked.{marked_at}
use Rattle.bs_batch.proofs.showing.put.Goals as goal

pub returns : goal.returns
returns c height byte p narrow low near is has =
    marked_at c.args.settings.now height byte p narrow low near c.args.cell c.args.value c.from-column.result c.from-row.result is c.from-column.ensures c.from-row.ensures
    c.args.plane.now has c.from-width.result c.put_at.new.plane c.from-width.ensures c.put_at.ensures (omega (arith, c.if-column-eq0.false)) (omega (arith, c.if-column-width.false, c.from-width.ensures)) (omega (arith, c.if-row-eq0.false))
