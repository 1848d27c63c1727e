use Rattle.std.proofs.Common.{◌≡◌, ◌+◌, ◌*◌, ◌<◌, ◌∙◌, ap, sym, arith, count_by}
use Rattle.bs_food.specs.Free.{row_of_cells}
use Rattle.bs_batch.specs.inner.FreeCells.{is_zero}
use Rattle.bs_batch.proofs.FreeRows.{length_more, number_at, zeros}
use Rattle.bs_batch.proofs.food.free_cell.Goals as goal

pub returns-then-left-free : goal.returns-then-left-free
returns-then-left-free c byte has within =
    let i = c.loop-row.row in
    let s = c.args.settings.now in
    let high : i < s.height = omega (arith, c.loop-row-test.true, c.from-row-end.ensures) in
    let cells = c.row_of-cells.ensures.cells byte has high in
    let free = c.free_in-free.ensures.count byte has high ∙ sym (ap (count_by is_zero) cells) in
    let some : c.loop-row.left < count_by is_zero c.row_of-cells.result.now = omega (arith, c.if-left-free.true, free) in
    let at = c.column_of.ensures some in
    let column : c.min-column.result ≡ c.column_of.result = omega (arith, at.within, c.row_of-cells.ensures.short, c.min-column.ensures) in
    let place : (i + 1) * 32 + c.column_of.result + 1 ≡ (i + 1) * 32 + (c.column_of.result + 1) = omega arith in
    let number = number_at byte s.width s.height i c.loop-row.left c.args.number c.column_of.result c.row_of-cells.result.now high cells some at
    (c.loop-row.invariant byte has) in
    ap (λ n. (i + 1) * n + c.min-column.result + 1) c.from.ensures ∙ ap (λ n. (i + 1) * 32 + n + 1) column ∙ place ∙ sym number

pub loop-row-preserved : goal.loop-row-preserved
loop-row-preserved c byte has =
    let i = c.loop-row.row in
    let width = c.args.settings.now.width in
    let here = c.free_in-free.ensures.count byte has (omega (arith, c.loop-row-test.true, c.from-row-end.ensures)) ∙ zeros byte (row_of_cells width i) in
    let more = length_more byte width i in
    omega (arith, here, more, c.if-left-free.false, c.loop-row.invariant byte has)
