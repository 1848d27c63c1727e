use Rattle.std.proofs.Common.{◌≤◌, arith, get_or, length, refl, rules}
use Rattle.bs_json.proofs.Writing.{all_written, is_written, one_written, puts_kept}
use Rattle.bs_json.proofs.written.write_cells.Goals as goal

pub returns-then-not-is_near-clause-value : goal.returns-then-not-is_near-clause-value
returns-then-not-is_near-clause-value c =
    let done = c.loop-left.invariant.written in
    let low : c.args.at ≤ length c.args.bytes.now = omega (arith, c.requires) in
    record { front = puts_kept _ _ _ _ _ done low; room = done.room; written = search rules }

pub loop-left-preserved : goal.loop-left-preserved
loop-left-preserved c =
    let inside_x : c.args.raised ≤ get_or c.loop-left.left.now 0 0 = search rules in
    let inside_y : c.args.raised ≤ get_or c.loop-left.left.now 1 0 = search rules in
    one_written c.loop-left.left.now c.args.cells.now c.args.at c.loop-left.next c.write_cell-next.result c.args.raised _ _ _ c.loop-left.later _ _ _
    c.in-len2-up.len_at_least c.loop-left.invariant c.byte_before.ensures refl refl inside_x inside_y c.write_cell-next.ensures.value c.write_cell-next.ensures.within

pub returns-clause-value : goal.returns-clause-value
returns-clause-value c =
    let low : c.args.at ≤ length c.args.bytes.now = omega (arith, c.requires) in
    is_written _ _ _ _ _
    (all_written c.loop-left.left.now c.args.cells.now c.args.at c.loop-left.next c.write_end-end.result c.args.raised c.loop-left.later _ _ _ c.loop-left.invariant c.in_default.len_below c.write_end-end.ensures) low
