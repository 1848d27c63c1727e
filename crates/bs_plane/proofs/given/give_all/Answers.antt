use Rattle.std.proofs.lemmas.List.{take_all}
use Rattle.bs_plane.proofs.GivenFood.{given_more, no_cell_given}
use Rattle.bs_plane.proofs.given.give_all.Goals as goal

pub loop-cell-init : goal.loop-cell-init
loop-cell-init c = no_cell_given c.args.plane.now c.args.into.now.items

pub loop-cell-preserved : goal.loop-cell-preserved
loop-cell-preserved c =
    given_more c.args.cells.now c.loop-cell.cell-index c.args.plane.now c.loop-cell.plane c.give_one.new.plane c.args.into.now.items c.loop-cell.into.items c.give_one.new.into.items
    c.loop-cell-test.true c.loop-cell.invariant (c.in_ok-give_one.ensures c.if-not-branch.false)

pub returns : goal.returns
returns c _ b has = rw (take_all c.loop-cell.cell-index c.args.cells.now c.loop-cell-test.false) at (c.loop-cell.invariant b has)
