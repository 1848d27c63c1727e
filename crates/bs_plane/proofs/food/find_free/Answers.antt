use Rattle.std.proofs.Common.{◌∙◌, ap, count_by}
use Rattle.bs_plane.specs.Plane.{is_free}
use Rattle.bs_plane.proofs.FreeCells.{found_in_rest, rest_after}
use Rattle.bs_plane.proofs.food.find_free.Goals as goal

pub loop-chunk-preserved : goal.loop-chunk-preserved
loop-chunk-preserved c =
    rw c.in-Some.ensures.cases.1
    (rest_after c.args.cells.now c.args.number c.loop-chunk.rest.now c.loop-chunk.left 32 c.free_in-free.result
    (c.free_in-free.ensures ∙ ap (count_by is_free) c.in-Some.ensures.cases.0) c.if-left-free.false c.loop-chunk.invariant)

pub returns : goal.returns
returns c =
    found_in_rest c.args.cells.now c.args.number c.loop-chunk.rest.now c.loop-chunk.left c.find_in.result c.loop-chunk.invariant c.find_in.ensures.place
