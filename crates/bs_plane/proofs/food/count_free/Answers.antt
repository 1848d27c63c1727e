use Rattle.std.proofs.Common.{◌∙◌, ap, arith, count_by}
use Rattle.std.proofs.lemmas.List.Sums.{count_by-le-length}
use Rattle.bs_plane.specs.Plane.{is_free}
use Rattle.bs_plane.proofs.FreeCells.{chunk_and_rest}
use Rattle.bs_plane.proofs.food.count_free.Goals as goal

pub overflow_add-free : goal.overflow_add-free
overflow_add-free c =
    let here = c.free_in-free.ensures ∙ ap (count_by is_free) c.in-Some.ensures.cases.0 in
    let both = chunk_and_rest 32 c.loop-chunk.rest.now in
    let most = count_by-le-length is_free c.args.cells.now in
    omega (arith, here, both, most, c.loop-chunk.invariant)

pub loop-chunk-preserved : goal.loop-chunk-preserved
loop-chunk-preserved c =
    let here = c.free_in-free.ensures ∙ ap (count_by is_free) c.in-Some.ensures.cases.0 in
    let rest = ap (count_by is_free) c.in-Some.ensures.cases.1 in
    let both = chunk_and_rest 32 c.loop-chunk.rest.now in
    omega (arith, here, rest, both, c.loop-chunk.invariant)
