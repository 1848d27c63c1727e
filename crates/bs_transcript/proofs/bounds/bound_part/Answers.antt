use Rattle.std.proofs.Common.{[], ◌<◌, ◌++◌, length, take, get_or, subst, arith}
use Rattle.bs_transcript.specs.inner.Buffer.{AreBounded}
use Rattle.bs_transcript.specs.inner.Parts.{lines_of_part}
use Rattle.bs_transcript.proofs.Sent.{one_more_line}
use Rattle.bs_transcript.proofs.PartLines.{bound_found}
use Rattle.bs_transcript.proofs.bounds.bound_part.Goals as goal

pub loop-index-preserved : goal.loop-index-preserved
loop-index-preserved c =
    λ before bounded.
    let lines = lines_of_part c.args.part.now in
    let at = c.loop-index.index in
    let within : at < length lines = omega (arith, c.len-index-end.ensures, c.loop-index-test.true) in
    let next = c.in_ok-add.ensures (before ++ take at lines) (get_or lines at []) (bound_found (get_or lines at []) c.line_bound.result _ c.in_ok-bytes.bytes c.line_bound.ensures c.in_ok-bytes.ensures.value) (c.loop-index.invariant before bounded) in
    subst (AreBounded c.add.new.self) (one_more_line before lines at within) next
