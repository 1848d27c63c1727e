use Rattle.std.proofs.Common.{◌≡◌, ℕ, List, None, Some, Err, [], rules}
use Rattle.std.specs.Prelude.{IfSome, option_copied}
use Rattle.std.specs.Io.KnownBytes.{Appends}
use Rattle.bs_board.specs.declared.plans.version.Version.{Version}
use Rattle.bs_board.specs.plans.Plan.{GameRow}
use Rattle.bs_host.specs.Live.{live_lines_of}
use Rattle.bs_host.specs.LiveFaults.{HasLiveCause}
use Rattle.bs_host.specs.inner.Live.{HasAnswered, lines_behind}
use Rattle.bs_host.specs.inner.LiveFaults.{LeavesLines}
use Rattle.bs_host.proofs.Causes.{of_writer}
use Rattle.bs_host.proofs.LiveRefusals.{more_lines, no_lines}
use Rattle.bs_host.proofs.live.serve_rest.Goals as goal

pub returns-in_ok-serve_lines-in-Some-clause-written : goal.returns-in_ok-serve_lines-in-Some-clause-written
returns-in_ok-serve_lines-in-Some-clause-written g c =
    let text = c.in-Some.rest.now in
    let some : option_copied c.args.rest ≡ Some text = search rules in
    let old = g.W.Write.contents c.args.output.now in
    let new = g.W.Write.contents c.serve_lines.new.output in
    let serves = c.in_ok-serve_lines-in-Some.ensures.written in
    λ blocks version plan is.
    more_lines (λ lines. Appends old new (live_lines_of blocks version plan lines)) (g.R.Read.remaining c.args.input.now) (option_copied c.args.rest) text some
    (serves blocks version plan is)

pub returns-in_err-serve_lines-in-Some-clause-left : goal.returns-in_err-serve_lines-in-Some-clause-left
returns-in_err-serve_lines-in-Some-clause-left g c =
    let text = c.in-Some.rest.now in
    let some : option_copied c.args.rest ≡ Some text = search rules in
    let input = g.R.Read.remaining c.args.input.now in
    let old = g.W.Write.contents c.args.output.now in
    let new = g.W.Write.contents c.serve_lines.new.output in
    let fault = c.in_err-serve_lines-in-Some.field-0.0 in
    let stops = c.in_err-serve_lines-in-Some.ensures.left in
    let left : (blocks : ℕ) (version : Version) (plan : List GameRow) → HasAnswered blocks version plan [] c.args.host
    → IfSome input (λ more. LeavesLines blocks version plan (lines_behind (option_copied c.args.rest) more) old new fault)
    = λ blocks version plan is.
    more_lines (λ lines. LeavesLines blocks version plan lines old new fault) input (option_copied c.args.rest) text some (stops blocks version plan is) in
    let same : c.from_residual.result ≡ Err fault = search rules in
    rw same left

pub returns-in_ok-end_plan-in-None-clause-written : goal.returns-in_ok-end_plan-in-None-clause-written
returns-in_ok-end_plan-in-None-clause-written g c =
    let none : option_copied c.args.rest ≡ None = search rules in
    let old = g.W.Write.contents c.args.output.now in
    let new = g.W.Write.contents c.end_plan.new.output in
    let ends = c.in_ok-end_plan-in-None.ensures.written in
    λ blocks version plan is.
    no_lines (λ lines. Appends old new (live_lines_of blocks version plan lines)) (g.R.Read.remaining c.args.input.now) (option_copied c.args.rest) none
    (ends blocks version plan is)

pub returns-in_err-end_plan-in-None-clause-left : goal.returns-in_err-end_plan-in-None-clause-left
returns-in_err-end_plan-in-None-clause-left g c =
    let none : option_copied c.args.rest ≡ None = search rules in
    let input = g.R.Read.remaining c.args.input.now in
    let old = g.W.Write.contents c.args.output.now in
    let new = g.W.Write.contents c.end_plan.new.output in
    let fault = c.in_err-end_plan-in-None.field-0.0 in
    let stops = c.in_err-end_plan-in-None.ensures.left in
    let left : (blocks : ℕ) (version : Version) (plan : List GameRow) → HasAnswered blocks version plan [] c.args.host
    → IfSome input (λ more. LeavesLines blocks version plan (lines_behind (option_copied c.args.rest) more) old new fault)
    = λ blocks version plan is.
    no_lines (λ lines. LeavesLines blocks version plan lines old new fault) input (option_copied c.args.rest) none (stops blocks version plan is) in
    let same : c.from_residual-in_err-end_plan-in-None.result ≡ Err fault = search rules in
    rw same left

pub returns-in_err-end_plan-in-None-clause-failed : goal.returns-in_err-end_plan-in-None-clause-failed
returns-in_err-end_plan-in-None-clause-failed g c =
    let read = g.C.ReadCalls.has_failed c.args.input.now in
    let written = g.C.WriteCalls.has_failed c.end_plan.new.output in
    let fault = c.in_err-end_plan-in-None.field-0.0 in
    let cause : HasLiveCause read written fault = of_writer read written fault c.in_err-end_plan-in-None.ensures.failed in
    let same : c.from_residual-in_err-end_plan-in-None.result ≡ Err fault = search rules in
    rw same cause
