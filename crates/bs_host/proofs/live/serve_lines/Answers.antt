use Rattle.std.proofs.Common.{◌≡◌, ℕ, List, Err, [], ◌++◌, sym, subst, append-nil, append_assoc, rules}
use Rattle.std.specs.Prelude.{IfSome}
use Rattle.std.specs.Io.KnownBytes.{Appends, IsAtEnd}
use Rattle.bs_board.specs.declared.plans.version.Version.{Version}
use Rattle.bs_board.specs.plans.Plan.{GameRow}
use Rattle.bs_host.specs.declared.fault.Fault.TheVariants.{Memory}
use Rattle.bs_host.specs.File.{pieces_of}
use Rattle.bs_host.specs.LiveFaults.{HasLiveCause}
use Rattle.bs_host.specs.Live.{live_lines_of}
use Rattle.bs_host.specs.inner.Live.{HasAnswered, IsServing}
use Rattle.bs_host.specs.inner.LiveFaults.{LeavesLines}
use Rattle.bs_host.proofs.Causes.{of_reader, of_writer}
use Rattle.bs_host.proofs.LiveBytes.{all_consumed, consumes_both, consumes_none, if_some, serving_begins, serving_holds, serving_reads}
use Rattle.bs_host.proofs.LiveRefusals.{of_lines}
use Rattle.bs_host.proofs.LiveStops.{read_leaves, serving_first}
use Rattle.bs_host.proofs.live.serve_lines.Goals as goal

pub loop-init : goal.loop-init
loop-init g c =
    λ blocks version plan is.
    let host = c.args.host in
    let rest = c.args.rest.now in
    let first = g.W.Write.contents c.args.output.now in
    let same : c.in_ok-from_slice.field-0.items ≡ rest = search rules in (
      [],
      consumes_none (g.R.Read.remaining c.args.input.now),
      subst (λ pending. IsServing blocks version plan (rest ++ []) pending first first 0 host) (sym same)
          (subst (λ after. IsServing blocks version plan after rest first first 0 host) (sym (append-nil rest))
          (serving_begins blocks version plan rest first host is)),
    )

pub loop-preserved : goal.loop-preserved
loop-preserved g c =
    let host = c.args.host in
    let new = c.answer_ready.new.flow.answers.host in
    let pending = c.args.rest.now in
    let first = g.W.Write.contents c.args.output.now in
    let now = g.W.Write.contents c.answer_ready.new.output in
    let count = c.answer_ready.new.flow.answers.written in
    let inv = c.loop.invariant in
    let serves = c.in_ok-answer_ready.ensures.serving in
    let (more, read, got) = c.in_ok-read_more.ensures.bytes in
    λ blocks version plan is.
    let (bytes, before, serving) = inv blocks version plan is in (
      bytes ++ more,
      consumes_both (g.R.Read.remaining c.args.input.now) (g.R.Read.remaining c.loop.input) (g.R.Read.remaining c.read_more.new.input) bytes more before read,
      subst (λ after. IsServing blocks version plan after c.read_more.new.pending.items first now count new)
          (append_assoc pending bytes more)
          (serving_reads blocks version plan (pending ++ bytes) c.hold_line.new.pending.items c.read_more.new.pending.items more first now count new (serving_holds blocks version plan (pending ++ bytes) c.answer_ready.new.flow.pending.items c.hold_line.new.pending.items first now count
          new (serves blocks version plan (pending ++ bytes) first serving) c.hold_line.ensures.text) got),
    )

pub returns-then-not-branch-clause-written : goal.returns-then-not-branch-clause-written
returns-then-not-branch-clause-written g c =
    λ blocks version plan is.
    let host = c.args.host in
    let new = c.answer_ready.new.flow.answers.host in
    let pending = c.args.rest.now in
    let first = g.W.Write.contents c.args.output.now in
    let now = g.W.Write.contents c.answer_ready.new.output in
    let count = c.answer_ready.new.flow.answers.written in
    let next = g.W.Write.contents c.end_live.new.output in
    let inv = c.loop.invariant in
    let serves = c.in_ok-answer_ready.ensures.serving in
    let (more, read, got) = c.in_ok-read_more.ensures.bytes in
    let (bytes, before, serving) = inv blocks version plan is in
    let served : IsServing blocks version plan (pending ++ (bytes ++ more)) c.read_more.new.pending.items first now count new
    = subst (λ after. IsServing blocks version plan after c.read_more.new.pending.items first now count new)
    (append_assoc pending bytes more)
    (serving_reads blocks version plan (pending ++ bytes) c.hold_line.new.pending.items c.read_more.new.pending.items more first now count new (serving_holds blocks version plan (pending ++ bytes) c.answer_ready.new.flow.pending.items c.hold_line.new.pending.items first now count
    new (serves blocks version plan (pending ++ bytes) first serving) c.hold_line.ensures.text) got) in
    let ends = c.in_ok-end_live.ensures.written in
    let written = ends blocks version plan (pending ++ (bytes ++ more)) first served in
    let end : IsAtEnd (g.R.Read.remaining c.read_more.new.input) = search rules in
    if_some (g.R.Read.remaining c.args.input.now)
    (λ left some same. subst (λ l. Appends first next (live_lines_of blocks version plan (pieces_of (pending ++ l)))) (sym same) written)
    (all_consumed (g.R.Read.remaining c.args.input.now) (g.R.Read.remaining c.read_more.new.input) (bytes ++ more)
    (consumes_both (g.R.Read.remaining c.args.input.now) (g.R.Read.remaining c.loop.input) (g.R.Read.remaining c.read_more.new.input) bytes more before read) end)

pub returns-in_err-answer_ready-clause-left : goal.returns-in_err-answer_ready-clause-left
returns-in_err-answer_ready-clause-left g c =
    let host = c.args.host in
    let pending = c.args.rest.now in
    let input = g.R.Read.remaining c.args.input.now in
    let first = g.W.Write.contents c.args.output.now in
    let next = g.W.Write.contents c.answer_ready.new.output in
    let fault = c.in_err-answer_ready.field-0.0 in
    let inv = c.loop.invariant in
    let stops = c.in_err-answer_ready.ensures.left in
    let left : (blocks : ℕ) (version : Version) (plan : List GameRow) → HasAnswered blocks version plan [] host
    → IfSome input (λ left. LeavesLines blocks version plan (pieces_of (pending ++ left)) first next fault)
    = λ blocks version plan is.
    let (bytes, before, serving) = inv blocks version plan is in
    of_lines blocks version plan input (g.R.Read.remaining c.loop.input) pending bytes first next fault before
    (λ more. stops blocks version plan (pending ++ bytes) first serving more) in
    let same : c.from_residual-in_err-answer_ready.result ≡ Err c.in_err-answer_ready.field-0.0 = search rules in
    rw same left

pub returns-in_err-read_more-clause-left : goal.returns-in_err-read_more-clause-left
returns-in_err-read_more-clause-left g c =
    let host = c.args.host in
    let new = c.answer_ready.new.flow.answers.host in
    let pending = c.args.rest.now in
    let count = c.answer_ready.new.flow.answers.written in
    let input = g.R.Read.remaining c.args.input.now in
    let first = g.W.Write.contents c.args.output.now in
    let now = g.W.Write.contents c.answer_ready.new.output in
    let fault = c.in_err-read_more.field-0.0 in
    let inv = c.loop.invariant in
    let serves = c.in_ok-answer_ready.ensures.serving in
    let left : (blocks : ℕ) (version : Version) (plan : List GameRow) → HasAnswered blocks version plan [] host
    → IfSome input (λ left. LeavesLines blocks version plan (pieces_of (pending ++ left)) first now fault)
    = λ blocks version plan is.
    let (bytes, before, serving) = inv blocks version plan is in
    of_lines blocks version plan input (g.R.Read.remaining c.loop.input) pending bytes first now fault before
    (λ more.
    read_leaves blocks version plan (pieces_of ((pending ++ bytes) ++ more)) first now fault c.in_err-read_more.ensures.fault
    (serving_first blocks version plan (pending ++ bytes) c.answer_ready.new.flow.pending.items more first now count new
    (serves blocks version plan (pending ++ bytes) first serving))) in
    let same : c.from_residual-in_err-read_more.result ≡ Err c.in_err-read_more.field-0.0 = search rules in
    rw same left

pub returns-in_err-end_live-clause-left : goal.returns-in_err-end_live-clause-left
returns-in_err-end_live-clause-left g c =
    let host = c.args.host in
    let new = c.answer_ready.new.flow.answers.host in
    let pending = c.args.rest.now in
    let count = c.answer_ready.new.flow.answers.written in
    let input = g.R.Read.remaining c.args.input.now in
    let first = g.W.Write.contents c.args.output.now in
    let now = g.W.Write.contents c.answer_ready.new.output in
    let next = g.W.Write.contents c.end_live.new.output in
    let fault = c.in_err-end_live.field-0.0 in
    let inv = c.loop.invariant in
    let serves = c.in_ok-answer_ready.ensures.serving in
    let (more, read, got) = c.in_ok-read_more.ensures.bytes in
    let stops = c.in_err-end_live.ensures.left in
    let end : IsAtEnd (g.R.Read.remaining c.read_more.new.input) = search rules in
    let left : (blocks : ℕ) (version : Version) (plan : List GameRow) → HasAnswered blocks version plan [] host
    → IfSome input (λ left. LeavesLines blocks version plan (pieces_of (pending ++ left)) first next fault)
    = λ blocks version plan is.
    let (bytes, before, serving) = inv blocks version plan is in
    let served : IsServing blocks version plan (pending ++ (bytes ++ more)) c.read_more.new.pending.items first now count new
    = subst (λ after. IsServing blocks version plan after c.read_more.new.pending.items first now count new)
    (append_assoc pending bytes more)
    (serving_reads blocks version plan (pending ++ bytes) c.hold_line.new.pending.items c.read_more.new.pending.items more first now count new (serving_holds blocks version plan (pending ++ bytes) c.answer_ready.new.flow.pending.items c.hold_line.new.pending.items first now count
    new (serves blocks version plan (pending ++ bytes) first serving) c.hold_line.ensures.text) got) in
    if_some input
    (λ left some same. subst (λ l. LeavesLines blocks version plan (pieces_of (pending ++ l)) first next fault) (sym same) (stops blocks version plan (pending ++ (bytes ++ more)) first served))
    (all_consumed input (g.R.Read.remaining c.read_more.new.input) (bytes ++ more)
    (consumes_both input (g.R.Read.remaining c.loop.input) (g.R.Read.remaining c.read_more.new.input) bytes more before read) end) in
    let same : c.from_residual-in_err-end_live.result ≡ Err c.in_err-end_live.field-0.0 = search rules in
    rw same left

pub returns-clause-left : goal.returns-clause-left
returns-clause-left g c =
    λ blocks version plan is.
    let host = c.args.host in
    let pending = c.args.rest.now in
    let first = g.W.Write.contents c.args.output.now in
    let now = g.W.Write.contents c.loop.output in
    let (bytes, before, serving) = c.loop.invariant blocks version plan is in
    of_lines blocks version plan (g.R.Read.remaining c.args.input.now) (g.R.Read.remaining c.loop.input) pending bytes first now Memory before
    (λ more.
    serving_first blocks version plan (pending ++ bytes) c.loop.flow.pending.items more first now c.loop.flow.answers.written c.loop.flow.answers.host serving)

pub returns-in_err-answer_ready-clause-failed : goal.returns-in_err-answer_ready-clause-failed
returns-in_err-answer_ready-clause-failed g c =
    let read = g.C.ReadCalls.has_failed c.loop.input in
    let written = g.C.WriteCalls.has_failed c.answer_ready.new.output in
    let fault = c.in_err-answer_ready.field-0.0 in
    let cause : HasLiveCause read written fault = of_writer read written fault c.in_err-answer_ready.ensures.failed in
    let same : c.from_residual-in_err-answer_ready.result ≡ Err c.in_err-answer_ready.field-0.0 = search rules in
    rw same cause

pub returns-in_err-read_more-clause-failed : goal.returns-in_err-read_more-clause-failed
returns-in_err-read_more-clause-failed g c =
    let read = g.C.ReadCalls.has_failed c.read_more.new.input in
    let written = g.C.WriteCalls.has_failed c.answer_ready.new.output in
    let fault = c.in_err-read_more.field-0.0 in
    let cause : HasLiveCause read written fault = of_reader read written fault c.in_err-read_more.ensures.device in
    let same : c.from_residual-in_err-read_more.result ≡ Err c.in_err-read_more.field-0.0 = search rules in
    rw same cause

pub returns-in_err-end_live-clause-failed : goal.returns-in_err-end_live-clause-failed
returns-in_err-end_live-clause-failed g c =
    let read = g.C.ReadCalls.has_failed c.read_more.new.input in
    let written = g.C.WriteCalls.has_failed c.end_live.new.output in
    let fault = c.in_err-end_live.field-0.0 in
    let cause : HasLiveCause read written fault = of_writer read written fault c.in_err-end_live.ensures.failed in
    let same : c.from_residual-in_err-end_live.result ≡ Err c.in_err-end_live.field-0.0 = search rules in
    rw same cause
