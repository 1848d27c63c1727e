use Rattle.std.proofs.Common.{rules}
use Rattle.std.specs.Prelude.{IfSome, option_copied}
use Rattle.bs_json.specs.PlanLine.{plan_line_of}
use Rattle.bs_host.specs.Faults.{refusal_of_plan}
use Rattle.bs_host.specs.LiveFaults.{HasLiveCause, IsLiveFault, LeavesLive, live_refusal_of}
use Rattle.bs_host.proofs.Causes.{live_refusal_has_cause, of_reader}
use Rattle.bs_host.proofs.LiveRefusals.{opened_kind, opened_left, opened_served, opened_written, refused_kind, served_not}
use Rattle.bs_host.proofs.live.serve_live_by.Goals as goal

pub returns-in_err-host-clause-fault : goal.returns-in_err-host-clause-fault
returns-in_err-host-clause-fault g c =
    let file = g.R.Read.remaining c.args.input.now in
    let left = g.R.Read.remaining c.read_first.new.input in
    let bytes = c.in_ok-bytes.bytes.items in
    let first = c.split_first.result.0.now in
    let rest = option_copied c.split_first.result.1 in
    let begun = rw c.deref.ensures.value at c.split_first.ensures in
    let read = c.in_ok-bytes.ensures.bytes in
    let end = c.in_ok-bytes.ensures.end in
    let fault = c.in_err-host.field-0.0 in
    let kind : IfSome file (λ file. IsLiveFault (live_refusal_of c.args.blocks file) fault)
    = refused_kind c.args.blocks file left bytes first rest read begun end fault c.in_err-host.ensures.fault in
    search rules

pub returns-in_err-serve_rest-clause-fault : goal.returns-in_err-serve_rest-clause-fault
returns-in_err-serve_rest-clause-fault g c =
    let file = g.R.Read.remaining c.args.input.now in
    let left = g.R.Read.remaining c.read_first.new.input in
    let bytes = c.in_ok-bytes.bytes.items in
    let first = c.split_first.result.0.now in
    let rest = option_copied c.split_first.result.1 in
    let begun = rw c.deref.ensures.value at c.split_first.ensures in
    let read = c.in_ok-bytes.ensures.bytes in
    let end = c.in_ok-bytes.ensures.end in
    let host = c.in_ok-host.host in
    let opened = c.in_ok-host.ensures.opened in
    let old = g.W.Write.contents c.args.output.now in
    let new = g.W.Write.contents c.serve_rest.new.output in
    let stops = c.in_err-serve_rest.ensures.left in
    let fault = c.in_err-serve_rest.field-0.0 in
    let kind : IfSome file (λ file. IsLiveFault (live_refusal_of c.args.blocks file) fault)
    = opened_kind c.args.blocks file left bytes first rest read begun end host opened old new fault (stops c.args.blocks opened.plan.version opened.plan.rows opened.is) in
    search rules

pub returns-in_err-serve_rest-clause-left : goal.returns-in_err-serve_rest-clause-left
returns-in_err-serve_rest-clause-left g c =
    let file = g.R.Read.remaining c.args.input.now in
    let left = g.R.Read.remaining c.read_first.new.input in
    let bytes = c.in_ok-bytes.bytes.items in
    let first = c.split_first.result.0.now in
    let rest = option_copied c.split_first.result.1 in
    let begun = rw c.deref.ensures.value at c.split_first.ensures in
    let read = c.in_ok-bytes.ensures.bytes in
    let end = c.in_ok-bytes.ensures.end in
    let host = c.in_ok-host.host in
    let opened = c.in_ok-host.ensures.opened in
    let old = g.W.Write.contents c.args.output.now in
    let new = g.W.Write.contents c.serve_rest.new.output in
    let stops = c.in_err-serve_rest.ensures.left in
    let fault = c.in_err-serve_rest.field-0.0 in
    let leaves : IfSome file (λ file. LeavesLive c.args.blocks file old new fault)
    = opened_left c.args.blocks file left bytes first rest read begun end host opened old new fault (stops c.args.blocks opened.plan.version opened.plan.rows opened.is) in
    search rules

pub returns-in_err-serve_rest-clause-refused : goal.returns-in_err-serve_rest-clause-refused
returns-in_err-serve_rest-clause-refused g c =
    let file = g.R.Read.remaining c.args.input.now in
    let left = g.R.Read.remaining c.read_first.new.input in
    let bytes = c.in_ok-bytes.bytes.items in
    let first = c.split_first.result.0.now in
    let rest = option_copied c.split_first.result.1 in
    let begun = rw c.deref.ensures.value at c.split_first.ensures in
    let read = c.in_ok-bytes.ensures.bytes in
    let end = c.in_ok-bytes.ensures.end in
    served_not _ c.args.blocks file (opened_served c.args.blocks file left bytes first rest read begun end c.in_ok-host.host c.in_ok-host.ensures.opened)

pub returns-clause-refused : goal.returns-clause-refused
returns-clause-refused g c =
    let file = g.R.Read.remaining c.args.input.now in
    let left = g.R.Read.remaining c.read_first.new.input in
    let bytes = c.in_ok-bytes.bytes.items in
    let first = c.split_first.result.0.now in
    let rest = option_copied c.split_first.result.1 in
    let begun = rw c.deref.ensures.value at c.split_first.ensures in
    let read = c.in_ok-bytes.ensures.bytes in
    let end = c.in_ok-bytes.ensures.end in
    served_not _ c.args.blocks file (opened_served c.args.blocks file left bytes first rest read begun end c.in_ok-host.host c.in_ok-host.ensures.opened)

pub returns-clause-served : goal.returns-clause-served
returns-clause-served g c =
    let file = g.R.Read.remaining c.args.input.now in
    let left = g.R.Read.remaining c.read_first.new.input in
    let bytes = c.in_ok-bytes.bytes.items in
    let first = c.split_first.result.0.now in
    let rest = option_copied c.split_first.result.1 in
    let begun = rw c.deref.ensures.value at c.split_first.ensures in
    let read = c.in_ok-bytes.ensures.bytes in
    let end = c.in_ok-bytes.ensures.end in
    opened_served c.args.blocks file left bytes first rest read begun end c.in_ok-host.host c.in_ok-host.ensures.opened

pub returns-clause-written : goal.returns-clause-written
returns-clause-written g c =
    let file = g.R.Read.remaining c.args.input.now in
    let left = g.R.Read.remaining c.read_first.new.input in
    let bytes = c.in_ok-bytes.bytes.items in
    let first = c.split_first.result.0.now in
    let rest = option_copied c.split_first.result.1 in
    let begun = rw c.deref.ensures.value at c.split_first.ensures in
    let read = c.in_ok-bytes.ensures.bytes in
    let end = c.in_ok-bytes.ensures.end in
    let host = c.in_ok-host.host in
    let opened = c.in_ok-host.ensures.opened in
    let old = g.W.Write.contents c.args.output.now in
    let new = g.W.Write.contents c.serve_rest.new.output in
    let serves = c.in_ok-serve_rest.ensures.written in
    opened_written c.args.blocks file left bytes first rest read begun end host opened old new (serves c.args.blocks opened.plan.version opened.plan.rows opened.is)

pub returns-in_err-bytes-clause-failed : goal.returns-in_err-bytes-clause-failed
returns-in_err-bytes-clause-failed g c =
    let read = g.C.ReadCalls.has_failed c.read_first.new.input in
    let written = g.C.WriteCalls.has_failed c.args.output.now in
    let fault = c.in_err-bytes.field-0.0 in
    let cause : HasLiveCause read written fault = of_reader read written fault c.in_err-bytes.ensures.device in
    search rules

pub returns-in_err-host-clause-failed : goal.returns-in_err-host-clause-failed
returns-in_err-host-clause-failed g c =
    let read = g.C.ReadCalls.has_failed c.read_first.new.input in
    let written = g.C.WriteCalls.has_failed c.args.output.now in
    let fault = c.in_err-host.field-0.0 in
    let cause : HasLiveCause read written fault =
    live_refusal_has_cause read written (refusal_of_plan c.args.blocks (plan_line_of c.split_first.result.0.now)) fault c.in_err-host.ensures.fault in
    search rules
