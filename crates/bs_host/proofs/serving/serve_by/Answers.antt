use Rattle.std.proofs.Common.{◌≡◌, None, Ok, refl, subst, arith, rules}
use Rattle.std.specs.Prelude.{option_copied}
use Rattle.std.specs.Io.KnownBytes.{Appends}
use Rattle.bs_transcript.specs.Written.{HasCause as HasTextCause, Leaves as LeavesOfText}
use Rattle.bs_workers.specs.Causes.{IsCause}
use Rattle.bs_host.specs.Faults.{HasCause, IsFault, Leaves, fault_of_run, fault_of_writing, refusal_of, refusal_of_plan}
use Rattle.bs_host.specs.inner.File.{pieces_after}
use Rattle.bs_host.specs.Hosted.{Hosts}
use Rattle.bs_host.specs.Transcript.{transcript_of}
use Rattle.bs_host.specs.inner.Transcript.{core_text_of}
use Rattle.bs_host.proofs.Causes.{refused_has_cause, run_has_cause, writing_has_cause}
use Rattle.bs_host.proofs.FileTexts.{acts_accepted, fresh_core, hosts_of_run, is_served, opened, read_refused, refused_is_fault, refused_leaves, run_is_fault, text_of_run, writing_is_fault, writing_leaves}
use Rattle.bs_host.proofs.serving.serve_by.Goals as goal
use Rattle.bs_host.proofs.serving.serve_by.Goals.{After-write}

pub returns-in_err-plan-clause-fault : goal.returns-in_err-plan-clause-fault
returns-in_err-plan-clause-fault g c =
    let fault : IsFault (g.G.Gate.may_refuse c.args.gate.now) (refusal_of c.args.blocks c.args.input.now) c.in_err-plan.field-0.0 =
    refused_is_fault (g.G.Gate.may_refuse c.args.gate.now) (refusal_of c.args.blocks c.args.input.now) c.in_err-plan.field-0.0 (c.in_err-plan.ensures.fault c.args.blocks) in
    search rules

pub returns-in_err-plan-clause-left : goal.returns-in_err-plan-clause-left
returns-in_err-plan-clause-left g c =
    let left : Leaves g.W.Write.contents (transcript_of c.args.blocks c.args.input.now) c.args.output.now c.args.output.now c.in_err-plan.field-0.0 =
    refused_leaves g.W.Write.contents (transcript_of c.args.blocks c.args.input.now) c.args.output.now (refusal_of c.args.blocks c.args.input.now)
    c.in_err-plan.field-0.0 (c.in_err-plan.ensures.fault c.args.blocks) in
    search rules

pub returns-in_err-core-clause-fault : goal.returns-in_err-core-clause-fault
returns-in_err-core-clause-fault g c =
    let refused = read_refused c.args.blocks c.args.input.now c.in_ok-plan.plan (pieces_after (option_copied c.in_ok-plan.text)) c.in_err-core.field-0.0
    c.in_ok-plan.ensures.read c.in_err-core.ensures.fault in
    let fault : IsFault (g.G.Gate.may_refuse c.args.gate.now) (refusal_of c.args.blocks c.args.input.now) c.in_err-core.field-0.0 =
    refused_is_fault (g.G.Gate.may_refuse c.args.gate.now) (refusal_of c.args.blocks c.args.input.now) c.in_err-core.field-0.0 refused in
    search rules

pub run-requires-after_bounds : goal.run-requires-after_bounds
run-requires-after_bounds g c κs bounds =
    let lines = pieces_after (option_copied c.in_ok-plan.text) in
    let opens = opened c.args.blocks c.args.input.now lines c.in_ok-plan.plan c.in_ok-core.core c.in_ok-plan.ensures.read c.in_ok-core.ensures.core in
    let given : c.as_slice.result.now ≡ c.in_ok-core.field-0-1.acts.items = search rules in
    let fresh = fresh_core c.args.blocks c.args.input.now lines c.in_ok-plan.plan c.in_ok-core.core opens in
    let accepted = acts_accepted c.args.blocks c.args.input.now lines c.in_ok-plan.plan c.in_ok-core.field-0-1 c.as_slice.result.now
    c.in_ok-core.core opens c.in_ok-core.ensures.routed given in
    (omega arith, (fresh, accepted))

pub returns-in_err-core-2-clause-fault : goal.returns-in_err-core-2-clause-fault
returns-in_err-core-2-clause-fault g c =
    let none : refusal_of c.args.blocks c.args.input.now ≡ None = is_served c.args.blocks c.args.input.now (pieces_after (option_copied c.in_ok-plan.text))
    c.in_ok-plan.plan c.in_ok-core.core c.in_ok-plan.ensures.read c.in_ok-core.ensures.core in
    let cause : IsCause (g.G.Gate.may_refuse c.args.gate.now) c.in_err-core-2.field-0.0 = c.in_err-core-2.ensures.cause in
    let fault : IsFault (g.G.Gate.may_refuse c.args.gate.now) (refusal_of c.args.blocks c.args.input.now) (fault_of_run c.in_err-core-2.field-0.0) =
    run_is_fault (g.G.Gate.may_refuse c.args.gate.now) (refusal_of c.args.blocks c.args.input.now) c.in_err-core-2.field-0.0 none cause in
    search rules

served : (g : _) (c : After-write g) → refusal_of c.args.blocks c.args.input.now ≡ None
served g c =
    is_served c.args.blocks c.args.input.now (pieces_after (option_copied c.in_ok-plan.text)) c.in_ok-plan.plan c.in_ok-core.core c.in_ok-plan.ensures.read
    c.in_ok-core.ensures.core

hosts : (g : _) (c : After-write g) → Hosts c.args.blocks c.args.input.now c.in_ok-core-2.core
hosts g c =
    let lines = pieces_after (option_copied c.in_ok-plan.text) in
    let opens = opened c.args.blocks c.args.input.now lines c.in_ok-plan.plan c.in_ok-core.core c.in_ok-plan.ensures.read c.in_ok-core.ensures.core in
    let given : c.as_slice.result.now ≡ c.in_ok-core.field-0-1.acts.items = search rules in
    hosts_of_run c.args.blocks c.args.input.now lines c.in_ok-plan.plan c.in_ok-core.field-0-1 c.as_slice.result.now
    c.in_ok-core.core opens c.in_ok-core.ensures.routed given c.in_ok-core-2.core c.in_ok-core-2.ensures.run

told : (g : _) (c : After-write g) → core_text_of c.in_ok-core-2.core c.in_ok-core.field-0-1.strays.items ≡ transcript_of c.args.blocks c.args.input.now
told g c =
    let lines = pieces_after (option_copied c.in_ok-plan.text) in
    let opens = opened c.args.blocks c.args.input.now lines c.in_ok-plan.plan c.in_ok-core.core c.in_ok-plan.ensures.read c.in_ok-core.ensures.core in
    let given : c.as_slice.result.now ≡ c.in_ok-core.field-0-1.acts.items = search rules in
    text_of_run c.args.blocks c.args.input.now lines c.in_ok-plan.plan c.in_ok-core.field-0-1 c.as_slice.result.now
    c.in_ok-core.core opens c.in_ok-core.ensures.routed given c.in_ok-core-2.core c.in_ok-core.field-0-1.strays.items
    c.in_ok-core-2.ensures.run refl

pub returns-in_err-write-clause-fault : goal.returns-in_err-write-clause-fault
returns-in_err-write-clause-fault g c =
    let fault : IsFault (g.G.Gate.may_refuse c.args.gate.now) (refusal_of c.args.blocks c.args.input.now) (fault_of_writing c.in_err-write.field-0.0) =
    writing_is_fault (g.G.Gate.may_refuse c.args.gate.now) (refusal_of c.args.blocks c.args.input.now) c.in_err-write.field-0.0 (served g (goal.at.returns-in_err-write-clause-fault g c).After-write) in
    search rules

pub returns-in_err-write-clause-left : goal.returns-in_err-write-clause-left
returns-in_err-write-clause-left g c =
    let is = told g (goal.at.returns-in_err-write-clause-left g c).After-write in
    let given : LeavesOfText g.W.Write.contents (core_text_of c.in_ok-core-2.core c.in_ok-core.field-0-1.strays.items) c.args.output.now c.write.new.output c.in_err-write.field-0.0 =
    c.in_err-write.ensures.left in
    let left = subst (λ text. LeavesOfText g.W.Write.contents text c.args.output.now c.write.new.output c.in_err-write.field-0.0) is given in
    let leaves : Leaves g.W.Write.contents (transcript_of c.args.blocks c.args.input.now) c.args.output.now c.write.new.output (fault_of_writing c.in_err-write.field-0.0) =
    writing_leaves g.W.Write.contents (transcript_of c.args.blocks c.args.input.now) c.args.output.now c.write.new.output c.in_err-write.field-0.0 left in
    search rules

pub returns-clause-served : goal.returns-clause-served
returns-clause-served g c = served g (goal.at.returns-clause-served g c).After-write

pub returns-clause-core : goal.returns-clause-core
returns-clause-core g c =
    let is = hosts g (goal.at.returns-clause-core g c).After-write in
    search rules

pub returns-clause-written : goal.returns-clause-written
returns-clause-written g c =
    let is = told g (goal.at.returns-clause-written g c).After-write in
    let old = g.W.Write.contents c.args.output.now in
    let new = g.W.Write.contents c.write.new.output in
    let given : Appends old new (core_text_of c.in_ok-core-2.core c.in_ok-core.field-0-1.strays.items) = c.in_ok-write.ensures.written in
    subst (Appends old new) is given

pub returns-in_err-plan-clause-failed : goal.returns-in_err-plan-clause-failed
returns-in_err-plan-clause-failed g c =
    let failed = g.C.WriteCalls.has_failed c.args.output.now in
    let cause : HasCause failed c.in_err-plan.field-0.0 =
    refused_has_cause failed (refusal_of c.args.blocks c.args.input.now) c.in_err-plan.field-0.0 (c.in_err-plan.ensures.fault c.args.blocks) in
    search rules

pub returns-in_err-core-clause-failed : goal.returns-in_err-core-clause-failed
returns-in_err-core-clause-failed g c =
    let failed = g.C.WriteCalls.has_failed c.args.output.now in
    let cause : HasCause failed c.in_err-core.field-0.0 =
    refused_has_cause failed (refusal_of_plan c.args.blocks (Ok c.in_ok-plan.plan)) c.in_err-core.field-0.0 c.in_err-core.ensures.fault in
    search rules

pub returns-in_err-core-2-clause-failed : goal.returns-in_err-core-2-clause-failed
returns-in_err-core-2-clause-failed g c =
    let failed = g.C.WriteCalls.has_failed c.args.output.now in
    let cause : HasCause failed (fault_of_run c.in_err-core-2.field-0.0) = run_has_cause failed c.in_err-core-2.field-0.0 in
    search rules

pub returns-in_err-write-clause-failed : goal.returns-in_err-write-clause-failed
returns-in_err-write-clause-failed g c =
    let failed = g.C.WriteCalls.has_failed c.write.new.output in
    let given : HasTextCause failed c.in_err-write.field-0.0 = c.in_err-write.ensures.failed in
    let cause : HasCause failed (fault_of_writing c.in_err-write.field-0.0) = writing_has_cause failed c.in_err-write.field-0.0 given in
    search rules
