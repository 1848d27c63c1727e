use Rattle.bs_transcript.proofs.Sent.{cut_off, sent_whole}
use Rattle.std.proofs.Common.{refl}
use Rattle.bs_transcript.proofs.line_buffer.LineBuffer.write_out.Goals as goal

pub returns-in-Err-clause-sent : goal.returns-in-Err-clause-sent
returns-in-Err-clause-sent g c =
    λ first text left way.
    let fewer = rw c.as_slice.ensures at c.in-Err.ensures.fewer in
    let front = rw c.as_slice.ensures at c.in-Err.ensures.front in
    cut_off first (g.W.Write.contents c.args.output.now) (g.W.Write.contents c.write_all_by.new.output) c.args.self.now text left
    c.in-Err.fault.written c.saturating_add.result way fewer front c.saturating_add.ensures

pub returns-clause-sent : goal.returns-clause-sent
returns-clause-sent g c =
    λ first text left way.
    let all = rw c.as_slice.ensures at c.in_default.ensures.ok in
    let counts = rw c.as_slice-2.ensures at c.saturating_add-self.ensures in
    sent_whole first (g.W.Write.contents c.args.output.now) (g.W.Write.contents c.write_all_by.new.output) c.args.self.now _ text left
    way all c.clear.ensures refl counts
