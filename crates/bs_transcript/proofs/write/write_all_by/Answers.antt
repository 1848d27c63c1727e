use Rattle.bs_transcript.proofs.WrittenBytes.{appends_more}
use Rattle.bs_transcript.proofs.write.write_all_by.Goals as goal

pub writes-preserved : goal.writes-preserved
writes-preserved g c =
    let written = c.in-Ok.ensures in
    appends_more (g.W.Write.contents c.args.output.now) (g.W.Write.contents c.writes.output) (g.W.Write.contents c.write.new.output) c.args.text.now c.writes.written c.in-Ok.count c.writes-test.true c.writes.invariant.1 written.bound written.bytes
