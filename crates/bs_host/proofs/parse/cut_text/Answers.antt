-- One more chunk was cut off.
use Rattle.bs_host.specs.File.{pieces_of}
use Rattle.bs_host.proofs.ParsedLines.{one_more_chunk}
use Rattle.bs_host.proofs.parse.cut_text.Goals as goal

pub loop-left-preserved : goal.loop-left-preserved
loop-left-preserved c =
    one_more_chunk c.loop-left.chunks.items c.push.new.self.items c.in-Some.chunk (pieces_of c.loop-left.left.now) (pieces_of c.in-Some.more.now)
    (pieces_of c.args.text.now) c.in_ok-push.ensures.items c.in-Some.ensures.pieces c.loop-left.invariant
