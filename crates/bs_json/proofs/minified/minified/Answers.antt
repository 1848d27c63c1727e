use Rattle.std.proofs.Common.{get_or, refl}
use Rattle.bs_json.proofs.MinifiedLines.{byte_more}
use Rattle.bs_json.proofs.minified.minified.Goals as goal

pub loop-byte-preserved : goal.loop-byte-preserved
loop-byte-preserved c =
    byte_more c.args.line.now c.loop-byte.short.items c.push_kept.new.short.items c.loop-byte.place c.in-Some.next c.loop-byte.byte-index
    (get_or c.args.line.now c.loop-byte.byte-index 0) c.loop-byte.invariant c.loop-byte-test.true refl c.in-Some.ensures c.in_ok-push_kept.ensures
