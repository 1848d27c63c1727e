use Rattle.bs_host.proofs.LivePieces.{feed_behind, no_feed}
use Rattle.bs_host.proofs.lines.last_feed.Goals as goal

pub returns-clause-behind : goal.returns-clause-behind
returns-clause-behind c = feed_behind c.args.bytes.now c.memrchr.result c.memrchr.ensures

pub returns-clause-none : goal.returns-clause-none
returns-clause-none c = no_feed c.args.bytes.now c.memrchr.result c.memrchr.ensures
