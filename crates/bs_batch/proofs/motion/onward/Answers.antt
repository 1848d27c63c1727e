use Rattle.bs_batch.proofs.Onward.{goes_down, goes_left, goes_right, goes_up}
use Rattle.bs_batch.proofs.motion.onward.Goals as goal

pub returns-then-neighbor-head : goal.returns-then-neighbor-head
returns-then-neighbor-head c =
    goes_down c.args.settings.now c.args.head c.args.second c.neighbor.result c.neighbor.ensures c.if-neighbor-head.true

pub returns-then-neighbor-head-2 : goal.returns-then-neighbor-head-2
returns-then-neighbor-head-2 c =
    goes_left c.args.settings.now c.args.head c.args.second c.neighbor.result c.neighbor-else-neighbor-head.result c.neighbor.ensures
    c.if-neighbor-head.false c.neighbor-else-neighbor-head.ensures c.if-neighbor-head-2.true

pub returns-then-neighbor-head-3 : goal.returns-then-neighbor-head-3
returns-then-neighbor-head-3 c =
    goes_right c.args.settings.now c.args.head c.args.second c.neighbor.result c.neighbor-else-neighbor-head.result c.neighbor-else-neighbor-head-2.result
    c.neighbor.ensures c.if-neighbor-head.false c.neighbor-else-neighbor-head.ensures c.if-neighbor-head-2.false c.neighbor-else-neighbor-head-2.ensures
    c.if-neighbor-head-3.true

pub returns-else-neighbor-head-3 : goal.returns-else-neighbor-head-3
returns-else-neighbor-head-3 c =
    goes_up c.args.settings.now c.args.head c.args.second c.neighbor.result c.neighbor-else-neighbor-head.result c.neighbor-else-neighbor-head-2.result
    c.neighbor.ensures c.if-neighbor-head.false c.neighbor-else-neighbor-head.ensures c.if-neighbor-head-2.false c.neighbor-else-neighbor-head-2.ensures
    c.if-neighbor-head-3.false
