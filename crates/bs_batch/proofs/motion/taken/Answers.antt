use Rattle.bs_batch.proofs.Onward.{taken_onward}
use Rattle.bs_batch.proofs.motion.taken.Goals as goal

pub returns-else-given-le-RIGHT : goal.returns-else-given-le-RIGHT
returns-else-given-le-RIGHT c =
    taken_onward c.args.settings.now c.args.head c.args.second c.args.given c.onward.result c.if-given-le-RIGHT.false c.onward.ensures
