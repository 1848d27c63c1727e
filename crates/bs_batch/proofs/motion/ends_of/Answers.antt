use Rattle.std.proofs.Common.{◌-◌, get_or, length, refl}
use Rattle.bs_batch.specs.Steps.{shifted}
use Rattle.bs_batch.proofs.Moved.{moves_body}
use Rattle.bs_batch.proofs.motion.ends_of.Goals as goal

pub returns : goal.returns
returns c =
    moves_body c.args.settings.now c.args.given c.args.body.now c.neighbor-next.result c.taken-direction.result (get_or c.args.body.now 0 0)
    (get_or c.args.body.now 1 0) (get_or c.args.body.now (length c.args.body.now - 1) 0) (shifted c.neighbor-next.result c.args.body.now) refl refl refl
    c.taken-direction.ensures c.neighbor-next.ensures refl
