use Rattle.std.proofs.Common.{arith, refl}
use Rattle.bs_plane.proofs.Steps.{grows_in_constrictor}
use Rattle.bs_plane.proofs.motion.grown.Goals as goal

pub returns : goal.returns
returns c s sees = (
  refl,
  omega (arith, c.if-snake-lt2.false, sees.view.health),
  grows_in_constrictor c.args.head s sees.long c.is_stretched.result sees.lives (c.is_stretched.ensures s sees),
)
