use Rattle.std.proofs.Common.{◌∙◌, sym}
use Rattle.bs_plane.proofs.Steps.{advanced_is_moved, given_is_moved}
use Rattle.bs_plane.proofs.motion.head_after.Goals as goal

pub returns-then-is_some : goal.returns-then-is_some
returns-then-is_some c b s of sees =
    given_is_moved b c.args.given s c.wrap_of.result c.next_head.result c.part-head.result sees.lives sees.long (c.wrap_of.ensures.value b of)
    (c.part-head.ensures s sees.view sees.fits.cells) (sym c.is_some.ensures ∙ c.if-is_some.true) c.next_head.ensures

pub returns : goal.returns
returns c b s of sees =
    advanced_is_moved b c.args.given s c.wrap_of-2.result c.next_head-2.result c.part-head.result c.part-second.result sees.lives sees.long (c.wrap_of-2.ensures.value b of)
    (c.part-head.ensures s sees.view sees.fits.cells) (c.part-second.ensures s sees.view sees.fits.cells) c.next_head-2.ensures
