use Rattle.bs_batch.proofs.Torus.{wraps_cell}
use Rattle.bs_batch.proofs.motion.on_torus.Goals as goal

pub returns : goal.returns
returns c =
    wraps_cell c.args.settings.now c.args.cell c.within_side-column.result c.within_side-row.result c.within_side-column.ensures.value
    c.within_side-row.ensures.value
