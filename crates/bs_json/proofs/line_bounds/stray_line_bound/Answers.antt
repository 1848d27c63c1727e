use Rattle.bs_json.proofs.LineBounds.{stray_bound}
use Rattle.bs_json.proofs.line_bounds.stray_line_bound.Goals as goal

pub returns : goal.returns
returns c = stray_bound c.args._line c.args._stray c.ranges._line.fits
