use Rattle.bs_plane.proofs.QuietTurn.{is_followed}
use Rattle.bs_plane.proofs.law.quiet_law.Goals as goal

pub returns : goal.returns
returns c = is_followed
