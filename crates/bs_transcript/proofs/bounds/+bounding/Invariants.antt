use Rattle.std.proofs.Common.{◌+◌, ◌*◌}
use Rattle.bs_transcript.proofs.bounds.+bounding.Given as goal

abbrev pub decreases-bound_on : goal.decreases-bound_on
decreases-bound_on g l = 2 * l.threads

abbrev pub decreases-rest : goal.decreases-rest
decreases-rest g l = 2 * l.left + 1
