use Rattle.std.proofs.Common.{◌+◌, ◌*◌, length}
use Rattle.bs_transcript.proofs.renderer.+opening.Given as goal

abbrev pub decreases-open_all : goal.decreases-open_all
decreases-open_all g l = 2 * length l.pairs.now

abbrev pub decreases-rest : goal.decreases-rest
decreases-rest g l = 2 * length l.others.now + 1
