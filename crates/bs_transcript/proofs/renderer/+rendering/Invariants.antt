use Rattle.std.proofs.Common.{◌+◌, ◌*◌, length}
use Rattle.bs_transcript.proofs.renderer.+rendering.Given as goal

abbrev pub decreases-render_all : goal.decreases-render_all
decreases-render_all g l = 2 * length l.renderers.now

abbrev pub decreases-rest : goal.decreases-rest
decreases-rest g l = 2 * length l.others.now + 1
