use Rattle.std.proofs.Common.{◌≡◌, ◌-◌, ◌∙◌, ap, get_or, not}
use Rattle.bs_board.specs.boards.Cell.{is_same_cell, origin}
use Rattle.bs_plane.specs.inner.Onward.{repeated}
use Rattle.bs_plane.proofs.Steps.{half_of}
use Rattle.bs_plane.proofs.motion.is_stretched.Goals as goal

pub returns : goal.returns
returns c s sees =
    let half = half_of s c.args.snake.now sees in
    let last : c.part.result ≡ repeated s = c.part.ensures s sees.view sees.fits.cells ∙ ap (λ n. get_or s.body (n - 2) origin) half in
    let before = c.part-2.ensures s sees.view sees.fits.cells ∙ ap (λ n. get_or s.body (n - 3) origin) half in
    ap not (c.is_same_cell.ensures ∙ ap (λ p. is_same_cell p c.part-2.result) last ∙ ap (is_same_cell (repeated s)) before)
