use Rattle.std.proofs.Common.{◌∙◌, ap, sym}
use Rattle.std.proofs.lemmas.Bool.{eqb-true}
use Rattle.bs_plane.specs.declared.cell.Cell.{Cell}
use Rattle.bs_plane.proofs.motion.has_one_part.Goals as goal

pub returns-in-Some : goal.returns-in-Some
returns-in-Some c one on shows = ap (λ (k : Cell). k.parts) (sym (c.in-Some.ensures.is on shows)) ∙ eqb-true c.in-Some.there.parts 1 one
