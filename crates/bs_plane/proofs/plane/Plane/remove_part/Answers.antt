use Rattle.std.proofs.Common.{refl}
use Rattle.bs_plane.proofs.Places.{counts_less}
use Rattle.bs_plane.proofs.plane.Plane.remove_part.Goals as goal

pub returns-else-index-eq0 : goal.returns-else-index-eq0
returns-else-index-eq0 c _ = counts_less c.args.cell c.args.self.now _ c.in-Some.place c.index_mut.result.now c.in-Some.ensures c.index_mut.ensures.value refl refl refl
