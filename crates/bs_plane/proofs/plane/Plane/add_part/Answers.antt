use Rattle.std.proofs.Common.{refl}
use Rattle.bs_plane.proofs.Places.{counts_more}
use Rattle.bs_plane.proofs.plane.Plane.add_part.Goals as goal

pub returns-else-index : goal.returns-else-index
returns-else-index c _ = counts_more c.args.cell c.args.self.now _ c.in-Some.place c.index_mut.result.now c.in-Some.ensures c.index_mut.ensures.value refl refl refl
