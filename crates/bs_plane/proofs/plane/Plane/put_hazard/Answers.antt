use Rattle.std.proofs.Common.{refl}
use Rattle.bs_plane.proofs.Places.{writes_hazard}
use Rattle.bs_plane.proofs.plane.Plane.put_hazard.Goals as goal

pub returns-in-Some : goal.returns-in-Some
returns-in-Some c _ = writes_hazard c.args.cell c.args.self.now _ c.in-Some.place c.index_mut.result.now c.in-Some.ensures c.index_mut.ensures.value refl refl refl
