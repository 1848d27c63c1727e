use Rattle.std.proofs.Common.{refl}
use Rattle.bs_plane.proofs.Places.{writes_food}
use Rattle.bs_plane.proofs.plane.Plane.put_food.Goals as goal

pub returns-in-Some : goal.returns-in-Some
returns-in-Some c _ = writes_food c.args.cell c.args.self.now _ c.in-Some.place c.index_mut.result.now c.in-Some.ensures c.index_mut.ensures.value refl refl c.args.food refl
