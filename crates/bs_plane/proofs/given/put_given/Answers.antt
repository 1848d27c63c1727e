use Rattle.std.proofs.lemmas.Result.{IfOk-weaker}
use Rattle.bs_plane.proofs.GivenFood.{puts_given}
use Rattle.bs_plane.proofs.given.put_given.Goals as goal

pub returns-in-Some : goal.returns-in-Some
returns-in-Some c =
    IfOk-weaker c.put_food_at.result _ _
    (λ done puts is. puts_given c.args.cell c.in-Some.place c.args.plane.now c.put_food_at.new.plane c.args.into.now.items c.put_food_at.new.into.items c.in-Some.ensures (puts is))
    c.put_food_at.ensures
