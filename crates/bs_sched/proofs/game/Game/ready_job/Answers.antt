use Rattle.std.proofs.Common.{◌≡◌, false, true, sym, subst}
use Rattle.bs_sched.specs.Game.{GameView}
use Rattle.bs_sched.specs.inner.MoveParts.{states_of}
use Rattle.bs_sched.specs.Lane.{is_in_parts, is_ready}
use Rattle.bs_sched.specs.inner.Lane.{HasNoneReady}
use Rattle.bs_sched.proofs.Lanes.{none_with_parts, ready_with_parts}
use Rattle.bs_sched.proofs.game.Game.ready_job.Goals as goal

pub returns-in-None : goal.returns-in-None
returns-in-None g c =
    let at = subst (λ (v : GameView). is_in_parts v.lane.stage ≡ false) (sym c.self.view_is) c.requires in
    subst (λ (v : GameView). HasNoneReady v.lane) c.self.view_is (none_with_parts c.self.inside.fiber (states_of c.self.inside.parts) at c.in-None.ensures)

pub returns-in-Some : goal.returns-in-Some
returns-in-Some g c =
    let at = subst (λ (v : GameView). is_in_parts v.lane.stage ≡ false) (sym c.self.view_is) c.requires in
    subst (λ (v : GameView). is_ready v.lane c.in-Some.kind 0 ≡ true) c.self.view_is
    (ready_with_parts c.self.inside.fiber (states_of c.self.inside.parts) c.in-Some.kind at c.in-Some.ensures)
