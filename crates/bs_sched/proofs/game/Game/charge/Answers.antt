use Rattle.std.proofs.Common.{ap, ◌∙◌}
use Rattle.bs_game.specs.Game.{game_charge}
use Rattle.bs_sched.specs.Game.{GameView}
use Rattle.bs_sched.specs.inner.Game.{lane_at}
use Rattle.bs_sched.proofs.ChangedGame.{charge_of_boards, keeps_boards, right_game}
use Rattle.bs_sched.proofs.game.Game.charge.Goals as goal

pub returns-in-None : goal.returns-in-None
returns-in-None g c =
    let inside = c.self.inside in
    charge_of_boards (lane_at inside) inside.heap c.charge.result (right_game g.row.CAP inside c.self.invariant c.keeps.ensures) (keeps_boards g.row.CAP inside c.self.invariant c.in-None.ensures)
    c.charge.ensures.value
    ∙ ap (λ (v : GameView). game_charge v.lane.game) c.self.view_is
