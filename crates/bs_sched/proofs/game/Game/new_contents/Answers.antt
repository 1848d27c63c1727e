use Rattle.std.proofs.Common.{◌≡◌, true, false, sym, subst, arith}
use Rattle.bs_sched.specs.Game.{GameView}
use Rattle.bs_sched.specs.Lane.{is_idle}
use Rattle.bs_sched.proofs.ChangedGame.{open_at_work}
use Rattle.bs_sched.proofs.game.Game.new_contents.Goals as goal

pub expected-expected-requires : goal.expected-expected-requires
expected-expected-requires g c =
    let busy = subst (λ (v : GameView). is_idle v.lane.stage ≡ false) (sym c.self.view_is) c.requires in
    (omega arith, subst (λ (v : GameView). v.lane.is_open ≡ true) c.self.view_is (open_at_work g.row.CAP c.self.inside c.self.invariant busy))
