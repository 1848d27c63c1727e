use Rattle.std.proofs.Common.{◌≡◌, true, sym, subst}
use Rattle.bs_game.specs.Game.{game_charge}
use Rattle.bs_sched.specs.Lane.{Lane, is_quiet}
use Rattle.bs_sched.proofs.Fibers.{closed_fiber}
use Rattle.bs_sched.proofs.fiber.Fiber.close.Goals as goal

pub invariant_of-self : goal.invariant_of-self
invariant_of-self c =
    closed_fiber c.self.inside c.args.charge c.self.invariant (subst (λ (x : Lane). is_quiet x ≡ true) (sym c.self.view_is) c.requires.quiet)
    (subst (λ (x : Lane). c.args.charge ≡ game_charge x.game) (sym c.self.view_is) c.requires.charge)
