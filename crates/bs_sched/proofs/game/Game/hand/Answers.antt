use Rattle.std.proofs.Common.{◌≡◌, true, refl, sym, ap, subst, ◌∙◌}
use Rattle.bs_sched.specs.Game.{GameView}
use Rattle.bs_sched.specs.inner.MoveParts.{states_of}
use Rattle.bs_sched.specs.inner.Insides.{may_answer}
use Rattle.bs_sched.proofs.ChangedGame.{handed_fit, handed_parts, kept_game, same_stage}
use Rattle.bs_sched.proofs.game.Game.hand.Goals as goal

pub invariant_of-self : goal.invariant_of-self
invariant_of-self g c =
    let inside = c.self.inside in
    let stands = subst (λ (v : GameView). v.lane.is_open ≡ true) (sym c.self.view_is) c.requires in
    let same = same_stage c.hand.result inside.fiber c.hand.new.self c.args.command c.hand.ensures.ok c.hand.ensures.err in
    kept_game g.row.CAP inside c.hand.new.self inside.heap inside.parts c.self.invariant stands same.boards refl
    (λ may. c.self.invariant.room (ap may_answer (sym same.stage) ∙ may)) (handed_parts inside.fiber c.hand.new.self (states_of inside.parts) c.self.invariant.many same)
    (handed_fit inside.fiber c.hand.new.self inside.parts c.self.invariant.parts same)
