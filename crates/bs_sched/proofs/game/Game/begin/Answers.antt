use Rattle.std.proofs.Common.{◌≡◌, true, false, sym, ap, subst, ◌∙◌}
use Rattle.bs_fiber.specs.declared.job.JobKind.{JobKind}
use Rattle.bs_fiber.specs.declared.job.JobKind.TheVariants as kind
use Rattle.bs_sched.specs.Game.{GameView}
use Rattle.bs_sched.specs.inner.Game.{lane_at}
use Rattle.bs_sched.specs.Lane.{Lane, is_playing, is_ready, with_taken}
use Rattle.bs_sched.proofs.ChangedGame.{kept_game, open_ready, taken_boards}
use Rattle.bs_sched.proofs.PartFrames.{begun_fit}
use Rattle.bs_sched.proofs.game.Game.begin.Goals as goal

pub invariant_of-self-2 : goal.invariant_of-self-2
invariant_of-self-2 g c =
    let inside = c.self.inside in
    let p = c.args.job.part in
    let x = c.begin.new.self in
    let ready = subst (λ (k : JobKind). is_ready (lane_at inside) k p ≡ true) c.requires.kind
    (subst (λ (v : GameView). is_ready v.lane c.args.job.kind p ≡ true) (sym c.self.view_is) c.requires.ready) in
    let stands = open_ready g.row.CAP inside kind.Begin p c.self.invariant ready in
    let lane : x ≡ with_taken c.args.worker kind.Begin p inside.fiber = c.in_ok-begin.ensures.ok in
    let ps = c.begin-2.new.self in
    kept_game g.row.CAP inside x c.grow_index.new.self ps c.self.invariant stands
    (taken_boards inside.fiber x c.args.worker kind.Begin p lane) c.grow_index.ensures.heap (λ may. c.in_ok-grow_index.ensures.ok)
    (λ plays. let wrong : false ≡ true = ap (λ (y : Lane). is_playing y.stage) (sym lane) ∙ plays in absurd cc)
    (begun_fit inside.fiber x inside.parts ps c.args.worker p c.in_ok-tally.tally c.in_ok-tally.keys.items ready c.self.invariant.parts lane c.begin-2.ensures (c.in_ok-tally.ensures c.args.worker))
