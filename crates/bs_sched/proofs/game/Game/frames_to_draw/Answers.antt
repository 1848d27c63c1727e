use Rattle.std.proofs.Common.{◌≡◌, true, sym, subst, ◌∙◌}
use Rattle.bs_fiber.specs.declared.job.JobKind.TheVariants as kind
use Rattle.bs_sched.specs.Game.{GameView}
use Rattle.bs_sched.specs.Lane.{is_ready}
use Rattle.bs_sched.proofs.ChangedGame.{right_game}
use Rattle.bs_sched.proofs.UnseenFrames.{game_unseen, pool_unseen}
use Rattle.bs_sched.proofs.game.Game.frames_to_draw.Goals as goal

pub returns-clause-game : goal.returns-clause-game
returns-clause-game g c =
    let ready = subst (λ (v : GameView). is_ready v.lane kind.Begin 0 ≡ true) (sym c.self.view_is) c.requires.ready in
    let right = right_game g.row.CAP c.self.inside c.self.invariant c.keeps.ensures in
    game_unseen g.row.CAP c.args.parts c.self.inside c.args.pool.now c.self.invariant right ready (sym c.has_room.ensures ∙ c.if-not-has_room.false) c.args.self.now c.self.view_is

pub returns-clause-pool : goal.returns-clause-pool
returns-clause-pool g c =
    let ready = subst (λ (v : GameView). is_ready v.lane kind.Begin 0 ≡ true) (sym c.self.view_is) c.requires.ready in
    let right = right_game g.row.CAP c.self.inside c.self.invariant c.keeps.ensures in
    pool_unseen g.row.CAP c.args.parts c.self.inside c.args.pool.now c.self.invariant right ready (sym c.has_room.ensures ∙ c.if-not-has_room.false) c.args.self.now c.self.view_is
    c.size-sound.ensures.sound c.requires.blocks c.requires.few
