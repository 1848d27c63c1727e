-- The blocks that are drawn for the frames change neither the stay nor the pool.
use Rattle.std.proofs.Common.{ap, ◌∙◌}
use Rattle.std.proofs.lemmas.Result.{on_ok_weaker}
use Rattle.bs_sched.specs.Game.{GameView}
use Rattle.bs_sched.specs.inner.Answering.{game_here, number_behind, pool_here}
use Rattle.bs_sched.proofs.game.Game.answer_here.Goals as goal

pub returns-clause-game : goal.returns-clause-game
returns-clause-game g c =
    let drawn = c.frames_to_draw-frames.result in
    let here = ap (λ (v : GameView). game_here g.row.CAP (number_behind v.frames.tag drawn c.args.pool.now) v) c.self.view_is in
    on_ok_weaker c.answer_with-answered.result (λ is. c.self-2.view_is ∙ is ∙ here ∙ c.frames_to_draw-frames.ensures.game)
    c.answer_with-answered.ensures.game

pub returns-clause-pool : goal.returns-clause-pool
returns-clause-pool g c =
    let here = ap (λ (v : GameView). pool_here g.row.CAP c.frames_to_draw-frames.result v c.args.pool.now) c.self.view_is in
    on_ok_weaker c.answer_with-answered.result (λ is. is ∙ here ∙ c.frames_to_draw-frames.ensures.pool) c.answer_with-answered.ensures.pool
