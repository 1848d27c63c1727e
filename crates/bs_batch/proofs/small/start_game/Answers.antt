use Rattle.std.proofs.Common.{arith, sym, ◌∙◌}
use Rattle.bs_batch.proofs.StartedGames.{game_begins}
use Rattle.bs_batch.proofs.small.start_game.Goals as goal

pub returns-then-is_fit : goal.returns-then-is_fit
returns-then-is_fit c =
    game_begins 11 c.args.first.now c.args.number _ c.start.result c.clear.new.head c.start.new.head c.start.new.food c.start.new.plane c.start.new.bodies
    c.cells_of.result.starts.now c.cells_of.result.food.now (omega arith) (sym c.has_to_start.ensures ∙ c.if-not-has_to_start.false) (c.is_fit.ensures.exactly.0 c.if-is_fit.true)
    c.cells_of.ensures.starts c.cells_of.ensures.food c.clear.ensures (omega arith) (omega arith) (omega arith) (omega arith) c.start.ensures
