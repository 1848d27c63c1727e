use Rattle.std.proofs.Common.{arith, ◌+◌, ◌-◌}
use Rattle.bs_batch.specs.Showing.{IsLargeBoard}
use Rattle.bs_batch.proofs.ShownGames.{one_shown}
use Rattle.bs_batch.proofs.large.show_game.Goals as goal

pub returns : goal.returns
returns c =
    one_shown c.args.number c.args.each c.saturating_mul-from.result (c.saturating_mul-from.result + c.args.each - c.saturating_mul-from.result) c.args.into.now c.show.new.into
    (omega arith) (omega arith) (omega arith) c.show.auto.into (IsLargeBoard c.args.game.now) (λ b is. c.show.ensures b c.args.game.now.plane is.legal is.shows)
