use Rattle.bs_board.specs.inner.Kept.{board_in}
use Rattle.bs_game.specs.Game.{game_charge}
use Rattle.bs_game.proofs.Recorded.{same_charge}
use Rattle.bs_live.specs.Game.{KeptBoards}
use Rattle.std.proofs.Common.{◌≡◌, map, subst, ◌∙◌}
use Rattle.bs_live.proofs.kept_game.KeptGame.charge.Goals as goal

pub returns-clause-value : goal.returns-clause-value
returns-clause-value g c =
    let inside = c.self.inside in
    subst (λ (v : KeptBoards). c.charge.result ≡ game_charge v.game) c.self.view_is
    (c.charge.ensures.value ∙ same_charge (map board_in inside.heap.records) inside.heap.records c.self.invariant.recorded)
