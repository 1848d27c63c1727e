use Rattle.std.proofs.Common.{ℕ, List, Option, sym, ap, subst, ◌∙◌}
use Rattle.std.specs.Prelude.{IfSome, MatchOption}
use Rattle.bs_board.specs.records.Record.{record_of}
use Rattle.bs_plane.specs.Following.{Follows, IsLost, IsNextRecord}
use Rattle.tests_plane.proofs.games.play.Goals as goal

pub invariant_of-game : goal.invariant_of-game
invariant_of-game c =
    (c.in_ok-next.ensures.legal, c.in_ok-wanted.ensures, subst (λ (bytes : List ℕ). Follows c.load.new.stepper bytes) (sym c.in_ok-wanted.ensures) c.in_ok-load-in-None.ensures)

pub invariant_of-game-in-Some : goal.invariant_of-game-in-Some
invariant_of-game-in-Some c =
    let told = c.game.invariant in
    let next = subst (λ (o : Option (List ℕ)). IfSome o (IsNextRecord c.game.inside.last c.args.orders.now)) c.in-Some.is c.in_ok-step.ensures.value in
    let follows = subst (λ (o : Option (List ℕ)). MatchOption o (IsLost c.step.new.self) (Follows c.step.new.self)) c.in-Some.is c.in_ok-step.ensures.follows in
    (c.in_ok-next.ensures.legal, next c.game.inside.board told.0 told.1 ∙ ap record_of (sym c.in_ok-next.ensures.value), follows)
