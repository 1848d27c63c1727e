use Rattle.std.proofs.Common.{◌≡◌, ℕ, List, true, subst, sym, arith}
use Rattle.std.specs.Prelude.{None}
use Rattle.bs_game.specs.Game.{board_of_turn, last_board}
use Rattle.bs_game.specs.inner.Recorded.{IsRecorded}
use Rattle.bs_game.proofs.Recorded.{kept_turns, nothing_of_turn}
use Rattle.bs_sched.specs.Game.{GameView}
use Rattle.bs_sched.specs.inner.MoveParts.{states_of}
use Rattle.bs_sched.specs.Lane.{kept_of}
use Rattle.bs_sched.specs.inner.Turns.{FindsTurn}
use Rattle.bs_sched.proofs.ChangedGame.{keeps_boards}
use Rattle.bs_sched.proofs.KeptRecords.{finds_turn}
use Rattle.bs_sched.proofs.NewestRecords.{newest, no_newest}
use Rattle.bs_sched.proofs.game.Game.place_of.Goals as goal

pub place_of_turn-requires : goal.place_of_turn-requires
place_of_turn-requires g c =
    let inside = c.self.inside in
    let game = inside.fiber.game in
    let stands = subst (λ (v : GameView). v.lane.is_open ≡ true) (sym c.self.view_is) c.requires in
    let boards = keeps_boards g.row.CAP inside c.self.invariant stands in
    let kept : IsRecorded game inside.heap.records = record { right = (c.keeps.ensures (states_of inside.parts) c.self.invariant.many).right; is = boards.records } in
    let new = newest (last_board game) c.in-Some.last.now c.in-Some.ensures in
    let turn = c.turn.ensures new.board new.is in
    let many = kept_turns game inside.heap.records new.board c.count.result kept new.there c.count.ensures.value in
    omega (arith, turn, many)

pub returns-in-None : goal.returns-in-None
returns-in-None g c =
    let game = c.self.inside.fiber.game in
    subst (λ (v : GameView). board_of_turn c.args.at v.lane.game ≡ None) c.self.view_is
    (nothing_of_turn game c.args.at (no_newest (last_board game) c.in-None.ensures))

pub returns-in-Some : goal.returns-in-Some
returns-in-Some g c =
    let inside = c.self.inside in
    let game = inside.fiber.game in
    let stands = subst (λ (v : GameView). v.lane.is_open ≡ true) (sym c.self.view_is) c.requires in
    let boards = keeps_boards g.row.CAP inside c.self.invariant stands in
    let kept : IsRecorded game inside.heap.records = record { right = (c.keeps.ensures (states_of inside.parts) c.self.invariant.many).right; is = boards.records } in
    let new = newest (last_board game) c.in-Some.last.now c.in-Some.ensures in
    let found = finds_turn game inside.heap.records c.in-Some.last.now c.turn.result c.count.result c.args.at c.place_of_turn.result kept new
    (c.turn.ensures new.board new.is) c.count.ensures.value c.place_of_turn.ensures in
    subst (λ (v : GameView). FindsTurn v.lane.game (kept_of v.lane) c.args.at c.place_of_turn.result) c.self.view_is
    (subst (λ (records : List (List ℕ)). FindsTurn game records c.args.at c.place_of_turn.result) c.self.invariant.records found)
