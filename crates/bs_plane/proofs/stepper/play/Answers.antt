use Rattle.std.proofs.Common.{arith, subst, sym}
use Rattle.bs_board.specs.commands.Orders.{Orders}
use Rattle.bs_board.specs.inner.Orders.{orders_in}
use Rattle.bs_plane.specs.Turn.{refilled_in}
use Rattle.bs_plane.specs.inner.Turn.{MayStep, Plays, Refills}
use Rattle.bs_plane.proofs.PlayedTurn.{plays, shown_snakes}
use Rattle.bs_plane.proofs.stepper.play.Goals as goal

pub returns : goal.returns
returns c _ b legal of shows =
    let orders : Orders = orders_in c.orders.inside in
    let may = subst (λ (o : Orders). MayStep c.args.board.now o) (sym c.orders.view_is) c.requires in
    let moves = c.in_ok-move_snakes.ensures c.if-not-branch.false b legal of (shown_snakes b c.args.plane.now shows) in
    let refills =
    subst (λ (o : Orders). Refills (λ x. refilled_in x.mode o x) c.args.board.now c.move_snakes.new.heads.items c.move_snakes.new.plane c.clear-3.new.self.items c.refill.new.plane c.refill.new.food.items)
    (sym c.orders.view_is) (rw c.deref-2.ensures.value at (c.in_ok-refill.ensures c.if-not-branch-2.false)) in
    subst (λ (o : Orders). Plays b o c.refill.new.plane c.write_record.new.into.items) c.orders.view_is
    (plays b orders legal c.args.board.now of may c.move_snakes.new.plane c.refill.new.plane c.clear.new.self.items c.move_snakes.new.into.items c.clear-3.new.self.items
    c.refill.new.food.items c.write_record.new.into.items c.clear-2.new.self.items c.move_snakes.new.heads.items moves c.clear.ensures.items c.clear-2.ensures.items
    (rw c.deref.ensures.value at (c.are_alone.ensures c.if-not-are_alone.false))
    refills c.clear-3.ensures.items
    (let more = c.if-len-last_living.false in omega (arith, c.last_living.ensures, c.len.ensures))
    (rw (c.deref-3.ensures.value, c.deref-4.ensures.value) at c.in_ok-write_record.ensures))
