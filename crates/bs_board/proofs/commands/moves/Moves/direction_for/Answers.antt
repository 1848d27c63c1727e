use Rattle.std.proofs.Common.{arith, ap, drop, refl, sym, ◌∙◌}
use Rattle.std.proofs.lemmas.List.{drop-drop}
use Rattle.bs_board.specs.commands.Orders.{given_to}
use Rattle.bs_board.specs.inner.Packed.{packed}
use Rattle.bs_board.proofs.commands.PackedMoves.{given_here, given_later, none_given, none_left}
use Rattle.bs_board.proofs.commands.moves.Moves.direction_for.Goals as goal

pub loop-turn-init : goal.loop-turn-init
loop-turn-init c = (c.as_slice-left.ensures ∙ c.self.invariant.whole ∙ ap packed c.self.view_is, refl)

pub returns-in_err-own : goal.returns-in_err-own
returns-in_err-own c =
    let left = drop c.loop-turn._turn c.args.self.now in
    c.from_residual.ensures ∙ none_given left c.args.self.now c.args.id.now (c.in_err-own.ensures left c.loop-turn.invariant.0) c.loop-turn.invariant.1

pub returns-then-eq : goal.returns-then-eq
returns-then-eq c =
    let left = drop c.loop-turn._turn c.args.self.now in
    let first = c.in_ok-own.ensures left c.loop-turn.invariant.0 in
    sym (given_here left (drop 1 left) c.in_ok-own.own.now c.args.id.now c.in_ok-own.direction first.0 (sym c.if-eq.ensures)) ∙ c.loop-turn.invariant.1

pub loop-turn-preserved : goal.loop-turn-preserved
loop-turn-preserved c =
    let left = drop c.loop-turn._turn c.args.self.now in
    let first = c.in_ok-own.ensures left c.loop-turn.invariant.0 in
    let later = drop-drop 1 c.loop-turn._turn c.args.self.now in (
      first.1 ∙ ap packed later,
      ap (λ m. given_to m c.args.id.now) (sym later) ∙ sym (given_later left (drop 1 left) c.in_ok-own.own.now c.args.id.now c.in_ok-own.direction first.0 (sym c.if-eq.ensures)) ∙ c.loop-turn.invariant.1,
    )

pub returns : goal.returns
returns c =
    let left = drop c.loop-turn._turn c.args.self.now in
    none_given left c.args.self.now c.args.id.now (none_left c.args.self.now c.self.inside.bytes.items c.loop-turn._turn (c.self.invariant.whole ∙ ap packed c.self.view_is) (let over = c.loop-turn-test.false in omega (arith, c.len-turn-end.ensures))) c.loop-turn.invariant.1
