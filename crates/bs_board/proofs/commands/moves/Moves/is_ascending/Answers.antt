use Rattle.std.proofs.Common.{◌+◌, ◌∷◌, arith, ap, drop, sym, ◌∙◌}
use Rattle.std.proofs.lemmas.List.{drop-drop}
use Rattle.bs_board.specs.declared.boards.point.Direction.TheVariants.{Up}
use Rattle.bs_board.specs.commands.Orders.{is_ascending}
use Rattle.bs_board.specs.inner.Packed.{packed}
use Rattle.bs_board.proofs.commands.PackedMoves.{last_above, next_above, none_left, not_above}
use Rattle.bs_board.proofs.commands.moves.Moves.is_ascending.Goals as goal

pub returns-then-not-is_below : goal.returns-then-not-is_below
returns-then-not-is_below c =
    let left = drop (c.loop-turn._turn + 1) c.args.self.now in
    let first = c.in-Some-split_entry.ensures left c.loop-turn.invariant.0 in
    not_above c.loop-turn.before.now c.in-Some-split_entry.id.now _ left (drop 1 left) c.args.self.now first.0 (sym c.if-not-is_below.ensures) c.loop-turn.invariant.1

pub loop-turn-preserved : goal.loop-turn-preserved
loop-turn-preserved c =
    let left = drop (c.loop-turn._turn + 1) c.args.self.now in
    let first = c.in-Some-split_entry.ensures left c.loop-turn.invariant.0 in
    let later = drop-drop 1 (c.loop-turn._turn + 1) c.args.self.now in (
      first.1 ∙ ap packed later,
      ap (λ m. is_ascending ((c.in-Some-split_entry.id.now, Up) ∷ m)) (sym later)
          ∙ next_above c.loop-turn.before.now c.in-Some-split_entry.id.now _ left (drop 1 left) c.args.self.now first.0 (sym c.if-not-is_below.ensures) c.loop-turn.invariant.1,
    )

pub returns : goal.returns
returns c =
    let left = drop (c.loop-turn._turn + 1) c.args.self.now in
    let none =
    none_left c.args.self.now c.self.inside.bytes.items (c.loop-turn._turn + 1) (c.self.invariant.whole ∙ ap packed c.self.view_is)
    (let over = c.loop-turn-test.false in omega (arith, c.len-turn-end.ensures)) in
    last_above c.loop-turn.before.now left c.args.self.now none c.loop-turn.invariant.1
