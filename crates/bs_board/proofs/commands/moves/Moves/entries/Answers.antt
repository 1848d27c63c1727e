use Rattle.std.proofs.Common.{◌≡◌, ◌∷◌, ◌++◌, [], arith, ap, drop, rules, sym, ◌∙◌}
use Rattle.std.proofs.lemmas.List.{append-nil, drop-drop}
use Rattle.bs_board.specs.commands.Orders.{moves_in}
use Rattle.bs_board.specs.inner.Packed.{packed}
use Rattle.bs_board.proofs.commands.PackedMoves.{none_left, one_lent, one_out}
use Rattle.bs_board.proofs.commands.moves.Moves.entries.Goals as goal

pub loop-turn-preserved : goal.loop-turn-preserved
loop-turn-preserved c =
    let left = drop c.loop-turn._turn c.args.self.now in
    let first = c.in-Some.ensures left c.loop-turn.invariant.0 in
    let later = drop-drop 1 c.loop-turn._turn c.args.self.now in
    let all : c.push.new.self.items ≡ c.loop-turn.entries.items ++ (c.in-Some.id, c.in-Some.direction) ∷ [] = search rules in
    let more = ap moves_in all ∙ one_lent c.loop-turn.entries.items (c.in-Some.id, c.in-Some.direction) in (
      first.1 ∙ ap packed later,
      ap (λ m. moves_in c.push.new.self.items ++ m) (sym later)
          ∙ one_out c.args.self.now left (moves_in c.loop-turn.entries.items) (moves_in c.push.new.self.items) (c.in-Some.id.now, c.in-Some.direction) first.0 c.loop-turn.invariant.1 more,
    )

pub returns : goal.returns
returns c =
    let none =
    none_left c.args.self.now c.self.inside.bytes.items c.loop-turn._turn (c.self.invariant.whole ∙ ap packed c.self.view_is)
    (let over = c.loop-turn-test.false in omega (arith, c.len-turn-end.ensures)) in
    sym (append-nil (moves_in c.loop-turn.entries.items)) ∙ ap (λ m. moves_in c.loop-turn.entries.items ++ m) (sym none) ∙ c.loop-turn.invariant.1
