use Rattle.std.proofs.Common.{◌≡◌, ◌∷◌, ◌++◌, [], arith, ap, drop, rules, subst, sym, ◌∙◌}
use Rattle.std.proofs.lemmas.List.{append-nil, drop-drop}
use Rattle.std.proofs.lemmas.Str.{IsUtf8-from_is_utf8}
use Rattle.bs_board.specs.Texts.{IdsAreTexts}
use Rattle.bs_board.specs.inner.Packed.{packed}
use Rattle.bs_board.proofs.commands.PackedMoves.{none_left, one_out, text_here}
use Rattle.bs_board.proofs.commands.moves.Moves.to_vec.Goals as goal

pub loop-turn-preserved : goal.loop-turn-preserved
loop-turn-preserved c =
    let left = drop c.loop-turn._turn c.args.self.now in
    let first = c.in-Some.ensures left c.loop-turn.invariant.0 in
    let later = drop-drop 1 c.loop-turn._turn c.args.self.now in
    let more : c.push.new.self.items ≡ c.loop-turn.entries.items ++ (c.in-Some.id.now, c.in-Some.direction) ∷ [] = search rules in (
      first.1 ∙ ap packed later,
      ap (λ m. c.push.new.self.items ++ m) (sym later)
          ∙ one_out c.args.self.now left c.loop-turn.entries.items c.push.new.self.items (c.in-Some.id.now, c.in-Some.direction) first.0 c.loop-turn.invariant.1 more,
    )

pub unreachable-requires : goal.unreachable-requires
unreachable-requires c =
    let left = drop c.loop-turn._turn c.args.self.now in
    let first = c.in-Some.ensures left c.loop-turn.invariant.0 in
    let texts = subst IdsAreTexts c.self.view_is c.self.invariant.texts in
    c.in_default-from_utf8.ensures.cases.0
    (IsUtf8-from_is_utf8 c.in-Some.id.now (text_here c.args.self.now c.loop-turn._turn (c.in-Some.id.now, c.in-Some.direction) (drop 1 left) texts first.0))

pub returns : goal.returns
returns c =
    let none =
    none_left c.args.self.now c.self.inside.bytes.items c.loop-turn._turn (c.self.invariant.whole ∙ ap packed c.self.view_is)
    (let over = c.loop-turn-test.false in omega (arith, c.len-turn-end.ensures)) in
    sym (append-nil c.loop-turn.entries.items) ∙ ap (λ m. c.loop-turn.entries.items ++ m) (sym none) ∙ c.loop-turn.invariant.1
