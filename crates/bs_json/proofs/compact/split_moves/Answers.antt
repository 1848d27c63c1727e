use Rattle.std.proofs.Common.{◌≡◌, ◌++◌, ◌∷◌, [], is_some, true, rules, refl, ap, ◌∙◌}
use Rattle.serde_json.specs.Written.{comma_if}
use Rattle.bs_board.specs.commands.Orders.{moves_in}
use Rattle.bs_json.specs.inner.Compact.{move_text}
use Rattle.bs_json.specs.inner.Sorted.{is_above, put_move}
use Rattle.bs_json.proofs.CompactBytes.{plain_text}
use Rattle.bs_json.proofs.GivenMoves.{ascend_in_order, no_moves, one_more}
use Rattle.bs_json.proofs.OrderedMoves.{above_all, last_is_put}
use Rattle.bs_json.proofs.compact.split_moves.Goals as goal

pub loop-turn-init : goal.loop-turn-init
loop-turn-init c =
    let none : c.new-moves.result ≡ [] = search rules in
    rw none (no_moves c.args.line.now, λ id above. refl)

pub split_others-requires : goal.split_others-requires
split_others-requires c =
    let cut = c.in-Some-split_next_move in
    let moves = c.loop-turn.moves in
    let later : c.is_some.result ≡ is_some c.loop-turn.last = search rules in
    let next : c.loop-turn.left.now ≡ comma_if (is_some c.loop-turn.last) ++ (move_text (cut.id.now, cut.direction) ++ cut.rest.now) = rw (← later) cut.ensures.text in
    let all : moves_in c.in_ok-entries.entries.items ≡ moves = search rules in
    let put : moves_in c.insert.new.entries.items ≡ put_move (moves_in c.in_ok-entries.entries.items) (cut.id.now, cut.direction) = search rules in
    one_more c.args.line.now c.loop-turn.left.now cut.rest.now moves (moves_in c.insert.new.entries.items) (is_some c.loop-turn.last) (cut.id.now, cut.direction)
    c.loop-turn.invariant.0 next cut.ensures.plain (put ∙ ap (λ ms. put_move ms (cut.id.now, cut.direction)) all)

pub push-requires : goal.push-requires
push-requires c = plain_text c.in-Some-split_next_move.id.now c.in-Some-split_next_move.ensures.plain

pub loop-turn-preserved : goal.loop-turn-preserved
loop-turn-preserved c =
    let cut = c.in-Some-split_next_move in
    let moves = c.loop-turn.moves in
    let later : c.is_some.result ≡ is_some c.loop-turn.last = search rules in
    let next : c.loop-turn.left.now ≡ comma_if (is_some c.loop-turn.last) ++ (move_text (cut.id.now, cut.direction) ++ cut.rest.now) = rw (← later) cut.ensures.text in
    let above : is_above cut.id.now c.loop-turn.last ≡ true = search rules in
    let up = ascend_in_order c.args.line.now moves c.loop-turn.left.now c.loop-turn.invariant.0.0 in
    let push : c.push.new.self ≡ moves ++ (cut.id.now, cut.direction) ∷ [] = search rules in (
      one_more c.args.line.now c.loop-turn.left.now cut.rest.now moves c.push.new.self (is_some c.loop-turn.last) (cut.id.now, cut.direction) c.loop-turn.invariant.0 next cut.ensures.plain
          (push ∙ last_is_put moves (cut.id.now, cut.direction) up (c.loop-turn.invariant.1 cut.id.now above)),
      λ id over. rw push (above_all moves (cut.id.now, cut.direction) id over),
    )

pub returns-in-Some-clause-ascending : goal.returns-in-Some-clause-ascending
returns-in-Some-clause-ascending c = ascend_in_order c.args.line.now c.loop-turn.moves c.loop-turn.left.now c.loop-turn.invariant.0.0
