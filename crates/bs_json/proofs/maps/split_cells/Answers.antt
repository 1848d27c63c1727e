use Rattle.std.proofs.Common.{◌≡◌, ◌∷◌, ◌++◌, [], rules, subst}
use Rattle.serde_json.specs.Written.{comma_if}
use Rattle.bs_json.specs.inner.Maps.{place_text}
use Rattle.bs_json.proofs.CutTexts.{near_with_one, one_cell_more, some_with_one}
use Rattle.bs_json.proofs.maps.split_cells.Goals as goal

pub loop-turn-preserved : goal.loop-turn-preserved
loop-turn-preserved c =
    let cells = c.loop-turn.cells in
    let cut = c.in-Some-split_next_cell in
    let all : c.push.new.self ≡ cells ++ cut.cell ∷ [] = search rules in
    let next = subst (λ b. c.loop-turn.left.now ≡ comma_if b ++ ((123 ∷ place_text cut.cell) ++ cut.rest.now)) c.loop-turn.invariant.2 cut.ensures.text in (
      rw all (one_cell_more c.args.line.now c.loop-turn.left.now cut.rest.now cells cut.cell c.loop-turn.invariant.0 next),
      rw all (near_with_one cells cut.cell c.loop-turn.invariant.1 cut.ensures.near),
      rw all (some_with_one cells cut.cell),
    )
