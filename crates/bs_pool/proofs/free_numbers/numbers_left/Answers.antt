use Rattle.std.proofs.Common.{◌+◌, ◌++◌, true, false, drop, sym, ap, ◌∙◌}
use Rattle.bs_pool.specs.inner.FreeNumbers.{still_free}
use Rattle.bs_pool.proofs.FreeNumbers.{left_next}
use Rattle.bs_pool.proofs.free_numbers.numbers_left.Goals.{then-is_left+in_ok-push, else-is_left}
use Rattle.bs_pool.proofs.free_numbers.numbers_left.Goals as goal

pub loop-at-preserved : goal.loop-at-preserved
loop-at-preserved g c =
    let low = c.args.low.now in let slots = c.args.slots.now in let at = c.loop-at.at in let left = c.loop-at.left.items in
    let rest = still_free (drop (at + 1) low) (drop (at + 1) slots) in
    elim c.if-is_left.branch [
      | then-is_left+in_ok-push w ↦
          ap (λ v. v.items ++ rest) w.left-is ∙ ap (λ xs. xs ++ rest) w.in_ok-push.ensures.items
          ∙ sym (left_next left low slots at 0 true c.loop-at-test.true w.if-is_left.ensures) ∙ c.loop-at.invariant
      | else-is_left w ↦ ap (λ v. v.items ++ rest) w.left-is ∙ sym (left_next left low slots at 0 false c.loop-at-test.true w.if-is_left.ensures) ∙ c.loop-at.invariant
    ]
