use Rattle.std.proofs.Common.{◌≡◌, ◌+◌, ℕ, List, None, suc, sym, subst, ◌∙◌, arith}
use Rattle.bs_pool.proofs.FreeNumbers.{MarkedBelow, marked_next, unmarked_next}
use Rattle.bs_pool.proofs.free_numbers.mark_free.Goals.{then-is_nobody, else-is_nobody}
use Rattle.bs_pool.proofs.free_numbers.mark_free.Goals as goal

pub loop-number-preserved : goal.loop-number-preserved
loop-number-preserved c =
    let owners = c.args.owners.now in let k = c.loop-number.number in let words = c.loop-number.words in
    let more : suc k ≡ k + 1 = omega arith in (
      c.if-is_nobody.auto.words ∙ c.loop-number.invariant.0,
      subst (λ n. MarkedBelow c.if-is_nobody.words owners n) more
          (elim c.if-is_nobody.branch [
            | then-is_nobody w ↦
                subst (λ (ws : List ℕ). MarkedBelow ws owners (suc k)) (sym w.words-is)
                (marked_next words w.mark.new.words owners k None c.loop-number.invariant.1 w.mark.ensures c.loop-number-test.true (sym w.if-is_nobody.ensures))
            | else-is_nobody w ↦
                subst (λ (ws : List ℕ). MarkedBelow ws owners (suc k)) (sym w.words-is)
                (unmarked_next words owners k None c.loop-number.invariant.1 c.loop-number-test.true (sym w.if-is_nobody.ensures))
          ]),
    )
