use Rattle.std.proofs.Common.{◌≡◌, ◌+◌, ◌-◌, ◌++◌, ◌∷◌, [], suc, sym, ap, ◌∙◌, arith}
use Rattle.std.specs.List.{range_with_len}
use Rattle.std.proofs.lemmas.List.{append_assoc}
use Rattle.bs_pool.proofs.FreeNumbers.{range_push}
use Rattle.bs_pool.proofs.free_numbers.append_numbers.Goals as goal

pub loop-number-preserved : goal.loop-number-preserved
loop-number-preserved c =
    let low = c.args.low.now.items in let next = c.args.next in let number = c.loop-number.number in let n = number - next in
    let at : next + n ≡ number = omega (arith, c.loop-number.auto.number) in
    let more : suc n ≡ number + 1 - next = omega (arith, c.loop-number.auto.number) in
    record {
      items =
          c.push_reserved.ensures.items ∙ ap (λ xs. xs ++ number ∷ []) c.loop-number.invariant.items ∙ append_assoc low (range_with_len next n) (number ∷ [])
          ∙ ap (λ xs. low ++ xs) (sym (range_push next n number at)) ∙ ap (λ k. low ++ range_with_len next k) more;
      room = omega (arith, c.push_reserved.ensures.len, c.push_reserved.ensures.capacity, c.loop-number.invariant.room, c.loop-number-test.true);
    }
