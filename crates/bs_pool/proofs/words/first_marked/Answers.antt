use Rattle.std.proofs.Common.{arith, w64, ◌<◌, ◌^◌, slice_index_or, sym, ◌∙◌}
use Rattle.std.proofs.lemmas.Nat.Bits.{bit_at-trailing_zeros}
use Rattle.bs_pool.proofs.Marks.{words_before, first_mark, all_zero}
use Rattle.bs_pool.proofs.words.first_marked.Goals as goal

pub returns-in_err-at : goal.returns-in_err-at
returns-in_err-at c = rw c.from_residual.ensures (all_zero c.args.words.now (sym c.first_word.ensures ∙ c.in_err-at.was))

pub overflow_add-result : goal.overflow_add-result
overflow_add-result c =
    let words = c.args.words.now in let at = c.in_ok-at.at in
    let is = words_before words at (sym c.first_word.ensures ∙ c.in_ok-at.was) in
    let small : slice_index_or words at 0 < 2 ^ 64 = (c.type_inv.words at).fits in
    let low = bit_at-trailing_zeros w64 (slice_index_or words at 0) (omega (arith, is.1)) small in
    record { fits = omega (arith, is.0, low.0, c.requires) }

pub returns : goal.returns
returns c =
    let words = c.args.words.now in let at = c.in_ok-at.at in
    let is = words_before words at (sym c.first_word.ensures ∙ c.in_ok-at.was) in
    first_mark words at is.1 (c.type_inv.words at).fits is.2
