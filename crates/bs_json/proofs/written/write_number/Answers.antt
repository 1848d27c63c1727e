use Rattle.std.proofs.Common.{◌<◌, ◌^◌, List, ℕ, arith, subst}
use Rattle.bs_board.specs.inner.Writing.{Puts}
use Rattle.bs_board.proofs.records.Parts.{puts_both}
use Rattle.bs_json.proofs.ShownCells.{by_hundreds}
use Rattle.bs_json.proofs.written.write_number.Goals as goal

pub returns-then-number-lt10000-clause-value : goal.returns-then-number-lt10000-clause-value
returns-then-number-lt10000-clause-value c =
    let few : c.args.number < 2 ^ 64 = omega (arith, c.if-number-lt10000.true) in
    subst (λ (t : List ℕ). Puts c.args.at t c.args.bytes.now c.write.new.bytes c.write.result) (by_hundreds c.args.number c.if-number-lt100.false few)
    (puts_both _ _ _ _ _ _ _ _ c.write_short-middle.ensures.value c.write.ensures)
