use Rattle.std.proofs.Common.{List, ℕ, subst}
use Rattle.bs_board.specs.inner.Writing.{Puts}
use Rattle.bs_json.proofs.ShownCells.{one_digit, two_digits}
use Rattle.bs_json.proofs.written.write_short.Goals as goal

pub returns-then-number-lt10-clause-value : goal.returns-then-number-lt10-clause-value
returns-then-number-lt10-clause-value c =
    subst (λ (t : List ℕ). Puts c.args.at t c.args.bytes.now c.write.new.bytes c.write.result) (one_digit c.args.number c.if-number-lt10.true) c.write.ensures

pub returns-else-number-lt10-clause-value : goal.returns-else-number-lt10-clause-value
returns-else-number-lt10-clause-value c =
    let wrote = c.write-else-number-lt10 in
    subst (λ (t : List ℕ). Puts c.args.at t c.args.bytes.now wrote.new.bytes wrote.result) (two_digits c.args.number c.if-number-lt10.false c.requires.few) wrote.ensures
