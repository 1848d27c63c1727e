use Rattle.std.proofs.Common.{rules, refl, get_or}
use Rattle.bs_json.proofs.Decimals.{digits_and_one, digits_are, one_digit_more}
use Rattle.bs_json.proofs.numbers.split_digits.Goals as goal

pub returns-then-index-gt0 : goal.returns-then-index-gt0
returns-then-index-gt0 c =
    digits_are c.args.line.now c.split_at.result.1.now c.loop-index.index c.loop-index.number (search rules) (search rules) (search rules) c.requires c.loop-index.invariant.2
    c.loop-index.invariant.0 c.loop-index.invariant.1

pub loop-index-preserved : goal.loop-index-preserved
loop-index-preserved c =
    let line = c.args.line.now in
    let index = c.loop-index.index in (
      one_digit_more line index c.loop-index.number c.in_ok-number.number (get_or line index 0) (search rules) refl (search rules) (search rules) c.loop-index.invariant.0,
      digits_and_one line index (get_or line index 0) (search rules) refl (search rules) c.loop-index.invariant.1,
      search rules,
    )
