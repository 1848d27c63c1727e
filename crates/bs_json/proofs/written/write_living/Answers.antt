use Rattle.std.proofs.Common.{◌≡◌, None, rules, true}
use Rattle.bs_json.specs.inner.Compact.{are_plain}
use Rattle.bs_json.proofs.Writing.{is_written, living_written}
use Rattle.bs_json.proofs.written.write_living.Goals as goal

pub returns : goal.returns
returns c =
    let no_cause : c.args.snake.now.cause ≡ None = search rules in
    let not_out : c.args.snake.now.out ≡ None = search rules in
    let plain : are_plain c.args.snake.now.id.now ≡ true = search rules in
    is_written _ _ _ _ _
    (living_written _ _ _ _ _ _ _ _ _ _ _ _ _ _ _ _ c.args.snake.now no_cause not_out plain c.write-cells.ensures c.in_ok-by.ensures.value.written c.write-number.ensures
    c.write_small-named.ensures.value c.write-own.ensures c.write-out.ensures c.write-end.ensures) c.requires
