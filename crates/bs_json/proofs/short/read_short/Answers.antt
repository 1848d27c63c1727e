use Rattle.std.proofs.Common.{rules, ◌≡◌, ◌≤◌, length, subst, sym}
use Rattle.bs_json.specs.declared.limits.TheConstants.{MAX_LINE}
use Rattle.bs_json.specs.inner.Compact.{line_text}
use Rattle.bs_json.specs.Short.{command_of_short}
use Rattle.bs_json.proofs.CompactLines.{line_of_short}
use Rattle.bs_json.proofs.short.read_short.Goals as goal

pub returns : goal.returns
returns c =
    let short : length c.args.line.now ≤ MAX_LINE = search rules in
    line_of_short c.args.line.now c.lent-game.result c.in_ok-name.order.now (command_of_short c.in_ok-command.command)
    (subst (λ n. c.args.line.now ≡ line_text n c.in_ok-name.order.now) (sym c.lent-game.ensures) c.in_ok-name.ensures.text)
    (rw c.lent-game.ensures c.in_ok-name.ensures.plain)
    c.in_ok-command.ensures short
