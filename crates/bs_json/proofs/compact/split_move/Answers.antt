use Rattle.std.proofs.Common.{rules}
use Rattle.bs_json.proofs.CutTexts.{move_parts}
use Rattle.bs_json.proofs.compact.split_move.Goals as goal

pub returns-clause-text : goal.returns-clause-text
returns-clause-text c =
    move_parts c.args.line.now c.in_ok-strip_prefix.field-0.now c.in_ok-id.id.now c.in_ok-id.rest.now c.in_ok-direction.rest.now
    c.in_ok-direction.direction (search rules) (search rules) (search rules)
