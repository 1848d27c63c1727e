use Rattle.std.proofs.Common.{◌+◌, arith}
use Rattle.bs_json.proofs.LineBounds.{plain_bound, refused_bound, reply_within, shown_bound}
use Rattle.bs_json.proofs.line_bounds.reply_line_bound.Goals as goal

pub returns-in-Shown : goal.returns-in-Shown
returns-in-Shown c =
    let seq = c.args._seq in
    let few = c.ranges._seq.fits in
    let charge = c.charge_bound.ensures in
    reply_within c.args.game.now seq c.args.reply.now _ c.line_bound.result _ (c.board_bound.result + c.charge_bound.result) c.in-Shown.is
    (shown_bound c.args.game.now seq _ c.in-Shown.board c.in-Shown.charge c.board_bound.result few charge.bound c.board_bound.ensures.bound)
    (omega (arith, charge.value)) c.line_bound.ensures

pub returns-in-Plain : goal.returns-in-Plain
returns-in-Plain c =
    let seq = c.args._seq in
    let few = c.ranges._seq.fits in
    let charge = c.charge_bound-in-Plain.ensures in
    reply_within c.args.game.now seq c.args.reply.now _ c.line_bound-in-Plain.result _ c.charge_bound-in-Plain.result c.in-Plain.is
    (plain_bound c.args.game.now seq _ c.in-Plain.charge few charge.bound) (omega (arith, charge.value)) c.line_bound-in-Plain.ensures

pub returns-in-Refused : goal.returns-in-Refused
returns-in-Refused c =
    let seq = c.args._seq in
    let few = c.ranges._seq.fits in
    reply_within c.args.game.now seq c.args.reply.now _ c.line_bound-in-Refused.result _ 0 c.in-Refused.is (refused_bound c.args.game.now seq _ few) (omega arith)
    c.line_bound-in-Refused.ensures
