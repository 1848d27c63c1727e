use Rattle.std.proofs.Common.{arith, ◌∙◌}
use Rattle.bs_board.proofs.records.LayoutBytes.{hazards_are_split, no_hazards_are_split, some_hazards}
use Rattle.bs_board.proofs.records.layout.split_hazards.Goals as goal

pub returns-then-not-hazardous : goal.returns-then-not-hazardous
returns-then-not-hazardous c h rest kind is = no_hazards_are_split h rest c.args.bytes.now c.args.hazardous c.if-not-hazardous.true kind is

pub returns-in_default : goal.returns-in_default
returns-in_default c h rest kind is =
    let some = some_hazards h rest c.args.bytes.now c.args.hazardous c.if-not-hazardous.false kind is in
    absurd (let none = c.in_default.len_below in omega arith)

pub returns-in-len3-up : goal.returns-in-len3-up
returns-in-len3-up c h rest kind is =
    hazards_are_split h rest c.args.bytes.now c.cut.result.0.now c.cut.result.1.now c.args.hazardous c.from-count.result c.if-not-hazardous.false kind is
    (c.from-count.ensures ∙ c.from_two_bytes.ensures) c.cut.ensures.front c.cut.ensures.rest
