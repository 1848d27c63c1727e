use Rattle.std.proofs.Common.{◌++◌, ◌∙◌, ap}
use Rattle.bs_plane.proofs.WrittenRecord.{no_hazards, some_hazards}
use Rattle.bs_plane.proofs.writing.push_hazards.Goals as goal

pub returns-then-not-board : goal.returns-then-not-board
returns-then-not-board c h sees = no_hazards h c.args.board.now c.args.into.now.items sees c.if-not-board.true

pub returns : goal.returns
returns c h sees =
    some_hazards h c.args.board.now c.args.into.now.items c.extend_from_slice.new.self.items c.extend_from_slice-2.new.self.items sees c.if-not-board.false
    (c.in_ok-extend_from_slice.ensures.items ∙ ap (λ l. c.args.into.now.items ++ l) c.hazard_head.ensures) c.in_ok-extend_from_slice-2.ensures.items
