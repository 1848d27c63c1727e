use Rattle.std.proofs.Common.{◌∙◌}
use Rattle.bs_plane.proofs.PlayedTurn.{allowed_before, follows_after, legal_after}
use Rattle.bs_plane.proofs.stepper.Stepper.step_allowed.Goals as goal

pub of_bytes-requires : goal.of_bytes-requires
of_bytes-requires c =
    rw c.deref.ensures.value (legal_after c.args.orders.now c.args.last.now c.play.new.draft.bytes.items c.parts-board.result c.args.self.now.plane c.play.new.plane c.parts-board.ensures.legal
    c.parts-board.ensures.value (c.may_step.ensures c.if-not-may_step.false) (c.requires c.if-not-is_current.false) (c.in_ok-play.ensures c.if-not-branch.false))

pub returns-clause-allowed : goal.returns-clause-allowed
returns-clause-allowed c =
    allowed_before c.args.orders.now c.args.last.now c.play.new.draft.bytes.items c.parts-board.result c.args.self.now.plane c.play.new.plane
    c.parts-board.ensures.value (c.may_step.ensures c.if-not-may_step.false) (c.requires c.if-not-is_current.false) (c.in_ok-play.ensures c.if-not-branch.false)

pub returns-clause-follows : goal.returns-clause-follows
returns-clause-follows c _ =
    follows_after c.args.orders.now c.args.last.now c.play.new.draft.bytes.items c.parts-board.result c.args.self.now.plane c.play.new.plane c.parts-board.ensures.legal
    c.parts-board.ensures.value (c.may_step.ensures c.if-not-may_step.false) (c.requires c.if-not-is_current.false) (c.in_ok-play.ensures c.if-not-branch.false)
    c.in_ok-record.record (c.in_ok-record.ensures ∙ c.deref.ensures.value)
