-- The act is acceptable, and these stays are open after it.
use Rattle.std.proofs.Common.{ap, not, sym, ◌∙◌}
use Rattle.bs_workers.proofs.OpenRows.{follows_admit, follows_hand, follows_leave}
use Rattle.bs_workers.proofs.acceptable.follow.Goals as goal

pub returns-in-Hand : goal.returns-in-Hand
returns-in-Hand g c = λ registry sees on. follows_hand _ registry _ _ _ _ _ c.in-Hand.is sees c.place_of.ensures (sym c.is_some.ensures ∙ on)

pub returns-in_ok-push-in-Admit : goal.returns-in_ok-push-in-Admit
returns-in_ok-push-in-Admit g c =
    λ registry sees on.
    follows_admit _ registry _ _ _ _ _ _ _ _ _ _ _ c.in-Admit.is sees c.get.ensures c.get-in-Admit.ensures c.get-in-Admit-2.ensures c.in_ok-copy-in-Admit.ensures
    c.blocks_of-needed.ensures.value c.left_of-left.ensures c.refusal.ensures.reason (sym c.is_some-in-Admit.ensures ∙ c.if-is_some.false) c.in_ok-push-in-Admit.ensures.ok

pub returns-else-is_none : goal.returns-else-is_none
returns-else-is_none g c =
    λ registry sees on.
    follows_leave _ registry _ _ _ _ _ c.in-Leave.is sees c.place_of-in-Leave.ensures (c.is_none.ensures ∙ ap not c.if-is_none.false) c.remove.ensures
