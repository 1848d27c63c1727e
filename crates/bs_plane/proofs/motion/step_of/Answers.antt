use Rattle.std.proofs.Common.{◌≡◌, false, not, ◌&&◌, refl}
use Rattle.bs_plane.proofs.Steps.{is_step, some_weaker}
use Rattle.bs_plane.proofs.motion.step_of.Goals as goal
use Rattle.bs_plane.proofs.motion.step_of.Goals.{else-there-via-then-there+else-not-there, else-there-via-else-there}

pub returns-else-there : goal.returns-else-there
returns-else-there c =
    some_weaker c.fed_in.result _ _
    (λ step fed b s of ground sees.
    let there = c.in-Some.there in
    let unhurt : (there.hazard && not there.food) ≡ false =
    elim c.else-there.branch [
      | else-there-via-then-there+else-not-there w ↦ rw (w.if-there.true, w.if-not-there.false) refl
      | else-there-via-else-there w ↦ rw w.if-there.false refl
    ] in
    is_step b c.args.given s c.in_ok-next.next there c.args.plane.now ground sees.lives (c.in_ok-next.ensures b s of sees) c.in-Some.ensures step unhurt (rw of.mode at (fed s sees)))
    c.fed_in.ensures
