use Rattle.std.proofs.Common.{◌≡◌, ℕ, ◌<◌, false}
use Rattle.bs_sched.specs.inner.PartsLayout.{part_in, state_in}
use Rattle.bs_sched.specs.Lane.{is_part_ready}
use Rattle.bs_sched.proofs.parts.first_ready.Given as goal

abbrev pub invariant-loop-part : goal.invariant-loop-part
invariant-loop-part g l = (p : ℕ) → p < l.part → is_part_ready (state_in (part_in l.parts p)) ≡ false
