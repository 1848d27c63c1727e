-- What private contracts add to specs/Lane.
use Rattle.std.specs.Prelude.{◌≡◌, ℕ, false}
use Rattle.bs_fiber.specs.declared.job.JobKind.{JobKind}
use Rattle.bs_sched.specs.Lane.{Lane, is_ready}

abbrev pub HasNoneReady : Lane → Type 0
HasNoneReady x = (job : JobKind) (p : ℕ) → is_ready x job p ≡ false
