-- The part number of a job.
use Rattle.std.specs.Prelude.{ℕ}
use Rattle.bs_fiber.specs.declared.input.Input.{Input}
use Rattle.bs_fiber.specs.declared.job.JobKind.{JobKind}
use Rattle.bs_fiber.specs.declared.job.JobKind.TheVariants.{Begin, Part, Join}

-- 0 for a Begin or a Join
abbrev pub part_of_kind : JobKind → ℕ → ℕ
part_of_kind Begin part = 0
part_of_kind Part part = part
part_of_kind Join part = 0

abbrev pub part_of : Input → ℕ
part_of input = part_of_kind input.job.kind input.job.part
