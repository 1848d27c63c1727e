-- The keys for the parts of the move that a lane is at.
use Rattle.std.specs.Prelude.{◌≡◌, ◌≢◌, ℕ, Option, Some, None}
use Rattle.bs_counter.specs.Keys.{Key, TallyId}
use Rattle.bs_fiber.specs.declared.job.JobKind.TheVariants as kind
use Rattle.bs_fiber.specs.declared.job.JobName.{JobName}

-- the key of part `p` in the tally with that name, which has `n` parts
pub record IsKeyAt (tally : Option TallyId) (n p : ℕ) (key : Key) : Type 0 where
  pub part : key.part ≡ p
  pub parts : key.parts ≡ n
  pub named : tally ≡ Some key.tally

-- a part is taken with its key in the tally of its move, which has as many parts as the move; any
-- other job is taken without a key
abbrev pub IsKeyOf : Option TallyId → ℕ → JobName → Option Key → Type 0
IsKeyOf tally parts job None = job.kind ≢ kind.Part
IsKeyOf tally parts job (Some key) = (job.kind ≡ kind.Part) × IsKeyAt tally parts job.part key
