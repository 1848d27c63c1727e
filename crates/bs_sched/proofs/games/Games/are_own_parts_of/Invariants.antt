use Rattle.std.proofs.Common.{ℕ, ◌<◌, None, slice_index_or}
use Rattle.bs_sched.specs.Parts.{IsOwnPart}
use Rattle.bs_sched.proofs.games.Games.are_own_parts_of.Given as goal

-- the parts before this one are the core's own
abbrev pub invariant-loop-part : goal.invariant-loop-part
invariant-loop-part g l = (p : ℕ) → p < l.part → IsOwnPart l.self l.game p (slice_index_or l.completed p None)
