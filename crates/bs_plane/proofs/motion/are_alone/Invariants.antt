use Rattle.std.proofs.Common.{take}
use Rattle.bs_plane.specs.Onward.{AreAlone}
use Rattle.bs_plane.proofs.motion.are_alone.Given as goal

-- the heads so far are alone
abbrev pub invariant-loop-head : goal.invariant-loop-head
invariant-loop-head l = AreAlone (take l.head-index l.heads) l.plane
