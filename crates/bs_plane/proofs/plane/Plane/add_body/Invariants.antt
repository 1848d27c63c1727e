use Rattle.std.proofs.Common.{take}
use Rattle.bs_plane.specs.Plane.{Changes}
use Rattle.bs_plane.specs.inner.Plane.{with_body}
use Rattle.bs_plane.proofs.plane.Plane.add_body.Given as goal

-- the parts so far are counted
abbrev pub invariant-loop-part : goal.invariant-loop-part
invariant-loop-part l = Changes (with_body (take l.part-index l.body)) l.fn.self l.self
