-- The acts so far are acceptable, and these stays are open after them.
use Rattle.bs_registry.specs.Registry.{seen}
use Rattle.bs_workers.specs.Acts.{opened}
use Rattle.bs_workers.proofs.OpenRows.{AreFollowed}
use Rattle.std.proofs.Common.{take}
use Rattle.bs_workers.proofs.acceptable.are_acceptable.Given as goal

abbrev pub invariant-loop-act : goal.invariant-loop-act
invariant-loop-act g l = AreFollowed (record { cap = g.row.CAP; blocks = l.blocks }) (opened l.rows) (take l.act-index l.acts) (seen l.open)
