-- The acts so far, without their commands.
use Rattle.std.proofs.Common.{◌≡◌, map, take}
use Rattle.std.specs.Prelude.{All}
use Rattle.bs_sched.specs.Isolation.{HandsFit}
use Rattle.bs_workers.specs.inner.Stays.{event_of, step_in}
use Rattle.bs_workers.proofs.stays.order_of.Given as goal

abbrev pub invariant-loop-act : goal.invariant-loop-act
invariant-loop-act l = (l.order.items ≡ map step_in (take l.act-index l.acts)) × All HandsFit (map event_of (take l.act-index l.acts))
