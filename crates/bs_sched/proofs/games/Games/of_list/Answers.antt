-- The games that the journal leads to are sound.
use Rattle.std.proofs.Common.{ap, ◌∙◌, arith}
use Rattle.bs_registry.specs.OpenStays.{are_named_once}
use Rattle.bs_sched.specs.inner.Assembling.{games_of}
use Rattle.bs_sched.specs.inner.Journal.{core_of}
use Rattle.bs_sched.proofs.Led.{sound_led}
use Rattle.bs_sched.proofs.ListedStays.{open_in, open_once, seen_open}
use Rattle.bs_sched.proofs.games.Games.of_list.Goals as goal

pub from_open-registry-requires : goal.from_open-registry-requires
from_open-registry-requires g c =
    let core = core_of (games_of c.args.rows c.args.workers c.args.list.items c.args.pool) c.requires.led.0 in
    ap are_named_once (c.in_ok-stays.ensures ∙ ap (open_in 0) c.as_slice.ensures.value) ∙ open_once g.row.CAP core c.requires.led.1

pub invariant_of-result : goal.invariant_of-result
invariant_of-result g c =
    sound_led g.row.CAP _ c.requires.led.0 c.requires.led.1 c.requires.placed
    (seen_open c.args.list.items c.len.result _ c.in_ok-stays.stays.items (omega arith) c.from_open-registry.ensures
    (c.in_ok-stays.ensures ∙ ap (open_in 0) c.as_slice.ensures.value))
