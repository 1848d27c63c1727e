-- The acts that a journal makes.
use Rattle.std.proofs.Common.{◌≡◌, List, ◌++◌}
use Rattle.std.proofs.lemmas.List.Elements.{filter_map-append}
use Rattle.bs_sched.specs.declared.event.Event.{Event}
use Rattle.bs_workers.specs.Run.{act_of, acts_of}

pub acts_append : (events more : List Event) → acts_of (events ++ more) ≡ acts_of events ++ acts_of more
acts_append events more = filter_map-append act_of events more
