-- What a journal keeps: an event, or one entry for all events of a command that a worker answered
-- in place.
use Rattle.std.specs.Prelude.{List, [], ◌∷◌}
use Rattle.std.specs.List.{flat_map}
use Rattle.bs_sched.specs.Answering.{answer_events}
use Rattle.bs_sched.specs.declared.entry.Entry.{Entry}
use Rattle.bs_sched.specs.declared.entry.Entry.TheVariants as entry
use Rattle.bs_sched.specs.declared.event.Event.{Event}
use Rattle.bs_sched.specs.declared.event.Event.TheVariants as event

abbrev pub events_of : Entry → List Event
events_of (entry.Hand game command) = event.Hand game command ∷ []
events_of (entry.Take worker job) = event.Take worker job ∷ []
events_of (entry.Put worker job) = event.Put worker job ∷ []
events_of (entry.Admit row) = event.Admit row ∷ []
events_of (entry.Leave game) = event.Leave game ∷ []
events_of (entry.Answered worker game parts) = answer_events worker game parts

-- those of each entry, in order
abbrev pub all_events : List Entry → List Event
all_events = flat_map events_of
