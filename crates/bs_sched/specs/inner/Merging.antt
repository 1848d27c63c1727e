-- The journals of cores of one row each, merged, and the journal that has them.
use Rattle.std.specs.Prelude.{ℕ, suc, ◌≤◌, List, [], ◌∷◌, ◌++◌, drop, length, Option, Some, None, is_some, not, option_and_then, option_to_list, slice_index_or, slice_set, vec_len, vec_capacity}
use Rattle.bs_registry.specs.declared.blocks.TheConstants.{MOST_STAYS}
use Rattle.bs_sched.specs.declared.event.Event.{Event}
use Rattle.bs_sched.specs.declared.event.Event.TheVariants as event
use Rattle.bs_sched.specs.declared.journal.Unmerged.{Unmerged}
use Rattle.bs_sched.specs.declared.step.Step.{Step}
use Rattle.bs_sched.specs.declared.step.Step.TheVariants as step
use Rattle.bs_sched.specs.declared.journal.Journal.TheInside.{Inside}
use Rattle.bs_sched.specs.Assembly.{jobs_at}
use Rattle.bs_sched.specs.Events.{JournalView}
use Rattle.bs_sched.specs.inner.Entries.{all_events}

-- the event with that row, if it queues a command
abbrev pub hand_at : ℕ → Event → Option Event
hand_at row (event.Hand game command) = Some (event.Hand row command)
hand_at row (event.Take worker job) = None
hand_at row (event.Put worker job) = None
hand_at row (event.Admit new) = None
hand_at row (event.Leave game) = None

abbrev pub first_event : List Event → Option Event
first_event [] = None
first_event (first ∷ rest) = Some first

abbrev pub first_hand : ℕ → List Event → Option Event
first_hand row events = option_and_then (hand_at row) (first_event events)

-- the journals without the first event of that row's
abbrev pub taken_from : ℕ → List (List Event) → List (List Event)
taken_from row lefts = slice_set lefts row (drop 1 (slice_index_or lefts row []))

-- the events of an act: its command, from the journal of its stay, or the jobs of the stay that
-- leaves, and its leave
abbrev pub act_taken : Step → List (List Event) → List Event
act_taken (step.Hand row) lefts = option_to_list (first_hand row (slice_index_or lefts row []))
act_taken (step.Admit row) lefts = event.Admit row ∷ []
act_taken (step.Leave row) lefts = jobs_at row (slice_index_or lefts row []) ++ event.Leave row ∷ []

-- what is left after it: nothing for a stay that leaves
abbrev pub lefts_then : Step → List (List Event) → List (List Event)
lefts_then (step.Hand row) lefts = taken_from row lefts
lefts_then (step.Admit row) lefts = lefts
lefts_then (step.Leave row) lefts = slice_set lefts row []

-- those of each act of the order
abbrev pub acts_taken : List Step → List (List Event) → List Event
acts_taken [] lefts = []
acts_taken (act ∷ order) lefts = act_taken act lefts ++ acts_taken order (lefts_then act lefts)

abbrev pub lefts_after : List Step → List (List Event) → List (List Event)
lefts_after [] lefts = lefts
lefts_after (act ∷ order) lefts = lefts_after order (lefts_then act lefts)

-- the jobs of each journal, one after the other; the first is that of this row
abbrev pub all_jobs : ℕ → List (List Event) → List Event
all_jobs row [] = []
all_jobs row (left ∷ lefts) = jobs_at row left ++ all_jobs (suc row) lefts

abbrev pub merged : List Step → List (List Event) → List Event
merged order lefts = acts_taken order lefts ++ all_jobs 0 (lefts_after order lefts)

-- the events of the cores that a core was put together of
abbrev pub unmerged_events : Option Unmerged → List Event
unmerged_events None = []
unmerged_events (Some u) = merged u.order.items u.journals.items

abbrev pub journal_in : Inside → JournalView
journal_in j =
    record {
      events = unmerged_events j.unmerged ++ all_events j.later.items;
      is_whole = not (is_some j.unmerged);
      used = vec_len j.later;
      room = vec_capacity j.later;
    }

-- there are no more of them than stays
abbrev pub AreFew : Option Unmerged → Type 0
AreFew None = Unit {0}
AreFew (Some u) = length u.journals.items ≤ MOST_STAYS
