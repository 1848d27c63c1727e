-- The journal of a core as its calls see it.
use Rattle.std.specs.Prelude.{ℕ, Bool, List}
use Rattle.bs_sched.specs.declared.event.Event.{Event}

pub record JournalView : Type 0 where
  -- its events, in their order
  pub events : List Event
  -- whether the core was not put together of others
  pub is_whole : Bool
  -- the number of the entries of its last list, and that of the entries for which that has memory
  pub used : ℕ
  pub room : ℕ
