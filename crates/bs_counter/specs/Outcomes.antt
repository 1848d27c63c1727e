-- The outcome of finishing a part.
use Rattle.std.specs.Prelude.{◌≡◌, ℕ, ◌<◌, List, [], length, Option, Some, slice_get}
use Rattle.bs_counter.specs.declared.finish.Finish.{Finish}
use Rattle.bs_counter.specs.declared.finish.Finish.TheVariants as finish
use Rattle.bs_counter.specs.declared.views.SeatView.TheVariants.{Past}
use Rattle.bs_counter.specs.Keys.{Key}

-- one outcome for each of n parts, in order
pub record AreOutcomes {T : Type 0} (part : T → ℕ) (n : ℕ) (outs : List (Option T)) : Type 0 where
  pub many : length outs ≡ n
  pub each : (p : ℕ) → p < n → (x : T) × (slice_get outs p ≡ Some (Some x)) × (part x ≡ p)

-- while other parts are missing, the key's own seat, past its step; else the outcomes of all parts
abbrev pub Finished : {T : Type 0} → (T → ℕ) → Key → Finish T → Type 0
Finished part key (finish.More spent) = (spent.seat.table_id ≡ key.tally) × (spent.seat.id ≡ key.seat) × (spent.seat.me ≡ (Past, []))
Finished part key (finish.Last outs) = AreOutcomes part key.parts outs.items
