-- The tally as a set: the parts that are missing, from which each finish takes its own away.
use Rattle.std.specs.Prelude.{◌≡◌, ◌≢◌, ◌↔◌, ℕ, List, Option, slice_index, slice_set}
use mathlib.Core.Option.{some}
use lib.ListN.{get_elem?}
use Rattle.atomic_table.specs.Table.{State}
use Rattle.bs_counter.specs.declared.views.SeatView.{SeatView}
use Rattle.bs_counter.specs.declared.views.SeatView.TheVariants.{Writes, Last}
use Rattle.bs_counter.specs.Tally.{Covers}

-- some seat still has to finish the part
abbrev pub IsMissing : List SeatView → ℕ → Type 0
IsMissing views p = (i : ℕ) × (v : SeatView) × (get_elem? views i ≡ some v) × Covers v p

-- the seat is the last finisher
abbrev pub IsLast : List SeatView → ℕ → Type 0
IsLast views i = (k : ℕ) × (get_elem? views i ≡ some (Last k))

-- A state of the rule is a set of missing parts. The word is 0 exactly if the set is empty. A seat
-- that finishes its part removes that part and no other, whether it is the last or not. If no part
-- is missing, exactly one seat is the last, else none.
pub record IsSet {T : Type 0} (s : State (Option T) SeatView) : Type 0 where
  pub empty : slice_index s.words 0 ≡ 0 ↔ ((p : ℕ) → ¬ IsMissing s.views p)
  pub finish : (id p : ℕ) (w : SeatView) → get_elem? s.views id ≡ some (Writes p) → ((q : ℕ) → ¬ Covers w q)
      → (q : ℕ) → IsMissing (slice_set s.views id w) q ↔ (IsMissing s.views q × (q ≢ p))
  pub one_last : ((p : ℕ) → ¬ IsMissing s.views p) → (i : ℕ) × (IsLast s.views i × ((j : ℕ) → IsLast s.views j → j ≡ i))
  pub none_last : (p : ℕ) → IsMissing s.views p → (i : ℕ) → ¬ IsLast s.views i
