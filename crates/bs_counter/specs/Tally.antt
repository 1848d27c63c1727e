-- What each seat of a tally knows, the invariant that ties this to the word and the slots, and the
-- effect of each step.
use Rattle.std.specs.Prelude.{◌≡◌, ◌≢◌, ℕ, ◌+◌, ◌-◌, ◌<◌, ◌≤◌, List, [], ◌∷◌, length, slice_index, Option, Some, None}
use mathlib.Core.Option.{some}
use mathlib.Core.Option as maybe
use lib.ListN.{get_elem?}
use Rattle.atomic_table.specs.Table.{State, Me, Step, rest}
use Rattle.atomic_table.specs.Seated.{TableId}
use Rattle.atomic_table.specs.declared.shared.Seat.{Seat}
use Rattle.bs_counter.specs.declared.views.SeatView.{SeatView}
use Rattle.bs_counter.specs.declared.views.SeatView.TheVariants.{Owes, Writes, Past, Last}

-- the part is missing, and the seat has to finish it
abbrev pub Covers : SeatView → ℕ → Type 0
Covers (Owes a b) p = (a ≤ p) × (p < b)
Covers (Writes q) p = p ≡ q
Covers Past p = ⊥
Covers (Last k) p = ⊥

-- the seat has not begun to finish it
abbrev pub Waits : SeatView → ℕ → Type 0
Waits (Owes a b) p = (a ≤ p) × (p < b)
Waits (Writes q) p = ⊥
Waits Past p = ⊥
Waits (Last k) p = ⊥

-- how many missing parts the seat has to finish
abbrev pub weight : SeatView → ℕ
weight (Owes a b) = b - a
weight (Writes q) = 1
weight Past = 0
weight (Last k) = 0

-- how many parts are missing
abbrev pub owing : List SeatView → ℕ
owing [] = 0
owing (v ∷ vs) = weight v + owing vs

-- the slot is in place, with the outcome of its part
abbrev pub IsFilled : {T : Type 0} → (T → ℕ) → List (maybe.Option (Option T)) → ℕ → Type 0
IsFilled {T} part homes p = (x : T) × (get_elem? homes p ≡ some (some (Some x))) × (part x ≡ p)

-- no seat has to finish it any more
abbrev pub IsFinished : List SeatView → ℕ → Type 0
IsFinished views p = (i : ℕ) (v : SeatView) → get_elem? views i ≡ some v → ¬ Covers v p

-- the invariant of a tally of n parts
pub record Tallied {T : Type 0} (part : T → ℕ) (n : ℕ) (s : State (Option T) SeatView) : Type 0 where
  pub wide : length s.words ≡ 1
  pub deep : length s.homes ≡ n
  pub word_is : slice_index s.words 0 ≡ owing s.views
  pub inside : (i p : ℕ) (v : SeatView) → get_elem? s.views i ≡ some v → Covers v p → p < n
  pub disjoint : (i j p : ℕ) (v w : SeatView) → get_elem? s.views i ≡ some v → get_elem? s.views j ≡ some w → Covers v p → Covers w p → i ≡ j
  pub empty : (i p : ℕ) (v : SeatView) → get_elem? s.views i ≡ some v → Waits v p → get_elem? s.homes p ≡ some (some None)
  pub filled : (p : ℕ) → 0 < owing s.views → p < n → IsFinished s.views p → IsFilled part s.homes p
  pub last : (i k : ℕ) → get_elem? s.views i ≡ some (Last k) → (owing s.views ≡ 0) × ((p : ℕ) → k ≤ p → p < n → IsFilled part s.homes p)
  pub one_last : (i j k l : ℕ) → get_elem? s.views i ≡ some (Last k) → get_elem? s.views j ≡ some (Last l) → i ≡ j
  pub some_last : owing s.views ≡ 0 → (i : ℕ) × (k : ℕ) × (get_elem? s.views i ≡ some (Last k))

-- The effect of the steps.

abbrev pub first_of_view : SeatView → ℕ
first_of_view (Owes a b) = a
first_of_view (Writes q) = q
first_of_view Past = 0
first_of_view (Last k) = k

-- without its first part, which got a seat of its own
abbrev pub without_first : SeatView → SeatView
without_first (Owes a b) = Owes (a + 1) b
without_first (Writes q) = Past
without_first Past = Past
without_first (Last k) = Past

abbrev pub first_alone : SeatView → SeatView
first_alone (Owes a b) = Owes a (a + 1)
first_alone (Writes q) = Past
first_alone Past = Past
first_alone (Last k) = Past

module _ {T : Type 0} where
  -- the slot of the part is taken out, and is empty
  abbrev pub started : Step (Option T) → Me (Option T) SeatView → ℕ → Me (Option T) SeatView → Type 0
  started st m r m' = m' ≡ (Writes (first_of_view m.0), (first_of_view m.0, None) ∷ m.1)

  -- the slot is back in place; the seat that found 1 in the word is the last
  abbrev pub ended : Step (Option T) → Me (Option T) SeatView → ℕ → Me (Option T) SeatView → Type 0
  ended st m r m' = (0 < r) × (r ≡ 1 → m' ≡ (Last 0, rest m.1)) × (r ≢ 1 → m' ≡ (Past, rest m.1))

  -- the next slot is taken out, with the outcome of its part
  abbrev pub fetched : (T → ℕ) → Step (Option T) → Me (Option T) SeatView → ℕ → Me (Option T) SeatView → Type 0
  fetched part st m r m' = (m'.0 ≡ Last (first_of_view m.0 + 1)) × ((x : T) × (m'.1 ≡ (first_of_view m.0, Some x) ∷ m.1) × (part x ≡ first_of_view m.0))

  -- the seat is at that tally, which has one word
  pub record IsSeatAt (tally : TableId) (seat : Seat (Option T) SeatView) : Type 0 where
    pub table : seat.table_id ≡ tally
    pub word : tally.words ≡ 1

  pub record IsSameSeat (old new : Seat (Option T) SeatView) : Type 0 where
    pub table : new.table_id ≡ old.table_id
    pub id : new.id ≡ old.id
