-- What private contracts add to specs/Keys.
use Rattle.std.specs.Prelude.{◌≡◌, ℕ, ◌+◌, ◌<◌, ◌≤◌, [], Option}
use Rattle.atomic_table.specs.Seated.{TableId}
use Rattle.atomic_table.specs.declared.shared.Seat.{Seat}
use Rattle.bs_counter.specs.declared.views.SeatView.{SeatView}
use Rattle.bs_counter.specs.declared.views.SeatView.TheVariants.{Owes}
use Rattle.bs_counter.specs.Keys.{Key}

abbrev pub key_at : {T : Type 0} → ℕ → ℕ → Seat (Option T) SeatView → Key
key_at part parts s = record { part = part; parts = parts; tally = s.table_id; seat = s.id }

-- the seat, at that tally of `parts` parts, owes the one part
pub record IsKeyAt {T : Type 0} (tally : TableId) (key part parts : ℕ) (s : Seat (Option T) SeatView) : Type 0 where
  pub table : s.table_id ≡ tally
  pub word : tally.words ≡ 1
  pub count : key ≡ parts
  pub there : part < parts
  pub few : parts ≤ 4
  pub owes : s.me ≡ (Owes part (part + 1), [])
