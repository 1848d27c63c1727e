-- The collisions of a board: who is judged, and who is eliminated.
use Rattle.std.proofs.Common.{◌≡◌, ℕ, ◌+◌, ◌<◌, ◌≤◌, true, List, length, set, get_or, Option, Some, None, refl, sym, ap, ◌∙◌, arith, inl, inr}
use Rattle.std.specs.Prelude.{is_some}
use Rattle.std.proofs.lemmas.Bool.{cases_eq}
use Rattle.std.proofs.lemmas.List.{get_or-set_same, get_or-set_other, map-id}
use Rattle.bs_board.specs.declared.boards.board.Board.{Board}
use Rattle.bs_board.specs.declared.boards.snake.Snake.{Snake}
use Rattle.bs_board.specs.boards.Over.{is_living}
use Rattle.bs_rules.specs.declared.verdict.Verdict.{Verdict}
use Rattle.bs_rules.specs.Collision.{collided, collision_verdict, map_seats, snake_at}
use Rattle.bs_rules.specs.Elimination.{judged}
use Rattle.bs_rules.proofs.Seats.{map_seats_agree}
use Rattle.bs_batch.specs.declared.collisions.Verdict.{Verdict as VerdictBytes}
use Rattle.bs_batch.specs.declared.layout.Head.{Head}
use Rattle.bs_batch.specs.Shown.{HasRoom, ShowsSeats, seat_at}
use Rattle.bs_batch.specs.inner.Collisions.{ShowsJudged, spared}
use Rattle.bs_batch.specs.Eliminations.{Eliminates, with_snake}
use Rattle.bs_batch.specs.inner.Eliminations.{PutsOut}
use Rattle.bs_batch.proofs.Eliminated.{put_out_has_room}
use Rattle.bs_batch.proofs.FirstOut.{living_byte, same_snake, seat_is_out}
use Rattle.bs_batch.proofs.Judged.{dead_spared_at}
use Rattle.bs_batch.proofs.SoFar.{map_each}

pub judged_from : (head : Head) (plane bodies : List ℕ) (b : Board) (more : ℕ) → ShowsSeats head plane bodies b → HasRoom more b → head.settings.seats ≤ 8
    → ShowsJudged head bodies b.width b.height b.snakes
judged_from head plane bodies b more shows room few = record {
  seats = shows.settings.seats;
  few = let n = shows.settings.seats in omega arith;
  narrow = room.narrow;
  snakes_shown = shows.snakes;
  bodies_near = room.bodies;
}

pub out_is_spared : (head : Head) (plane bodies : List ℕ) (b : Board) (seat : ℕ) → ShowsSeats head plane bodies b → seat < length b.snakes
    → ((seat_at head.seats seat).cause ≡ 0 → ⊥) → collision_verdict b.snakes seat ≡ None
out_is_spared head plane bodies b seat shows within out = dead_spared_at b.snakes seat (seat_is_out head plane bodies b seat shows within out)

-- where no snake is judged, the board stays
pub all_spared : (b : Board) → ((seat : ℕ) → seat < length b.snakes → collision_verdict b.snakes seat ≡ None) → collided b ≡ b
all_spared b none =
    let stay : (k : ℕ) → k < length b.snakes → (s : Snake) → judged (b.turn + 1) (collision_verdict b.snakes k) s ≡ s =
    λ k within s. ap (λ v. judged (b.turn + 1) v s) (none k within) in
    let same : map_seats (λ seat s. judged (b.turn + 1) (collision_verdict b.snakes seat) s) b.snakes ≡ b.snakes =
    map_seats_agree (λ seat s. judged (b.turn + 1) (collision_verdict b.snakes seat) s) (λ _ s. s) b.snakes stay
    ∙ map_each (λ s. s) b.snakes ∙ map-id b.snakes in
    ap (λ snakes. record b { snakes = snakes }) same

-- one more verdict is written
pub one_more : (P : ℕ → VerdictBytes → Type 0) (verdicts : List VerdictBytes) (n : ℕ) (v : VerdictBytes) → n < length verdicts
    → ((k : ℕ) → k < n → P k (get_or verdicts k spared)) → P n v → (k : ℕ) → k < n + 1 → P k (get_or (set verdicts n v) k spared)
one_more P verdicts n v fits before now k within =
    elim (cases_eq k n) [
      | inl same ↦ rw (same, get_or-set_same verdicts n v spared fits) now
      | inr other ↦ rw (get_or-set_other verdicts n k v spared other) (before k (omega arith))
    ]

pub puts_out : (head : Head) (plane bodies : List ℕ) (head' : Head) (plane' : List ℕ) (seat : ℕ) (bytes : VerdictBytes) → (bytes.cause ≡ 0 → ⊥)
    → Eliminates seat bytes bodies head plane head' plane' → PutsOut seat bytes bodies head plane head' plane'
puts_out head plane bodies head' plane' seat bytes some out b None is shows room within lives = absurd (some is)
puts_out head plane bodies head' plane' seat bytes some out b (Some v) is shows room within lives = out b v is shows room within (lives refl)

pub puts_none_out : (head : Head) (plane bodies : List ℕ) (seat : ℕ) (bytes : VerdictBytes) → bytes.cause ≡ 0 → PutsOut seat bytes bodies head plane head plane
puts_none_out head plane bodies seat bytes zero b None is shows room within lives = same_snake b seat (ShowsSeats head plane bodies) shows
puts_none_out head plane bodies seat bytes zero b (Some v) is shows room within lives =
    absurd (let none = living_byte (Some v.cause) (sym is.cause ∙ zero) in cc)

pub judged_keeps_room : (b : Board) (seat : ℕ) (verdict : Option Verdict) → seat < length b.snakes
    → (is_some verdict ≡ true → is_living (snake_at b.snakes seat) ≡ true) → HasRoom 0 b
    → HasRoom 0 (with_snake b seat (judged (b.turn + 1) verdict (snake_at b.snakes seat)))
judged_keeps_room b seat None within lives room = same_snake b seat (HasRoom 0) room
judged_keeps_room b seat (Some v) within lives room = put_out_has_room b seat v within 0 (lives refl) room
