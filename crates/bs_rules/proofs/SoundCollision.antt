-- Collisions leave each snake sound.
use Rattle.std.proofs.Common.{◌≡◌, ℕ, ◌+◌, ◌≤◌, ◌<◌, true, length, MatchOption, Option, Some, None, is_none, refl, ap, sym, arith, inl, inr}
use Rattle.std.proofs.lemmas.Bool.{false≢true}
use Rattle.bs_board.specs.declared.boards.board.Board.{Board}
use Rattle.bs_board.specs.declared.boards.snake.Snake.{Snake}
use Rattle.bs_board.specs.declared.boards.snake.Cause.{Cause}
use Rattle.bs_board.specs.declared.boards.snake.Cause.TheVariants.{OutOfHealth, WallCollision, SelfCollision, BodyCollision, HeadCollision, Hazard}
use Rattle.bs_board.specs.boards.Legal.{EachSeat, IsLegalLiving, IsLegalOut}
use Rattle.bs_rules.specs.Collision.{collided, IsJudged, RunsInto, snake_at, nobody}
use Rattle.bs_rules.proofs.CollisionMeaning.{collided_is_judged}
use Rattle.bs_rules.proofs.Seats.{length-map_seats}
use Rattle.bs_rules.proofs.Sound.{IsSound}

-- a living snake's state is that of the living
state_of_living : (A : Type 0) (B : Cause → Type 0) (cause : Option Cause) → is_none cause ≡ true → MatchOption cause A B → A
state_of_living A B None e h = h
state_of_living A B (Some cause) e h = absurd (false≢true e)

-- a snake that runs into another is eliminated by that cause
out_by : (b : Board) (seat killer : ℕ) (s t : Snake) (cause : Cause) → RunsInto cause seat s killer t → 1 ≤ b.turn → killer < length b.snakes → IsLegalLiving b s
    → IsLegalOut b seat (record s { cause = Some cause; killer = Some killer; out = Some b.turn }) cause
out_by b seat killer s t OutOfHealth hit played within living = absurd hit
out_by b seat killer s t WallCollision hit played within living = absurd hit
out_by b seat killer s t Hazard hit played within living = absurd hit
out_by b seat killer s t SelfCollision hit played within living = record {
  out = (played, omega arith);
  health = (living.fed, living.full);
  head = living.head;
  killer = ap (λ (k : ℕ). Some k) (sym hit.0);
  hazard = refl;
}
out_by b seat killer s t BodyCollision hit played within living = record {
  out = (played, omega arith);
  health = (living.fed, living.full);
  head = living.head;
  killer = (within, λ e. hit.0 (sym e));
  hazard = refl;
}
out_by b seat killer s t HeadCollision hit played within living = record {
  out = (played, omega arith);
  health = (living.fed, living.full);
  head = living.head;
  killer = (within, λ e. hit.0 (sym e));
  hazard = refl;
}

-- b is the board that is judged, f the one for which the snakes are sound
judged_is_sound : (b f : Board) (parts seat : ℕ) (now : Snake) → f.turn ≡ b.turn + 1 → length f.snakes ≡ length b.snakes → EachSeat (IsSound f parts) b.snakes
    → seat < length b.snakes → IsJudged b seat now → IsSound f parts seat now
judged_is_sound b f parts seat now turn seats sound within (inl spared) =
    rw (spared.rest) (sound seat nobody within)
judged_is_sound b f parts seat now turn seats sound within (inr (cause, (killer, out))) =
    let s = snake_at b.snakes seat in
    let before = sound seat nobody within in
    let hit = out.longest.collides in
    let living = state_of_living (IsLegalLiving f s) (IsLegalOut f seat s) s.cause hit.alive before.state in
    let inside = out.longest.within in
    let legal = out_by f seat killer s (snake_at b.snakes killer) cause hit.hit (omega arith) (omega arith) living in
    rw (out.rest, ← turn) (record {
      body = record { id = before.body.id; long = before.body.long; short = before.body.short; inside = before.body.inside };
      state = legal;
    })

pub length_collided : (b : Board) → length (collided b).snakes ≡ length b.snakes
length_collided b = length-map_seats _ b.snakes

pub collides_sound : (b f : Board) (parts : ℕ) → f.turn ≡ b.turn + 1 → length f.snakes ≡ length b.snakes → EachSeat (IsSound f parts) b.snakes
    → EachSeat (IsSound f parts) (collided b).snakes
collides_sound b f parts turn seats sound seat d within =
    let n = length_collided b in
    judged_is_sound b f parts seat _ turn seats sound (omega arith) (collided_is_judged b seat d within)
