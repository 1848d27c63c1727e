-- The first elimination of one seat, by whether there is one.
use Rattle.std.proofs.Common.{◌≡◌, ℕ, ◌+◌, ◌<◌, Bool, true, false, cond, List, length, take, Option, Some, None, MatchOption, refl, sym, ◌∙◌, arith, inl, inr}
use Rattle.std.specs.Prelude.{◌||◌, is_none, option_map, nat_eq}
use Rattle.std.proofs.lemmas.Bool.{cases_Bool, cond_both}
use Rattle.std.proofs.lemmas.List.{set-get_or}
use Rattle.bs_board.specs.declared.boards.board.Board.{Board}
use Rattle.bs_board.specs.declared.boards.snake.Snake.{Snake}
use Rattle.bs_board.specs.declared.boards.snake.Cause.{Cause}
use Rattle.bs_board.specs.declared.boards.snake.Cause.TheVariants.{OutOfHealth, WallCollision, SelfCollision, BodyCollision, HeadCollision, Hazard}
use Rattle.bs_board.specs.boards.Cell.{head_of, is_on_board}
use Rattle.bs_board.specs.boards.Over.{is_living}
use Rattle.bs_board.specs.boards.Wrap.{is_wrapped}
use Rattle.bs_board.specs.records.Record.{cause_byte}
use Rattle.bs_rules.specs.declared.verdict.Verdict.{Verdict}
use Rattle.bs_rules.specs.Collision.{nobody, snake_at}
use Rattle.bs_rules.specs.Elimination.{judged, starved_or_outside_verdict}
use Rattle.bs_batch.specs.declared.layout.Head.{Head}
use Rattle.bs_batch.specs.Shown.{HasRoom, ShowsSeats, room_of, seat_at}
use Rattle.bs_batch.specs.Eliminations.{Eliminates, put_out, with_snake}
use Rattle.bs_batch.specs.inner.Eliminations.{ChangesSeat, IsFirstCause, starved_or_outside_at}
use Rattle.bs_batch.proofs.Eliminated.{put_out_has_room}
use Rattle.bs_batch.proofs.Shown.{body_shown, has_body}

pub living_byte : (cause : Option Cause) → cause_byte cause ≡ 0 → is_none cause ≡ true
living_byte None e = refl
living_byte (Some OutOfHealth) e = absurd (omega arith)
living_byte (Some WallCollision) e = absurd (omega arith)
living_byte (Some SelfCollision) e = absurd (omega arith)
living_byte (Some BodyCollision) e = absurd (omega arith)
living_byte (Some HeadCollision) e = absurd (omega arith)
living_byte (Some Hazard) e = absurd (omega arith)

pub dead_byte : (cause : Option Cause) → (cause_byte cause ≡ 0 → ⊥) → is_none cause ≡ false
dead_byte None e = absurd (e refl)
dead_byte (Some cause) e = refl

-- the living snakes are those with the byte 0
pub seat_lives : (head : Head) (plane bodies : List ℕ) (b : Board) (seat : ℕ) → ShowsSeats head plane bodies b → seat < length b.snakes
    → (seat_at head.seats seat).cause ≡ 0 → is_living (snake_at b.snakes seat) ≡ true
seat_lives head plane bodies b seat shows within zero =
    let byte = (shows.snakes seat within).cause in
    living_byte (snake_at b.snakes seat).cause (sym byte ∙ zero)

pub seat_is_out : (head : Head) (plane bodies : List ℕ) (b : Board) (seat : ℕ) → ShowsSeats head plane bodies b → seat < length b.snakes
    → ((seat_at head.seats seat).cause ≡ 0 → ⊥) → is_living (snake_at b.snakes seat) ≡ false
seat_is_out head plane bodies b seat shows within other =
    let byte = (shows.snakes seat within).cause in
    dead_byte (snake_at b.snakes seat).cause (λ zero. other (byte ∙ zero))

-- there is no killer
no_killer : (wraps : Bool) (width height : ℕ) (s : Snake) → MatchOption (starved_or_outside_verdict wraps width height s) (Unit {0}) (λ v. v.killer ≡ None)
no_killer wraps width height s =
    let P : Option Verdict → Type 0 = λ o. MatchOption o (Unit {0}) (λ v. v.killer ≡ None) in
    let wall = Some (record { cause = WallCollision; killer = None }) in
    cond_both (nat_eq s.health 0) (Some (record { cause = OutOfHealth; killer = None })) (cond (wraps || is_on_board width height (head_of s.body)) None wall) P
    (λ _. refl) (λ _. cond_both (wraps || is_on_board width height (head_of s.body)) None wall P (λ _. tt) (λ _. refl))

module _ (b : Board) (seat : ℕ) where
  abbrev s : Snake
  s = snake_at b.snakes seat

  abbrev verdict : Option Verdict
  verdict = starved_or_outside_verdict (is_wrapped b.mode) b.width b.height s

  pub same_snake : (P : Board → Type 0) → P b → P (with_snake b seat s)
  same_snake P h = rw (set-get_or b.snakes seat nobody) h

  by_verdict : (P : Board → Type 0) (o : Option Verdict) → verdict ≡ o → (verdict ≡ None → P b) → ((v : Verdict) → verdict ≡ Some v → P (put_out b seat v))
      → P (with_snake b seat (judged (b.turn + 1) o s))
  by_verdict P None e none some = same_snake P (none e)
  by_verdict P (Some v) e none some = some v e

  -- what holds of the board after the step
  pub stepped : (P : Board → Type 0) → (is_living s ≡ false → P b) → (is_living s ≡ true → verdict ≡ None → P b)
      → ((v : Verdict) → is_living s ≡ true → verdict ≡ Some v → P (put_out b seat v)) → P (with_snake b seat (starved_or_outside_at b s))
  stepped P out none some =
      elim (cases_Bool (is_living s)) [
        | inl alive ↦ rw alive (by_verdict P verdict refl (none alive) (λ v. some v alive))
        | inr dead ↦ rw dead (same_snake P (out dead))
      ]

pub first_out_keeps_room : (b : Board) (seat more : ℕ) → seat < length b.snakes → HasRoom more b
    → HasRoom more (with_snake b seat (starved_or_outside_at b (snake_at b.snakes seat)))
first_out_keeps_room b seat more within room =
    stepped b seat (HasRoom more) (λ _. room) (λ _ _. room) (λ v alive _. put_out_has_room b seat v within more alive room)

module _ (head : Head) (plane bodies : List ℕ) (seat : ℕ) where
  -- what the byte says of the verdict
  cause_is : (b : Board) (cause : ℕ) → ShowsSeats head plane bodies b → HasRoom 0 b → seat < length b.snakes
      → IsFirstCause head.settings (seat_at head.seats seat).health (take (seat_at head.seats seat).parts (room_of bodies seat)) cause
      → cause ≡ cause_byte (option_map (λ v. v.cause) (verdict b seat))
  cause_is b cause shows room within is =
      is b (snake_at b.snakes seat) shows.settings room.narrow (has_body b seat 0 room within) (shows.snakes seat within).health
      (body_shown head.seats bodies b.snakes seat shows.snakes within)

  pub none_out : (cause : ℕ) → cause ≡ 0
      → IsFirstCause head.settings (seat_at head.seats seat).health (take (seat_at head.seats seat).parts (room_of bodies seat)) cause
      → ChangesSeat starved_or_outside_at seat bodies head plane head plane
  none_out cause zero is b shows room within =
      let byte = cause_is b cause shows room within is in
      stepped b seat (ShowsSeats head plane bodies) (λ _. shows) (λ _ _. shows)
      (λ v _ e. let o : cause ≡ cause_byte (Some v.cause) = rw e at byte in absurd (let none = living_byte (Some v.cause) (sym o ∙ zero) in cc))

  pub dead_stays : ((seat_at head.seats seat).cause ≡ 0 → ⊥) → ChangesSeat starved_or_outside_at seat bodies head plane head plane
  dead_stays other b shows room within =
      let dead = seat_is_out head plane bodies b seat shows within other in
      stepped b seat (ShowsSeats head plane bodies) (λ _. shows) (λ _ _. shows) (λ v alive _. absurd cc)

  pub one_out : (cause : ℕ) (head' : Head) (plane' : List ℕ) → (seat_at head.seats seat).cause ≡ 0
      → IsFirstCause head.settings (seat_at head.seats seat).health (take (seat_at head.seats seat).parts (room_of bodies seat)) cause
      → (cause ≡ 0 → ⊥) → Eliminates seat (record { cause = cause; killer = 255 }) bodies head plane head' plane'
      → ChangesSeat starved_or_outside_at seat bodies head plane head' plane'
  one_out cause head' plane' zero is some out b shows room within =
      let alive = seat_lives head plane bodies b seat shows within zero in
      let byte = cause_is b cause shows room within is in
      let none = no_killer (is_wrapped b.mode) b.width b.height (snake_at b.snakes seat) in
      stepped b seat (ShowsSeats head' plane' bodies) (λ dead. absurd cc) (λ _ e. absurd (some (rw e at byte)))
      (λ v _ e.
      let o : cause ≡ cause_byte (Some v.cause) = rw e at byte in
      let k : v.killer ≡ None = rw e at none in
      out b v (record { cause = o; killer = rw k refl }) shows room within alive)
