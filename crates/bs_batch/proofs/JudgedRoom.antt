-- Eliminations leave as much room.
use Rattle.std.proofs.Common.{◌≡◌, ℕ, Bool, ◌+◌, ◌-◌, ◌*◌, ◌<◌, ◌≤◌, List, [], ◌∷◌, length, map, sum_by, Option, Some, None, refl, arith}
use Rattle.std.specs.List.{enumerate_from}
use Rattle.std.proofs.lemmas.Bool.{cond_both}
use Rattle.std.proofs.lemmas.List.Sums.{sum_by-cons}
use Rattle.bs_board.specs.declared.boards.point.Point.{Point}
use Rattle.bs_board.specs.declared.boards.board.Board.{Board}
use Rattle.bs_board.specs.declared.boards.snake.Snake.{Snake}
use Rattle.bs_board.specs.boards.Cell.{head_of}
use Rattle.bs_board.specs.boards.Over.{is_living}
use Rattle.bs_board.specs.boards.Wrap.{is_wrapped}
use Rattle.bs_rules.specs.declared.verdict.Verdict.{Verdict}
use Rattle.bs_rules.specs.Collision.{collided, collision_verdict, map_seats, nobody, snake_at}
use Rattle.bs_rules.specs.Elimination.{judged, starved_or_outside, starved_or_outside_snake, starved_or_outside_verdict}
use Rattle.bs_rules.specs.Hurting.{hazard_verdict}
use Rattle.bs_rules.proofs.Seats.{at_seat, length-map_seats}
use Rattle.bs_batch.specs.Shown.{HasRoom, parts_on}
use Rattle.bs_batch.specs.Hurting.{count_on, hurt_all, hurt_at, hurt_by_count, is_hurt_by, with_health}
use Rattle.bs_batch.proofs.SoFar.{map_each}

-- the body stays, and no part more is counted
pub record KeepsBody (s t : Snake) : Type 0 where
  pub body : t.body ≡ s.body
  pub parts : (p : Point) → parts_on p t ≤ parts_on p s

fewer_from : (f : ℕ → Snake → Snake) (p : Point) (n : ℕ) (snakes : List Snake) → ((seat : ℕ) (s : Snake) → KeepsBody s (f seat s))
    → sum_by (parts_on p) (map (λ entry. f entry.0 entry.1) (enumerate_from n snakes)) ≤ sum_by (parts_on p) snakes
fewer_from f p n [] keeps = omega arith
fewer_from f p n (s ∷ snakes) keeps =
    let one = (keeps n s).parts p in
    let rest = fewer_from f p (n + 1) snakes keeps in
    let a = sum_by-cons (parts_on p) s snakes in
    let c = sum_by-cons (parts_on p) (f n s) (map (λ entry. f entry.0 entry.1) (enumerate_from (n + 1) snakes)) in
    omega arith

keeps_room : (f : ℕ → Snake → Snake) (b : Board) (more : ℕ) → ((seat : ℕ) (s : Snake) → KeepsBody s (f seat s)) → HasRoom more b
    → HasRoom more (record b { snakes = map_seats f b.snakes })
keeps_room f b more keeps room = record {
  narrow = room.narrow;
  early = room.early;
  bodies = λ k d within.
      let n = length-map_seats f b.snakes in
      let inside : k < length b.snakes = omega arith in
      let s = snake_at b.snakes k in
      let has = room.bodies k nobody inside in
      let same = (keeps k s).body in
      rw (at_seat f b.snakes k d inside) (record { long = rw same has.long; near = rw same has.near });
  few = λ p. let few = room.few p in let fewer = fewer_from f p 0 b.snakes keeps in omega arith;
}

pub judged_keeps : (turn : ℕ) (verdict : Option Verdict) (s : Snake) → KeepsBody s (judged turn verdict s)
judged_keeps turn None s = record { body = refl; parts = λ p. omega arith }
judged_keeps turn (Some v) s = record { body = refl; parts = λ p. omega arith }

first_keeps : (wraps : Bool) (width height turn : ℕ) (s : Snake) → KeepsBody s (starved_or_outside_snake wraps width height turn s)
first_keeps wraps width height turn s =
    cond_both (is_living s) (judged turn (starved_or_outside_verdict wraps width height s) s) s (KeepsBody s)
    (λ _. judged_keeps turn (starved_or_outside_verdict wraps width height s) s) (λ _. record { body = refl; parts = λ p. omega arith })

pub first_has_room : (b : Board) (more : ℕ) → HasRoom more b → HasRoom more (starved_or_outside b)
first_has_room b more room =
    let f = starved_or_outside_snake (is_wrapped b.mode) b.width b.height (b.turn + 1) in
    let all = keeps_room (λ _. f) b more (λ _ s. first_keeps (is_wrapped b.mode) b.width b.height (b.turn + 1) s) room in
    rw (map_each f b.snakes) at all

pub collided_has_room : (b : Board) (more : ℕ) → HasRoom more b → HasRoom more (collided b)
collided_has_room b more room =
    keeps_room (λ seat s. judged (b.turn + 1) (collision_verdict b.snakes seat) s) b more
    (λ seat s. judged_keeps (b.turn + 1) (collision_verdict b.snakes seat) s) room

-- a snake that a hazard may hurt
pub hurt_keeps : (turn damage count : ℕ) (s : Snake) → KeepsBody s (hurt_by_count turn damage count s)
hurt_keeps turn damage count s =
    let health = s.health - damage * count in
    let out = judged_keeps turn (hazard_verdict health) (record s { health = health }) in
    cond_both (is_hurt_by count s) (with_health turn health s) s (KeepsBody s) (λ _. record { body = out.body; parts = out.parts }) (λ _. record { body = refl; parts = λ p. omega arith })

pub hurt_has_room : (counts : List ℕ) (damage : ℕ) (b : Board) (more : ℕ) → HasRoom more b → HasRoom more (hurt_all counts damage b)
hurt_has_room counts damage b more room =
    let all = keeps_room (λ _. hurt_at counts damage b) b more
    (λ _ s. hurt_keeps (b.turn + 1) damage (count_on b.width b.height counts (head_of s.body)) s) room in
    rw (map_each (hurt_at counts damage b) b.snakes) at all
