-- The function for collisions agrees with the relation.
use Rattle.std.proofs.Common.{◌≡◌, ℕ, ◌+◌, ◌<◌, List, length, Option, Some, None, true, refl, ap, arith, inl, inr}
use Rattle.std.proofs.lemmas.Bool.{cases_lt, false≢true}
use Rattle.std.proofs.lemmas.List.{get_or_past}
use Rattle.bs_board.specs.declared.boards.board.Board.{Board}
use Rattle.bs_board.specs.declared.boards.snake.Snake.{Snake}
use Rattle.bs_board.specs.declared.boards.snake.Cause.{Cause}
use Rattle.bs_board.specs.declared.boards.snake.Cause.TheVariants.{OutOfHealth, WallCollision, SelfCollision, BodyCollision, HeadCollision, Hazard}
use Rattle.bs_board.specs.boards.Legal.{EachSeat}
use Rattle.bs_board.specs.boards.Over.{is_living}
use Rattle.bs_rules.specs.declared.verdict.Verdict.{Verdict}
use Rattle.bs_rules.specs.Collision.{collided, collision_verdict, killer_of, snake_at, nobody, EscapesBy, EscapesBefore, IsKiller, IsJudged}
use Rattle.bs_rules.specs.Elimination.{judged}
use Rattle.bs_rules.proofs.Killers.{IsKillerAmong, NoneAmong, MeansKiller, killer_means}
use Rattle.bs_rules.proofs.Seats.{length-map_seats, at_seat}

-- a living snake has a seat
pub seat_of_living : (snakes : List Snake) (seat : ℕ) → is_living (snake_at snakes seat) ≡ true → seat < length snakes
seat_of_living snakes seat alive =
    elim (cases_lt seat (length snakes)) [
      | inl within ↦ within
      | inr past ↦ absurd (false≢true (let P : Snake → Type 0 = λ s. is_living s ≡ true in rw (get_or_past snakes seat nobody past) at alive))
    ]

escapes_by : (snakes : List Snake) (seat : ℕ) (cause : Cause) → NoneAmong (length snakes) snakes seat cause → EscapesBy snakes seat cause
escapes_by snakes seat cause none other h = none other (seat_of_living snakes other h.both) h

escapes_all : (snakes : List Snake) (seat : ℕ) → EscapesBy snakes seat SelfCollision → EscapesBy snakes seat BodyCollision → EscapesBy snakes seat HeadCollision
    → (cause : Cause) → EscapesBy snakes seat cause
escapes_all snakes seat itself body head OutOfHealth = λ other h. h.hit
escapes_all snakes seat itself body head WallCollision = λ other h. h.hit
escapes_all snakes seat itself body head SelfCollision = itself
escapes_all snakes seat itself body head BodyCollision = body
escapes_all snakes seat itself body head HeadCollision = head
escapes_all snakes seat itself body head Hazard = λ other h. h.hit

of_all : (snakes : List Snake) (seat : ℕ) (cause : Cause) (killer : ℕ) → IsKillerAmong (length snakes) snakes seat cause killer → IsKiller snakes seat cause killer
of_all snakes seat cause killer m = record {
  within = m.within;
  collides = m.collides;
  longest = λ other h. m.longest other (seat_of_living snakes other h.both) h;
  first = m.first;
}

abbrev MeansVerdict : List Snake → ℕ → Option Verdict → Type 0
MeansVerdict snakes seat None = (cause : Cause) → EscapesBy snakes seat cause
MeansVerdict snakes seat (Some v) =
    (killer : ℕ) × ((v.killer ≡ Some killer) × EscapesBefore snakes seat v.cause × IsKiller snakes seat v.cause killer)

verdict_from : (snakes : List Snake) (seat : ℕ) (itself body head : Option ℕ)
    → killer_of snakes seat SelfCollision ≡ itself → killer_of snakes seat BodyCollision ≡ body → killer_of snakes seat HeadCollision ≡ head
    → MeansKiller (length snakes) snakes seat SelfCollision itself → MeansKiller (length snakes) snakes seat BodyCollision body
    → MeansKiller (length snakes) snakes seat HeadCollision head → MeansVerdict snakes seat (collision_verdict snakes seat)
unfolding collision_verdict
verdict_from snakes seat (Some k) body head e f g m n o = rw e (k, (e, tt, of_all snakes seat SelfCollision k m))
verdict_from snakes seat None (Some k) head e f g m n o = rw (e, f) (k, (f, escapes_by snakes seat SelfCollision m, of_all snakes seat BodyCollision k n))
verdict_from snakes seat None None (Some k) e f g m n o =
    rw (e, f, g) (k, (g, (escapes_by snakes seat SelfCollision m, escapes_by snakes seat BodyCollision n), of_all snakes seat HeadCollision k o))
verdict_from snakes seat None None None e f g m n o =
    rw (e, f, g)
    (escapes_all snakes seat (escapes_by snakes seat SelfCollision m) (escapes_by snakes seat BodyCollision n) (escapes_by snakes seat HeadCollision o))

verdict_means : (snakes : List Snake) (seat : ℕ) → MeansVerdict snakes seat (collision_verdict snakes seat)
verdict_means snakes seat =
    let means = killer_means (length snakes) snakes seat in
    verdict_from snakes seat (killer_of snakes seat SelfCollision) (killer_of snakes seat BodyCollision) (killer_of snakes seat HeadCollision)
    refl refl refl (means SelfCollision) (means BodyCollision) (means HeadCollision)

judged_by : (b : Board) (seat : ℕ) (v : Option Verdict) → MeansVerdict b.snakes seat v → IsJudged b seat (judged (b.turn + 1) v (snake_at b.snakes seat))
judged_by b seat None m = inl (record { escapes = m; rest = refl })
judged_by b seat (Some v) m =
    let s = snake_at b.snakes seat in
    inr (
      v.cause,
      (
        m.0,
        record {
          earlier = m.1.1;
          longest = m.1.2;
          rest = ap (λ k. record s { cause = Some v.cause; killer = k; out = Some (b.turn + 1) }) m.1.0;
        },
      ),
    )

pub collided_is_judged : (b : Board) → EachSeat (IsJudged b) (collided b).snakes
collided_is_judged b seat d l =
    let f = λ (k : ℕ) (s : Snake). judged (b.turn + 1) (collision_verdict b.snakes k) s in
    let n = length-map_seats f b.snakes in
    let within : seat < length b.snakes = omega arith in
    rw (at_seat f b.snakes seat d within) (judged_by b seat (collision_verdict b.snakes seat) (verdict_means b.snakes seat))
