-- The board after the collisions is the only one that the relation allows.
use Rattle.std.proofs.Common.{◌≡◌, ◌∙◌, ℕ, ◌+◌, ◌<◌, List, length, Some, refl, sym, ap, arith, inl, inr}
use Rattle.std.proofs.lemmas.Bool.{cases_lt}
use Rattle.std.proofs.lemmas.List.{same_lists}
use Rattle.bs_board.specs.declared.boards.board.Board.{Board}
use Rattle.bs_board.specs.declared.boards.snake.Snake.{Snake}
use Rattle.bs_board.specs.declared.boards.snake.Cause.{Cause}
use Rattle.bs_board.specs.declared.boards.snake.Cause.TheVariants.{OutOfHealth, WallCollision, SelfCollision, BodyCollision, HeadCollision, Hazard}
use Rattle.bs_rules.specs.Collision.{collided, collision_verdict, snake_at, CollidesWith, CollisionLaw, EscapesBefore, IsCollided, IsJudged, IsKiller, IsPutOut}
use Rattle.bs_rules.specs.Elimination.{judged}
use Rattle.bs_rules.proofs.CollisionMeaning.{collided_is_judged}
use Rattle.bs_rules.proofs.Seats.{length-map_seats}

-- there is one killer
one_killer : (snakes : List Snake) (seat : ℕ) (cause : Cause) (k l : ℕ) → IsKiller snakes seat cause k → IsKiller snakes seat cause l → k ≡ l
one_killer snakes seat cause k l p q =
    elim (cases_lt k l) [
      | inl before ↦ absurd (let shorter = q.first k before p.collides in let longest = p.longest l q.collides in omega arith)
      | inr other ↦
          elim (cases_lt l k) [
            | inl before ↦ absurd (let shorter = p.first l before q.collides in let longest = q.longest k p.collides in omega arith)
            | inr same ↦ omega arith
          ]
    ]

-- there is one cause, since each was escaped before the next is judged
one_cause : (snakes : List Snake) (seat : ℕ) (c d : Cause) (k l : ℕ) → CollidesWith snakes seat c k → CollidesWith snakes seat d l
    → EscapesBefore snakes seat c → EscapesBefore snakes seat d → c ≡ d
one_cause snakes seat OutOfHealth d k l p q e f = absurd p.hit
one_cause snakes seat WallCollision d k l p q e f = absurd p.hit
one_cause snakes seat Hazard d k l p q e f = absurd p.hit
one_cause snakes seat SelfCollision OutOfHealth k l p q e f = absurd q.hit
one_cause snakes seat SelfCollision WallCollision k l p q e f = absurd q.hit
one_cause snakes seat SelfCollision Hazard k l p q e f = absurd q.hit
one_cause snakes seat SelfCollision SelfCollision k l p q e f = refl
one_cause snakes seat SelfCollision BodyCollision k l p q e f = absurd (f k p)
one_cause snakes seat SelfCollision HeadCollision k l p q e f = absurd (f.0 k p)
one_cause snakes seat BodyCollision OutOfHealth k l p q e f = absurd q.hit
one_cause snakes seat BodyCollision WallCollision k l p q e f = absurd q.hit
one_cause snakes seat BodyCollision Hazard k l p q e f = absurd q.hit
one_cause snakes seat BodyCollision SelfCollision k l p q e f = absurd (e l q)
one_cause snakes seat BodyCollision BodyCollision k l p q e f = refl
one_cause snakes seat BodyCollision HeadCollision k l p q e f = absurd (f.1 k p)
one_cause snakes seat HeadCollision OutOfHealth k l p q e f = absurd q.hit
one_cause snakes seat HeadCollision WallCollision k l p q e f = absurd q.hit
one_cause snakes seat HeadCollision Hazard k l p q e f = absurd q.hit
one_cause snakes seat HeadCollision SelfCollision k l p q e f = absurd (e.0 l q)
one_cause snakes seat HeadCollision BodyCollision k l p q e f = absurd (e.1 l q)
one_cause snakes seat HeadCollision HeadCollision k l p q e f = refl

abbrev eliminate : Board → ℕ → Cause → ℕ → Snake
eliminate old seat cause killer = record (snake_at old.snakes seat) { cause = Some cause; killer = Some killer; out = Some (old.turn + 1) }

same_way : (old : Board) (seat : ℕ) (c d : Cause) (k l : ℕ) (now then : Snake) → c ≡ d → IsPutOut old seat c k now → IsPutOut old seat d l then → now ≡ then
same_way old seat c d k l now then same p q =
    let killer : IsKiller old.snakes seat d k = rw (← same) p.longest in
    let one : k ≡ l = one_killer old.snakes seat d k l killer q.longest in
    p.rest ∙ ap (λ cause. eliminate old seat cause k) same ∙ ap (λ killer. eliminate old seat d killer) one ∙ sym q.rest

-- so a snake is judged in one way
judged_once : (old : Board) (seat : ℕ) (now then : Snake) → IsJudged old seat now → IsJudged old seat then → now ≡ then
judged_once old seat now then (inl p) (inl q) = p.rest ∙ sym q.rest
judged_once old seat now then (inl p) (inr q) = absurd (p.escapes q.0 q.1.0 q.1.1.longest.collides)
judged_once old seat now then (inr p) (inl q) = absurd (q.escapes p.0 p.1.0 p.1.1.longest.collides)
judged_once old seat now then (inr p) (inr q) =
    let same = one_cause old.snakes seat p.0 q.0 p.1.0 q.1.0 p.1.1.longest.collides q.1.1.longest.collides p.1.1.earlier q.1.1.earlier in
    same_way old seat p.0 q.0 p.1.0 q.1.0 now then same p.1.1 q.1.1

length_after : (old : Board) → length (collided old).snakes ≡ length old.snakes
length_after old = length-map_seats (λ seat s. judged (old.turn + 1) (collision_verdict old.snakes seat) s) old.snakes

only_one : (old now : Board) → IsCollided old now → now ≡ collided old
only_one old now c =
    let seats : now.snakes ≡ (collided old).snakes =
    same_lists now.snakes (collided old).snakes (c.seats ∙ sym (length_after old))
    (λ seat d within.
    let after : seat < length (collided old).snakes = rw (length_after old, ← c.seats) within in
    judged_once old seat _ _ (c.judged seat d within) (collided_is_judged old seat d after)) in
    c.only ∙ ap (λ snakes. record old { snakes = snakes }) seats

pub law_holds : CollisionLaw
law_holds old now = (
  only_one old now,
  λ is. rw is (record { only = refl; seats = length_after old; judged = collided_is_judged old }),
)
