-- The snakes that survive a turn.
use Rattle.std.proofs.Common.{◌≡◌, ℕ, ◌+◌, ◌-◌, ◌*◌, ◌<◌, Bool, true, false, List, [], ◌∷◌, ◌++◌, length, get_or, Contains, Option, Some, None, refl, sym, subst, ap, ◌∙◌, arith, inl, inr}
use Rattle.std.specs.Prelude.{slice_index_or}
use Rattle.std.proofs.lemmas.Bool.{cond_both, false≢true}
use Rattle.std.proofs.lemmas.List.{get_or-map, length-map}
use Rattle.bs_board.specs.declared.boards.point.Point.{Point}
use Rattle.bs_board.specs.declared.boards.point.Direction.{Direction}
use Rattle.bs_board.specs.declared.boards.board.Board.{Board}
use Rattle.bs_board.specs.declared.boards.snake.Snake.{Snake}
use Rattle.bs_board.specs.declared.boards.snake.Cause.TheVariants.{SelfCollision}
use Rattle.bs_board.specs.boards.Cell.{head_of}
use Rattle.bs_board.specs.boards.Over.{is_living}
use Rattle.bs_board.specs.boards.Wrap.{is_wrapped, wrap_of}
use Rattle.bs_modes.specs.Growth.{grown_body, grown_snake}
use Rattle.bs_rules.specs.declared.verdict.Verdict.{Verdict}
use Rattle.bs_rules.specs.Collision.{collided, map_seats, nobody, snake_at, IsJudged}
use Rattle.bs_rules.specs.Elimination.{judged, starved_or_outside, starved_or_outside_snake, starved_or_outside_verdict}
use Rattle.bs_rules.specs.Feeding.{eats, fed, fed_snake, last_of}
use Rattle.bs_rules.specs.Hurting.{hazard_verdict}
use Rattle.bs_rules.specs.Motion.{direction_taken, moved, moved_body, neighbor}
use Rattle.bs_rules.proofs.CollisionMeaning.{collided_is_judged}
use Rattle.bs_rules.proofs.Seats.{at_seat, length-map_seats}
use Rattle.bs_rules.proofs.SoundCollision.{length_collided}
use Rattle.bs_batch.specs.Directions.{given_by}
use Rattle.bs_batch.specs.Hurting.{count_on, hurt_all, hurt_by_count, is_hurt_by, with_health}
use Rattle.bs_batch.specs.inner.Turns.{moved_each}
use Rattle.bs_batch.proofs.Crossings.{Advances, advances_grown, behind_head, front_of, repeats_last}
use Rattle.bs_batch.proofs.JudgedRoom.{hurt_keeps}

-- if it lives, it lived before the turn, and its body is one step further
pub record GoesOn (old s : Snake) : Type 0 where
  pub before : is_living s ≡ true → is_living old ≡ true
  pub head : Point
  pub body : is_living s ≡ true → Advances old.body head s.body

-- nor is its head on its other parts
pub record Survives (old s : Snake) : Type 0 where
  pub goes : GoesOn old s
  pub free : is_living s ≡ true → Contains (front_of old.body) goes.head → ⊥

living_moved : (wrap : Option (ℕ × ℕ)) (given : Option Direction) (s : Snake) → is_living (moved wrap given s) ≡ is_living s
living_moved wrap given s = cond_both (is_living s) (record s { body = moved_body wrap given s.body; health = s.health - 1 }) s (λ t. is_living t ≡ is_living s) (λ _. refl) (λ _. refl)

moved_front : (wrap : Option (ℕ × ℕ)) (given : Option Direction) (s : Snake) → is_living (moved wrap given s) ≡ true
    → (moved wrap given s).body ≡ neighbor wrap (head_of s.body) (direction_taken wrap given s.body) ∷ front_of s.body
moved_front wrap given s alive =
    let lived : is_living s ≡ true = sym (living_moved wrap given s) ∙ alive in
    rw lived refl

living_fed : (food : List Point) (s : Snake) → is_living (fed_snake food s) ≡ is_living s
living_fed food s = cond_both (eats food s) (record s { body = s.body ++ last_of s.body ∷ []; health = 100 }) s (λ t. is_living t ≡ is_living s) (λ _. refl) (λ _. refl)

goes_fed : (wrap : Option (ℕ × ℕ)) (given : Option Direction) (food : List Point) (s : Snake) → GoesOn s (fed_snake food (moved wrap given s))
goes_fed wrap given food s =
    let m = moved wrap given s in
    let head = neighbor wrap (head_of s.body) (direction_taken wrap given s.body) in
    record {
      before = λ alive. sym (living_moved wrap given s) ∙ sym (living_fed food m) ∙ alive;
      head = head;
      body = λ alive.
          let is = moved_front wrap given s (sym (living_fed food m) ∙ alive) in
          cond_both (eats food m) (record m { body = m.body ++ last_of m.body ∷ []; health = 100 }) m (λ t. Advances s.body head t.body)
          (λ _. inr (ap repeats_last is)) (λ _. inl is);
    }

-- one that stays as it is, if it lives
stays : (old s t : Snake) → (is_living t ≡ true → t ≡ s) → GoesOn old s → GoesOn old t
stays old s t same goes = record {
  before = λ alive. goes.before (sym (ap is_living (same alive)) ∙ alive);
  head = goes.head;
  body = λ alive.
      let there = goes.body (sym (ap is_living (same alive)) ∙ alive) in
      subst (λ (u : Snake). Advances old.body goes.head u.body) (sym (same alive)) there;
}

judged_stays : (turn : ℕ) (verdict : Option Verdict) (s : Snake) → is_living (judged turn verdict s) ≡ true → judged turn verdict s ≡ s
judged_stays turn None s alive = refl
judged_stays turn (Some v) s alive = absurd (false≢true alive)

first_stays : (wraps : Bool) (width height turn : ℕ) (s : Snake) → is_living (starved_or_outside_snake wraps width height turn s) ≡ true
    → starved_or_outside_snake wraps width height turn s ≡ s
first_stays wraps width height turn s =
    cond_both (is_living s) (judged turn (starved_or_outside_verdict wraps width height s) s) s (λ t. is_living t ≡ true → t ≡ s)
    (λ _. judged_stays turn (starved_or_outside_verdict wraps width height s) s) (λ _ _. refl)

-- a snake that lives on has not run into itself
survives_judged : (old : Snake) (o : Board) (seat : ℕ) (now : Snake) → GoesOn old (snake_at o.snakes seat) → IsJudged o seat now → Survives old now
unfolding stays
survives_judged old o seat now goes (inl spared) =
    let same = spared.rest in
    record {
      goes = stays old (snake_at o.snakes seat) now (λ _. same) goes;
      free = λ alive there.
          let lives : is_living (snake_at o.snakes seat) ≡ true = sym (ap is_living same) ∙ alive in
          spared.escapes SelfCollision seat (record {
            alive = lives;
            both = lives;
            hit = (refl, behind_head old.body goes.head (snake_at o.snakes seat).body (goes.body lives) there);
          });
    }
survives_judged old o seat now goes (inr (cause, (killer, out))) =
    let dead : is_living now ≡ false = ap is_living out.rest in
    record {
      goes = stays old (snake_at o.snakes seat) now (λ alive. absurd (false≢true (sym dead ∙ alive))) goes;
      free = λ alive. absurd (false≢true (sym dead ∙ alive));
    }

-- one that a hazard may hurt, if it lives
living_unhurt : (turn damage count : ℕ) (s : Snake) → is_living (hurt_by_count turn damage count s) ≡ true → is_living s ≡ true
living_unhurt turn damage count s =
    let health = s.health - damage * count in
    cond_both (is_hurt_by count s) (with_health turn health s) s (λ t. is_living t ≡ true → is_living s ≡ true)
    (λ _ alive. sym (ap is_living (judged_stays turn (hazard_verdict health) (record s { health = health }) alive)) ∙ alive) (λ _ alive. alive)

goes_hurt : (old s : Snake) (turn damage count : ℕ) → GoesOn old s → GoesOn old (hurt_by_count turn damage count s)
goes_hurt old s turn damage count goes = record {
  before = λ alive. goes.before (living_unhurt turn damage count s alive);
  head = goes.head;
  body = λ alive.
      let same = (hurt_keeps turn damage count s).body in
      rw same (goes.body (living_unhurt turn damage count s alive));
}

living_grown : (s : Snake) → is_living (grown_snake s) ≡ is_living s
living_grown s = cond_both (is_living s) (record s { health = 100; body = grown_body s.body }) s (λ t. is_living t ≡ is_living s) (λ _. refl) (λ _. refl)

pub survives_grown : (old s : Snake) → Survives old s → Survives old (grown_snake s)
survives_grown old s survives = record {
  goes = record {
    before = λ alive. survives.goes.before (sym (living_grown s) ∙ alive);
    head = survives.goes.head;
    body = λ alive.
        let there = survives.goes.body (sym (living_grown s) ∙ alive) in
        cond_both (is_living s) (record s { health = 100; body = grown_body s.body }) s (λ t. Advances old.body survives.goes.head t.body)
        (λ _. advances_grown old.body survives.goes.head s.body there) (λ _. there);
  };
  free = λ alive. survives.free (sym (living_grown s) ∙ alive);
}

module _ (moves counts : List ℕ) (damage : ℕ) (b : Board) where
  -- after the motion, the meals and the hazards
  abbrev pub hurt_fed : Board
  hurt_fed = hurt_all counts damage (fed (moved_each moves b))

  abbrev first : Board
  first = starved_or_outside hurt_fed

  abbrev pub left : Board
  left = collided first

  abbrev step_of : ℕ → Snake → Snake
  step_of seat s = moved (wrap_of b) (given_by (slice_index_or moves seat 4)) s

  abbrev first_of : Snake → Snake
  first_of = starved_or_outside_snake (is_wrapped b.mode) b.width b.height (b.turn + 1)

  length_fed : length (fed (moved_each moves b)).snakes ≡ length b.snakes
  length_fed = length-map (map_seats step_of b.snakes) (fed_snake b.food) ∙ length-map_seats step_of b.snakes

  abbrev hurt_of : Snake → Snake
  hurt_of s = hurt_by_count (b.turn + 1) damage (count_on b.width b.height counts (head_of s.body)) s

  length_hurt : length hurt_fed.snakes ≡ length b.snakes
  length_hurt = length-map (fed (moved_each moves b)).snakes hurt_of ∙ length_fed

  length_first : length first.snakes ≡ length b.snakes
  length_first = length-map hurt_fed.snakes first_of ∙ length_hurt

  pub length_left : length left.snakes ≡ length b.snakes
  length_left = length_collided first ∙ length_first

  first_at : (seat : ℕ) → seat < length b.snakes → snake_at first.snakes seat ≡ first_of (hurt_of (fed_snake b.food (step_of seat (snake_at b.snakes seat))))
  first_at seat within =
      let n = length_fed in
      let l = length_hurt in
      let m = length-map_seats step_of b.snakes in
      let ate : snake_at (fed (moved_each moves b)).snakes seat ≡ fed_snake b.food (step_of seat (snake_at b.snakes seat)) =
      get_or-map (fed_snake b.food) (map_seats step_of b.snakes) seat nobody nobody (omega arith) ∙ ap (fed_snake b.food) (at_seat step_of b.snakes seat nobody within) in
      get_or-map first_of hurt_fed.snakes seat nobody nobody (omega arith)
      ∙ ap first_of (get_or-map hurt_of (fed (moved_each moves b)).snakes seat nobody nobody (omega arith) ∙ ap hurt_of ate)

  goes_first : (seat : ℕ) → seat < length b.snakes → GoesOn (snake_at b.snakes seat) (snake_at first.snakes seat)
  goes_first seat within =
      let s = snake_at b.snakes seat in
      let t = fed_snake b.food (step_of seat s) in
      let ate = goes_fed (wrap_of b) (given_by (slice_index_or moves seat 4)) b.food s in
      let goes = stays s (hurt_of t) (first_of (hurt_of t)) (first_stays (is_wrapped b.mode) b.width b.height (b.turn + 1) (hurt_of t))
      (goes_hurt s t (b.turn + 1) damage (count_on b.width b.height counts (head_of t.body)) ate) in
      rw (first_at seat within) goes

  pub survivors : (seat : ℕ) (d : Snake) → seat < length b.snakes → Survives (snake_at b.snakes seat) (get_or left.snakes seat d)
  survivors seat d within =
      let n = length_left in
      survives_judged (snake_at b.snakes seat) first seat (get_or left.snakes seat d) (goes_first seat within) (collided_is_judged first seat d (omega arith))
