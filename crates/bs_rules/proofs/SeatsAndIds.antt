-- The steps up to the collisions keep each seat and its id.
use Rattle.std.proofs.Common.{◌≡◌, ℕ, ◌+◌, Bool, List, length, map, Option, Some, None, refl, ◌∙◌}
use Rattle.std.proofs.lemmas.Bool.{cond_both}
use Rattle.std.proofs.lemmas.List.{length-map}
use Rattle.bs_board.specs.declared.boards.point.Point.{Point}
use Rattle.bs_board.specs.declared.boards.point.Direction.{Direction}
use Rattle.bs_board.specs.declared.boards.board.Board.{Board}
use Rattle.bs_board.specs.declared.boards.snake.Snake.{Snake}
use Rattle.bs_rules.specs.declared.verdict.Verdict.{Verdict}
use Rattle.bs_board.specs.boards.Over.{is_living}
use Rattle.bs_board.specs.boards.Wrap.{is_wrapped, wrap_of}
use Rattle.bs_modes.specs.Growth.{grown_snake}
use Rattle.bs_rules.specs.Motion.{moved, moved_board, given_to}
use Rattle.bs_rules.specs.Feeding.{fed, fed_snake, eats}
use Rattle.bs_rules.specs.Hurting.{hurt, hurt_snake}
use Rattle.bs_rules.proofs.HazardSteps.{hurt_id}
use Rattle.bs_rules.specs.Elimination.{starved_or_outside, starved_or_outside_snake, starved_or_outside_verdict, judged}
use Rattle.bs_rules.specs.Collision.{collided, collision_verdict}
use Rattle.bs_rules.proofs.Ids.{ids_of, ids_of_map, ids_of_map_seats}

moved_id : (wrap : Option (ℕ × ℕ)) (given : Option Direction) (s : Snake) → (moved wrap given s).id ≡ s.id
moved_id wrap given s = cond_both (is_living s) _ s (λ t. t.id ≡ s.id) (λ _. refl) (λ _. refl)

fed_id : (food : List Point) (s : Snake) → (fed_snake food s).id ≡ s.id
fed_id food s = cond_both (eats food s) _ s (λ t. t.id ≡ s.id) (λ _. refl) (λ _. refl)

judged_id : (turn : ℕ) (verdict : Option Verdict) (s : Snake) → (judged turn verdict s).id ≡ s.id
judged_id turn None s = refl
judged_id turn (Some v) s = refl

first_id : (wraps : Bool) (width height turn : ℕ) (s : Snake) → (starved_or_outside_snake wraps width height turn s).id ≡ s.id
first_id wraps width height turn s =
    cond_both (is_living s) (judged turn (starved_or_outside_verdict wraps width height s) s) s (λ t. t.id ≡ s.id) (λ _. judged_id turn (starved_or_outside_verdict wraps width height s) s) (λ _. refl)

pub ids_stay : (b : Board) (orders : List (List ℕ × Direction)) → ids_of (collided (starved_or_outside (fed (hurt (moved_board orders b))))).snakes ≡ ids_of b.snakes
ids_stay b orders =
    let moving = λ (s : Snake). moved (wrap_of b) (given_to orders s.id) s in
    let hurting = hurt_snake b.hazards b.food (b.turn + 1) in
    let at_first = map (starved_or_outside_snake (is_wrapped b.mode) b.width b.height (b.turn + 1)) (map (fed_snake b.food) (map hurting (map moving b.snakes))) in
    ids_of_map_seats (λ seat s. judged (b.turn + 1) (collision_verdict at_first seat) s) (λ seat s. judged_id (b.turn + 1) (collision_verdict at_first seat) s) at_first
    ∙ ids_of_map (starved_or_outside_snake (is_wrapped b.mode) b.width b.height (b.turn + 1)) (first_id (is_wrapped b.mode) b.width b.height (b.turn + 1)) (map (fed_snake b.food) (map hurting (map moving b.snakes)))
    ∙ ids_of_map (fed_snake b.food) (fed_id b.food) (map hurting (map moving b.snakes))
    ∙ ids_of_map hurting (hurt_id b.hazards b.food (b.turn + 1)) (map moving b.snakes)
    ∙ ids_of_map moving (λ s. moved_id (wrap_of b) (given_to orders s.id) s) b.snakes

pub seats_stay : (b : Board) (orders : List (List ℕ × Direction)) → length (starved_or_outside (fed (hurt (moved_board orders b)))).snakes ≡ length b.snakes
seats_stay b orders =
    let moving = λ (s : Snake). moved (wrap_of b) (given_to orders s.id) s in
    let hurting = hurt_snake b.hazards b.food (b.turn + 1) in
    length-map (map (fed_snake b.food) (map hurting (map moving b.snakes))) (starved_or_outside_snake (is_wrapped b.mode) b.width b.height (b.turn + 1))
    ∙ length-map (map hurting (map moving b.snakes)) (fed_snake b.food)
    ∙ length-map (map moving b.snakes) hurting
    ∙ length-map b.snakes moving

grown_id : (s : Snake) → (grown_snake s).id ≡ s.id
grown_id s = cond_both (is_living s) _ s (λ t. t.id ≡ s.id) (λ _. refl) (λ _. refl)

pub grown_ids : (snakes : List Snake) → ids_of (map grown_snake snakes) ≡ ids_of snakes
grown_ids snakes = ids_of_map grown_snake grown_id snakes
