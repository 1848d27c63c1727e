-- A turn of a legal board is legal.
use Rattle.std.proofs.Common.{◌≡◌, ℕ, ◌+◌, ◌≤◌, ◌<◌, Bool, true, List, [], ◌∷◌, length, map, MatchOption, Option, Some, None, is_some, not, refl, sym, ◌∙◌, subst, arith, get_or, leb}
use Rattle.std.specs.List.{list_any}
use Rattle.std.proofs.lemmas.List.{length-map, get_or-map}
use Rattle.std.proofs.lemmas.Bool.{and_parts, leb-true}
use Rattle.bs_board.specs.declared.boards.point.Point.{Point}
use Rattle.bs_board.specs.declared.boards.point.Direction.{Direction}
use Rattle.bs_board.specs.declared.boards.board.Board.{Board}
use Rattle.bs_board.specs.declared.boards.board.Mode.{Mode}
use Rattle.bs_board.specs.declared.boards.board.Mode.TheVariants.{Standard, Solo, Constrictor, Wrapped}
use Rattle.bs_board.specs.declared.boards.hazards.Hazards.{Hazards}
use Rattle.bs_board.specs.declared.boards.snake.Snake.{Snake}
use Rattle.bs_board.specs.declared.boards.snake.Cause.{Cause}
use Rattle.bs_board.specs.boards.Hazards.{are_fit_hazards}
use Rattle.bs_board.specs.boards.Legal.{IsLegal, IsLegalSnake, IsLegalLiving, IsLegalOut, IsWithinLimits, IsFreeOfFood, EachSeat}
use Rattle.bs_board.specs.commands.Orders.{Orders}
use Rattle.bs_board.specs.boards.Wrap.{is_wrapped, wrap_of}
use Rattle.bs_board.specs.commands.Setup.{is_fit_food, is_side}
use Rattle.bs_food.specs.Given.{given}
use Rattle.bs_food.specs.Spawning.{spawned}
use Rattle.bs_food.proofs.GivenFood.{given_refed}
use Rattle.bs_food.proofs.NewFood.{refed_then, spawned_refed}
use Rattle.bs_modes.specs.Growth.{grown, grown_snake}
use Rattle.bs_rules.specs.Motion.{moved, moved_board, given_to}
use Rattle.bs_rules.specs.Feeding.{fed, fed_snake, food_left, has_head_on}
use Rattle.bs_rules.specs.Elimination.{starved_or_outside, starved_or_outside_snake}
use Rattle.bs_rules.specs.Collision.{collided}
use Rattle.bs_rules.specs.Hurting.{hazards_after, hurt, hurt_snake}
use Rattle.bs_rules.specs.Turn.{redrawn, refilled, replenished, finished, turn_of}
use Rattle.bs_rules.proofs.HazardSteps.{fit_after, hurts, some_after}
use Rattle.bs_rules.proofs.FoodLeft.{fit_food_left, free_of_food_left}
use Rattle.bs_rules.proofs.SeatsAndIds.{ids_stay, seats_stay, grown_ids}
use Rattle.bs_rules.proofs.Ids.{ids_of, distinct_by_ids}
use Rattle.bs_rules.proofs.Sound.{later, IsMoved, IsSound, moves}
use Rattle.bs_rules.proofs.SoundSteps.{feeds, feeds_none, grows, first_judges}
use Rattle.bs_rules.proofs.SoundCollision.{collides_sound, length_collided}

-- a step at each seat
each_map : (P Q : ℕ → Snake → Type 0) (f : Snake → Snake) (xs : List Snake) → ((seat : ℕ) (s : Snake) → P seat s → Q seat (f s))
    → EachSeat P xs → EachSeat Q (map f xs)
each_map P Q f xs step all seat d within =
    let n = length-map xs f in
    let inside : seat < length xs = omega arith in
    rw (get_or-map f xs seat d d inside) (step seat (get_or xs seat d) (all seat d inside))

-- the board after the eliminations, before growth or new food
abbrev survivors : List (List ℕ × Direction) → Board → Board
survivors orders b = collided (starved_or_outside (fed (hurt (moved_board orders b))))

-- a side has at least one cell
some_side : (n : ℕ) → is_side n ≡ true → 1 ≤ n
some_side n h = let least = leb-true 3 n (and_parts (leb 3 n) (leb n 25) h).0 in omega arith

sound_moved : (b : Board) (orders : List (List ℕ × Direction)) → IsLegal b → EachSeat (IsMoved (later b) (b.turn + 3)) (moved_board orders b).snakes
sound_moved b orders l =
    each_map (IsLegalSnake b) (IsMoved (later b) (b.turn + 3)) (λ s. moved (wrap_of b) (given_to orders s.id) s) b.snakes
    (λ seat s. moves b seat s (given_to orders s.id) (some_side b.width l.limits.width) (some_side b.height l.limits.height)) l.snakes

sound_hurt : (b : Board) (orders : List (List ℕ × Direction)) → IsLegal b → EachSeat (IsMoved (later b) (b.turn + 3)) (hurt (moved_board orders b)).snakes
sound_hurt b orders l =
    each_map (IsMoved (later b) (b.turn + 3)) (IsMoved (later b) (b.turn + 3)) (hurt_snake b.hazards b.food (b.turn + 1)) (moved_board orders b).snakes
    (λ seat s. hurts (later b) (b.turn + 3) seat s b.food l.hazards (omega arith)) (sound_moved b orders l)

sound_judged : (b : Board) (orders : List (List ℕ × Direction)) (parts : ℕ) → EachSeat (IsMoved (later b) parts) (fed (hurt (moved_board orders b))).snakes
    → EachSeat (IsSound (later b) parts) (survivors orders b).snakes
sound_judged b orders parts fed_ones =
    let judged = starved_or_outside (fed (hurt (moved_board orders b))) in
    let first = each_map (IsMoved (later b) parts) (IsSound (later b) parts) (starved_or_outside_snake (is_wrapped b.mode) b.width b.height (b.turn + 1)) (fed (hurt (moved_board orders b))).snakes
    (λ seat s. first_judges (later b) parts seat s (omega arith)) fed_ones in
    collides_sound judged (later b) parts refl (sym (seats_stay b orders)) first

-- a body grows by eating
sound_with_food : (b : Board) (orders : List (List ℕ × Direction)) → IsLegal b → EachSeat (IsSound (later b) (b.turn + 3 + 1)) (survivors orders b).snakes
sound_with_food b orders l =
    let feed = each_map (IsMoved (later b) (b.turn + 3)) (IsMoved (later b) (b.turn + 3 + 1)) (fed_snake b.food) (hurt (moved_board orders b)).snakes
    (λ seat s. feeds (later b) (b.turn + 3) seat s b.food) (sound_hurt b orders l) in
    sound_judged b orders (b.turn + 3 + 1) feed

-- without food it may grow afterwards
sound_without_food : (b : Board) (orders : List (List ℕ × Direction)) → b.food ≡ [] → IsLegal b
    → EachSeat (IsSound (later b) (b.turn + 3)) (survivors orders b).snakes
sound_without_food b orders none l =
    let feed = each_map (IsMoved (later b) (b.turn + 3)) (IsMoved (later b) (b.turn + 3)) (fed_snake b.food) (hurt (moved_board orders b)).snakes
    (λ seat s. feeds_none (later b) (b.turn + 3) seat s b.food none) (sound_hurt b orders l) in
    sound_judged b orders (b.turn + 3) feed

-- a snake that is sound for one board is legal on another of the same size
reframe_state : (f c : Board) (seat : ℕ) (s : Snake) (cause : Option Cause) → c.mode ≡ f.mode → c.turn ≡ f.turn → c.width ≡ f.width → c.height ≡ f.height
    → is_some c.hazards ≡ is_some f.hazards → length c.snakes ≡ length f.snakes → MatchOption cause (IsLegalLiving f s) (IsLegalOut f seat s) → MatchOption cause (IsLegalLiving c s) (IsLegalOut c seat s)
reframe_state f c seat s None mode turn width height kind seats state = record {
  fed = state.fed;
  full = state.full;
  head = rw (width, height) state.head;
  killer = state.killer;
  out = state.out;
}
reframe_state f c seat s (Some cause) mode turn width height kind seats state = record {
  out = rw turn state.out;
  health = state.health;
  head = rw (mode, width, height) state.head;
  killer = rw seats state.killer;
  hazard = rw kind state.hazard;
}

legal_snake : (f c : Board) (parts seat : ℕ) (s : Snake) → c.mode ≡ f.mode → c.turn ≡ f.turn → c.width ≡ f.width → c.height ≡ f.height → is_some c.hazards ≡ is_some f.hazards
    → length c.snakes ≡ length f.snakes → parts ≤ f.turn + 3 → IsSound f parts seat s → IsLegalSnake c seat s
legal_snake f c parts seat s mode turn width height kind seats few sound = record {
  id = sound.body.id;
  body = record {
    long = sound.body.long;
    short = let short = sound.body.short in omega arith;
    inside = rw (width, height) sound.body.inside;
  };
  state = reframe_state f c seat s s.cause mode turn width height kind seats sound.state;
}

legal_limits : (b c : Board) → c.width ≡ b.width → c.height ≡ b.height → c.chance ≡ b.chance → c.turn ≤ 10000 → length c.snakes ≡ length b.snakes
    → IsWithinLimits b → IsWithinLimits c
legal_limits b c width height chance turn seats l = record {
  width = rw width l.width;
  height = rw height l.height;
  turn = turn;
  chance = let few = l.chance in omega arith;
  some = let some = l.some in omega arith;
  few = let few = l.few in omega arith;
}

-- the board after a turn, from its food, its hazards and its seats
next_board_is_legal : (b : Board) (food : List Point) (hazards : Option Hazards) (snakes : List Snake) → are_fit_hazards b.width b.height hazards ≡ true
    → is_some hazards ≡ is_some b.hazards → is_fit_food b.width b.height food ≡ true → IsFreeOfFood b.mode food
    → length snakes ≡ length b.snakes → ids_of snakes ≡ ids_of b.snakes → EachSeat (IsSound (later b) (b.turn + 3 + 1)) snakes → IsLegal b → b.turn < 10000
    → IsLegal (record b { turn = b.turn + 1; food = food; hazards = hazards; snakes = snakes })
next_board_is_legal b food hazards snakes hurting kind fits free same ids sound l early =
    let next = record b { turn = b.turn + 1; food = food; hazards = hazards; snakes = snakes } in
    record {
      limits = legal_limits b next refl refl refl (omega arith) same l.limits;
      food = record { fits = fits; mode = free; minimum = l.food.minimum };
      hazards = hurting;
      ids = distinct_by_ids b.snakes snakes ids l.ids;
      snakes = λ seat d within. legal_snake (later b) next (b.turn + 3 + 1) seat (get_or snakes seat d) refl refl refl refl kind same (omega arith) (sound seat d within);
    }

seats_survive : (b : Board) (orders : List (List ℕ × Direction)) → length (survivors orders b).snakes ≡ length b.snakes
seats_survive b orders = length_collided (starved_or_outside (fed (hurt (moved_board orders b)))) ∙ seats_stay b orders

-- no living head is on it
abbrev is_left : List (List ℕ × Direction) → Board → Point → Bool
is_left orders b cell = not (list_any (has_head_on cell) (hurt (moved_board orders b)).snakes)

-- the hazards after the turn
abbrev drawn : Orders → Board → Option Hazards
drawn orders b = hazards_after b.width b.height orders.hazards b.hazards

refilled_is_legal : (b : Board) (orders : Orders) → ((food : List Point) → IsFreeOfFood b.mode food) → IsLegal b → b.turn < 10000
    → IsLegal (redrawn orders (record (refilled orders (survivors orders.moves b)) { turn = b.turn + 1 }))
refilled_is_legal b orders free l early =
    let last = survivors orders.moves b in
    let spawn = spawned orders.words last in
    let refed = refed_then last spawn (given orders.food spawn) (spawned_refed orders.words last) (given_refed orders.food spawn) in
    let food = (given orders.food spawn).food in
    let P : Board → Type 0 = λ c. IsLegal (redrawn orders (record c { turn = b.turn + 1 })) in
    let fits = refed.fits (fit_food_left (is_left orders.moves b) b.width b.height b.food l.food.fits) in
    subst P (sym refed.only)
    (next_board_is_legal b food (drawn orders b) last.snakes (fit_after b.width b.height orders.hazards b.hazards l.hazards)
    (some_after b.width b.height orders.hazards b.hazards) fits (free food) (seats_survive b orders.moves) (ids_stay b orders.moves) (sound_with_food b orders.moves l) l early)

empty : (food : List Point) → length food ≡ 0 → food ≡ []
empty [] h = refl
empty (p ∷ food) h = absurd (omega arith)

grown_is_legal : (b : Board) (orders : Orders) → b.mode ≡ Constrictor → IsLegal b → b.turn < 10000
    → IsLegal (redrawn orders (record (grown (survivors orders.moves b)) { turn = b.turn + 1 }))
grown_is_legal b orders mode l early =
    let moves = orders.moves in
    let last = survivors moves b in
    let none : b.food ≡ [] = empty b.food (rw mode at l.food.mode) in
    let left = food_left (hurt (moved_board moves b)).snakes b.food in
    let seats : length (map grown_snake last.snakes) ≡ length b.snakes = length-map last.snakes grown_snake ∙ seats_survive b moves in
    let grow = each_map (IsSound (later b) (b.turn + 3)) (IsSound (later b) (b.turn + 3 + 1)) grown_snake last.snakes
    (λ seat s. grows (later b) (b.turn + 3) seat s) (sound_without_food b moves none l) in
    next_board_is_legal b left (drawn orders b) (map grown_snake last.snakes) (fit_after b.width b.height orders.hazards b.hazards l.hazards)
    (some_after b.width b.height orders.hazards b.hazards)
    (fit_food_left (is_left moves b) b.width b.height b.food l.food.fits) (free_of_food_left (is_left moves b) b.mode b.food l.food.mode)
    seats (grown_ids last.snakes ∙ ids_stay b moves) grow l early

replenished_is_legal : (b : Board) (orders : Orders) (mode : Mode) → b.mode ≡ mode → IsLegal b → b.turn < 10000
    → IsLegal (redrawn orders (record (replenished mode orders (survivors orders.moves b)) { turn = b.turn + 1 }))
replenished_is_legal b orders Standard e l early = refilled_is_legal b orders (λ food. rw e tt) l early
replenished_is_legal b orders Solo e l early = refilled_is_legal b orders (λ food. rw e tt) l early
replenished_is_legal b orders Constrictor e l early = grown_is_legal b orders e l early
replenished_is_legal b orders Wrapped e l early = refilled_is_legal b orders (λ food. rw e tt) l early

pub turn_is_legal : (b : Board) (orders : Orders) → IsLegal b → b.turn < 10000 → IsLegal (turn_of b orders)
unfolding turn_of
turn_is_legal b orders l early = replenished_is_legal b orders b.mode refl l early

-- the value of a turn, from the moves of the order
pub next_is_turn : (b moved next : Board) (orders : Orders) (moves : List (List ℕ × Direction)) → moves ≡ orders.moves
    → moved ≡ moved_board moves b → next ≡ finished orders moved → next ≡ turn_of b orders
unfolding turn_of
next_is_turn b moved next orders moves m e f = rw (f, e, m) refl
