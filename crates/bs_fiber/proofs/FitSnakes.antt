-- The snakes that a part moves are fit for a frame block.
use Rattle.std.proofs.Common.{◌≡◌, ℕ, ◌*◌, ◌<◌, ◌≤◌, Bool, true, false, List, [], ◌∷◌, length, take, drop, get_or, All, Option, Some, None, arith, length-take}
use Rattle.std.proofs.lemmas.Bool.{and_parts, leb-true}
use Rattle.std.proofs.lemmas.List.{length-map}
use Rattle.std.proofs.lemmas.List.Elements.{All-nil, All-cons, All-take, All-drop, All-map, All-weaker}
use Rattle.std.specs.Prelude.{nat_le}
use Rattle.bs_board.specs.declared.boards.board.Board.{Board}
use Rattle.bs_board.specs.declared.boards.point.Point.{Point}
use Rattle.bs_board.specs.declared.boards.snake.Snake.{Snake}
use Rattle.bs_board.specs.declared.boards.snake.Cause.{Cause}
use Rattle.bs_board.specs.declared.boards.snake.Cause.TheVariants.{OutOfHealth, WallCollision, SelfCollision, BodyCollision, HeadCollision, Hazard}
use Rattle.bs_board.specs.declared.boards.point.Direction.{Direction}
use Rattle.bs_board.specs.declared.commands.command.Command.{Command}
use Rattle.bs_board.specs.declared.limits.TheConstants.{LONGEST_SIDE}
use Rattle.bs_board.specs.boards.Cell.{head_of, is_on_board}
use Rattle.bs_board.specs.boards.Legal.{IsLegal, IsLegalSnake, IsHealthOf, IsKillerOf, IsOtherSeat, IsTurnBy, is_head_of, is_near}
use Rattle.bs_board.specs.boards.Wrap.{is_wrapped, wrap_of}
use Rattle.bs_board.specs.commands.Setup.{is_side}
use Rattle.bs_board.specs.records.FitSnake.{IsFitSnake, IsKillerInRange, IsOutInRange}
use Rattle.bs_game.specs.declared.view.View.{View}
use Rattle.bs_rules.specs.Motion.{moved, given_to, IsMovable}
use Rattle.bs_rules.proofs.Movable.{legal_is_movable, near_from_on_board, near_largest}
use Rattle.bs_rules.proofs.Sound.{moves}
use Rattle.bs_fiber.specs.declared.input.Input.{Input}
use Rattle.bs_fiber.specs.Seeing.{IsBoardOf, IsSeen}
use Rattle.bs_fiber.specs.Work.{moves_in, moved_part, snakes_in, wrap_in}

near : Point → Type 0
near p = is_near LONGEST_SIDE LONGEST_SIDE p ≡ true

seat_of_none : (killer : Option ℕ) → killer ≡ None → IsKillerInRange killer
seat_of_none None is = tt
seat_of_none (Some seat) is = absurd cc

turn_of_none : (out : Option ℕ) → out ≡ None → IsOutInRange out
turn_of_none None is = tt
turn_of_none (Some turn) is = absurd cc

turn_of_by : (turn : ℕ) (out : Option ℕ) → turn ≤ 10000 → IsTurnBy turn out → IsOutInRange out
turn_of_by turn None late by = tt
turn_of_by turn (Some number) late by = (by.0, let before = by.1 in omega arith)

own_seat : (seat : ℕ) (killer : Option ℕ) → seat < 8 → killer ≡ Some seat → IsKillerInRange killer
own_seat seat None few is = tt
own_seat seat (Some k) few is = let same : k ≡ seat = cc in omega arith

other_seat : (seats seat : ℕ) (killer : Option ℕ) → seats ≤ 8 → IsOtherSeat seats seat killer → IsKillerInRange killer
other_seat seats seat None few other = tt
other_seat seats seat (Some k) few other = let below = other.0 in omega arith

killer_fits : (cause : Cause) (seats seat : ℕ) (killer : Option ℕ) → seats ≤ 8 → seat < seats → IsKillerOf cause seats seat killer → IsKillerInRange killer
killer_fits OutOfHealth seats seat killer few within is = seat_of_none killer is
killer_fits WallCollision seats seat killer few within is = seat_of_none killer is
killer_fits SelfCollision seats seat killer few within is = own_seat seat killer (omega arith) is
killer_fits BodyCollision seats seat killer few within is = other_seat seats seat killer few is
killer_fits HeadCollision seats seat killer few within is = other_seat seats seat killer few is
killer_fits Hazard seats seat killer few within is = seat_of_none killer is

health_fits : (cause : Cause) (health : ℕ) → IsHealthOf cause health → health ≤ 100
health_fits OutOfHealth health is = omega arith
health_fits WallCollision health is = is.1
health_fits SelfCollision health is = is.1
health_fits BodyCollision health is = is.1
health_fits HeadCollision health is = is.1
health_fits Hazard health is = omega arith

-- a moved head is where a starved snake's may be
head_is_near : (wraps : Bool) (width height : ℕ) (p : Point) → is_head_of wraps OutOfHealth width height p ≡ true → is_near width height p ≡ true
head_is_near true width height p on = near_from_on_board width height p on
head_is_near false width height p near = near

-- a side has cells
some_side : (n : ℕ) → is_side n ≡ true → 1 ≤ n
some_side n fits = let least = leb-true 3 n (and_parts (nat_le 3 n) (nat_le n 25) fits).0 in omega arith

-- the head and the parts after it
all_near : (P : Point → Type 0) (body : List Point) → 3 ≤ length body → P (head_of body) → All P (drop 1 body) → All P body
all_near P [] long head rest = absurd (omega arith)
all_near P (p ∷ ps) long head rest = All-cons P p ps head rest

module _ (b : Board) (legal : IsLegal b) where
  wide : b.width ≤ 25
  wide = leb-true b.width 25 (and_parts (nat_le 3 b.width) (nat_le b.width 25) legal.limits.width).1

  high : b.height ≤ 25
  high = leb-true b.height 25 (and_parts (nat_le 3 b.height) (nat_le b.height 25) legal.limits.height).1

  moved_at : (seat : ℕ) (s : Snake) (given : Option Direction) (cause : Option Cause) → seat < length b.snakes → IsMovable s
      → IsLegalSnake b seat (record s { cause = cause }) → IsFitSnake (moved (wrap_of b) given (record s { cause = cause }))
  moved_at seat s given None within movable l =
      let m = moves b seat (record s { cause = None }) given (some_side b.width legal.limits.width) (some_side b.height legal.limits.height) l in
      let turn = legal.limits.turn in
      let body = m.body in
      let head : is_near b.width b.height (head_of (moved (wrap_of b) given (record s { cause = None })).body) ≡ true =
      head_is_near (is_wrapped b.mode) b.width b.height (head_of (moved (wrap_of b) given (record s { cause = None })).body) m.state.near in
      let next : Snake = moved (wrap_of b) given (record s { cause = None }) in
      let on = λ (p : Point) (here : is_on_board b.width b.height p ≡ true). near_largest b.width b.height p wide high (near_from_on_board b.width b.height p here) in
      record {
        id = body.id;
        health = m.state.full;
        killer = seat_of_none s.killer m.state.killer;
        out = turn_of_none s.out m.state.out;
        long = body.long;
        short = let short = body.short in omega arith;
        near =
            all_near (λ p. is_near LONGEST_SIDE LONGEST_SIDE p ≡ true) next.body body.long (near_largest b.width b.height (head_of next.body) wide high head)
            (All-weaker (λ p. is_on_board b.width b.height p ≡ true) (λ p. is_near LONGEST_SIDE LONGEST_SIDE p ≡ true) on (drop 1 next.body) body.inside);
      }
  moved_at seat s given (Some cause) within movable l =
      let turn = legal.limits.turn in
      let few = legal.limits.few in
      record {
        id = l.id;
        health = health_fits cause s.health l.state.health;
        killer = killer_fits cause (length b.snakes) seat s.killer few within l.state.killer;
        out = turn_of_by b.turn s.out turn l.state.out;
        long = l.body.long;
        short = let short = l.body.short in omega arith;
        near = movable.near;
      }

  -- each seat moved one step, whatever directions are given
  pub moved_are_fit : (given : Snake → Option Direction) → All (λ s. IsFitSnake (moved (wrap_of b) (given s) s)) b.snakes
  moved_are_fit given seat d within =
      let s = get_or b.snakes seat d in
      moved_at seat s (given s) s.cause within (legal_is_movable b legal seat d within) (legal.snakes seat d within)

all_moved_fit : (bytes : Option (List ℕ)) (board : Option Board) (given : Snake → Option Direction) → IsBoardOf bytes board
    → All (λ s. IsFitSnake (moved (wrap_in board) (given s) s)) (snakes_in board)
all_moved_fit None None given is = All-nil (λ s. IsFitSnake (moved None (given s) s))
all_moved_fit None (Some board) given is = absurd is
all_moved_fit (Some bytes) None given is = absurd is
all_moved_fit (Some bytes) (Some board) given is = moved_are_fit board is.0 given

pub moved_part_fits : (input : Input) (view : View) (part : ℕ) → IsSeen view input → All IsFitSnake (moved_part part view input.command)
moved_part_fits input view part seen =
    let f : Snake → Snake = λ s. moved (wrap_in view.last) (given_to (moves_in input.command) s.id) s in
    let P : Snake → Type 0 = λ s. IsFitSnake (f s) in
    All-map IsFitSnake f (take 2 (drop (2 * part) (snakes_in view.last)))
    (All-take P 2 (drop (2 * part) (snakes_in view.last))
    (All-drop P (2 * part) (snakes_in view.last) (all_moved_fit input.last view.last (λ s. given_to (moves_in input.command) s.id) seen.last)))

pub moved_part_few : (view : View) (command : Command) (part : ℕ) → length (moved_part part view command) ≤ 2
moved_part_few view command part =
    omega (arith, length-map (take 2 (drop (2 * part) (snakes_in view.last))) (λ s. moved (wrap_in view.last) (given_to (moves_in command) s.id) s), length-take 2 (drop (2 * part) (snakes_in view.last)))
