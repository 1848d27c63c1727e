-- The invariant of each snake between the steps of a turn.
use Rattle.std.proofs.Common.{◌≡◌, ℕ, ◌+◌, ◌-◌, ◌≤◌, Bool, true, false, cond, List, [], ◌∷◌, length, drop, All, MatchOption, Option, Some, None, arith, length-take, pos, negsuc, ℤ, ◌+ℤ◌, ◌-ℤ◌}
use Rattle.std.specs.Prelude.{int_le, int_lt}
use Rattle.std.specs.Int.{int_rem_euclid}
use Rattle.std.proofs.lemmas.Int.{ints}
use Rattle.std.proofs.lemmas.Nat.{mod_below}
use Rattle.std.proofs.lemmas.List.Elements.{All-cons, All-take}
use Rattle.bs_board.specs.declared.boards.point.Point.{Point}
use Rattle.bs_board.specs.declared.boards.point.Direction.{Direction}
use Rattle.bs_board.specs.declared.boards.point.Direction.TheVariants.{Up, Down, Left, Right}
use Rattle.bs_board.specs.declared.boards.board.Board.{Board}
use Rattle.bs_board.specs.declared.boards.snake.Snake.{Snake}
use Rattle.bs_board.specs.declared.boards.snake.Cause.{Cause}
use Rattle.bs_board.specs.declared.boards.snake.Cause.TheVariants.{OutOfHealth}
use Rattle.bs_board.specs.boards.Cell.{head_of, is_on_board}
use Rattle.bs_board.specs.boards.Legal.{IsLegalSnake, IsLegalLiving, IsLegalOut, IsTurnBy, is_near, is_head_of}
use Rattle.bs_board.specs.boards.Wrap.{is_wrapped, wrap_of}
use Rattle.bs_board.specs.Texts.{is_short_text}
use Rattle.bs_rules.specs.Motion.{one_step, on_torus, neighbor, direction_taken, moved, moved_body}
use Rattle.bs_rules.proofs.Movable.{four_parts, four_from}

-- the same board once the turn number has risen
abbrev pub later : Board → Board
later b = record b { turn = b.turn + 1 }

-- an id, and a body of at most `parts` parts, all after the head on the board
pub record IsSoundBody (b : Board) (parts : ℕ) (s : Snake) : Type 0 where
  pub id : is_short_text s.id ≡ true
  pub long : 3 ≤ length s.body
  pub short : length s.body ≤ parts
  pub inside : All (λ p. is_on_board b.width b.height p ≡ true) (drop 1 s.body)

-- moved and not judged: it may have starved or left the board, so its head may be on the board or
-- next to it
pub record IsMovedLiving (b : Board) (s : Snake) : Type 0 where
  pub full : s.health ≤ 100
  pub near : is_head_of (is_wrapped b.mode) OutOfHealth b.width b.height (head_of s.body) ≡ true
  pub killer : s.killer ≡ None
  pub out : s.out ≡ None

pub record IsMoved (b : Board) (parts : ℕ) (seat : ℕ) (s : Snake) : Type 0 where
  pub body : IsSoundBody b parts s
  pub state : MatchOption s.cause (IsMovedLiving b s) (IsLegalOut b seat s)

-- judged, with a body that may still grow
pub record IsSound (b : Board) (parts : ℕ) (seat : ℕ) (s : Snake) : Type 0 where
  pub body : IsSoundBody b parts s
  pub state : MatchOption s.cause (IsLegalLiving b s) (IsLegalOut b seat s)

pub longer_parts : (b : Board) (m n : ℕ) (s : Snake) → m ≤ n → IsSoundBody b m s → IsSoundBody b n s
longer_parts b m n s more h = record { id = h.id; long = h.long; short = let short = h.short in omega arith; inside = h.inside }

-- the step of a coordinate
up_from : (z : ℤ) (n : ℕ) → int_le (pos 0) z ≡ true → int_lt z (pos n) ≡ true → (int_le (negsuc 0) (z +ℤ pos 1) ≡ true) × (int_le (z +ℤ pos 1) (pos n) ≡ true)
up_from z n low high = (grind (arith, ints), grind (arith, ints))

down_from : (z : ℤ) (n : ℕ) → int_le (pos 0) z ≡ true → int_lt z (pos n) ≡ true → (int_le (negsuc 0) (z -ℤ pos 1) ≡ true) × (int_le (z -ℤ pos 1) (pos n) ≡ true)
down_from z n low high = (grind (arith, ints), grind (arith, ints))

stays : (z : ℤ) (n : ℕ) → int_le (pos 0) z ≡ true → int_lt z (pos n) ≡ true → (int_le (negsuc 0) z ≡ true) × (int_le z (pos n) ≡ true)
stays z n low high = (grind (arith, ints), grind (arith, ints))

near_of : (w h : ℕ) (x y : ℤ) → (int_le (negsuc 0) x ≡ true) × (int_le x (pos w) ≡ true) → (int_le (negsuc 0) y ≡ true) × (int_le y (pos h) ≡ true)
    → is_near w h (record { x = x; y = y }) ≡ true
near_of w h x y p q = four_from (int_le (negsuc 0) x) (int_le x (pos w)) (int_le (negsuc 0) y) (int_le y (pos h)) p.0 p.1 q.0 q.1

-- a step from the board leads at most one cell outside it
step_is_near : (w h : ℕ) (p : Point) (d : Direction) → is_on_board w h p ≡ true → is_near w h (one_step p d) ≡ true
step_is_near w h p Up on =
    let q = four_parts (int_le (pos 0) p.x) (int_lt p.x (pos w)) (int_le (pos 0) p.y) (int_lt p.y (pos h)) on in
    near_of w h p.x (p.y +ℤ pos 1) (stays p.x w q.0 q.1) (up_from p.y h q.2 q.3)
step_is_near w h p Down on =
    let q = four_parts (int_le (pos 0) p.x) (int_lt p.x (pos w)) (int_le (pos 0) p.y) (int_lt p.y (pos h)) on in
    near_of w h p.x (p.y -ℤ pos 1) (stays p.x w q.0 q.1) (down_from p.y h q.2 q.3)
step_is_near w h p Left on =
    let q = four_parts (int_le (pos 0) p.x) (int_lt p.x (pos w)) (int_le (pos 0) p.y) (int_lt p.y (pos h)) on in
    near_of w h (p.x -ℤ pos 1) p.y (down_from p.x w q.0 q.1) (stays p.y h q.2 q.3)
step_is_near w h p Right on =
    let q = four_parts (int_le (pos 0) p.x) (int_lt p.x (pos w)) (int_le (pos 0) p.y) (int_lt p.y (pos h)) on in
    near_of w h (p.x +ℤ pos 1) p.y (up_from p.x w q.0 q.1) (stays p.y h q.2 q.3)

-- a number modulo a side is within the side
within_side : (z : ℤ) (n : ℕ) → 1 ≤ n → (int_le (pos 0) (int_rem_euclid z (pos n)) ≡ true) × (int_lt (int_rem_euclid z (pos n)) (pos n) ≡ true)
within_side (pos a) n some = let low = mod_below a n some in (grind (arith, ints), grind (arith, ints))
within_side (negsuc a) n some = (grind (arith, ints), grind (arith, ints))

-- a cell modulo both sides is on the board
torus_is_on_board : (w h : ℕ) (p : Point) → 1 ≤ w → 1 ≤ h → is_on_board w h (on_torus (Some (w, h)) p) ≡ true
torus_is_on_board w h p wide high =
    let x = int_rem_euclid p.x (pos w) in
    let y = int_rem_euclid p.y (pos h) in
    let column = within_side p.x w wide in
    let row = within_side p.y h high in
    four_from (int_le (pos 0) x) (int_lt x (pos w)) (int_le (pos 0) y) (int_lt y (pos h)) column.0 column.1 row.0 row.1

-- a step from the board leads at most one cell outside it, and on a wrapped board stays on it
neighbor_is_near : (wraps : Bool) (w h : ℕ) (p : Point) (d : Direction) → 1 ≤ w → 1 ≤ h → is_on_board w h p ≡ true
    → is_head_of wraps OutOfHealth w h (neighbor (cond wraps (Some (w, h)) None) p d) ≡ true
neighbor_is_near true w h p d wide high on = torus_is_on_board w h (one_step p d) wide high
neighbor_is_near false w h p d wide high on = step_is_near w h p d on

-- all parts of a living snake are on the board
all_inside : (P : Point → Type 0) (body : List Point) → 3 ≤ length body → P (head_of body) → All P (drop 1 body) → All P body
all_inside P [] long head rest = absurd (omega arith)
all_inside P (p ∷ ps) long head rest = All-cons P p ps head rest

length_moved : (wrap : Option (ℕ × ℕ)) (given : Option Direction) (body : List Point) → 3 ≤ length body → length (moved_body wrap given body) ≡ length body
length_moved wrap given body long = let n = length-take (length body - 1) body in omega arith

-- one turn later, the turn of elimination is still at most the number of turns
out_by_later : (turn : ℕ) (out : Option ℕ) → IsTurnBy turn out → IsTurnBy (turn + 1) out
out_by_later turn None h = h
out_by_later turn (Some t) h = (h.0, let by = h.1 in omega arith)

out_later : (b : Board) (seat : ℕ) (s : Snake) (cause : Cause) → IsLegalOut b seat s cause → IsLegalOut (later b) seat s cause
out_later b seat s cause h = record { out = out_by_later b.turn s.out h.out; health = h.health; head = h.head; killer = h.killer; hazard = h.hazard }

moves_at : (b : Board) (seat : ℕ) (s : Snake) (given : Option Direction) (cause : Option Cause) → 1 ≤ b.width → 1 ≤ b.height → IsLegalSnake b seat (record s { cause = cause })
    → IsMoved (later b) (b.turn + 3) seat (moved (wrap_of b) given (record s { cause = cause }))
moves_at b seat s given None wide high l =
    let on = λ (p : Point). is_on_board b.width b.height p ≡ true in
    let living = l.state in
    let n = length_moved (wrap_of b) given s.body l.body.long in
    let all : All on s.body = all_inside on s.body l.body.long living.head l.body.inside in
    record {
      body = record {
        id = l.id;
        long = let long = l.body.long in omega arith;
        short = let short = l.body.short in omega arith;
        inside = All-take on (length s.body - 1) s.body all;
      };
      state = record {
        full = let full = living.full in omega arith;
        near = neighbor_is_near (is_wrapped b.mode) b.width b.height (head_of s.body) (direction_taken (wrap_of b) given s.body) wide high living.head;
        killer = living.killer;
        out = living.out;
      };
    }
moves_at b seat s given (Some cause) wide high l = record {
  body = record { id = l.id; long = l.body.long; short = l.body.short; inside = l.body.inside };
  state = out_later b seat (record s { cause = Some cause }) cause l.state;
}

pub moves : (b : Board) (seat : ℕ) (s : Snake) (given : Option Direction) → 1 ≤ b.width → 1 ≤ b.height → IsLegalSnake b seat s
    → IsMoved (later b) (b.turn + 3) seat (moved (wrap_of b) given s)
moves b seat s given wide high l = moves_at b seat s given s.cause wide high l
