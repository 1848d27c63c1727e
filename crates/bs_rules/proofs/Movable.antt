-- The snakes of a legal board can move.
use Rattle.std.proofs.Common.{◌≡◌, ℕ, ◌≤◌, Bool, true, false, cond, ◌&&◌, not, List, [], ◌∷◌, length, All, MatchOption, Option, Some, None, arith, pos, negsuc, ℤ, drop, refl, leb, get_or}
use Rattle.std.specs.Prelude.{int_le, int_lt}
use Rattle.std.proofs.lemmas.Int.{ints}
use Rattle.std.proofs.lemmas.Bool.{and_parts, leb-true}
use Rattle.std.proofs.lemmas.List.Elements.{All-cons, All-weaker}
use Rattle.bs_board.specs.declared.limits.TheConstants.{LONGEST_SIDE}
use Rattle.bs_board.specs.declared.boards.point.Point.{Point}
use Rattle.bs_board.specs.declared.boards.board.Board.{Board}
use Rattle.bs_board.specs.declared.boards.snake.Snake.{Snake}
use Rattle.bs_board.specs.declared.boards.snake.Cause.{Cause}
use Rattle.bs_board.specs.declared.boards.snake.Cause.TheVariants.{OutOfHealth, WallCollision, SelfCollision, BodyCollision, HeadCollision, Hazard}
use Rattle.bs_board.specs.boards.Cell.{head_of, is_on_board}
use Rattle.bs_board.specs.commands.Setup.{is_side}
use Rattle.bs_board.specs.boards.Wrap.{is_wrapped, wrap_of, AreSides}
use Rattle.bs_board.specs.boards.Legal.{IsLegal, IsLegalSnake, IsLegalLiving, IsLegalOut, is_near, is_head_of}
use Rattle.bs_rules.specs.Motion.{IsMovable}

-- one coordinate, on the board or one cell outside it
on_side : (z : ℤ) (n : ℕ) → int_le (pos 0) z ≡ true → int_lt z (pos n) ≡ true → (int_le (negsuc 0) z ≡ true) × (int_le z (pos n) ≡ true)
on_side z n low high = (grind (arith, ints), grind (arith, ints))

within_largest : (z : ℤ) (n : ℕ) → n ≤ 25 → int_le z (pos n) ≡ true → int_le z (pos 25) ≡ true
within_largest z n few h = grind (arith, ints)

pub four_parts : (a b c d : Bool) → (a && b && c && d) ≡ true → (a ≡ true) × (b ≡ true) × (c ≡ true) × (d ≡ true)
four_parts a b c d h =
    let last = and_parts (a && b && c) d h in
    let third = and_parts (a && b) c last.0 in
    let first = and_parts a b third.0 in
    (first.0, first.1, third.1, last.1)

pub four_from : (a b c d : Bool) → a ≡ true → b ≡ true → c ≡ true → d ≡ true → (a && b && c && d) ≡ true
four_from a b c d e f g h = rw (e, f, g, h) refl

pub near_from_on_board : (w h : ℕ) (p : Point) → is_on_board w h p ≡ true → is_near w h p ≡ true
near_from_on_board w h p on =
    let q = four_parts (int_le (pos 0) p.x) (int_lt p.x (pos w)) (int_le (pos 0) p.y) (int_lt p.y (pos h)) on in
    let x = on_side p.x w q.0 q.1 in
    let y = on_side p.y h q.2 q.3 in
    four_from (int_le (negsuc 0) p.x) (int_le p.x (pos w)) (int_le (negsuc 0) p.y) (int_le p.y (pos h)) x.0 x.1 y.0 y.1

pub near_largest : (w h : ℕ) (p : Point) → w ≤ 25 → h ≤ 25 → is_near w h p ≡ true → is_near LONGEST_SIDE LONGEST_SIDE p ≡ true
near_largest w h p wide high near =
    let q = four_parts (int_le (negsuc 0) p.x) (int_le p.x (pos w)) (int_le (negsuc 0) p.y) (int_le p.y (pos h)) near in
    four_from (int_le (negsuc 0) p.x) (int_le p.x (pos 25)) (int_le (negsuc 0) p.y) (int_le p.y (pos 25))
    q.0 (within_largest p.x w wide q.1) q.2 (within_largest p.y h high q.3)

-- the largest side
side_at_most : (n : ℕ) → is_side n ≡ true → n ≤ 25
side_at_most n h = leb-true n 25 (and_parts (leb 3 n) (leb n 25) h).1

head_of_out : (cause : Cause) (wraps : Bool) (w h : ℕ) (p : Point) → is_head_of wraps cause w h p ≡ true → is_near w h p ≡ true
head_of_out OutOfHealth true w h p head = near_from_on_board w h p head
head_of_out OutOfHealth false w h p head = head
head_of_out WallCollision true w h p head = absurd cc
head_of_out WallCollision false w h p head = (and_parts (is_near w h p) (not (is_on_board w h p)) head).0
head_of_out SelfCollision wraps w h p head = near_from_on_board w h p head
head_of_out BodyCollision wraps w h p head = near_from_on_board w h p head
head_of_out HeadCollision wraps w h p head = near_from_on_board w h p head
head_of_out Hazard wraps w h p head = near_from_on_board w h p head

head_is_near : (b : Board) (seat : ℕ) (s : Snake) (cause : Option Cause) → MatchOption cause (IsLegalLiving b s) (IsLegalOut b seat s)
    → is_near b.width b.height (head_of s.body) ≡ true
head_is_near b seat s None state = near_from_on_board b.width b.height (head_of s.body) state.head
head_is_near b seat s (Some cause) state = head_of_out cause (is_wrapped b.mode) b.width b.height (head_of s.body) state.head

-- the head and the parts after it
all_near : (body : List Point) → 3 ≤ length body → is_near LONGEST_SIDE LONGEST_SIDE (head_of body) ≡ true → All (λ p. is_near LONGEST_SIDE LONGEST_SIDE p ≡ true) (drop 1 body)
    → All (λ p. is_near LONGEST_SIDE LONGEST_SIDE p ≡ true) body
all_near [] long head rest = absurd (omega arith)
all_near (p ∷ ps) long head rest = All-cons (λ p. is_near LONGEST_SIDE LONGEST_SIDE p ≡ true) p ps head rest

snake_is_movable : (b : Board) (seat : ℕ) (s : Snake) → b.width ≤ 25 → b.height ≤ 25 → IsLegalSnake b seat s → IsMovable s
snake_is_movable b seat s wide high l =
    let near = λ (p : Point) (on : is_on_board b.width b.height p ≡ true). near_largest b.width b.height p wide high (near_from_on_board b.width b.height p on) in
    let head = near_largest b.width b.height (head_of s.body) wide high (head_is_near b seat s s.cause l.state) in
    let rest = All-weaker (λ p. is_on_board b.width b.height p ≡ true) (λ p. is_near LONGEST_SIDE LONGEST_SIDE p ≡ true) near (drop 1 s.body) l.body.inside in
    record { some = let long = l.body.long in omega arith; near = all_near s.body l.body.long head rest }

pub legal_is_movable : (b : Board) → IsLegal b → All IsMovable b.snakes
legal_is_movable b l seat d within =
    snake_is_movable b seat (get_or b.snakes seat d) (side_at_most b.width l.limits.width) (side_at_most b.height l.limits.height) (l.snakes seat d within)

-- a wrapped legal board has sides of a legal length
sides_if : (wraps : Bool) (w h : ℕ) → is_side w ≡ true → is_side h ≡ true → AreSides (cond wraps (Some (w, h)) None)
sides_if true w h wide high = (wide, high)
sides_if false w h wide high = tt

pub legal_has_sides : (b : Board) → IsLegal b → AreSides (wrap_of b)
legal_has_sides b l = sides_if (is_wrapped b.mode) b.width b.height l.limits.width l.limits.height
