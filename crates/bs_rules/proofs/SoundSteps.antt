-- Feeding, growth and the first eliminations leave each snake sound.
use Rattle.std.proofs.Common.{◌≡◌, ℕ, suc, ◌+◌, ◌-◌, ◌<◌, ◌≤◌, Bool, true, false, not, ◌||◌, cond, List, [], ◌∷◌, ◌++◌, length, drop, All, Option, Some, None, refl, sym, arith, get_or, length-append, eqb}
use Rattle.std.specs.List.{list_any}
use Rattle.std.proofs.lemmas.Bool.{cond_both, eqb-true, eqb-false, and_from}
use Rattle.std.proofs.lemmas.List.Elements.{All-push}
use Rattle.bs_board.specs.declared.boards.point.Point.{Point}
use Rattle.bs_board.specs.declared.boards.board.Board.{Board}
use Rattle.bs_board.specs.declared.boards.snake.Snake.{Snake}
use Rattle.bs_board.specs.declared.boards.snake.Cause.{Cause}
use Rattle.bs_board.specs.declared.boards.snake.Cause.TheVariants.{OutOfHealth, WallCollision}
use Rattle.bs_board.specs.boards.Cell.{origin, head_of, is_same_cell, is_on_board}
use Rattle.bs_board.specs.boards.Legal.{IsLegalLiving, is_near}
use Rattle.bs_board.specs.boards.Wrap.{is_wrapped}
use Rattle.bs_modes.specs.Growth.{grown_body, grown_snake}
use Rattle.bs_modes.proofs.GrownBodies.{grown_at_most_one, grown_keeps_length, grown_keeps_head, grown_stays_inside}
use Rattle.bs_rules.specs.Feeding.{fed_snake, last_of}
use Rattle.bs_rules.specs.Elimination.{starved_or_outside_snake, judged}
use Rattle.bs_rules.proofs.Sound.{IsSoundBody, IsMoved, IsMovedLiving, IsSound, longer_parts}

-- the part that is repeated comes after the head
inside_fed : (P : Point → Type 0) (body : List Point) → 3 ≤ length body → All P (drop 1 body) → All P (drop 1 (body ++ last_of body ∷ []))
inside_fed P [] long all = absurd (omega arith)
inside_fed P (p ∷ rest) long all =
    let place : length (p ∷ rest) - 1 ≡ suc (length rest - 1) = omega arith in
    let same : last_of (p ∷ rest) ≡ get_or rest (length rest - 1) origin = rw place refl in
    let last : P (get_or rest (length rest - 1) origin) = all (length rest - 1) origin (omega arith) in
    All-push P rest (last_of (p ∷ rest)) all (rw same last)

head_fed : (body tail : List Point) → 3 ≤ length body → head_of (body ++ tail) ≡ head_of body
head_fed [] tail long = absurd (omega arith)
head_fed (p ∷ rest) tail long = refl

-- a living snake that has eaten
eaten : (b : Board) (parts seat : ℕ) (s : Snake) → IsSoundBody b parts s → IsMovedLiving b s
    → IsMoved b (parts + 1) seat (record s { body = s.body ++ last_of s.body ∷ []; health = 100; cause = None })
eaten b parts seat s body living =
    let n = length-append s.body (last_of s.body ∷ []) in
    record {
      body = record {
        id = body.id;
        long = let long = body.long in omega arith;
        short = let short = body.short in omega arith;
        inside = inside_fed (λ p. is_on_board b.width b.height p ≡ true) s.body body.long body.inside;
      };
      state = record {
        full = omega arith;
        near = let same = head_fed s.body (last_of s.body ∷ []) body.long in rw same living.near;
        killer = living.killer;
        out = living.out;
      };
    }

-- with room for one more part
roomier : (b : Board) (parts seat : ℕ) (s : Snake) → IsMoved b parts seat s → IsMoved b (parts + 1) seat s
roomier b parts seat s m = record { body = longer_parts b parts (parts + 1) s (omega arith) m.body; state = m.state }

feeds_at : (b : Board) (parts seat : ℕ) (s : Snake) (food : List Point) (cause : Option Cause) → IsMoved b parts seat (record s { cause = cause })
    → IsMoved b (parts + 1) seat (fed_snake food (record s { cause = cause }))
feeds_at b parts seat s food None m =
    let now = record s { cause = None } in
    cond_both (list_any (is_same_cell (head_of s.body)) food) (record now { body = s.body ++ last_of s.body ∷ []; health = 100 }) now
    (IsMoved b (parts + 1) seat) (λ _. eaten b parts seat now m.body m.state) (λ _. roomier b parts seat now m)
feeds_at b parts seat s food (Some cause) m = roomier b parts seat (record s { cause = Some cause }) m

pub feeds : (b : Board) (parts seat : ℕ) (s : Snake) (food : List Point) → IsMoved b parts seat s → IsMoved b (parts + 1) seat (fed_snake food s)
feeds b parts seat s food m = feeds_at b parts seat s food s.cause m

-- without food no body grows
feeds_none_at : (b : Board) (parts seat : ℕ) (s : Snake) (cause : Option Cause) → IsMoved b parts seat (record s { cause = cause })
    → IsMoved b parts seat (fed_snake [] (record s { cause = cause }))
feeds_none_at b parts seat s None m = m
feeds_none_at b parts seat s (Some cause) m = m

pub feeds_none : (b : Board) (parts seat : ℕ) (s : Snake) (food : List Point) → food ≡ [] → IsMoved b parts seat s → IsMoved b parts seat (fed_snake food s)
feeds_none b parts seat s food none m = rw none (feeds_none_at b parts seat s s.cause m)

-- a living snake that has grown
has_grown : (b : Board) (parts seat : ℕ) (s : Snake) → IsSoundBody b parts s → IsLegalLiving b s
    → IsSound b (parts + 1) seat (record s { health = 100; body = grown_body s.body; cause = None })
has_grown b parts seat s body living =
    let more = grown_at_most_one s.body in
    let no_less = grown_keeps_length s.body in
    let long = body.long in
    let some : 0 < length s.body = omega arith in
    record {
      body = record {
        id = body.id;
        long = omega arith;
        short = let short = body.short in omega arith;
        inside = grown_stays_inside (λ p. is_on_board b.width b.height p ≡ true) s.body (omega arith) body.inside;
      };
      state = record {
        fed = omega arith;
        full = omega arith;
        head = rw (grown_keeps_head s.body some) living.head;
        killer = living.killer;
        out = living.out;
      };
    }

grows_at : (b : Board) (parts seat : ℕ) (s : Snake) (cause : Option Cause) → IsSound b parts seat (record s { cause = cause })
    → IsSound b (parts + 1) seat (grown_snake (record s { cause = cause }))
grows_at b parts seat s None m = has_grown b parts seat (record s { cause = None }) m.body m.state
grows_at b parts seat s (Some cause) m =
    record { body = longer_parts b parts (parts + 1) (record s { cause = Some cause }) (omega arith) m.body; state = m.state }

pub grows : (b : Board) (parts seat : ℕ) (s : Snake) → IsSound b parts seat s → IsSound b (parts + 1) seat (grown_snake s)
grows b parts seat s m = grows_at b parts seat s s.cause m

-- starved, off the board, or alive
first_by : (b : Board) (parts seat : ℕ) (s : Snake) (starved wraps inside : Bool) → s.cause ≡ None → starved ≡ eqb s.health 0 → wraps ≡ is_wrapped b.mode → inside ≡ is_on_board b.width b.height (head_of s.body)
    → 1 ≤ b.turn → IsSoundBody b parts s → IsMovedLiving b s
    → IsSound b parts seat (judged b.turn (cond starved (Some (record { cause = OutOfHealth; killer = None })) (cond (wraps || inside) None (Some (record { cause = WallCollision; killer = None })))) s)
first_by b parts seat s true wraps inside c e w f played body living = record {
  body = record { id = body.id; long = body.long; short = body.short; inside = body.inside };
  state = record {
    out = (played, omega arith);
    health = eqb-true s.health 0 (sym e);
    head = living.near;
    killer = refl;
    hazard = refl;
  };
}
first_by b parts seat s false true inside c e w f played body living =
    let some = eqb-false s.health 0 (sym e) in
    record {
      body = body;
      state = rw c (record {
        fed = omega arith;
        full = living.full;
        head = rw (← w) at living.near;
        killer = living.killer;
        out = living.out;
      });
    }
first_by b parts seat s false false true c e w f played body living =
    let some = eqb-false s.health 0 (sym e) in
    record {
      body = body;
      state = rw c (record {
        fed = omega arith;
        full = living.full;
        head = sym f;
        killer = living.killer;
        out = living.out;
      });
    }
first_by b parts seat s false false false c e w f played body living =
    let some = eqb-false s.health 0 (sym e) in
    let off : not (is_on_board b.width b.height (head_of s.body)) ≡ true = rw (← f) refl in
    record {
      body = record { id = body.id; long = body.long; short = body.short; inside = body.inside };
      state = record {
        out = (played, omega arith);
        health = (omega arith, living.full);
        head = let near = rw (← w) at living.near in rw (← w) (and_from (is_near b.width b.height (head_of s.body)) (not (is_on_board b.width b.height (head_of s.body))) near off);
        killer = refl;
        hazard = refl;
      };
    }

first_at : (b : Board) (parts seat : ℕ) (s : Snake) (cause : Option Cause) → 1 ≤ b.turn → IsMoved b parts seat (record s { cause = cause })
    → IsSound b parts seat (starved_or_outside_snake (is_wrapped b.mode) b.width b.height b.turn (record s { cause = cause }))
first_at b parts seat s None played m =
    first_by b parts seat (record s { cause = None }) (eqb s.health 0) (is_wrapped b.mode) (is_on_board b.width b.height (head_of s.body)) refl refl refl refl played m.body m.state
first_at b parts seat s (Some cause) played m = record { body = m.body; state = m.state }

pub first_judges : (b : Board) (parts seat : ℕ) (s : Snake) → 1 ≤ b.turn → IsMoved b parts seat s → IsSound b parts seat (starved_or_outside_snake (is_wrapped b.mode) b.width b.height b.turn s)
first_judges b parts seat s played m = first_at b parts seat s s.cause played m
