-- Hazards leave each snake sound, its id as it was, and a board's hazards fit.
use Rattle.std.proofs.Common.{◌≡◌, ℕ, zero, suc, min, ◌+◌, ◌-◌, ◌*◌, ◌≤◌, Bool, true, false, not, ◌&&◌, cond, List, [], ◌∷◌, length, take, Option, Some, None, is_some, refl, sym, ap, subst, ◌∙◌, arith, eqb, inl, inr, leb, count_by, length-take}
use Rattle.std.specs.List.{filter, list_any, list_all}
use Rattle.std.proofs.Math.Nat.{zero-min, min-zero}
use Rattle.std.proofs.lemmas.Bool.{cases_Bool, cond_both, eqb-true, eqb-false, and_from, and_parts, leb-true, le-leb}
use Rattle.bs_board.specs.declared.boards.board.Board.{Board}
use Rattle.bs_board.specs.declared.boards.hazards.Hazards.{Hazards}
use Rattle.bs_board.specs.declared.boards.point.Point.{Point}
use Rattle.bs_board.specs.declared.boards.snake.Snake.{Snake}
use Rattle.bs_board.specs.declared.boards.snake.Cause.{Cause}
use Rattle.bs_board.specs.declared.boards.snake.Cause.TheVariants.{Hazard}
use Rattle.bs_board.specs.boards.Cell.{head_of, is_same_cell, is_on_board}
use Rattle.bs_board.specs.boards.Hazards.{are_fit_hazards}
use Rattle.bs_board.proofs.Distinct.{filter_passes}
use Rattle.bs_rules.specs.declared.verdict.Verdict.{Verdict}
use Rattle.bs_rules.specs.Elimination.{judged}
use Rattle.bs_rules.specs.Hurting.{cells_given, hazard_verdict, hazards_after, health_left, hurt_by, hurt_snake, is_hurt}
use Rattle.bs_rules.proofs.CollisionTest.{same_cell}
use Rattle.bs_rules.proofs.Sound.{IsSoundBody, IsMoved, IsMovedLiving}

-- a cell of a list of cells of the board is on the board
in_all : (test : Point → Bool) (p : Point) (cells : List Point) → list_any (is_same_cell p) cells ≡ true → list_all test cells ≡ true → test p ≡ true
in_all test p [] there all = absurd cc
in_all test p (x ∷ xs) there all =
    let parts = and_parts (test x) (list_all test xs) all in
    elim (cases_Bool (is_same_cell p x)) [
      | inl same ↦ let is : p ≡ x = (same_cell p x).0 same in ap test is ∙ parts.0
      | inr other ↦ in_all test p xs (rw other at there) parts.1
    ]

-- a snake that a hazard hurts has its head on the board
hurt_on_board : (w h : ℕ) (hazards : Hazards) (p : Point) → are_fit_hazards w h (Some hazards) ≡ true → list_any (is_same_cell p) hazards.cells ≡ true → is_on_board w h p ≡ true
hurt_on_board w h hazards p fits there =
    in_all (is_on_board w h) p hazards.cells there
    (and_parts (leb hazards.damage 100 && leb (length hazards.cells) 2500) (list_all (is_on_board w h) hazards.cells) fits).1

-- b has risen its turn number
hurt_at : (b : Board) (parts seat : ℕ) (s : Snake) (h : Hazards) (out : Bool) → out ≡ eqb (health_left h s) 0 → b.hazards ≡ Some h → 1 ≤ b.turn
    → is_on_board b.width b.height (head_of s.body) ≡ true → s.cause ≡ None → IsSoundBody b parts s → IsMovedLiving b s
    → IsMoved b parts seat (judged b.turn (cond out (Some (record { cause = Hazard; killer = None })) None) (record s { health = health_left h s }))
hurt_at b parts seat s h true e is played on c body living = record {
  body = record { id = body.id; long = body.long; short = body.short; inside = body.inside };
  state = record {
    out = (played, omega arith);
    health = eqb-true (health_left h s) 0 (sym e);
    head = on;
    killer = refl;
    hazard = rw is refl;
  };
}
hurt_at b parts seat s h false e is played on c body living = record {
  body = record { id = body.id; long = body.long; short = body.short; inside = body.inside };
  state = rw c (record {
    full = let full = living.full in omega arith;
    near = living.near;
    killer = living.killer;
    out = living.out;
  });
}

hurts_at : (b : Board) (parts seat : ℕ) (s : Snake) (food : List Point) (hazards : Option Hazards) (cause : Option Cause) → b.hazards ≡ hazards
    → are_fit_hazards b.width b.height hazards ≡ true → 1 ≤ b.turn → IsMoved b parts seat (record s { cause = cause })
    → IsMoved b parts seat (hurt_snake hazards food b.turn (record s { cause = cause }))
hurts_at b parts seat s food None cause is fits played m = m
hurts_at b parts seat s food (Some h) (Some cause) is fits played m = m
hurts_at b parts seat s food (Some h) None is fits played m =
    let now = record s { cause = None } in
    let there = list_any (is_same_cell (head_of s.body)) h.cells in
    let eats = list_any (is_same_cell (head_of s.body)) food in
    cond_both (there && not eats) (hurt_by h b.turn now) now (IsMoved b parts seat)
    (λ hit.
    let on = hurt_on_board b.width b.height h (head_of s.body) fits (and_parts there (not eats) hit).0 in
    hurt_at b parts seat now h (eqb (health_left h now) 0) refl is played on refl m.body m.state)
    (λ _. m)

pub hurts : (b : Board) (parts seat : ℕ) (s : Snake) (food : List Point) → are_fit_hazards b.width b.height b.hazards ≡ true → 1 ≤ b.turn
    → IsMoved b parts seat s → IsMoved b parts seat (hurt_snake b.hazards food b.turn s)
hurts b parts seat s food fits played m = hurts_at b parts seat s food b.hazards s.cause refl fits played m

judged_id : (turn : ℕ) (verdict : Option Verdict) (s : Snake) → (judged turn verdict s).id ≡ s.id
judged_id turn None s = refl
judged_id turn (Some v) s = refl

pub hurt_id : (hazards : Option Hazards) (food : List Point) (turn : ℕ) (s : Snake) → (hurt_snake hazards food turn s).id ≡ s.id
hurt_id None food turn s = refl
hurt_id (Some h) food turn s =
    cond_both (is_hurt h.cells food s) (hurt_by h turn s) s (λ t. t.id ≡ s.id)
    (λ _. judged_id turn (hazard_verdict (health_left h s)) (record s { health = health_left h s })) (λ _. refl)

-- ---- the hazards that a move gives

filter_is_shorter : {X : Type 0} (test : X → Bool) (xs : List X) → length (filter test xs) ≤ length xs
filter_is_shorter test [] = omega arith
filter_is_shorter test (x ∷ xs) =
    let rest = filter_is_shorter test xs in
    elim (cases_Bool (test x)) [
      | inl in_it ↦ rw in_it (omega arith)
      | inr not_in ↦ rw not_in (omega arith)
    ]

pub take_few : {X : Type 0} (n : ℕ) (xs : List X) → take (min (length xs) n) xs ≡ take n xs
take_few zero xs = rw (min-zero (length xs)) refl
take_few (suc n) [] = rw (zero-min (suc n)) refl
take_few (suc n) (x ∷ xs) =
    let more : min (suc (length xs)) (suc n) ≡ suc (min (length xs) n) = omega arith in
    rw more (ap (λ ys. x ∷ ys) (take_few n xs))

given_fit : (w h damage : ℕ) (cells : List Point) → leb damage 100 ≡ true → are_fit_hazards w h (Some (record { damage = damage; cells = cells_given w h cells })) ≡ true
given_fit w h damage cells low =
    let shorter = filter_is_shorter (is_on_board w h) (take 2500 cells) in
    let few : length (cells_given w h cells) ≤ 2500 = omega (arith, length-take 2500 cells) in
    let short : leb (length (cells_given w h cells)) 2500 ≡ true = le-leb _ _ few in
    let on : list_all (is_on_board w h) (cells_given w h cells) ≡ true = filter_passes (is_on_board w h) (take 2500 cells) in
    rw (low, short) on

pub fit_after : (w h : ℕ) (given : Option (List Point)) (old : Option Hazards) → are_fit_hazards w h old ≡ true → are_fit_hazards w h (hazards_after w h given old) ≡ true
fit_after w h None old fits = fits
fit_after w h (Some cells) None fits = fits
fit_after w h (Some cells) (Some old) fits =
    given_fit w h old.damage cells
    (and_parts (leb old.damage 100) (leb (length old.cells) 2500) (and_parts (leb old.damage 100 && leb (length old.cells) 2500) (list_all (is_on_board w h) old.cells) fits).0).0

pub some_after : (w h : ℕ) (given : Option (List Point)) (old : Option Hazards) → is_some (hazards_after w h given old) ≡ is_some old
some_after w h None old = refl
some_after w h (Some cells) None = refl
some_after w h (Some cells) (Some old) = refl
