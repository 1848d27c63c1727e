-- A snake after its step fits the bytes of a record.
use Rattle.std.proofs.Common.{◌≡◌, ℕ, ◌-◌, ◌<◌, ◌≤◌, Bool, true, false, cond, [], ◌∷◌, length, take, All, arith}
use Rattle.std.proofs.lemmas.Bool.{and_parts, cond_both, leb-true}
use Rattle.std.proofs.lemmas.List.Elements.{All-append, All-cons, All-get_or, All-take}
use Rattle.std.specs.Prelude.{nat_le}
use Rattle.bs_board.specs.declared.boards.point.Point.{Point}
use Rattle.bs_board.specs.declared.boards.snake.Snake.{Snake}
use Rattle.bs_board.specs.declared.records.layout.SnakeBytes.{SnakeBytes}
use Rattle.bs_board.specs.boards.Cell.{is_on_board, origin}
use Rattle.bs_board.specs.commands.Setup.{is_side}
use Rattle.bs_board.specs.records.Writing.{IsByteCell, IsWritable}
use Rattle.bs_board.proofs.records.Writable.{near_is_byte}
use Rattle.bs_rules.proofs.Movable.{near_from_on_board}
use Rattle.bs_plane.specs.declared.motion.Step.{Step}
use Rattle.bs_plane.specs.inner.Onward.{SeesSnake, repeated, stepped_by}
use Rattle.bs_plane.proofs.StepBytes.{stepped_length}
use Rattle.bs_plane.proofs.Steps.{half_of}

side_at_most : (n : ℕ) → is_side n ≡ true → n ≤ 25
side_at_most n h = leb-true n 25 (and_parts (nat_le 3 n) (nat_le n 25) h).1

pub on_is_byte : (width height : ℕ) (p : Point) → is_side width ≡ true → is_side height ≡ true → is_on_board width height p ≡ true → IsByteCell 1 p
on_is_byte width height p wide high on = near_is_byte width height p (side_at_most width wide) (side_at_most height high) (near_from_on_board width height p on)

one_at_most : (b : Bool) → cond {A = ℕ} b 1 0 ≤ 1
one_at_most true = omega arith
one_at_most false = omega arith

pub stepped_fits : (s : Snake) (parts : SnakeBytes) (step : Step) → SeesSnake s parts → IsByteCell 1 step.head → length parts.body.now < 131000 → IsWritable (stepped_by step s)
stepped_fits s parts step sees byte short =
    let half = half_of s parts sees in
    let long = sees.long in
    let count = stepped_length step s sees.long in
    let few = one_at_most step.grows in
    let none : All (IsByteCell 1) [] = λ i d within. absurd (omega arith) in
    let last : All (IsByteCell 1) (repeated s ∷ []) =
    All-cons (IsByteCell 1) (repeated s) [] (All-get_or (IsByteCell 1) s.body (length s.body - 2) origin (omega arith) sees.fits.cells) none in
    record {
      id = sees.fits.id;
      killer = sees.fits.killer;
      out = sees.fits.out;
      parts = omega arith;
      cells = All-append (IsByteCell 1) (step.head ∷ take (length s.body - 1) s.body) (cond step.grows (repeated s ∷ []) [])
          (All-cons (IsByteCell 1) step.head (take (length s.body - 1) s.body) byte (All-take (IsByteCell 1) (length s.body - 1) s.body sees.fits.cells))
          (cond_both step.grows (repeated s ∷ []) [] (λ l. All (IsByteCell 1) l) (λ _. last) (λ _. none));
    }
