-- The record of a snake that moves one step.
use Rattle.std.proofs.Common.{◌≡◌, ℕ, zero, suc, ◌+◌, ◌-◌, ◌*◌, ◌/◌, ◌<◌, ◌≤◌, true, All, Option, Some, None, List, [], ◌∷◌, ◌++◌, length, take, drop, ℤ, pos, nat_abs, ◌+ℤ◌, ◌-ℤ◌, refl, sym, ap, ◌∙◌, arith}
use Rattle.std.specs.Prelude.{flat_map, is_none, slice_index_or, unwrap_or}
use Rattle.std.proofs.lemmas.List.{length-take-le, take-append-drop, take_at}
use Rattle.std.proofs.lemmas.List.Concat.{flat_map-append}
use Rattle.bs_board.specs.declared.boards.point.Point.{Point}
use Rattle.bs_board.specs.declared.boards.snake.Snake.{Snake}
use Rattle.bs_board.specs.declared.boards.snake.Cause.{Cause}
use Rattle.bs_board.specs.declared.records.layout.SnakeBytes.{SnakeBytes}
use Rattle.bs_board.specs.boards.Cell.{origin}
use Rattle.bs_board.specs.boards.Over.{is_living}
use Rattle.bs_board.specs.inner.Writing.{Puts}
use Rattle.bs_board.specs.records.Layout.{IsSnakeBytes}
use Rattle.bs_board.specs.records.Record.{cause_byte, cell_bytes, killer_byte, snake_record, state_bytes, two_bytes}
use Rattle.bs_board.specs.records.Stepped.{CanStep, stepped}
use Rattle.bs_board.specs.records.Writing.{IsByteCell}
use Rattle.bs_board.proofs.records.Fields.{raised_again}
use Rattle.bs_board.proofs.records.FitSnake.{puts_all}
use Rattle.bs_board.proofs.records.Lengths.{length_of_pairs, length_of_snake}
use Rattle.bs_board.proofs.records.Parts.{puts_both, puts_snake}

-- the lengths of what is copied
pub record StepLengths (s : Snake) (id body : List ℕ) : Type 0 where
  pub name : length id ≡ length s.id
  pub parts : length body ≡ 2 * length s.body
  pub rest : length (take (length body - 2) body) + 2 ≡ length body
  pub all : length (snake_record s) ≡ 8 + length id + length body

pub step_lengths : (s : Snake) (id body : List ℕ) → 1 ≤ length s.body → id ≡ s.id → body ≡ flat_map (cell_bytes 1) s.body → StepLengths s id body
step_lengths s id body some is parts =
    let name = ap length is in
    let pairs : length body ≡ 2 * length s.body = ap length parts ∙ length_of_pairs (cell_bytes 1) (λ p. refl) s.body in
    let left = length-take-le (length body - 2) body (omega arith) in
    record {
      name = name;
      parts = pairs;
      rest = omega arith;
      all = length_of_snake s ∙ omega arith;
    }

no_cause : (cause : Option Cause) → is_none cause ≡ true → cause_byte cause ≡ 0
no_cause None lives = refl
no_cause (Some cause) lives = absurd cc

-- the bytes of all parts but the last
front_bytes : (body : List Point) → take (length (flat_map (cell_bytes 1) body) - 2) (flat_map (cell_bytes 1) body) ≡ flat_map (cell_bytes 1) (take (length body - 1) body)
front_bytes body =
    let front = take (length body - 1) body in
    let last = drop (length body - 1) body in
    let split : flat_map (cell_bytes 1) body ≡ flat_map (cell_bytes 1) front ++ flat_map (cell_bytes 1) last =
    ap (flat_map (cell_bytes 1)) (sym (take-append-drop (length body - 1) body)) ∙ flat_map-append (cell_bytes 1) front last in
    let pairs = length_of_pairs (cell_bytes 1) (λ p. refl) body in
    let fewer = length_of_pairs (cell_bytes 1) (λ p. refl) front in
    let few = length-take-le (length body - 1) body (omega arith) in
    ap (take (length (flat_map (cell_bytes 1) body) - 2)) split ∙ take_at (flat_map (cell_bytes 1) front) (flat_map (cell_bytes 1) last) (length (flat_map (cell_bytes 1) body) - 2) (omega arith)

stepped_count : (head : Point) (s : Snake) → 1 ≤ length s.body → length (stepped head s).body ≡ length s.body
stepped_count head s some = let few = length-take-le (length s.body - 1) s.body (omega arith) in omega arith

stepped_length : (head : Point) (s : Snake) → 1 ≤ length s.body → length (snake_record (stepped head s)) ≡ length (snake_record s)
stepped_length head s some =
    let after = length_of_snake (stepped head s) in
    let before = length_of_snake s in
    let count = stepped_count head s some in
    omega arith

-- the bytes between the id and the parts
stepped_bytes : (head : Point) (s : Snake) (health : ℕ) (killer out : Option ℕ) (count : ℕ) → is_living s ≡ true → health ≡ s.health → killer ≡ s.killer → out ≡ s.out → count ≡ length (stepped head s).body
    → ((health - 1) ∷ 0 ∷ killer_byte killer ∷ two_bytes (unwrap_or out 0)) ++ two_bytes count ≡ state_bytes (stepped head s)
stepped_bytes head s health killer out count lives same who when many = rw (same, who, when, many, no_cause s.cause lives) refl

-- the parts of the record, one after the other
pub puts_stepped : (head : Point) (s : Snake) (parts : SnakeBytes) (state : List ℕ) (first second third fourth next : ℕ) (old a b c d new : List ℕ)
    → CanStep s → IsSnakeBytes s parts
    → state ≡ ((parts.health - 1) ∷ 0 ∷ killer_byte parts.killer ∷ two_bytes (unwrap_or parts.out 0)) ++ two_bytes (length parts.body.now / 2)
    → length old ≡ length (snake_record s)
    → Puts 0 (length parts.id.now ∷ []) old a first → Puts first parts.id.now a b second → Puts second state b c third
    → Puts third (cell_bytes 1 head) c d fourth → Puts fourth (take (length parts.body.now - 2) parts.body.now) d new next
    → new ≡ snake_record (stepped head s)
puts_stepped head s parts state first second third fourth next old a b c d new can is made room one two numbers front rest =
    let name : Puts 0 (length parts.id.now ∷ parts.id.now) old b second = puts_both 0 first second (length parts.id.now ∷ []) parts.id.now old a b one two in
    let id : Puts 0 (length s.id ∷ s.id) old b second = rw (← is.id) name in
    let lengths = step_lengths s parts.id.now parts.body.now can.some is.id is.body in
    let count : length parts.body.now / 2 ≡ length (stepped head s).body = let many = stepped_count head s can.some in omega (arith, lengths.parts) in
    let bytes = made ∙ stepped_bytes head s parts.health parts.killer parts.out (length parts.body.now / 2) can.lives is.health is.killer (is.out can.fits) count in
    let left : take (length parts.body.now - 2) parts.body.now ≡ flat_map (cell_bytes 1) (take (length s.body - 1) s.body) =
    ap (λ bytes. take (length bytes - 2) bytes) is.body ∙ front_bytes s.body in
    let behind : Puts fourth (flat_map (cell_bytes 1) (take (length s.body - 1) s.body)) d new next = rw left at rest in
    let body : Puts third (flat_map (cell_bytes 1) (stepped head s).body) c new next =
    puts_both third fourth next (cell_bytes 1 head) (flat_map (cell_bytes 1) (take (length s.body - 1) s.body)) c d new front behind in
    let all = puts_snake (stepped head s) state 0 second third next old b c new bytes id numbers body in
    puts_all (snake_record (stepped head s)) old new next all (room ∙ sym (stepped_length head s can.some))

-- ---- a part of the body

-- the bytes of a part
part_bytes : (body : List Point) (i : ℕ) → i < length body
    → (slice_index_or (flat_map (cell_bytes 1) body) (2 * i) 0 ≡ nat_abs ((slice_index_or body i origin).x +ℤ pos 1))
    × (slice_index_or (flat_map (cell_bytes 1) body) (2 * i + 1) 0 ≡ nat_abs ((slice_index_or body i origin).y +ℤ pos 1))
part_bytes [] i within = absurd (omega arith)
part_bytes (p ∷ ps) zero within = (refl, refl)
part_bytes (p ∷ ps) (suc i) within =
    let rest = part_bytes ps i (omega arith) in
    let x : 2 * suc i ≡ suc (suc (2 * i)) = omega arith in
    let y : 2 * suc i + 1 ≡ suc (suc (2 * i + 1)) = omega arith in
    (rw x rest.0, rw y rest.1)

pub part_again : (s : Snake) (bytes : List ℕ) (i : ℕ) (x y : ℤ) → bytes ≡ flat_map (cell_bytes 1) s.body → All (IsByteCell 1) s.body → 2 * i + 2 ≤ length bytes
    → x ≡ pos (slice_index_or bytes (2 * i) 0) -ℤ pos 1 → y ≡ pos (slice_index_or bytes (2 * i + 1) 0) -ℤ pos 1
    → ◌≡◌ {A = Point} (record { x = x; y = y }) (slice_index_or s.body i origin)
part_again s bytes i x y is fits within first second =
    let pairs : length bytes ≡ 2 * length s.body = ap length is ∙ length_of_pairs (cell_bytes 1) (λ p. refl) s.body in
    let inside : i < length s.body = omega arith in
    let cell = part_bytes s.body i inside in
    let fit = fits i origin inside in
    let column = first ∙ ap (λ b. pos (slice_index_or b (2 * i) 0) -ℤ pos 1) is ∙ ap (λ n. pos n -ℤ pos 1) cell.0 ∙ raised_again (slice_index_or s.body i origin).x 1 fit.x.0 in
    let row = second ∙ ap (λ b. pos (slice_index_or b (2 * i + 1) 0) -ℤ pos 1) is ∙ ap (λ n. pos n -ℤ pos 1) cell.1 ∙ raised_again (slice_index_or s.body i origin).y 1 fit.y.0 in
    rw (column, row) refl
