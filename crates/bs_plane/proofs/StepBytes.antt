-- The record of a snake after its step, from the record that it had.
use Rattle.std.proofs.Common.{◌≡◌, ℕ, ◌+◌, ◌-◌, ◌*◌, ◌<◌, ◌≤◌, Bool, true, false, cond, List, [], ◌∷◌, ◌++◌, length, take, drop, get_or, Option, Some, None, refl, sym, ap, ◌∙◌, arith, append_assoc, append-nil, length-append}
use Rattle.std.specs.Prelude.{is_none}
use Rattle.std.specs.List.{flat_map}
use Rattle.std.proofs.lemmas.List.{drop_at, drop_more, length-take-le, take-append-drop, take_at}
use Rattle.std.proofs.lemmas.Grind.{flat_map-append}
use Rattle.bs_board.specs.declared.boards.point.Point.{Point}
use Rattle.bs_board.specs.declared.boards.snake.Snake.{Snake}
use Rattle.bs_board.specs.declared.boards.snake.Cause.{Cause}
use Rattle.bs_board.specs.declared.records.layout.SnakeBytes.{SnakeBytes}
use Rattle.bs_board.specs.boards.Cell.{origin}
use Rattle.bs_board.specs.records.Record.{cause_byte, cell_bytes, snake_record, state_bytes, two_bytes}
use Rattle.bs_board.proofs.records.Lengths.{length_of_pairs}
use Rattle.bs_plane.specs.declared.motion.Step.{Step}
use Rattle.bs_plane.specs.inner.Onward.{SeesSnake, repeated, stepped_by}
use Rattle.bs_plane.proofs.Steps.{new_length}

no_cause : (cause : Option Cause) → is_none cause ≡ true → cause_byte cause ≡ 0
no_cause None lives = refl
no_cause (Some cause) lives = absurd cc

-- the bytes of the first parts
first_bytes : (body : List Point) (k : ℕ) → k ≤ length body → take (2 * k) (flat_map (cell_bytes 1) body) ≡ flat_map (cell_bytes 1) (take k body)
first_bytes body k few =
    let front = take k body in
    let last = drop k body in
    let split : flat_map (cell_bytes 1) body ≡ flat_map (cell_bytes 1) front ++ flat_map (cell_bytes 1) last =
    ap (flat_map (cell_bytes 1)) (sym (take-append-drop k body)) ∙ flat_map-append (cell_bytes 1) front last in
    let many = length_of_pairs (cell_bytes 1) (λ p. refl) front in
    let long = length-take-le k body few in
    ap (take (2 * k)) split ∙ take_at (flat_map (cell_bytes 1) front) (flat_map (cell_bytes 1) last) (2 * k) (omega arith)

-- the bytes of the part at k
part_bytes : (body : List Point) (k : ℕ) → k < length body → take 2 (drop (2 * k) (flat_map (cell_bytes 1) body)) ≡ cell_bytes 1 (get_or body k origin)
part_bytes body k within =
    let front = take k body in
    let last = drop k body in
    let split : flat_map (cell_bytes 1) body ≡ flat_map (cell_bytes 1) front ++ flat_map (cell_bytes 1) last =
    ap (flat_map (cell_bytes 1)) (sym (take-append-drop k body)) ∙ flat_map-append (cell_bytes 1) front last in
    let many = length_of_pairs (cell_bytes 1) (λ p. refl) front in
    let long = length-take-le k body (omega arith) in
    let left : drop (2 * k) (flat_map (cell_bytes 1) body) ≡ flat_map (cell_bytes 1) last =
    ap (drop (2 * k)) split ∙ drop_at (flat_map (cell_bytes 1) front) (flat_map (cell_bytes 1) last) (2 * k) (omega arith) in
    ap (take 2) (left ∙ ap (flat_map (cell_bytes 1)) (drop_more body k origin within))

regroup : (old : List ℕ) (len : ℕ) (id st cell rest : List ℕ) → (((old ++ len ∷ []) ++ id) ++ (st ++ cell)) ++ rest ≡ old ++ (((len ∷ id) ++ st) ++ (cell ++ rest))
regroup old len id st cell rest = simp append_assoc refl

-- the parts after the head
rest_bytes : (grows : Bool) (front : List Point) (r : Point)
    → flat_map (cell_bytes 1) front ++ cond grows (cell_bytes 1 r) [] ≡ flat_map (cell_bytes 1) (front ++ cond grows (r ∷ []) [])
rest_bytes true front r = sym (flat_map-append (cell_bytes 1) front (r ∷ []))
rest_bytes false front r = append-nil (flat_map (cell_bytes 1) front) ∙ ap (flat_map (cell_bytes 1)) (sym (append-nil front))

one_if : (grows : Bool) (r : Point) → length (cond grows (r ∷ []) []) ≡ cond {A = ℕ} grows 1 0
one_if true r = refl
one_if false r = refl

pub stepped_length : (step : Step) (s : Snake) → 3 ≤ length s.body → length s.body + cond {A = ℕ} step.grows 1 0 ≡ length (stepped_by step s).body
stepped_length step s long =
    let many = new_length step.head s long in
    let both = length-append (step.head ∷ take (length s.body - 1) s.body) (cond step.grows (repeated s ∷ []) []) in
    let one = one_if step.grows (repeated s) in
    omega arith

pub record_pushed : (s : Snake) (parts : SnakeBytes) (step : Step) (count : ℕ) (old a b c new : List ℕ) → SeesSnake s parts
    → a ≡ old ++ length parts.id.now ∷ [] → b ≡ a ++ parts.id.now → c ≡ b ++ (((step.health ∷ 0 ∷ 0 ∷ 0 ∷ 0 ∷ []) ++ two_bytes count) ++ cell_bytes 1 step.head)
    → new ≡ c ++ (take (length parts.body.now - 2) parts.body.now ++ cond step.grows (take 2 (drop (length parts.body.now - 4) parts.body.now)) [])
    → count ≡ length (stepped_by step s).body → new ≡ old ++ snake_record (stepped_by step s)
unfolding snake_record
record_pushed s parts step count old a b c new sees first second third fourth many =
    let t = stepped_by step s in
    let front = take (length s.body - 1) s.body in
    let long = sees.long in
    let cause = no_cause s.cause sees.lives in
    let killer = sees.killer in
    let out = sees.out in
    let state : (step.health ∷ 0 ∷ 0 ∷ 0 ∷ 0 ∷ []) ++ two_bytes count ≡ state_bytes t = rw (many, cause, killer, out) refl in
    let bytes = sees.view.body in
    let pairs = length_of_pairs (cell_bytes 1) (λ p. refl) s.body in
    let size : length parts.body.now ≡ 2 * length s.body = ap length bytes ∙ pairs in
    let less : length parts.body.now - 2 ≡ 2 * (length s.body - 1) = omega arith in
    let fewer : length parts.body.now - 4 ≡ 2 * (length s.body - 2) = omega arith in
    let kept : take (length parts.body.now - 2) parts.body.now ≡ flat_map (cell_bytes 1) front =
    ap (λ n. take n parts.body.now) less ∙ ap (take (2 * (length s.body - 1))) bytes ∙ first_bytes s.body (length s.body - 1) (omega arith) in
    let again : take 2 (drop (length parts.body.now - 4) parts.body.now) ≡ cell_bytes 1 (repeated s) =
    ap (λ n. take 2 (drop n parts.body.now)) fewer ∙ ap (λ l. take 2 (drop (2 * (length s.body - 2)) l)) bytes ∙ part_bytes s.body (length s.body - 2) (omega arith) in
    let rest : take (length parts.body.now - 2) parts.body.now ++ cond step.grows (take 2 (drop (length parts.body.now - 4) parts.body.now)) []
    ≡ flat_map (cell_bytes 1) (front ++ cond step.grows (repeated s ∷ []) []) =
    ap (λ l. l ++ cond step.grows (take 2 (drop (length parts.body.now - 4) parts.body.now)) []) kept
    ∙ ap (λ l. flat_map (cell_bytes 1) front ++ cond step.grows l []) again ∙ rest_bytes step.grows front (repeated s) in
    let id = sees.view.id in
    let whole : c ≡ ((old ++ length s.id ∷ []) ++ s.id) ++ (state_bytes t ++ cell_bytes 1 step.head) =
    third ∙ ap (λ l. b ++ (l ++ cell_bytes 1 step.head)) state
    ∙ ap (λ l. l ++ (state_bytes t ++ cell_bytes 1 step.head)) (second ∙ ap (λ l. l ++ parts.id.now) first ∙ ap (λ l. (old ++ length l ∷ []) ++ l) id) in
    fourth ∙ ap (λ l. c ++ l) rest ∙ ap (λ l. l ++ flat_map (cell_bytes 1) (front ++ cond step.grows (repeated s ∷ []) [])) whole
    ∙ regroup old (length s.id) s.id (state_bytes t) (cell_bytes 1 step.head) (flat_map (cell_bytes 1) (front ++ cond step.grows (repeated s ∷ []) []))
