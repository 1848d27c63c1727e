-- The lengths of records.
use Rattle.std.proofs.Common.{◌≡◌, ◌+◌, ◌*◌, List, [], ◌∷◌, length, refl, arith, length-append, sum_by, Some, None}
use Rattle.std.proofs.lemmas.List.Concat.{length-flat_map}
use Rattle.std.specs.List.{flat_map}
use Rattle.std.specs.Prelude.{unwrap_or}
use Rattle.bs_board.specs.declared.boards.board.Board.{Board}
use Rattle.bs_board.specs.declared.boards.hazards.Hazards.{Hazards}
use Rattle.bs_board.specs.declared.boards.snake.Snake.{Snake}
use Rattle.bs_board.specs.records.Record.{record_of, hazard_bytes, snake_record, cell_bytes, two_bytes, cause_byte, killer_byte}

-- two bytes a cell
pub length_of_pairs : {X A : Type 0} (f : X → List A) → ((x : X) → length (f x) ≡ 2) → (xs : List X) → length (flat_map f xs) ≡ 2 * length xs
length_of_pairs f pair [] = refl
length_of_pairs f pair (x ∷ xs) =
    let here = pair x in
    let rest = length_of_pairs f pair xs in
    let both = length-append (f x) (flat_map f xs) in
    omega arith

pub length_of_snake : (s : Snake) → length (snake_record s) ≡ 8 + length s.id + 2 * length s.body
unfolding snake_record
length_of_snake s =
    let parts = length_of_pairs (cell_bytes 1) (λ p. refl) s.body in
    let name = length-append (length s.id ∷ s.id) (s.health ∷ cause_byte s.cause ∷ killer_byte s.killer ∷ two_bytes (unwrap_or s.out 0)) in
    simp length-append (omega arith)

pub length_of_no_hazards : length (hazard_bytes None) ≡ 0
unfolding hazard_bytes
length_of_no_hazards = refl

pub length_of_hazards : (h : Hazards) → length (hazard_bytes (Some h)) ≡ 3 + 2 * length h.cells
unfolding hazard_bytes
length_of_hazards h =
    let cells = length_of_pairs (cell_bytes 0) (λ p. refl) h.cells in
    omega arith

pub length_of_record : (b : Board) → length (record_of b) ≡ 11 + 2 * length b.food + length (hazard_bytes b.hazards) + sum_by (λ s. length (snake_record s)) b.snakes
unfolding record_of
length_of_record b =
    let food = length_of_pairs (cell_bytes 0) (λ p. refl) b.food in
    let seats = length-flat_map snake_record b.snakes in
    simp length-append (omega arith)
