-- A legal board's record has at most 166,888 bytes.
use Rattle.std.proofs.Common.{◌≡◌, ℕ, ◌*◌, ◌<◌, ◌≤◌, ◌^◌, true, length, All, Option, Some, None, arith, lit<}
use Rattle.std.proofs.lemmas.Bool.{leb-true}
use Rattle.std.proofs.lemmas.List.Sums.{sum_by-le}
use Rattle.std.proofs.lemmas.Nat.{mul-le}
use Rattle.bs_board.specs.declared.limits.TheConstants.{LONGEST_RECORD}
use Rattle.bs_board.specs.declared.boards.board.Board.{Board}
use Rattle.bs_board.specs.declared.boards.hazards.Hazards.{Hazards}
use Rattle.bs_board.specs.declared.boards.snake.Snake.{Snake}
use Rattle.bs_board.specs.boards.Hazards.{are_fit_hazards}
use Rattle.bs_board.specs.boards.Legal.{IsLegal, IsLegalSnake}
use Rattle.bs_board.specs.commands.Setup.{is_side}
use Rattle.bs_board.specs.records.Record.{hazard_bytes, record_of, snake_record}
use Rattle.bs_board.proofs.records.Lengths.{length_of_hazards, length_of_no_hazards, length_of_record, length_of_snake}
use Rattle.bs_board.proofs.boards.CellsOnBoard.{cells_on_board}
use Rattle.bs_board.proofs.Chains.{and_both}
use Rattle.bs_board.proofs.Utf8.{short_text}

pub side_fits : (cells : ℕ) → is_side cells ≡ true → cells ≤ 25
side_fits cells fits = leb-true _ _ (and_both _ _ fits).1

snake_fits : (b : Board) (seat : ℕ) (s : Snake) → b.turn ≤ 10000 → IsLegalSnake b seat s → length (snake_record s) ≤ 20078
snake_fits b seat s turn legal =
    let name : length s.id ≤ 64 = short_text s.id legal.id in
    let size = length_of_snake s in
    let short = legal.body.short in
    omega arith

-- at most 2,500 cells
pub few_hazards : (width height : ℕ) (h : Hazards) → are_fit_hazards width height (Some h) ≡ true → length h.cells ≤ 2500
few_hazards width height h fits = leb-true _ _ (and_both _ _ (and_both _ _ fits).0).1

hazards_are_short : (width height : ℕ) (hazards : Option Hazards) → are_fit_hazards width height hazards ≡ true → length (hazard_bytes hazards) ≤ 5003
hazards_are_short width height None fits = let none = length_of_no_hazards in omega arith
hazards_are_short width height (Some h) fits =
    let size = length_of_hazards h in
    let few = few_hazards width height h fits in
    omega arith

pub legal_size : (b : Board) → IsLegal b → length (record_of b) ≤ LONGEST_RECORD
legal_size b legal =
    let width : b.width ≤ 25 = side_fits b.width legal.limits.width in
    let height : b.height ≤ 25 = side_fits b.height legal.limits.height in
    let food = and_both _ _ legal.food.fits in
    let cells : length b.food ≤ b.width * b.height = cells_on_board b.width b.height b.food food.0 food.1 in
    let places : b.width * b.height ≤ 25 * 25 = mul-le b.width b.height 25 25 width height in
    let few = legal.limits.few in
    let each : All (λ s. length (snake_record s) ≤ 20078) b.snakes =
    λ seat d within. snake_fits b seat _ legal.limits.turn (legal.snakes seat d within) in
    let seats = sum_by-le (λ s. length (snake_record s)) 20078 b.snakes each in
    let size = length_of_record b in
    let hazards = hazards_are_short b.width b.height b.hazards legal.hazards in
    omega arith

-- so its length is a number that fits
pub legal_size_fits : (b : Board) → IsLegal b → length (record_of b) < 2 ^ 64
legal_size_fits b legal =
    let size = legal_size b legal in
    let small : 166888 < 2 ^ 64 = lit< tt in
    omega arith
