-- The food that is left, cell by cell.
use Rattle.std.proofs.Common.{◌≡◌, ℕ, zero, suc, ◌+◌, ◌*◌, ◌/◌, ◌<◌, ◌≤◌, Bool, cond, List, [], ◌∷◌, ◌++◌, length, take, get_or, All, pos, nat_abs, ◌+ℤ◌, refl, sym, ap, ◌∙◌, arith, inl, inr, append_assoc, append-nil}
use Rattle.std.specs.List.{filter}
use Rattle.std.proofs.lemmas.Bool.{cases_Bool}
use Rattle.std.proofs.lemmas.List.Elements.{All-get_or, filter_more}
use Rattle.std.proofs.lemmas.List.{take_all}
use Rattle.std.proofs.lemmas.Grind.{flat_map-append}
use Rattle.bs_board.specs.declared.boards.point.Point.{Point}
use Rattle.bs_board.specs.boards.Cell.{origin}
use Rattle.bs_board.specs.records.Record.{cell_bytes}
use Rattle.bs_board.specs.records.Writing.{IsByteCell}
use Rattle.bs_board.proofs.records.Lengths.{length_of_pairs}
use Rattle.bs_food.specs.Free.{point_at}
use Rattle.bs_plane.specs.declared.cell.Cell.{Cell}
use Rattle.bs_plane.specs.Food.{food_bytes}
use Rattle.bs_plane.proofs.Integers.{not_raised}
use Rattle.bs_plane.proofs.Places.{point_of}

pub pair_bytes : (cells : List Point) (i : ℕ) → i < length cells
    → (get_or (food_bytes cells) (2 * i) 0 ≡ nat_abs ((get_or cells i origin).x +ℤ pos 0))
    × (get_or (food_bytes cells) (2 * i + 1) 0 ≡ nat_abs ((get_or cells i origin).y +ℤ pos 0))
pair_bytes [] i within = absurd (omega arith)
pair_bytes (p ∷ ps) zero within = (refl, refl)
pair_bytes (p ∷ ps) (suc i) within =
    let rest = pair_bytes ps i (omega arith) in
    let x : 2 * suc i ≡ suc (suc (2 * i)) = omega arith in
    let y : 2 * suc i + 1 ≡ suc (suc (2 * i + 1)) = omega arith in
    (rw x rest.0, rw y rest.1)

pub food_length : (cells : List Point) → length (food_bytes cells) ≡ 2 * length cells
food_length cells = length_of_pairs (cell_bytes 0) (λ p. refl) cells

-- the cell that two bytes of the food stand for
pub cell_read : (cells : List Point) (food : List ℕ) (i x y : ℕ) → food ≡ food_bytes cells → All (IsByteCell 0) cells → i < length cells
    → x ≡ get_or food (2 * i) 0 → y ≡ get_or food (2 * i + 1) 0 → point_at x y ≡ get_or cells i origin
cell_read cells food i x y is fits within first second =
    let p = get_or cells i origin in
    let fit = All-get_or (IsByteCell 0) cells i origin within fits in
    let bytes = pair_bytes cells i within in
    let column : pos x ≡ p.x = ap pos (first ∙ ap (λ b. get_or b (2 * i) 0) is ∙ bytes.0) ∙ not_raised p.x fit.x.0 in
    let row : pos y ≡ p.y = ap pos (second ∙ ap (λ b. get_or b (2 * i + 1) 0) is ∙ bytes.1) ∙ not_raised p.y fit.y.0 in
    ap (λ z. point_of z (pos y)) column ∙ ap (λ z. point_of p.x z) row

-- the bytes of a cell are its column and its row
pub bytes_of_cell : (x y : ℕ) → cell_bytes 0 (point_at x y) ≡ x ∷ y ∷ []
bytes_of_cell x y =
    let column : x + 0 ≡ x = omega arith in
    let row : y + 0 ≡ y = omega arith in
    ap (λ n. n ∷ (y + 0) ∷ []) column ∙ ap (λ n. x ∷ n ∷ []) row

pub food_more : (foods : List Point) (x y : ℕ) → food_bytes (foods ++ point_at x y ∷ []) ≡ food_bytes foods ++ x ∷ y ∷ []
food_more foods x y =
    flat_map-append (cell_bytes 0) foods (point_at x y ∷ []) ∙ ap (λ t. food_bytes foods ++ t) (append-nil (cell_bytes 0 (point_at x y)) ∙ bytes_of_cell x y)

one_kept : (has : Bool) (p : Point) (x y : ℕ) → point_at x y ≡ p → cond has (x ∷ y ∷ []) [] ≡ food_bytes (cond has (p ∷ []) [])
one_kept has p x y is = elim (cases_Bool has) [
  | inl there ↦ rw there (sym (ap food_bytes (ap (λ q. q ∷ []) (sym is)) ∙ append-nil (cell_bytes 0 (point_at x y)) ∙ bytes_of_cell x y))
  | inr gone ↦ rw gone refl
]

-- one cell more
pub kept_more : (on : Point → Cell) (cells : List Point) (food first old new : List ℕ) (i x y : ℕ) → food ≡ food_bytes cells → All (IsByteCell 0) cells → i < length cells
    → x ≡ get_or food (2 * i) 0 → y ≡ get_or food (2 * i + 1) 0
    → old ≡ first ++ food_bytes (filter (λ p. (on p).food) (take i cells)) → new ≡ old ++ cond (on (point_at x y)).food (x ∷ y ∷ []) []
    → new ≡ first ++ food_bytes (filter (λ p. (on p).food) (take (i + 1) cells))
kept_more on cells food first old new i x y is fits within at_x at_y before now =
    let p = get_or cells i origin in
    let cell = cell_read cells food i x y is fits within at_x at_y in
    let has = (on p).food in
    let done = filter (λ q. (on q).food) (take i cells) in
    let same : cond (on (point_at x y)).food (x ∷ y ∷ []) [] ≡ cond has (x ∷ y ∷ []) [] = ap (λ q. cond (on q).food (x ∷ y ∷ []) []) cell in
    let one = same ∙ one_kept has p x y cell in
    let more : food_bytes (filter (λ q. (on q).food) (take (i + 1) cells)) ≡ food_bytes done ++ food_bytes (cond has (p ∷ []) []) =
    ap food_bytes (filter_more (λ q. (on q).food) cells i origin within) ∙ flat_map-append (cell_bytes 0) done (cond has (p ∷ []) []) in
    now ∙ ap (λ t. t ++ cond (on (point_at x y)).food (x ∷ y ∷ []) []) before ∙ ap (λ t. (first ++ food_bytes done) ++ t) one
    ∙ append_assoc first (food_bytes done) (food_bytes (cond has (p ∷ []) [])) ∙ ap (λ t. first ++ t) (sym more)

-- all cells
pub kept_all : (on : Point → Cell) (cells : List Point) (food first now : List ℕ) (i : ℕ) → food ≡ food_bytes cells → length food / 2 ≤ i
    → now ≡ first ++ food_bytes (filter (λ p. (on p).food) (take i cells)) → now ≡ first ++ food_bytes (filter (λ p. (on p).food) cells)
kept_all on cells food first now i is end so_far =
    let long : length food ≡ 2 * length cells = ap length is ∙ food_length cells in
    let all : length cells ≤ i = omega arith in
    so_far ∙ ap (λ l. first ++ food_bytes (filter (λ p. (on p).food) l)) (take_all i cells all)
