-- The text of snakes and boards, from the parts of their records.
use Rattle.std.proofs.Common.{◌≡◌, ℕ, zero, suc, ◌+◌, ◌<◌, Bool, true, List, [], ◌∷◌, ◌++◌, codes, length, drop, get_or, Option, Some, None, is_some, refl, sym, ap, ◌∙◌, append_assoc, arith}
use Rattle.std.specs.Prelude.{decimal, flat_map, map, slice_get}
use Rattle.std.proofs.lemmas.List.{drop_more}
use Rattle.json.specs.Print.{escape, escape_byte}
use Rattle.serde_json.specs.Data.{Data, boolean, null, string}
use Rattle.serde_json.specs.View.{items_of}
use Rattle.serde_json.specs.Written.{comma_if, compact_text, items_text}
use Rattle.bs_board.specs.declared.boards.board.Board.{Board}
use Rattle.bs_board.specs.declared.boards.hazards.Hazards.{Hazards}
use Rattle.bs_board.specs.declared.boards.snake.Snake.{Snake}
use Rattle.bs_board.specs.declared.records.layout.BoardBytes.{BoardBytes}
use Rattle.bs_board.specs.declared.records.layout.SnakeBytes.{SnakeBytes}
use Rattle.bs_board.specs.boards.Over.{is_over}
use Rattle.bs_board.specs.records.Layout.{IsBoardBytes, IsSnakeBytes, cells_of, damage_of}
use Rattle.bs_board.specs.records.Record.{cell_bytes, snake_record}
use Rattle.bs_board.specs.records.Writing.{IsWritable}
use Rattle.bs_board.specs.inner.Writing.{AreWritableHazards, IsWritableBoard}
use Rattle.bs_json.specs.Boards.{board_data, cells_data, killer_data, mode_text, snake_data, snakes_data}
use Rattle.bs_json.specs.inner.BoardText.{back_pieces, board_of, cells_of as shown_cells, front_pieces, hazards_of, snake_of, snake_pieces}
use Rattle.bs_json.specs.Text.{Text, put}
use Rattle.bs_json.proofs.Puts.{put_put}
use Rattle.bs_json.proofs.ShownCells.{cells_again}

-- ---- the snakes and the board in the bytes of a record

pub is_snake : (s : Snake) (parts : SnakeBytes) → IsWritable s → IsSnakeBytes s parts → snake_of parts ≡ s
is_snake s parts fits is =
    let body = cells_again 1 s.body parts.body.now fits.cells is.body in
    rw (is.id, is.health, is.cause, is.killer, is.out fits, body) refl

hazards_again : (hazards : Option Hazards) (hazardous : Bool) (damage : ℕ) (bytes : List ℕ) → AreWritableHazards hazards → hazardous ≡ is_some hazards
    → damage ≡ damage_of hazards → bytes ≡ flat_map (cell_bytes 0) (cells_of hazards) → hazards_of hazardous damage bytes ≡ hazards
hazards_again None hazardous damage bytes fits some hurts is = rw some refl
hazards_again (Some h) hazardous damage bytes fits some hurts is = rw (some, hurts, cells_again 0 h.cells bytes fits.cells is) refl

pub is_board : (b : Board) (parts : BoardBytes) → IsWritableBoard b → IsBoardBytes b parts → board_of parts b.snakes ≡ b
is_board b parts fits is =
    let food = cells_again 0 b.food parts.food.now fits.cells is.food in
    let hazards = hazards_again b.hazards parts.hazardous parts.damage parts.hazards.now fits.hazards is.hazardous is.damage is.hazards in
    rw (is.mode, is.width, is.height, is.turn, is.min_food, is.chance, food, hazards) refl

-- ---- one snake

pub snake_is : (snakes : List Snake) (s : Snake) → snake_pieces (killer_data snakes s.killer) s ≡ compact_text (snake_data snakes s)
unfolding escape_byte snake_data
snake_is snakes s = refl

pub snake_text : (snakes : List Snake) (s : Snake) (parts : SnakeBytes) (by : Data) → IsWritable s → IsSnakeBytes s parts → by ≡ killer_data snakes parts.killer
    → snake_pieces by (snake_of parts) ≡ compact_text (snake_data snakes s)
snake_text snakes s parts by fits is by_is =
    let same = is_snake s parts fits is in
    ap (λ d. snake_pieces d (snake_of parts)) by_is ∙ ap (λ (t : Snake). snake_pieces (killer_data snakes t.killer) t) same ∙ snake_is snakes s

-- the members of a snake that is not eliminated, of which three have no value
pub living_text : (snake : SnakeBytes) → snake.cause ≡ None → snake.out ≡ None
    → codes "{\"body\":" ++ (compact_text (cells_data (shown_cells 1 snake.body.now)) ++ (codes ",\"by\":null,\"cause\":null,\"health\":" ++ (decimal snake.health
    ++ (codes ",\"id\":\"" ++ (escape snake.id.now ++ codes "\",\"out\":null}"))))) ≡ snake_pieces null (snake_of snake)
unfolding escape_byte
living_text snake no_cause not_out = rw (no_cause, not_out, append_assoc (escape snake.id.now) (34 ∷ []) (codes ",\"out\":null}")) refl

-- ---- all snakes

pub nobody : Snake
nobody = record { id = []; body = []; health = 0; cause = None; killer = None; out = None }

-- the record of the snake at i precedes those of the snakes after it
pub split_at : (all : List Snake) (i : ℕ) (left : List ℕ) → i < length all → left ≡ flat_map snake_record (drop i all)
    → left ≡ snake_record (get_or all i nobody) ++ flat_map snake_record (drop (i + 1) all)
split_at all i left within is = is ∙ ap (flat_map snake_record) (drop_more all i nobody within)

pub found_at : (all : List Snake) (seat : ℕ) (s : Snake) → slice_get all seat ≡ Some s → (seat < length all) × (get_or all seat nobody ≡ s)
found_at [] seat s found = absurd cc
found_at (first ∷ all) zero s found = (omega arith, cc)
found_at (first ∷ all) (suc seat) s found = let rest = found_at all seat s found in (let less = rest.0 in omega arith, rest.1)

-- the text so far, and that of the values that are left
pub one_listed : {A : Type 0} (value : A → Data) (t0 t1 total : Text) (later : Bool) (here : List A) (x : A) (rest : List A) → here ≡ x ∷ rest
    → t1 ≡ put t0 (comma_if later ++ compact_text (value x)) → put t0 (items_text later (items_of (map value here))) ≡ total → put t1 (items_text true (items_of (map value rest))) ≡ total
one_listed value t0 t1 total later here x rest split one so_far =
    let others = items_text true (items_of (map value rest)) in
    ap (λ t. put t others) one ∙ put_put t0 (comma_if later ++ compact_text (value x)) others
    ∙ ap (put t0) (append_assoc (comma_if later) (compact_text (value x)) others)
    ∙ ap (λ xs. put t0 (items_text later (items_of (map value xs)))) (sym split) ∙ so_far

-- ---- a board

regroup_board : (a food b chance c height d min e mode f over g snakes back : List ℕ)
    → (a ++ (food ++ (b ++ (chance ++ (c ++ (height ++ (d ++ (min ++ (e ++ (mode ++ (f ++ (over ++ g)))))))))))) ++ (snakes ++ back)
    ≡ a ++ (food ++ (b ++ (chance ++ (c ++ (height ++ (d ++ (min ++ (e ++ (mode ++ (f ++ (over ++ (g ++ (snakes ++ back)))))))))))))
regroup_board a food b chance c height d min e mode f over g snakes back = simp append_assoc

regroup_hazardous : (a food b chance h damage k cells c height d min e mode f over g snakes back : List ℕ)
    → (a ++ (food ++ (b ++ (chance ++ ((h ++ (damage ++ (k ++ cells))) ++ (c ++ (height ++ (d ++ (min ++ (e ++ (mode ++ (f ++ (over ++ g))))))))))))) ++ (snakes ++ back)
    ≡ a ++ (food ++ (b ++ (chance ++ (h ++ (damage ++ (k ++ (cells ++ (c ++ (height ++ (d ++ (min ++ (e ++ (mode ++ (f ++ (over ++ (g ++ (snakes ++ back)))))))))))))))))
regroup_hazardous a food b chance h damage k cells c height d min e mode f over g snakes back = simp append_assoc

board_with : (b : Board) (hazards : Option Hazards)
    → front_pieces (is_over b) (record b { hazards = hazards }) ++ (compact_text (snakes_data b.snakes) ++ back_pieces b) ≡ compact_text (board_data (record b { hazards = hazards }))
unfolding escape_byte board_data
board_with b None =
    regroup_board (codes "{\"food\":") (compact_text (cells_data b.food)) (codes ",\"food_chance\":") (decimal b.chance) (codes ",\"height\":") (decimal b.height)
    (codes ",\"min_food\":") (decimal b.min_food) (codes ",\"mode\":") (compact_text (string (mode_text b.mode))) (codes ",\"over\":") (compact_text (boolean (is_over b)))
    (codes ",\"snakes\":") (compact_text (snakes_data b.snakes)) (back_pieces b)
board_with b (Some h) =
    regroup_hazardous (codes "{\"food\":") (compact_text (cells_data b.food)) (codes ",\"food_chance\":") (decimal b.chance) (codes ",\"hazard_damage\":") (decimal h.damage)
    (codes ",\"hazards\":") (compact_text (cells_data h.cells)) (codes ",\"height\":") (decimal b.height)
    (codes ",\"min_food\":") (decimal b.min_food) (codes ",\"mode\":") (compact_text (string (mode_text b.mode))) (codes ",\"over\":") (compact_text (boolean (is_over b)))
    (codes ",\"snakes\":") (compact_text (snakes_data b.snakes)) (back_pieces b)

-- the members up to the snakes, the snakes, and what follows them
pub board_is : (b : Board) → front_pieces (is_over b) b ++ (compact_text (snakes_data b.snakes) ++ back_pieces b) ≡ compact_text (board_data b)
board_is b = board_with b b.hazards

pub board_text : (b : Board) (parts : BoardBytes) (over : Bool) → IsWritableBoard b → IsBoardBytes b parts → over ≡ is_over b
    → front_pieces over (board_of parts []) ++ (compact_text (snakes_data b.snakes) ++ back_pieces (board_of parts [])) ≡ compact_text (board_data b)
board_text b parts over fits is over_is =
    let pieces = λ (over : Bool) (shown : Board). front_pieces over shown ++ (compact_text (snakes_data b.snakes) ++ back_pieces shown) in
    ap (λ over. pieces over (board_of parts b.snakes)) over_is ∙ ap (pieces (is_over b)) (is_board b parts fits is) ∙ board_is b
