-- A board: what is read is what is written so, and what is written is read again. So a record is of
-- one board.
use Rattle.std.proofs.Common.{◌≡◌, ℕ, zero, suc, Bool, true, cond, List, [], ◌∷◌, ◌++◌, length, Option, Some, None, is_some, refl, sym, ap, subst, ◌∙◌, arith}
use Rattle.std.specs.Prelude.{nat_eq, Result, Ok, Err, IfOk, MatchResult}
use Rattle.std.specs.List.{flat_map, list_all, AllByRecursion}
use Rattle.std.specs.Str.{is_utf8}
use Rattle.std.proofs.lemmas.Bool.{eqb-true}
use Rattle.std.proofs.lemmas.List.{append-nil, nil_from_length}
use Rattle.std.proofs.lemmas.List.Elements.{recursion_from_All}
use Rattle.std.proofs.lemmas.Option.{cond_some}
use Rattle.bs_board.specs.declared.boards.board.Board.{Board}
use Rattle.bs_board.specs.declared.boards.board.Mode.{Mode}
use Rattle.bs_board.specs.declared.records.decode_error.Decode.{Decode}
use Rattle.bs_board.specs.declared.records.decode_error.Decode.TheVariants.{NotARecord, Memory}
use Rattle.bs_board.specs.declared.records.decoding.Head.{Head}
use Rattle.bs_board.specs.declared.boards.point.Point.{Point}
use Rattle.bs_board.specs.declared.boards.hazards.Hazards.{Hazards}
use Rattle.bs_board.specs.declared.boards.snake.Snake.{Snake}
use Rattle.bs_board.specs.boards.Legal.{IsLegal, EachSeat}
use Rattle.bs_board.specs.inner.Decoder.{◌>>=◌, Fails, kind_from_bytes, from_two_bytes, read_cell, read_many, read_snake, read_hazards, read_head, read_board}
use Rattle.bs_board.specs.records.Record.{two_bytes, mode_byte, version_byte, cell_bytes, snake_record, head_bytes, hazard_bytes, record_of}
use Rattle.bs_board.specs.records.Writing.{IsByteCell, IsWritable}
use Rattle.bs_board.specs.inner.Writing.{IsWritableBoard}
use Rattle.bs_board.proofs.Chains.{and_both}
use Rattle.bs_board.proofs.records.Fields.{AreBytes, bind_some, some_is, along, carried, Takes, takes_both, high_back, low_back, number_again, kind_back, kind_again, cell_takes, cell_again}
use Rattle.bs_board.proofs.records.SnakeRecord.{snake_takes, snake_again}
use Rattle.bs_board.proofs.records.HazardRecord.{hazards_take, hazards_again, regrouped}
use Rattle.bs_board.proofs.records.Repeats.{many_takes, many_again}
use Rattle.bs_board.proofs.records.Writable.{legal_is_writable}

-- ---- the bytes before the cells of the food

abbrev head_text : Head → List ℕ
head_text h = (version_byte h.hazardous h.mode ∷ mode_byte h.mode ∷ h.width ∷ h.height ∷ two_bytes h.turn) ++ (h.min_food ∷ h.chance ∷ h.snakes ∷ two_bytes h.food)

head_takes : (bytes : List ℕ) (head : Head) (rest : List ℕ) → AreBytes bytes → read_head bytes ≡ Some (head, rest) → Takes bytes (head_text head) rest
unfolding read_head
head_takes [] head rest fits e = absurd cc
head_takes (v ∷ []) head rest fits e = absurd cc
head_takes (v ∷ a ∷ []) head rest fits e = absurd cc
head_takes (v ∷ a ∷ b ∷ []) head rest fits e = absurd cc
head_takes (v ∷ a ∷ b ∷ c ∷ []) head rest fits e = absurd cc
head_takes (v ∷ a ∷ b ∷ c ∷ d ∷ []) head rest fits e = absurd cc
head_takes (v ∷ a ∷ b ∷ c ∷ d ∷ f ∷ []) head rest fits e = absurd cc
head_takes (v ∷ a ∷ b ∷ c ∷ d ∷ f ∷ g ∷ []) head rest fits e = absurd cc
head_takes (v ∷ a ∷ b ∷ c ∷ d ∷ f ∷ g ∷ h ∷ []) head rest fits e = absurd cc
head_takes (v ∷ a ∷ b ∷ c ∷ d ∷ f ∷ g ∷ h ∷ i ∷ []) head rest fits e = absurd cc
head_takes (v ∷ a ∷ b ∷ c ∷ d ∷ f ∷ g ∷ h ∷ i ∷ j ∷ []) head rest fits e = absurd cc
head_takes (v ∷ mode ∷ width ∷ height ∷ th ∷ tl ∷ min_food ∷ chance ∷ snakes ∷ fh ∷ fl ∷ after) head rest fits e =
    let made : Bool × Mode → Head = λ kind. record {
      hazardous = kind.0;
      mode = kind.1;
      width = width;
      height = height;
      turn = from_two_bytes th tl;
      min_food = min_food;
      chance = chance;
      snakes = snakes;
      food = from_two_bytes fh fl;
    } in
    let b = bind_some (kind_from_bytes v mode) (λ kind. Some (made kind, after)) (head, rest) e in
    let bytes : List ℕ = v ∷ mode ∷ width ∷ height ∷ th ∷ tl ∷ min_food ∷ chance ∷ snakes ∷ fh ∷ fl ∷ after in
    let here : Takes bytes (head_text (made b.0)) after = record {
      parts = let pair = kind_back v mode b.0 b.1 in rw (pair.0, pair.1, high_back th tl (fits 5), low_back th tl (fits 5), high_back fh fl (fits 10), low_back fh fl (fits 10)) refl;
      rest_fits = λ i. fits (suc (suc (suc (suc (suc (suc (suc (suc (suc (suc (suc i)))))))))));
    } in
    carried (λ (r : Head × List ℕ). Takes bytes (head_text r.0) r.1) (made b.0, after) (head, rest) b.2 here

abbrev head_of_board : Board → Head
head_of_board b = record {
  hazardous = is_some b.hazards;
  mode = b.mode;
  width = b.width;
  height = b.height;
  turn = b.turn;
  min_food = b.min_food;
  chance = b.chance;
  snakes = length b.snakes;
  food = length b.food;
}

pub head_again : (b : Board) (rest : List ℕ) → read_head (head_bytes b ++ rest) ≡ Some (head_of_board b, rest)
unfolding read_head
head_again b rest = rw (kind_again (is_some b.hazards) b.mode, number_again b.turn, number_again (length b.food)) refl

-- ---- the board

abbrev board_of : Head → List Point → Option Hazards → List Snake → Board
board_of h food hazards snakes = record {
  mode = h.mode;
  width = h.width;
  height = h.height;
  turn = h.turn;
  min_food = h.min_food;
  chance = h.chance;
  food = food;
  hazards = hazards;
  snakes = snakes;
}

-- what was taken, with its counts, is all of the record
read_whole : (bytes : List ℕ) (h : Head) (after_head : List ℕ) (food : List Point) (after_food : List ℕ) (hazards : Option Hazards) (after_hazards : List ℕ)
    (snakes : List Snake) (rest : List ℕ)
    → Takes bytes (head_text h) after_head → Takes after_head (flat_map (cell_bytes 0) food) after_food → Takes after_food (hazard_bytes hazards) after_hazards
    → Takes after_hazards (flat_map snake_record snakes) rest
    → length food ≡ h.food → is_some hazards ≡ h.hazardous → length snakes ≡ h.snakes → rest ≡ [] → bytes ≡ record_of (board_of h food hazards snakes)
unfolding record_of
read_whole bytes h after_head food after_food hazards after_hazards snakes rest p q o r food_count kind snake_count none =
    let front = head_text h ++ flat_map (cell_bytes 0) food in
    let two = takes_both bytes (head_text h) after_head (flat_map (cell_bytes 0) food) after_food p q in
    let three = takes_both bytes front after_food (hazard_bytes hazards) after_hazards two o in
    let all = takes_both bytes (front ++ hazard_bytes hazards) after_hazards (flat_map snake_record snakes) rest three r in
    let ended : bytes ≡ (front ++ hazard_bytes hazards) ++ flat_map snake_record snakes =
    all.parts ∙ rw none (append-nil ((front ++ hazard_bytes hazards) ++ flat_map snake_record snakes)) in
    rw (food_count, kind, snake_count) ended

-- each snake is writable, and its id a text
pub both_by_recursion : (is_text : List ℕ → Bool) (snakes : List Snake) → AllByRecursion IsWritable snakes → list_all (λ s. is_text s.id) snakes ≡ true
    → AllByRecursion (λ s. IsWritable s × (is_text s.id ≡ true)) snakes
both_by_recursion is_text [] fits texts = tt
both_by_recursion is_text (s ∷ snakes) fits texts =
    let parts = and_both (is_text s.id) (list_all (λ s. is_text s.id) snakes) texts in
    ((fits.0, parts.0), both_by_recursion is_text snakes fits.1 parts.1)

board_takes : (is_text : List ℕ → Bool) (bytes : List ℕ) (b : Board) → AreBytes bytes → read_board is_text bytes ≡ Some b
    → (bytes ≡ record_of b) × (list_all (λ s. is_text s.id) b.snakes ≡ true)
unfolding read_board record_of
board_takes is_text bytes b fits e =
    let all_of : Head → List Point → Option Hazards → List Snake × List ℕ → Option Board =
    λ head food hazards snakes. cond (nat_eq (length snakes.1) 0) (Some (board_of head food hazards snakes.0)) None in
    let behind : Head → List Point → List ℕ → Option Board =
    λ head food bytes. read_hazards head.hazardous bytes >>= λ hazards. read_many (read_snake is_text) head.snakes hazards.1 >>= all_of head food hazards.0 in
    let a = bind_some (read_head bytes) (λ head. read_many (read_cell 0) head.0.food head.1 >>= λ food. behind head.0 food.0 food.1) b e in
    let c = bind_some (read_many (read_cell 0) a.0.0.food a.0.1) (λ food. behind a.0.0 food.0 food.1) b a.2 in
    let h = bind_some (read_hazards a.0.0.hazardous c.0.1) (λ hazards. read_many (read_snake is_text) a.0.0.snakes hazards.1 >>= all_of a.0.0 c.0.0 hazards.0) b c.2 in
    let d = bind_some (read_many (read_snake is_text) a.0.0.snakes h.0.1) (all_of a.0.0 c.0.0 h.0.0) b h.2 in
    let g = cond_some (nat_eq (length d.0.1) 0) (board_of a.0.0 c.0.0 h.0.0 d.0.0) b d.2 in
    let head = head_takes bytes a.0.0 a.0.1 fits a.1 in
    let food =
    many_takes (read_cell 0) (cell_bytes 0) (λ p. true) (λ bytes p rest fits e. (cell_takes 0 bytes p rest fits e, refl)) a.0.0.food a.0.1 c.0.0 c.0.1
    head.rest_fits c.1 in
    let hazards = hazards_take a.0.0.hazardous c.0.1 h.0.0 h.0.1 food.0.rest_fits h.1 in
    let snakes = many_takes (read_snake is_text) snake_record (λ s. is_text s.id) (snake_takes is_text) a.0.0.snakes h.0.1 d.0.0 d.0.1 hazards.0.rest_fits d.1 in
    let none : d.0.1 ≡ [] = nil_from_length d.0.1 (eqb-true (length d.0.1) 0 g.0) in
    let whole = read_whole bytes a.0.0 a.0.1 c.0.0 c.0.1 h.0.0 h.0.1 d.0.0 d.0.1 head food.0 hazards.0 snakes.0 food.1 hazards.1 snakes.1 none in
    along (λ (b : Board). (bytes ≡ record_of b) × (list_all (λ s. is_text s.id) b.snakes ≡ true)) (board_of a.0.0 c.0.0 h.0.0 d.0.0) b g.1 (whole, snakes.2)

board_again : (is_text : List ℕ → Bool) (b : Board) → IsWritableBoard b → list_all (λ s. is_text s.id) b.snakes ≡ true → read_board is_text (record_of b) ≡ Some b
unfolding read_board record_of
board_again is_text b fits texts =
    let P : Snake → Type 0 = λ s. IsWritable s × (is_text s.id ≡ true) in
    let seats = flat_map snake_record b.snakes ++ [] in
    let food = many_again (read_cell 0) (cell_bytes 0) (IsByteCell 0) (cell_again 0) b.food (hazard_bytes b.hazards ++ seats)
    (recursion_from_All (IsByteCell 0) b.food fits.cells) in
    let snakes = many_again (read_snake is_text) snake_record P (snake_again is_text) b.snakes []
    (both_by_recursion is_text b.snakes (recursion_from_All IsWritable b.snakes fits.snakes) texts) in
    let hazards = hazards_again b.hazards seats fits.hazards in
    let parts : record_of b ≡ head_bytes b ++ (flat_map (cell_bytes 0) b.food ++ (hazard_bytes b.hazards ++ seats)) =
    regrouped b ∙ ap (λ (t : List ℕ). head_bytes b ++ (flat_map (cell_bytes 0) b.food ++ (hazard_bytes b.hazards ++ t))) (sym (append-nil (flat_map snake_record b.snakes))) in
    ap (read_board is_text) parts ∙ rw (head_again b (flat_map (cell_bytes 0) b.food ++ (hazard_bytes b.hazards ++ seats)), food, hazards, snakes) refl

-- ---- the laws

pub what_is_read : (bytes : List ℕ) (b : Board) → AreBytes bytes → read_board is_utf8 bytes ≡ Some b → bytes ≡ record_of b
what_is_read bytes b fits e = (board_takes is_utf8 bytes b fits e).0

all_texts : (snakes : List Snake) → EachSeat (λ seat s. is_utf8 s.id ≡ true) snakes → list_all (λ s. is_utf8 s.id) snakes ≡ true
all_texts [] each = refl
all_texts (s ∷ snakes) each =
    let first : is_utf8 s.id ≡ true = each zero s (omega arith) in
    rw first (all_texts snakes (λ seat d within. each (suc seat) d (omega arith)))

pub legal_texts : (b : Board) → IsLegal b → list_all (λ s. is_utf8 s.id) b.snakes ≡ true
legal_texts b legal =
    all_texts b.snakes (λ seat d within. (and_both _ _ (and_both _ _ (legal.snakes seat d within).id).0).0)

pub record_is_read : (bytes : List ℕ) (b : Board) → IsLegal b → bytes ≡ record_of b → read_board is_utf8 bytes ≡ Some b
record_is_read bytes b legal is = ap (read_board is_utf8) is ∙ board_again is_utf8 b (legal_is_writable b legal) (legal_texts b legal)

-- if there is a board, reading can fail only for memory
pub failed_for_memory : (error : Decode) (read : Option Board) (b : Board) → read ≡ Some b → Fails error read → error ≡ Memory
failed_for_memory NotARecord read b is none = absurd cc
failed_for_memory Memory read b is none = refl

all_pass : (snakes : List Snake) → list_all (λ s. true) snakes ≡ true
all_pass [] = refl
all_pass (s ∷ snakes) = all_pass snakes

-- two legal boards with one record are one, whatever bytes their ids have
pub record_is_of_one_board : (a b : Board) → IsLegal a → IsLegal b → record_of a ≡ record_of b → a ≡ b
record_is_of_one_board a b legal_a legal_b same =
    let read_a = board_again (λ bytes. true) a (legal_is_writable a legal_a) (all_pass a.snakes) in
    let read_b = board_again (λ bytes. true) b (legal_is_writable b legal_b) (all_pass b.snakes) in
    some_is a b (sym read_a ∙ ap (read_board (λ bytes. true)) same ∙ read_b)

-- ---- the board that was read, or none where it is not legal

abbrev pub GivesIfLegal : Board → Result Board Decode → Type 0
GivesIfLegal board result = MatchResult result (λ b. IsLegal board × (b ≡ board)) (λ error. (error ≡ NotARecord) × (IsLegal board → ⊥))

pub read_if_legal : (bytes : List ℕ) (board : Board) (result : Result Board Decode) → bytes ≡ record_of board → GivesIfLegal board result
    → IfOk result (λ b. IsLegal b × (bytes ≡ record_of b))
read_if_legal bytes board (Ok b) is given = rw given.1 (given.0, is)
read_if_legal bytes board (Err error) is given = tt

pub legal_is_read : (bytes : List ℕ) (board b : Board) (result : Result Board Decode) → IsLegal b → bytes ≡ record_of b → read_board is_utf8 bytes ≡ Some board
    → GivesIfLegal board result → MatchResult result (λ read. read ≡ b) (λ error. error ≡ Memory)
legal_is_read bytes board b (Ok read) legal is found given = given.1 ∙ some_is board b (sym found ∙ record_is_read bytes b legal is)
legal_is_read bytes board b (Err error) legal is found given =
    let same : b ≡ board = some_is b board (sym (record_is_read bytes b legal is) ∙ found) in
    absurd (given.1 (subst IsLegal same legal))
