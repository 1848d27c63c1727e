-- Where the parts of a record lie in its bytes.
use Rattle.std.proofs.Common.{◌≡◌, ℕ, ◌-◌, ◌*◌, ◌≤◌, Bool, true, false, Option, Some, None, is_some, List, [], ◌∷◌, ◌++◌, length, take, drop, refl, sym, ap, ◌∙◌, append_assoc, arith, length-append}
use Rattle.std.specs.Prelude.{flat_map, slice_index_or, unwrap_or}
use Rattle.std.proofs.lemmas.List.{drop_at, length-drop, take_all, take_at}
use Rattle.bs_board.specs.declared.boards.board.Board.{Board}
use Rattle.bs_board.specs.declared.boards.hazards.Hazards.{Hazards}
use Rattle.bs_board.specs.declared.boards.point.Point.{Point}
use Rattle.bs_board.specs.declared.boards.snake.Snake.{Snake}
use Rattle.bs_board.specs.inner.Decoder.{from_two_bytes}
use Rattle.bs_board.specs.records.Layout.{cells_of, damage_of}
use Rattle.bs_board.specs.records.Record.{cause_byte, killer_byte, mode_byte, version_byte, cell_bytes, head_bytes, hazard_bytes, record_of, snake_record, state_bytes}
use Rattle.bs_board.proofs.records.Fields.{number_again}
use Rattle.bs_board.proofs.records.HazardRecord.{regrouped}
use Rattle.bs_board.proofs.records.Lengths.{length_of_pairs}

-- a pattern's rest is all that follows
pub rest_is : (n : ℕ) (bytes : List ℕ) → take (length bytes - n) (drop n bytes) ≡ drop n bytes
rest_is n bytes = take_all (length bytes - n) (drop n bytes) (omega (arith, length-drop n bytes))

-- what is cut off a text that the bytes begin with, and what follows it
pub cut_text : (text rest bytes front behind : List ℕ) (len : ℕ) → bytes ≡ text ++ rest → len ≡ length text → front ≡ take len bytes → behind ≡ drop len bytes
    → (front ≡ text) × (behind ≡ rest)
cut_text text rest bytes front behind len is long first after =
    (first ∙ ap (take len) is ∙ take_at text rest len (sym long), after ∙ ap (drop len) is ∙ drop_at text rest len (sym long))

-- the cells that are cut off by their number
pub cut_cells : (raised : ℕ) (cells : List Point) (rest bytes front behind : List ℕ) (count : ℕ) → bytes ≡ flat_map (cell_bytes raised) cells ++ rest → count ≡ length cells
    → front ≡ take (2 * count) bytes → behind ≡ drop (2 * count) bytes → (front ≡ flat_map (cell_bytes raised) cells) × (behind ≡ rest)
cut_cells raised cells rest bytes front behind count is many =
    let pairs = length_of_pairs (cell_bytes raised) (λ p. refl) cells in
    cut_text (flat_map (cell_bytes raised) cells) rest bytes front behind (2 * count) is (ap (λ n. 2 * n) many ∙ sym pairs)

-- ---- a snake

regrouped_snake : (s : Snake) (rest : List ℕ) → snake_record s ++ rest ≡ length s.id ∷ (s.id ++ (state_bytes s ++ (flat_map (cell_bytes 1) s.body ++ rest)))
unfolding snake_record
regrouped_snake s rest =
    append_assoc ((length s.id ∷ s.id) ++ state_bytes s) (flat_map (cell_bytes 1) s.body) rest ∙ append_assoc (length s.id ∷ s.id) (state_bytes s) (flat_map (cell_bytes 1) s.body ++ rest)

-- a snake has some bytes
pub some_snake : (s : Snake) (rest bytes : List ℕ) → bytes ≡ snake_record s ++ rest → 1 ≤ length bytes
unfolding snake_record
some_snake s rest bytes is = rw is (omega arith)

pub id_is_cut : (s : Snake) (rest bytes front behind : List ℕ) (len : ℕ) → bytes ≡ snake_record s ++ rest → len ≡ slice_index_or bytes 0 0
    → front ≡ take len (take (length bytes - 1) (drop 1 bytes)) → behind ≡ drop len (take (length bytes - 1) (drop 1 bytes))
    → (front ≡ s.id) × (behind ≡ state_bytes s ++ (flat_map (cell_bytes 1) s.body ++ rest))
id_is_cut s rest bytes front behind len is long first after =
    let whole = is ∙ regrouped_snake s rest in
    let many : len ≡ length s.id = long ∙ ap (λ b. slice_index_or b 0 0) whole in
    let left : take (length bytes - 1) (drop 1 bytes) ≡ s.id ++ (state_bytes s ++ (flat_map (cell_bytes 1) s.body ++ rest)) = rest_is 1 bytes ∙ ap (drop 1) whole in
    cut_text s.id (state_bytes s ++ (flat_map (cell_bytes 1) s.body ++ rest)) (take (length bytes - 1) (drop 1 bytes)) front behind len left many first after

-- the numbers between the id and the cells
pub record StateParts (s : Snake) (rest bytes : List ℕ) : Type 0 where
  pub health : slice_index_or bytes 0 0 ≡ s.health
  pub cause : slice_index_or bytes 1 0 ≡ cause_byte s.cause
  pub killer : slice_index_or bytes 2 0 ≡ killer_byte s.killer
  pub out : from_two_bytes (slice_index_or bytes 3 0) (slice_index_or bytes 4 0) ≡ unwrap_or s.out 0
  pub parts : from_two_bytes (slice_index_or bytes 5 0) (slice_index_or bytes 6 0) ≡ length s.body
  pub left : take (length bytes - 7) (drop 7 bytes) ≡ flat_map (cell_bytes 1) s.body ++ rest

pub state_parts : (s : Snake) (rest bytes : List ℕ) → bytes ≡ state_bytes s ++ (flat_map (cell_bytes 1) s.body ++ rest) → StateParts s rest bytes
state_parts s rest bytes is =
    record {
      health = rw is refl;
      cause = rw is refl;
      killer = rw is refl;
      out = rw is (number_again (unwrap_or s.out 0));
      parts = rw is (number_again (length s.body));
      left = rest_is 7 bytes ∙ ap (drop 7) is;
    }

-- the cells are skipped by their number
pub cells_skipped : (s : Snake) (rest bytes : List ℕ) (count : ℕ) → bytes ≡ state_bytes s ++ (flat_map (cell_bytes 1) s.body ++ rest)
    → count ≡ from_two_bytes (slice_index_or bytes 5 0) (slice_index_or bytes 6 0)
    → (2 * count ≤ length (take (length bytes - 7) (drop 7 bytes))) × (drop (2 * count) (take (length bytes - 7) (drop 7 bytes)) ≡ rest)
cells_skipped s rest bytes count is many =
    let found = state_parts s rest bytes is in
    let cells = flat_map (cell_bytes 1) s.body in
    let pairs : length cells ≡ 2 * length s.body = length_of_pairs (cell_bytes 1) (λ p. refl) s.body in
    let size : 2 * count ≡ length cells = ap (λ n. 2 * n) (many ∙ found.parts) ∙ sym pairs in
    let long = ap length found.left ∙ length-append cells rest in
    (omega arith, ap (drop (2 * count)) found.left ∙ drop_at cells rest (2 * count) (sym size))

-- ---- the hazards

pub no_hazards_are_split : (h : Option Hazards) (rest bytes : List ℕ) (hazardous : Bool) → hazardous ≡ false → hazardous ≡ is_some h → bytes ≡ hazard_bytes h ++ rest
    → (0 ≡ damage_of h) × (◌≡◌ {A = List ℕ} [] (flat_map (cell_bytes 0) (cells_of h))) × (bytes ≡ rest)
unfolding hazard_bytes
no_hazards_are_split None rest bytes hazardous none kind is = (refl, refl, is)
no_hazards_are_split (Some h) rest bytes hazardous none kind is = let wrong : false ≡ true = sym none ∙ kind in absurd cc

-- the hazards have some bytes
pub some_hazards : (h : Option Hazards) (rest bytes : List ℕ) (hazardous : Bool) → hazardous ≡ true → hazardous ≡ is_some h → bytes ≡ hazard_bytes h ++ rest
    → 3 ≤ length bytes
unfolding hazard_bytes
some_hazards None rest bytes hazardous some kind is = let wrong : true ≡ false = sym some ∙ kind in absurd cc
some_hazards (Some h) rest bytes hazardous some kind is = rw is (omega arith)

pub hazards_are_split : (h : Option Hazards) (rest bytes cells behind : List ℕ) (hazardous : Bool) (count : ℕ) → hazardous ≡ true → hazardous ≡ is_some h
    → bytes ≡ hazard_bytes h ++ rest → count ≡ from_two_bytes (slice_index_or bytes 1 0) (slice_index_or bytes 2 0)
    → cells ≡ take (2 * count) (take (length bytes - 3) (drop 3 bytes)) → behind ≡ drop (2 * count) (take (length bytes - 3) (drop 3 bytes))
    → (slice_index_or bytes 0 0 ≡ damage_of h) × (cells ≡ flat_map (cell_bytes 0) (cells_of h)) × (behind ≡ rest)
unfolding hazard_bytes
hazards_are_split None rest bytes cells behind hazardous count some kind is many first after = let wrong : true ≡ false = sym some ∙ kind in absurd cc
hazards_are_split (Some h) rest bytes cells behind hazardous count some kind is many first after =
    let number : from_two_bytes (slice_index_or bytes 1 0) (slice_index_or bytes 2 0) ≡ length h.cells = rw is (number_again (length h.cells)) in
    let left : take (length bytes - 3) (drop 3 bytes) ≡ flat_map (cell_bytes 0) h.cells ++ rest = rest_is 3 bytes ∙ ap (drop 3) is in
    let cut = cut_cells 0 h.cells rest (take (length bytes - 3) (drop 3 bytes)) cells behind count left (many ∙ number) first after in
    (rw is refl, cut.0, cut.1)

-- ---- a board

-- a board has the bytes of its numbers
pub head_fits : (b : Board) (bytes : List ℕ) → bytes ≡ record_of b → 11 ≤ length bytes
unfolding record_of
head_fits b bytes is =
    let snakes = length-append (head_bytes b ++ flat_map (cell_bytes 0) b.food) (flat_map snake_record b.snakes) in
    let food = length-append (head_bytes b) (flat_map (cell_bytes 0) b.food) in
    let head : length (head_bytes b) ≡ 11 = refl in
    rw is (omega arith)

-- the numbers before the cells of the food
pub record HeadParts (b : Board) (bytes : List ℕ) : Type 0 where
  pub version : slice_index_or bytes 0 0 ≡ version_byte (is_some b.hazards) b.mode
  pub mode : slice_index_or bytes 1 0 ≡ mode_byte b.mode
  pub width : slice_index_or bytes 2 0 ≡ b.width
  pub height : slice_index_or bytes 3 0 ≡ b.height
  pub turn : from_two_bytes (slice_index_or bytes 4 0) (slice_index_or bytes 5 0) ≡ b.turn
  pub min_food : slice_index_or bytes 6 0 ≡ b.min_food
  pub chance : slice_index_or bytes 7 0 ≡ b.chance
  pub seats : slice_index_or bytes 8 0 ≡ length b.snakes
  pub food : from_two_bytes (slice_index_or bytes 9 0) (slice_index_or bytes 10 0) ≡ length b.food
  pub left : take (length bytes - 11) (drop 11 bytes) ≡ flat_map (cell_bytes 0) b.food ++ (hazard_bytes b.hazards ++ flat_map snake_record b.snakes)

pub head_parts : (b : Board) (bytes : List ℕ) → bytes ≡ record_of b → HeadParts b bytes
unfolding record_of
head_parts b bytes is =
    let whole = is ∙ regrouped b in
    record {
      version = rw whole refl;
      mode = rw whole refl;
      width = rw whole refl;
      height = rw whole refl;
      turn = rw whole (number_again b.turn);
      min_food = rw whole refl;
      chance = rw whole refl;
      seats = rw whole refl;
      food = rw whole (number_again (length b.food));
      left = rest_is 11 bytes ∙ ap (drop 11) whole;
    }
