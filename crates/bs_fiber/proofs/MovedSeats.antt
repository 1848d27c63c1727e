-- The seats that a part moves, and their records in its block.
use Rattle.std.proofs.Common.{◌≡◌, ℕ, ◌+◌, ◌-◌, ◌*◌, ◌<◌, ◌≤◌, Bool, true, false, List, [], ◌∷◌, ◌++◌, length, take, drop, map, get_or, All, Option, Some, None, refl, sym, ap, subst, ◌∙◌, arith, min, length-take}
use Rattle.std.specs.Prelude.{flat_map, is_none, slice_set}
use Rattle.std.proofs.lemmas.List.{drop_more, get_or-drop, get_or-map, get_or-take, length-drop, length-map, nil_from_length}
use Rattle.std.proofs.lemmas.List.Elements.{All-drop, All-map, All-take}
use Rattle.bs_block.specs.Bytes.{padded}
use Rattle.bs_block.specs.Rounding.{rounded}
use Rattle.bs_board.specs.declared.boards.board.Board.{Board}
use Rattle.bs_board.specs.declared.boards.point.Point.{Point}
use Rattle.bs_board.specs.declared.boards.point.Direction.{Direction}
use Rattle.bs_board.specs.declared.boards.snake.Snake.{Snake}
use Rattle.bs_board.specs.declared.boards.snake.Cause.{Cause}
use Rattle.bs_board.specs.declared.records.layout.SnakeBytes.{SnakeBytes}
use Rattle.bs_board.specs.boards.Cell.{head_of}
use Rattle.bs_board.specs.boards.Legal.{IsLegal}
use Rattle.bs_board.specs.boards.Over.{is_living}
use Rattle.bs_board.specs.boards.Wrap.{wrap_of}
use Rattle.bs_board.specs.records.FitSnake.{IsFitSnake}
use Rattle.bs_board.specs.records.Layout.{IsSnakeBytes}
use Rattle.bs_board.specs.records.Record.{cell_bytes, snake_record}
use Rattle.bs_board.specs.records.Stepped.{CanStep, stepped}
use Rattle.bs_board.specs.records.Writing.{IsByteCell}
use Rattle.bs_board.proofs.records.Lengths.{length_of_pairs, length_of_snake}
use Rattle.bs_board.proofs.records.Writable.{legal_is_writable, near_is_byte}
use Rattle.bs_rules.specs.Motion.{direction_taken, given_to, moved, moved_seats, neighbor, second_of}
use Rattle.bs_rules.proofs.Movable.{legal_has_sides, legal_is_movable}
use Rattle.bs_rules.proofs.NextHead.{stepped_is_moved}
use Rattle.bs_pool.specs.declared.owned.Owned.{Owned}
use Rattle.bs_fiber.specs.declared.piece.Piece.{Piece}
use Rattle.bs_fiber.specs.Frames.{frame_of, pieces_from}
use Rattle.bs_fiber.specs.declared.input.Input.{Input}
use Rattle.bs_fiber.specs.Seeing.{IsBoardOf, IsSeen}
use Rattle.bs_fiber.specs.Tickets.{frames_in, names_of}
use Rattle.bs_fiber.specs.Work.{moved_part, moves_in, seats_of, snakes_in, wrap_in}
use Rattle.bs_game.specs.declared.view.View.{View}
use Rattle.bs_fiber.specs.inner.Moving.{BeginWith, IsSeat, moved_by}
use Rattle.bs_fiber.proofs.FitSnakes.{moved_are_fit}
use Rattle.bs_fiber.proofs.Framed.{block_more, next_fits, piece_pushed}

-- each seat of a legal board
pub seat_there : (b : Board) (seat : ℕ) (d : Snake) → IsLegal b → seat < length b.snakes → IsSeat (wrap_of b) (get_or b.snakes seat d)
seat_there b seat d legal within = record {
  sides = legal_has_sides b legal;
  fits = (legal_is_writable b legal).snakes seat d within;
  body = legal_is_movable b legal seat d within;
  long = (legal.snakes seat d within).body.long;
  moved = λ given. moved_are_fit b legal (λ _. given) seat d within;
}

module _ (wrap : Option (ℕ × ℕ)) (s : Snake) (seat : IsSeat wrap s) where
  -- the cell that the head steps to
  abbrev pub next_cell : Option Direction → Point
  next_cell given = neighbor wrap (head_of s.body) (direction_taken wrap given (head_of s.body ∷ second_of s.body ∷ []))

  pub can_step : is_living s ≡ true → CanStep s
  can_step lives = let long = seat.long in record { fits = seat.fits; lives = lives; some = omega arith }

  pub next_is_byte : (given : Option Direction) → is_living s ≡ true → IsByteCell 1 (next_cell given)
  next_is_byte given lives =
      let same = stepped_is_moved wrap given s lives seat.long in
      let fit : IsFitSnake (stepped (next_cell given) s) = subst IsFitSnake (sym same) (seat.moved given) in
      near_is_byte 25 25 (next_cell given) (omega arith) (omega arith) (fit.near 0 (next_cell given) (omega arith))

  pub record_moved : (given : Option Direction) (head : Point) (bytes : List ℕ) → is_living s ≡ true → head ≡ next_cell given → bytes ≡ snake_record (stepped head s)
      → bytes ≡ snake_record (moved wrap given s)
  record_moved given head bytes lives is wrote = wrote ∙ ap (λ (p : Point). snake_record (stepped p s)) is ∙ ap snake_record (stepped_is_moved wrap given s lives seat.long)

  pub record_stays : (given : Option Direction) → is_living s ≡ false → s ≡ moved wrap given s
  record_stays given out = rw out refl

  -- a body has bytes for its first two cells
  pub some_bytes : (parts : SnakeBytes) → IsSnakeBytes s parts → 4 ≤ length parts.body.now
  some_bytes parts shows =
      let long = seat.long in
      let pairs = length_of_pairs (cell_bytes 1) (λ p. refl) s.body in
      omega (arith, ap length shows.body)

  pub lives_as_shown : (parts : SnakeBytes) (lives : Bool) → IsSnakeBytes s parts → lives ≡ is_none parts.cause → lives ≡ is_living s
  lives_as_shown parts lives shows is = is ∙ ap (λ (cause : Option Cause). is_none cause) shows.cause

  -- a moved snake's record has the length that it had
  same_size : (lives : Bool) (given : Option Direction) → is_living s ≡ lives → length (snake_record (moved wrap given s)) ≡ length (snake_record s)
  same_size true given is =
      let long = seat.long in
      let same = stepped_is_moved wrap given s is long in
      let after = length_of_snake (stepped (next_cell given) s) in
      let before = length_of_snake s in
      let few = length-take (length s.body - 1) s.body in
      ap (λ (t : Snake). length (snake_record t)) (sym same) ∙ omega arith
  same_size false given is = ap (λ (t : Snake). length (snake_record t)) (sym (record_stays given is))

  pub moved_size : (given : Option Direction) → length (snake_record (moved wrap given s)) ≡ length (snake_record s)
  moved_size given = same_size (is_living s) given refl

-- ---- the seats of a part, one after the other

module _ (b : Board) (legal : IsLegal b) (moves : List (List ℕ × Direction)) (part : ℕ) where
  abbrev seats : List Snake
  seats = seats_of part b.snakes

  abbrev pub moved_list : List Snake
  moved_list = moved_seats (wrap_of b) moves seats

  moved_count : length moved_list ≡ length seats
  moved_count = length-map seats (moved_by (wrap_of b) moves)

  pub few_moved : length moved_list ≤ 2
  few_moved = omega (arith, moved_count, length-take 2 (drop (2 * part) b.snakes))

  pub all_fit : All IsFitSnake moved_list
  all_fit =
      let f : Snake → Snake = moved_by (wrap_of b) moves in
      let P : Snake → Type 0 = λ s. IsFitSnake (f s) in
      All-map IsFitSnake f seats (All-take P 2 (drop (2 * part) b.snakes) (All-drop P (2 * part) b.snakes (moved_are_fit b legal (λ s. given_to moves s.id))))

  -- the seats that there are
  pub moved_many : length moved_list ≡ min 2 (length b.snakes - 2 * part)
  moved_many = moved_count ∙ length-take 2 (drop (2 * part) b.snakes) ∙ ap (min 2) (length-drop (2 * part) b.snakes)

  -- the records from a seat on begin with its own
  pub record SeatAt (i : ℕ) (records : List ℕ) : Type 0 where
    pub snake : Snake
    pub rest : List ℕ
    pub begins : BeginWith (wrap_of b) snake rest records
    pub rest_is : rest ≡ flat_map snake_record (drop (2 * part + (i + 1)) b.snakes)
    pub moved_is : moved_by (wrap_of b) moves snake ≡ get_or moved_list i (moved_by (wrap_of b) moves snake)
    pub within : i < length moved_list

  pub seat_at : (i : ℕ) (records : List ℕ) → i < 2 → 2 * part + i < length b.snakes → records ≡ flat_map snake_record (drop (2 * part + i) b.snakes) → SeatAt i records
  seat_at i records few within is =
      let d : Snake = record { id = []; body = []; health = 0; cause = None; killer = None; out = None } in
      let s = get_or b.snakes (2 * part + i) d in
      let f : Snake → Snake = moved_by (wrap_of b) moves in
      let inside : i < length seats = omega (arith, length-take 2 (drop (2 * part) b.snakes), length-drop (2 * part) b.snakes) in
      let here : get_or seats i d ≡ s = get_or-take 2 (drop (2 * part) b.snakes) i d few ∙ get_or-drop (2 * part) b.snakes i d in
      let next : 2 * part + i + 1 ≡ 2 * part + (i + 1) = omega arith in
      record {
        snake = s;
        rest = flat_map snake_record (drop (2 * part + i + 1) b.snakes);
        begins = record { seat = seat_there b (2 * part + i) d legal within; bytes = is ∙ ap (flat_map snake_record) (drop_more b.snakes (2 * part + i) d within) };
        rest_is = ap (λ n. flat_map snake_record (drop n b.snakes)) next;
        moved_is = ap f (sym here) ∙ sym (get_or-map f seats i d (f s) inside);
        within = omega (arith, moved_count);
      }

-- what is written after some of the part's seats
pub record AreMoved {most : ℕ} (b : Board) (moves : List (List ℕ × Direction)) (part i : ℕ) (left : List ℕ) (pieces : List Piece) (first owned : Owned most) : Type 0 where
  pub left_are : left ≡ flat_map snake_record (drop (min (2 * part) (length b.snakes) + i) b.snakes)
  pub pieces_are : pieces ≡ pieces_from 0 (take i (moved_seats (wrap_of b) moves (seats_of part b.snakes)))
  pub block_is : owned ≡ record first { block = frame_of (take i (moved_seats (wrap_of b) moves (seats_of part b.snakes))) }

module _ {most : ℕ} (b : Board) (legal : IsLegal b) (moves : List (List ℕ × Direction)) (part i : ℕ) (left : List ℕ) (pieces : List Piece) (first owned : Owned most)
    (so_far : AreMoved b moves part i left pieces first owned) (few : i < 2) (within : min (2 * part) (length b.snakes) + i < length b.snakes) where
  start : min (2 * part) (length b.snakes) ≡ 2 * part
  start = omega (arith, within)

  -- the next seat
  pub next_seat : SeatAt b legal moves part i left
  next_seat = seat_at b legal moves part i left few (omega (arith, start, within)) (so_far.left_are ∙ ap (λ (n : ℕ). flat_map snake_record (drop (n + i) b.snakes)) start)

  next_size : length (snake_record (moved_by (wrap_of b) moves next_seat.snake)) ≡ length (snake_record next_seat.snake)
  next_size = moved_size (wrap_of b) next_seat.snake next_seat.begins.seat (given_to moves next_seat.snake.id)

  -- has room in the block
  pub next_has_room : length owned.block + rounded (length (snake_record next_seat.snake)) ≤ 40160
  next_has_room =
      let fits = next_fits (moved_list b legal moves part) i (moved_by (wrap_of b) moves next_seat.snake) (few_moved b legal moves part) (all_fit b legal moves part) next_seat.within next_seat.moved_is in
      let block : length owned.block ≡ length (frame_of (take i (moved_list b legal moves part))) = ap (λ (o : Owned most). length o.block) so_far.block_is in
      omega (arith, fits, block, ap rounded next_size)

  -- and is moved after those before it
  pub one_more : (rest : List ℕ) (more : List Piece) (piece : Piece) (after : Owned most) → rest ≡ next_seat.rest
      → piece ≡ record { at = length owned.block; len = length (snake_record next_seat.snake) } → more ≡ pieces ++ piece ∷ []
      → after ≡ record owned { block = owned.block ++ padded (snake_record (moved_by (wrap_of b) moves next_seat.snake)) }
      → AreMoved b moves part (i + 1) rest more first after
  one_more rest more piece after rest_is piece_is pushed written =
      let list = moved_list b legal moves part in
      let s = moved_by (wrap_of b) moves next_seat.snake in
      let block : length owned.block ≡ length (frame_of (take i list)) = ap (λ (o : Owned most). length o.block) so_far.block_is in
      record {
        left_are = rest_is ∙ next_seat.rest_is ∙ ap (λ (n : ℕ). flat_map snake_record (drop (n + (i + 1)) b.snakes)) (sym start);
        pieces_are = piece_pushed list i (length owned.block) (length (snake_record next_seat.snake)) s pieces more next_seat.within next_seat.moved_is so_far.pieces_are block (sym next_size)
            (pushed ∙ ap (λ (p : Piece). pieces ++ p ∷ []) piece_is);
        block_is = block_more first owned after list i s next_seat.within next_seat.moved_is so_far.block_is written;
      }

-- ---- a part without a board

none_seen : (bytes : Option (List ℕ)) (board : Option Board) → bytes ≡ None → IsBoardOf bytes board → snakes_in board ≡ []
none_seen None None is seen = refl
none_seen None (Some board) is seen = absurd seen
none_seen (Some bytes) board is seen = absurd cc

pub none_moved : (input : Input) (view : View) (part : ℕ) → input.last ≡ None → IsSeen view input → moved_part part view input.command ≡ []
none_moved input view part is seen =
    let none = none_seen input.last view.last is seen.last in
    let f : Snake → Snake = λ s. moved (wrap_in view.last) (given_to (moves_in input.command) s.id) s in
    let seats : List Snake = seats_of part (snakes_in view.last) in
    nil_from_length (map f seats)
    (omega (arith, length-map seats f, length-take 2 (drop (2 * part) (snakes_in view.last)), length-drop (2 * part) (snakes_in view.last), ap length none))

-- ---- the only block of a part

pub name_stays : {most : ℕ} (frames : List (Owned most)) (old new : Owned most) → old ≡ get_or frames 0 old → new.tag ≡ old.tag → new.number ≡ old.number
    → names_of (frames_in (slice_set frames 0 new)) ≡ names_of (frames_in frames)
name_stays [] old new is tag number = refl
name_stays (f ∷ frames) old new is tag number =
    let same : old ≡ f = is in
    ap (λ (name : ℕ × ℕ). name ∷ names_of (frames_in frames)) (rw (tag, number, same) refl)
