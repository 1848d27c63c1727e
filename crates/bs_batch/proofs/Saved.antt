-- The bytes of a record, written one after the other.
use Rattle.std.proofs.Common.{◌≡◌, ℕ, ℤ, ◌+◌, ◌/◌, ◌%◌, ◌<◌, ◌≤◌, min, true, List, [], ◌∷◌, ◌++◌, length, take, get_or, Option, Some, None, pos, nat_abs, ◌+ℤ◌, refl, subst, sym, ap, ◌∙◌, arith, inl, inr, append_assoc}
use Rattle.std.specs.Prelude.{int_le, int_lt}
use Rattle.std.specs.List.{flat_map, list_all}
use Rattle.std.proofs.lemmas.Bool.{and_parts}
use Rattle.std.proofs.lemmas.Int.{ints}
use Rattle.std.proofs.lemmas.List.{append-nil, get_or-map, get_or_default, length-map, take_all, take_more}
use Rattle.std.proofs.lemmas.List.Concat.{flat_map-append}
use Rattle.std.proofs.lemmas.List.Elements.{All-get_or}
use Rattle.std.proofs.lemmas.List.Sums.{AllPass-from_list_all}
use Rattle.bs_board.specs.declared.boards.board.Board.{Board}
use Rattle.bs_board.specs.declared.boards.board.Mode.{Mode}
use Rattle.bs_board.specs.declared.boards.point.Point.{Point}
use Rattle.bs_board.specs.declared.boards.snake.Snake.{Snake}
use Rattle.bs_board.specs.boards.Cell.{are_distinct_cells, is_on_board, origin}
use Rattle.bs_board.specs.boards.Legal.{is_near}
use Rattle.bs_board.specs.records.Record.{cell_bytes, hazard_bytes, head_bytes, killer_byte, mode_byte, plain_version, record_of, snake_record, state_bytes}
use Rattle.bs_board.proofs.records.Lengths.{length_of_record}
use Rattle.bs_board.proofs.records.Longest.{legal_size, side_fits}
use Rattle.bs_rules.specs.Collision.{nobody, snake_at}
use Rattle.bs_rules.proofs.Movable.{four_parts, near_from_on_board}
use Rattle.bs_batch.specs.declared.layout.Head.{Head}
use Rattle.bs_batch.specs.declared.layout.Seat.{Seat}
use Rattle.bs_batch.specs.Numbers.{number_of, numbers_of}
use Rattle.bs_batch.specs.Saving.{IsSavedAs, SavesGame, without_hazards}
use Rattle.bs_batch.specs.Shown.{ShowsSnake, room_of, seat_at, seat_byte}
use Rattle.bs_batch.specs.inner.Loading.{AreNear, IsSeatOfEight}
use Rattle.bs_batch.specs.inner.Saving.{AreWritable, IsWritten, WritesBytes, WritesCells, WritesHead, WritesSeat, WritesSnake}
use Rattle.bs_batch.proofs.Listed.{food_shown}
use Rattle.bs_batch.proofs.LoadedBoard.{body_near, killer_of_legal}
use Rattle.bs_batch.proofs.Numbers.{near_raised}
use Rattle.bs_batch.proofs.Shown.{body_shown}

-- a coordinate on the board
unraised : (z : ℤ) → int_le (pos 0) z ≡ true → nat_abs (z +ℤ pos 1) ≡ nat_abs (z +ℤ pos 0) + 1
unraised z low = grind (arith, ints)

-- the bytes of the column and of the row
near_written : (width height column row n : ℕ) (p : Point) → width ≤ 25 → height ≤ 25 → is_near width height p ≡ true → n ≡ number_of p
    → column ≡ ((n % 32 + 255) % 256 + 1) % 256 → row ≡ ((min (n / 32) 255 + 255) % 256 + 1) % 256 → column ∷ row ∷ [] ≡ cell_bytes 1 p
near_written width height column row n p narrow low near is c r =
    let raised = near_raised width height p near in
    let x = raised.column in
    let y = raised.row in
    let a : column ≡ nat_abs (p.x +ℤ pos 1) = omega arith in
    let b : row ≡ nat_abs (p.y +ℤ pos 1) = omega arith in
    rw (a, b) refl

board_written : (width height column row n : ℕ) (p : Point) → width ≤ 25 → height ≤ 25 → is_on_board width height p ≡ true → n ≡ number_of p
    → column ≡ ((n % 32 + 255) % 256 + 0) % 256 → row ≡ ((min (n / 32) 255 + 255) % 256 + 0) % 256 → column ∷ row ∷ [] ≡ cell_bytes 0 p
board_written width height column row n p narrow low on is c r =
    let raised = near_raised width height p (near_from_on_board width height p on) in
    let x = raised.column in
    let y = raised.row in
    let parts = four_parts (int_le (pos 0) p.x) (int_lt p.x (pos width)) (int_le (pos 0) p.y) (int_lt p.y (pos height)) on in
    let left = unraised p.x parts.0 in
    let bottom = unraised p.y parts.2 in
    let a : column ≡ nat_abs (p.x +ℤ pos 0) = omega arith in
    let b : row ≡ nat_abs (p.y +ℤ pos 0) = omega arith in
    rw (a, b) refl

cell_written : (raised width height i column row : ℕ) (cells : List Point) (numbers : List ℕ) → AreWritable raised width height cells → numbers ≡ numbers_of cells → i < length cells
    → column ≡ ((get_or numbers i 0 % 32 + 255) % 256 + raised) % 256 → row ≡ ((min (get_or numbers i 0 / 32) 255 + 255) % 256 + raised) % 256
    → column ∷ row ∷ [] ≡ cell_bytes raised (get_or cells i origin)
cell_written raised width height i column row cells numbers can are within c r =
    let p = get_or cells i origin in
    let is : get_or numbers i 0 ≡ number_of p = ap (λ l. get_or l i 0) are ∙ get_or-map number_of cells i origin 0 within in
    elim can.inside [
      | inl board ↦
          let on = All-get_or (λ q. is_on_board width height q ≡ true) cells i origin within board.1 in
          let zero_up = board.0 in
          rw zero_up (board_written width height column row (get_or numbers i 0) p can.narrow can.low on is (omega arith) (omega arith))
      | inr next ↦
          let near = All-get_or (λ q. is_near width height q ≡ true) cells i origin within next.1 in
          let one_up = next.0 in
          rw one_up (near_written width height column row (get_or numbers i 0) p can.narrow can.low near is (omega arith) (omega arith))
    ]

more_pieces : {X : Type 0} (f : X → List ℕ) (xs : List X) (i : ℕ) (d : X) → i < length xs → flat_map f (take (i + 1) xs) ≡ flat_map f (take i xs) ++ f (get_or xs i d)
more_pieces f xs i d within =
    ap (flat_map f) (take_more xs i d within) ∙ flat_map-append f (take i xs) (get_or xs i d ∷ [])
    ∙ ap (λ l. flat_map f (take i xs) ++ l) (append-nil (f (get_or xs i d)))

-- the first cells are written
abbrev pub CellsSoFar : ℕ → List ℕ → ℕ → ℕ → List ℕ → ℕ → List ℕ → Type 0
CellsSoFar raised numbers i at0 old at now =
    (width height : ℕ) (cells : List Point) → AreWritable raised width height cells → numbers ≡ numbers_of cells
    → WritesBytes (flat_map (cell_bytes raised) (take i cells)) at0 old at now

pub no_cells : (raised at : ℕ) (numbers into : List ℕ) → CellsSoFar raised numbers 0 at into at into
no_cells raised at numbers into width height cells can are done written = subst (λ (l : List ℕ). IsWritten l at into) (sym (append-nil done)) written

pub one_cell : (raised i at0 at at' column row : ℕ) (numbers old now new : List ℕ) → i < length numbers → CellsSoFar raised numbers i at0 old at now
    → WritesBytes (column ∷ row ∷ []) at now at' new → column ≡ ((get_or numbers i 0 % 32 + 255) % 256 + raised) % 256
    → row ≡ ((min (get_or numbers i 0 / 32) 255 + 255) % 256 + raised) % 256 → CellsSoFar raised numbers (i + 1) at0 old at' new
one_cell raised i at0 at at' column row numbers old now new within so_far writes c r width height cells can are done written =
    let long : length numbers ≡ length cells = ap length are ∙ length-map cells number_of in
    let front = flat_map (cell_bytes raised) (take i cells) in
    let is = cell_written raised width height i column row cells numbers can are (omega arith) c r in
    let more : flat_map (cell_bytes raised) (take (i + 1) cells) ≡ front ++ cell_bytes raised (get_or cells i origin) =
    more_pieces (cell_bytes raised) cells i origin (omega arith) in
    let now_written = writes (done ++ front) (so_far width height cells can are done written) in
    subst (λ (l : List ℕ). IsWritten l at' new) (append_assoc done front (column ∷ row ∷ []) ∙ ap (λ l. done ++ (front ++ l)) is ∙ ap (λ l. done ++ l) (sym more)) now_written

pub all_cells : (raised i at0 at : ℕ) (numbers old now : List ℕ) → length numbers ≤ i → CellsSoFar raised numbers i at0 old at now → WritesCells raised numbers at0 old at now
all_cells raised i at0 at numbers old now end so_far width height cells can are done written =
    let long : length numbers ≡ length cells = ap length are ∙ length-map cells number_of in
    subst (λ (l : List Point). IsWritten (done ++ flat_map (cell_bytes raised) l) at now) (take_all i cells (omega arith)) (so_far width height cells can are done written)

pub head_written : (head : Head) (version at : ℕ) (old new : List ℕ) → ((m : Mode) → head.settings.mode ≡ mode_byte m → version ≡ plain_version m)
    → WritesBytes (version ∷ head.settings.mode ∷ head.settings.width ∷ head.settings.height ∷ head.turn / 256 ∷ head.turn % 256 ∷ head.settings.min_food ∷ head.settings.chance
    ∷ head.settings.seats ∷ head.foods / 256 ∷ head.foods % 256 ∷ []) 0 old at new → WritesHead head at new
head_written head version at old new versions writes b food plane bodies saved =
    let s = saved.shows.seats.settings in
    let v = versions b.mode s.mode in
    let start : IsWritten [] 0 old = record { end = refl; bytes = λ _. refl } in
    let is : (version ∷ head.settings.mode ∷ head.settings.width ∷ head.settings.height ∷ head.turn / 256 ∷ head.turn % 256 ∷ head.settings.min_food ∷ head.settings.chance
    ∷ head.settings.seats ∷ head.foods / 256 ∷ head.foods % 256 ∷ []) ≡ head_bytes (without_hazards b) =
    rw (v, s.mode, s.width, s.height, saved.shows.seats.turn, s.min_food, s.chance, s.seats, saved.shows.food.count) refl in
    subst (λ (l : List ℕ). IsWritten l at new) is (writes [] start)

killer_is : (killer : Option ℕ) (byte : ℕ) → byte ≡ seat_byte killer → IsSeatOfEight killer → (byte + 1) % 256 ≡ killer_byte killer
killer_is None byte is few = rw is refl
killer_is (Some k) byte is few = omega arith

pub seat_written : (number at at' digit killer : ℕ) (seat : Seat) (old new : List ℕ) → WritesBytes (1 ∷ digit ∷ seat.health ∷ seat.cause ∷ killer ∷ seat.out / 256 ∷ seat.out % 256
    ∷ seat.parts / 256 ∷ seat.parts % 256 ∷ []) at old at' new → digit ≡ 48 + number → killer ≡ (seat.killer + 1) % 256 → WritesSeat number seat at old at' new
seat_written number at at' digit killer seat old new writes digit_is killer_next room s shows few id done written =
    let k : killer ≡ killer_byte s.killer = killer_next ∙ killer_is s.killer seat.killer shows.killer few in
    let is : (1 ∷ digit ∷ seat.health ∷ seat.cause ∷ killer ∷ seat.out / 256 ∷ seat.out % 256 ∷ seat.parts / 256 ∷ seat.parts % 256 ∷ []) ≡ (length s.id ∷ s.id) ++ state_bytes s =
    rw (digit_is, k, shows.health, shows.cause, shows.out, shows.parts, id) refl in
    subst (λ (l : List ℕ). IsWritten (done ++ l) at' new) is (writes done written)

pub snake_written : (head : Head) (bodies : List ℕ) (seat at middle at' : ℕ) (numbers old now new : List ℕ) → numbers ≡ take (seat_at head.seats seat).parts (room_of bodies seat)
    → WritesSeat seat (seat_at head.seats seat) at old middle now → WritesCells 1 numbers middle now at' new → WritesSnake head bodies seat at old at' new
unfolding snake_record
snake_written head bodies seat at middle at' numbers old now new body first second b food plane d saved within done written =
    let s = get_or b.snakes seat d in
    let same : snake_at b.snakes seat ≡ s = get_or_default b.snakes seat nobody d within in
    let near = subst (λ (t : Snake). AreNear b.width b.height t.body) same (body_near b seat saved.legal within) in
    let killer = killer_of_legal b seat s s.cause saved.legal.limits.few within (saved.legal.snakes seat d within).state in
    let shows = subst (λ (t : Snake). ShowsSnake (seat_at head.seats seat) (room_of bodies seat) t) same (saved.shows.seats.snakes seat within) in
    let start = first (room_of bodies seat) s shows killer (saved.ids seat d within) done written in
    let are : numbers ≡ numbers_of s.body =
    body ∙ body_shown head.seats bodies b.snakes seat saved.shows.seats.snakes within ∙ ap (λ (t : Snake). numbers_of t.body) same in
    let writable : AreWritable 1 b.width b.height s.body = record { narrow = near.narrow; low = near.low; inside = inr (refl, near.near) } in
    subst (λ (l : List ℕ). IsWritten l at' new) (append_assoc done ((length s.id ∷ s.id) ++ state_bytes s) (flat_map (cell_bytes 1) s.body))
    (second b.width b.height s.body writable are (done ++ ((length s.id ∷ s.id) ++ state_bytes s)) start)

-- the head, the food and the first snakes are written
abbrev pub SavedSoFar : Head → List ℕ → List ℕ → ℕ → ℕ → List ℕ → Type 0
SavedSoFar head food bodies i at into =
    (b : Board) (plane : List ℕ) → IsSavedAs head food plane bodies b
    → IsWritten ((head_bytes (without_hazards b) ++ flat_map (cell_bytes 0) b.food) ++ flat_map snake_record (take i b.snakes)) at into

pub food_saved : (head : Head) (food bodies : List ℕ) (n middle at : ℕ) (now new : List ℕ) → n ≡ min head.foods (length food) → WritesHead head middle now
    → WritesCells 0 (take n food) middle now at new → SavedSoFar head food bodies 0 at new
food_saved head food bodies n middle at now new few first second b plane saved =
    let are = food_shown head.foods n food b.food few saved.shows.food in
    let parts = and_parts (list_all (is_on_board b.width b.height) b.food) (are_distinct_cells b.food) saved.legal.food.fits in
    let writable : AreWritable 0 b.width b.height b.food = record {
      narrow = side_fits b.width saved.legal.limits.width;
      low = side_fits b.height saved.legal.limits.height;
      inside = inl (refl, AllPass-from_list_all (is_on_board b.width b.height) b.food parts.0);
    } in
    subst (λ (l : List ℕ). IsWritten l at new) (sym (append-nil (head_bytes (without_hazards b) ++ flat_map (cell_bytes 0) b.food)))
    (second b.width b.height b.food writable are (head_bytes (without_hazards b)) (first b food plane bodies saved))

pub snake_saved : (head : Head) (food bodies : List ℕ) (i at at' : ℕ) (now new : List ℕ) → i < head.settings.seats → SavedSoFar head food bodies i at now
    → WritesSnake head bodies i at now at' new → SavedSoFar head food bodies (i + 1) at' new
snake_saved head food bodies i at at' now new within so_far writes b plane saved =
    let seats = saved.shows.seats.settings.seats in
    let front = flat_map snake_record (take i b.snakes) in
    let more : flat_map snake_record (take (i + 1) b.snakes) ≡ front ++ snake_record (get_or b.snakes i nobody) = more_pieces snake_record b.snakes i nobody (omega arith) in
    subst (λ (l : List ℕ). IsWritten l at' new) (append_assoc (head_bytes (without_hazards b) ++ flat_map (cell_bytes 0) b.food) front (snake_record (get_or b.snakes i nobody))
    ∙ ap (λ l. (head_bytes (without_hazards b) ++ flat_map (cell_bytes 0) b.food) ++ l) (sym more))
    (writes b food plane nobody saved (omega arith) ((head_bytes (without_hazards b) ++ flat_map (cell_bytes 0) b.food) ++ front) (so_far b plane saved))

no_hazards : hazard_bytes None ≡ []
unfolding hazard_bytes
no_hazards = refl

record_is : (b : Board) → (head_bytes (without_hazards b) ++ flat_map (cell_bytes 0) b.food) ++ flat_map snake_record b.snakes ≡ record_of (without_hazards b)
unfolding record_of
record_is b =
    let plain = no_hazards in
    let front = head_bytes (without_hazards b) ++ flat_map (cell_bytes 0) b.food in
    ap (λ l. l ++ flat_map snake_record b.snakes) (sym (append-nil front) ∙ ap (λ l. front ++ l) (sym plain))

pub all_saved : (head : Head) (food bodies : List ℕ) (i at : ℕ) (now : List ℕ) → i ≡ head.settings.seats → SavedSoFar head food bodies i at now → SavesGame head food bodies now at
all_saved head food bodies i at now end so_far b plane saved =
    let seats = saved.shows.seats.settings.seats in
    let all : (head_bytes (without_hazards b) ++ flat_map (cell_bytes 0) b.food) ++ flat_map snake_record (take i b.snakes) ≡ record_of (without_hazards b) =
    ap (λ l. (head_bytes (without_hazards b) ++ flat_map (cell_bytes 0) b.food) ++ flat_map snake_record l) (take_all i b.snakes (omega arith)) ∙ record_is b in
    let written = subst (λ (l : List ℕ). IsWritten l at now) all (so_far b plane saved) in
    let most = legal_size b saved.legal in
    let whole = length_of_record b in
    let size = length_of_record (without_hazards b) in
    let none : length (hazard_bytes None) ≡ 0 = ap length no_hazards in
    let ends = written.end in
    record { count = omega arith; bytes = written.bytes }
