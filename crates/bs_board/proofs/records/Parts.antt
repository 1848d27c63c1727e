-- Bytes written one after the other.
use Rattle.std.proofs.Common.{◌≡◌, ℕ, ◌+◌, ◌*◌, ◌<◌, ◌≤◌, List, [], ◌∷◌, ◌++◌, length, take, get_or, append_assoc, refl, sym, ap, ◌∙◌, arith, length-append}
use Rattle.std.specs.List.{flat_map}
use Rattle.std.proofs.lemmas.List.{append-nil, take_more, take_all}
use Rattle.std.proofs.lemmas.List.Concat.{flat_map-append}
use Rattle.std.proofs.lemmas.List.Folds.{length-flat_map-take}
use Rattle.bs_board.specs.declared.boards.point.Point.{Point}
use Rattle.bs_board.specs.declared.boards.board.Board.{Board}
use Rattle.bs_board.specs.boards.Cell.{origin}
use Rattle.bs_board.specs.declared.boards.snake.Snake.{Snake}
use Rattle.bs_board.specs.records.Record.{cell_bytes, state_bytes, snake_record, head_bytes, hazard_bytes, record_of}
use Rattle.bs_board.specs.inner.Writing.{Puts}
use Rattle.bs_board.proofs.records.Lengths.{length_of_pairs}

-- nothing is written yet
pub puts_nothing : (at : ℕ) (old : List ℕ) → Puts at [] old old at
puts_nothing at old = record { place = omega arith; front = sym (append-nil _); room = refl }

pub puts_both : (at mid next : ℕ) (x y old between new : List ℕ) → Puts at x old between mid → Puts mid y between new next → Puts at (x ++ y) old new next
puts_both at mid next x y old between new p q = record {
  place = omega (arith, p.place, q.place, length-append x y);
  front = q.front ∙ ap (λ (front : List ℕ). front ++ y) p.front ∙ append_assoc (take at old) x y;
  room = q.room ∙ p.room;
}

-- one more of a list
pub puts_next : {X : Type 0} (f : X → List ℕ) (xs : List X) (i : ℕ) (x : X) (at mid next : ℕ) (old between new : List ℕ) → i < length xs → x ≡ get_or xs i x
    → Puts at (flat_map f (take i xs)) old between mid → Puts mid (f x) between new next → Puts at (flat_map f (take (i + 1) xs)) old new next
puts_next {X = X} f xs i x at mid next old between new within is p q =
    let more : flat_map f (take (i + 1) xs) ≡ flat_map f (take i xs) ++ f x =
    ap (flat_map f) (take_more xs i x within) ∙ flat_map-append f (take i xs) (get_or xs i x ∷ []) ∙ ap (λ (y : X). flat_map f (take i xs) ++ (f y ++ [])) (sym is)
    ∙ ap (λ (ys : List ℕ). flat_map f (take i xs) ++ ys) (append-nil (f x)) in
    rw more (puts_both at mid next (flat_map f (take i xs)) (f x) old between new p q)

-- there is room for one more
pub room_next : {X : Type 0} (f : X → List ℕ) (xs : List X) (i : ℕ) (x : X) (at mid : ℕ) (old between : List ℕ) → i < length xs → x ≡ get_or xs i x
    → at + length (flat_map f xs) ≤ length old → Puts at (flat_map f (take i xs)) old between mid → mid + length (f x) ≤ length between
room_next {X = X} f xs i x at mid old between within is room p =
    let here : length (f (get_or xs i x)) ≡ length (f x) = ap (λ (y : X). length (f y)) (sym is) in
    let total = length-flat_map-take f xs i x within in
    omega (arith, p.place, p.room)

pub cell_room : (raised : ℕ) (cells : List Point) (i at mid : ℕ) (old between : List ℕ) → i < length cells → at + 2 * length cells ≤ length old
    → Puts at (flat_map (cell_bytes raised) (take i cells)) old between mid → mid + 2 ≤ length between
cell_room raised cells i at mid old between within room p =
    let total = length-flat_map-take (cell_bytes raised) cells i origin within in
    let pairs = length_of_pairs (cell_bytes raised) (λ cell. refl) cells in
    omega (arith, p.place, p.room)

-- the parts of a snake, one after the other
pub puts_snake : (s : Snake) (state : List ℕ) (at first second next : ℕ) (old a b new : List ℕ) → state ≡ state_bytes s
    → Puts at (length s.id ∷ s.id) old a first → Puts first state a b second → Puts second (flat_map (cell_bytes 1) s.body) b new next
    → Puts at (snake_record s) old new next
unfolding snake_record
puts_snake s state at first second next old a b new is id numbers body =
    let front = puts_both at first second (length s.id ∷ s.id) state old a b id numbers in
    let all = puts_both at second next ((length s.id ∷ s.id) ++ state) (flat_map (cell_bytes 1) s.body) old b new front body in
    rw (← is) all

-- the parts of a board, one after the other
pub puts_board : (b : Board) (first second third next : ℕ) (old x y z new : List ℕ) → Puts 0 (head_bytes b) old x first
    → Puts first (flat_map (cell_bytes 0) b.food) x y second → Puts second (hazard_bytes b.hazards) y z third
    → Puts third (flat_map snake_record b.snakes) z new next
    → length old ≡ length (record_of b) → new ≡ record_of b
unfolding record_of
puts_board b first second third next old x y z new head food hazards snakes same =
    let front = head_bytes b ++ flat_map (cell_bytes 0) b.food in
    let two = puts_both 0 first second (head_bytes b) (flat_map (cell_bytes 0) b.food) old x y head food in
    let three = puts_both 0 second third front (hazard_bytes b.hazards) old y z two hazards in
    let all = puts_both 0 third next (front ++ hazard_bytes b.hazards) (flat_map snake_record b.snakes) old z new three snakes in
    let whole : length new ≤ next = omega (arith, all.place, all.room) in
    sym (take_all next new whole) ∙ all.front
