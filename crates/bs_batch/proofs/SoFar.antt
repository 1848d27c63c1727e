-- Seats that are changed one after the other.
use Rattle.std.proofs.Common.{◌≡◌, ℕ, ◌+◌, ◌-◌, ◌<◌, ◌≤◌, List, [], ◌∷◌, ◌++◌, length, take, drop, set, map, get_or, refl, ap, ◌∙◌, arith, length-append, length-drop}
use Rattle.std.specs.List.{enumerate_from}
use Rattle.std.proofs.lemmas.List.{append-nil, drop_all, get_or-append_right, get_or-drop, length-take-le, take_all}
use Rattle.std.proofs.lemmas.Option.{slice_get-get_or}
use Rattle.bs_board.specs.declared.boards.board.Board.{Board}
use Rattle.bs_board.specs.declared.boards.snake.Snake.{Snake}
use Rattle.bs_rules.specs.Collision.{map_seats, nobody, snake_at}
use Rattle.bs_rules.proofs.Seats.{length-map_seats, set_next_seat}

-- the seats before i are changed, the others are as before
abbrev pub so_far : (ℕ → Snake → Snake) → ℕ → List Snake → List Snake
so_far f i snakes = map_seats f (take i snakes) ++ drop i snakes

pub none_so_far : (f : ℕ → Snake → Snake) (snakes : List Snake) → so_far f 0 snakes ≡ snakes
none_so_far f snakes = refl

pub all_so_far : (f : ℕ → Snake → Snake) (i : ℕ) (snakes : List Snake) → length snakes ≤ i → so_far f i snakes ≡ map_seats f snakes
all_so_far f i snakes past = rw (take_all i snakes past, drop_all i snakes past) (append-nil (map_seats f snakes))

length_front : (f : ℕ → Snake → Snake) (i : ℕ) (snakes : List Snake) → i ≤ length snakes → length (map_seats f (take i snakes)) ≡ i
length_front f i snakes within = length-map_seats f (take i snakes) ∙ length-take-le i snakes within

pub length_so_far : (f : ℕ → Snake → Snake) (i : ℕ) (snakes : List Snake) → i ≤ length snakes → length (so_far f i snakes) ≡ length snakes
length_so_far f i snakes within =
    let front = length_front f i snakes within in
    let back = length-drop i snakes in
    let both = length-append (map_seats f (take i snakes)) (drop i snakes) in
    omega arith

pub next_so_far : (f : ℕ → Snake → Snake) (i : ℕ) (snakes : List Snake) → i < length snakes → snake_at (so_far f i snakes) i ≡ snake_at snakes i
next_so_far f i snakes within =
    let front = length_front f i snakes (omega arith) in
    let none : i - i ≡ 0 = omega arith in
    let zero : i + 0 ≡ i = omega arith in
    get_or-append_right (map_seats f (take i snakes)) (drop i snakes) i i nobody front (omega arith) ∙ rw none (get_or-drop i snakes 0 nobody) ∙ ap (λ k. get_or snakes k nobody) zero

pub more_so_far : (f : ℕ → Snake → Snake) (i : ℕ) (snakes : List Snake) (y : Snake) → i < length snakes → y ≡ f i (snake_at (so_far f i snakes) i)
    → set (so_far f i snakes) i y ≡ so_far f (i + 1) snakes
more_so_far f i snakes y within is =
    let n = length_so_far f i snakes (omega arith) in
    let here = next_so_far f i snakes within in
    let there = slice_get-get_or (so_far f i snakes) i nobody (omega arith) in
    set_next_seat f snakes (so_far f i snakes) i (snake_at (so_far f i snakes) i) y refl there within is

map_from : (n : ℕ) (f : Snake → Snake) (snakes : List Snake) → map (λ entry. f entry.1) (enumerate_from n snakes) ≡ map f snakes
map_from n f [] = refl
map_from n f (s ∷ snakes) = ap (λ l. f s ∷ l) (map_from (n + 1) f snakes)

-- a change that does not depend on the seat
pub map_each : (f : Snake → Snake) (snakes : List Snake) → map_seats (λ _. f) snakes ≡ map f snakes
map_each f snakes = map_from 0 f snakes

-- the board with these snakes
abbrev pub board_so_far : (ℕ → Snake → Snake) → ℕ → Board → Board
board_so_far f i b = record b { snakes = so_far f i b.snakes }
