-- Snakes changed by their seats.
use Rattle.std.proofs.Common.{◌≡◌, ℕ, zero, suc, ◌+◌, ◌<◌, List, [], ◌∷◌, ◌++◌, Some, slice_get, map, take, drop, set, length, get_or, refl, ap, sym, ◌∙◌, arith, add-one}
use Rattle.std.specs.List.{enumerate_from}
use Rattle.std.proofs.lemmas.List.{get_or-map, length-map}
use Rattle.std.proofs.lemmas.List.FromFn.{get_or-enumerate_from, length-enumerate_from}
use Rattle.bs_board.specs.declared.boards.snake.Snake.{Snake}
use Rattle.bs_rules.specs.Collision.{map_seats, snake_at, nobody}

-- the seats, counted from any number on
abbrev pub map_from : ℕ → (ℕ → Snake → Snake) → List Snake → List Snake
map_from n f snakes = map (λ entry. f entry.0 entry.1) (enumerate_from n snakes)

set_from : (n : ℕ) (f : ℕ → Snake → Snake) (xs : List Snake) (i : ℕ) (x : Snake) → slice_get (map_from n f (take i xs) ++ drop i xs) i ≡ Some x
    → i < length xs → set (map_from n f (take i xs) ++ drop i xs) i (f (n + i) x) ≡ map_from n f (take (suc i) xs) ++ drop (suc i) xs
set_from n f [] i x g b = absurd (omega arith)
set_from n f (x0 ∷ xs) zero x g b = let e : x0 ≡ x = cc in let z : n + 0 ≡ n = omega arith in rw (z, ← e) refl
set_from n f (x0 ∷ xs) (suc i) x g b =
    let z : n + 1 + i ≡ n + suc i = omega arith in
    let rest = set_from (n + 1) f xs i x g (omega arith) in
    ap (λ l. f n x0 ∷ l) (rw z at rest)

-- the seat after the finished ones is written
pub set_next_seat : (f : ℕ → Snake → Snake) (xs zs : List Snake) (i : ℕ) (x y : Snake) → zs ≡ map_seats f (take i xs) ++ drop i xs
    → slice_get zs i ≡ Some x → i < length xs → y ≡ f i x → set zs i y ≡ map_seats f (take (i + 1) xs) ++ drop (i + 1) xs
set_next_seat f xs zs i x y e g b h =
    let z : 0 + i ≡ i = omega arith in
    let written = set_from 0 f xs i x (ap (λ l. slice_get l i) (sym e) ∙ g) b in
    let last = rw z at written in
    rw (e, h, add-one) last

agree_from : (n : ℕ) (f g : ℕ → Snake → Snake) (xs : List Snake) → ((k : ℕ) → k < length xs → (x : Snake) → f (n + k) x ≡ g (n + k) x)
    → map_from n f xs ≡ map_from n g xs
agree_from n f g [] h = refl
agree_from n f g (x ∷ xs) h =
    let here : f n x ≡ g n x = let z : n + 0 ≡ n = omega arith in rw z at (h 0 (omega arith) x) in
    let rest = agree_from (n + 1) f g xs (λ k l s. let z : n + suc k ≡ n + 1 + k = omega arith in rw z at (h (suc k) (omega arith) s)) in
    cc

-- only the change at each seat matters
pub map_seats_agree : (f g : ℕ → Snake → Snake) (xs : List Snake) → ((k : ℕ) → k < length xs → (x : Snake) → f k x ≡ g k x)
    → map_seats f xs ≡ map_seats g xs
map_seats_agree f g xs h = agree_from 0 f g xs (λ k l x. let z : 0 + k ≡ k = omega arith in rw z (h k l x))

pub length-map_seats : (f : ℕ → Snake → Snake) (xs : List Snake) → length (map_seats f xs) ≡ length xs
length-map_seats f xs = length-map (enumerate_from 0 xs) (λ entry. f entry.0 entry.1) ∙ length-enumerate_from 0 xs

pub at_seat : (f : ℕ → Snake → Snake) (xs : List Snake) (i : ℕ) (d : Snake) → i < length xs → get_or (map_seats f xs) i d ≡ f i (snake_at xs i)
at_seat f xs i d b =
    let n = length-enumerate_from 0 xs in
    let entry = get_or-enumerate_from 0 xs i (0, nobody) b in
    let z : 0 + i ≡ i = omega arith in
    let all = get_or-map (λ entry. f entry.0 entry.1) (enumerate_from 0 xs) i (0, nobody) d (omega arith) in
    rw (all, entry, z) refl
