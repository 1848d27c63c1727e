-- What the seats, the bodies and the plane show.
use Rattle.std.proofs.Common.{◌≡◌, ℕ, ◌+◌, ◌%◌, ◌<◌, ◌≤◌, Bool, true, false, cond, List, length, take, slice_index, ap, ◌∙◌, arith}
use Rattle.std.proofs.lemmas.List.{get_or-map}
use Rattle.std.proofs.lemmas.List.Elements.{All-get_or}
use Rattle.bs_board.specs.declared.boards.point.Point.{Point}
use Rattle.bs_board.specs.declared.boards.board.Board.{Board}
use Rattle.bs_board.specs.declared.boards.snake.Snake.{Snake}
use Rattle.bs_board.specs.boards.Cell.{head_of, origin}
use Rattle.bs_board.specs.boards.Legal.{is_near}
use Rattle.bs_rules.specs.Collision.{nobody, snake_at}
use Rattle.bs_batch.specs.declared.layout.Head.{Head}
use Rattle.bs_batch.specs.declared.layout.Seat.{Seat}
use Rattle.bs_batch.specs.Numbers.{number_of, numbers_of}
use Rattle.bs_batch.specs.Shown.{HasBody, HasRoom, ShowsSeats, ShowsSnakes, byte_of, room_of, seat_at}

-- the bits of the parts
pub parts_of_byte : (n : ℕ) (there : Bool) → n < 128 → (n + cond there 128 0) % 128 ≡ n
parts_of_byte n true few = omega arith
parts_of_byte n false few = omega arith

-- the numbers of a seat's body
pub body_shown : (seats : List Seat) (bodies : List ℕ) (snakes : List Snake) (seat : ℕ) → ShowsSnakes seats bodies snakes → seat < length snakes
    → take (seat_at seats seat).parts (room_of bodies seat) ≡ numbers_of (snake_at snakes seat).body
body_shown seats bodies snakes seat shows within =
    let one = shows seat within in
    rw one.parts one.body

pub has_body : (b : Board) (seat more : ℕ) → HasRoom more b → seat < length b.snakes → HasBody b.width b.height (snake_at b.snakes seat)
has_body b seat more room within = All-get_or (HasBody b.width b.height) b.snakes seat nobody within room.bodies

-- the number of the first part
pub head_number : (body : List Point) → 1 ≤ length body → slice_index (numbers_of body) 0 ≡ number_of (head_of body)
head_number body some = get_or-map number_of body 0 origin 0 (omega arith)

pub head_near : (width height : ℕ) (s : Snake) → HasBody width height s → is_near width height (head_of s.body) ≡ true
head_near width height s h = let long = h.long in All-get_or (λ p. is_near width height p ≡ true) s.body 0 origin (omega arith) h.near

-- the number of the head of a seat
pub head_shown : (head : Head) (plane bodies : List ℕ) (b : Board) (seat more : ℕ) → ShowsSeats head plane bodies b → HasRoom more b → seat < length b.snakes
    → slice_index (take (seat_at head.seats seat).parts (room_of bodies seat)) 0 ≡ number_of (head_of (snake_at b.snakes seat).body)
head_shown head plane bodies b seat more shows room within =
    let body = body_shown head.seats bodies b.snakes seat shows.snakes within in
    let long = (has_body b seat more room within).long in
    ap (λ numbers. slice_index numbers 0) body ∙ head_number (snake_at b.snakes seat).body (omega arith)

-- the byte of the head of a seat
pub head_byte : (head : Head) (plane bodies : List ℕ) (b : Board) (seat more : ℕ) → ShowsSeats head plane bodies b → HasRoom more b → seat < length b.snakes
    → slice_index plane (number_of (head_of (snake_at b.snakes seat).body)) ≡ byte_of b.food b.snakes (head_of (snake_at b.snakes seat).body)
head_byte head plane bodies b seat more shows room within =
    let s = snake_at b.snakes seat in
    shows.counts.bytes (head_of s.body) (head_near b.width b.height s (has_body b seat more room within))
