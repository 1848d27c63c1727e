-- A game in which one seat is written.
use Rattle.std.proofs.Common.{◌≡◌, ℕ, ◌+◌, ◌<◌, ◌≤◌, Bool, true, false, cond, List, length, set, arith, inl, inr, length-set}
use Rattle.std.specs.List.{list_any}
use Rattle.std.proofs.lemmas.Bool.{cases_eq}
use Rattle.std.proofs.lemmas.List.{get_or-set_same, get_or-set_other}
use Rattle.std.proofs.lemmas.List.Sums.{sum_by-set}
use Rattle.bs_board.specs.declared.boards.point.Point.{Point}
use Rattle.bs_board.specs.declared.boards.snake.Snake.{Snake}
use Rattle.bs_board.specs.boards.Cell.{is_same_cell}
use Rattle.bs_rules.specs.Collision.{nobody, snake_at}
use Rattle.bs_batch.specs.declared.layout.Seat.{Seat}
use Rattle.bs_batch.specs.Shown.{ShowsSnake, ShowsSnakes, food_byte, no_seat, occupants, parts_on, room_of}

pub one_seat : (seats : List Seat) (bodies : List ℕ) (snakes : List Snake) (seat : ℕ) (new : Seat) (s : Snake) → seat < length seats → seat < length snakes
    → ShowsSnakes seats bodies snakes → ShowsSnake new (room_of bodies seat) s → ShowsSnakes (set seats seat new) bodies (set snakes seat s)
one_seat seats bodies snakes seat new s fits within shows here k inside =
    elim (cases_eq k seat) [
      | inl same ↦ rw (same, get_or-set_same seats seat new no_seat fits, get_or-set_same snakes seat s nobody within) here
      | inr other ↦
          let n = length-set snakes seat s in
          rw (get_or-set_other seats seat k new no_seat other, get_or-set_other snakes seat k s nobody other) (shows k (omega arith))
    ]

-- how the number of parts on a cell changes
pub occupants_with : (snakes : List Snake) (seat : ℕ) (s : Snake) (p : Point) → seat < length snakes
    → occupants (set snakes seat s) p + parts_on p (snake_at snakes seat) ≡ occupants snakes p + parts_on p s
occupants_with snakes seat s p within = sum_by-set (parts_on p) snakes seat s nobody within

at_most : (there : Bool) → cond there 128 0 ≤ 128
at_most true = omega arith
at_most false = omega arith

pub food_at_most : (food : List Point) (p : Point) → food_byte food p ≤ 128
food_at_most food p = at_most (list_any (is_same_cell p) food)
