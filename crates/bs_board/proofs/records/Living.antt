-- Counting the living snakes of a record, and skipping snakes.
use Rattle.std.proofs.Common.{◌≡◌, ℕ, ◌+◌, ◌-◌, ◌<◌, ◌≤◌, true, false, List, ◌++◌, length, take, drop, get_or, sym, ap, ◌∙◌, arith}
use Rattle.std.specs.Prelude.{[], None, count_by, flat_map, if◌then◌else◌, nat_le}
use Rattle.std.proofs.lemmas.Bool.{le-leb, lt-leb}
use Rattle.std.proofs.lemmas.List.{drop_more, take_all}
use Rattle.std.proofs.lemmas.List.Sums.{count_by_more_no, count_by_more_yes, sum_by-take-le}
use Rattle.bs_board.specs.declared.boards.snake.Snake.{Snake}
use Rattle.bs_board.specs.declared.records.layout.SnakeBytes.{SnakeBytes}
use Rattle.bs_board.specs.boards.Over.{is_living}
use Rattle.bs_board.specs.records.Layout.{IsSnakeBytes}
use Rattle.bs_board.specs.records.Record.{cell_bytes, snake_record, state_bytes}

pub some : Snake
some = record { id = []; body = []; health = 0; cause = None; killer = None; out = None }

-- what the next snake's record is, and what follows it
abbrev pub Splits : List ℕ → SnakeBytes → List ℕ → Type 0
Splits left parts rest = (s : Snake) (behind : List ℕ) → left ≡ snake_record s ++ behind → IsSnakeBytes s parts × (rest ≡ behind)

-- what the next snake's id is, and what follows it
abbrev pub SplitsId : List ℕ → List ℕ → List ℕ → Type 0
SplitsId left id state =
    (s : Snake) (behind : List ℕ) → left ≡ snake_record s ++ behind
    → (id ≡ s.id) × (state ≡ state_bytes s ++ (flat_map (cell_bytes 1) s.body ++ behind))

next_record : (snakes : List Snake) (i : ℕ) (left : List ℕ) → i < length snakes → left ≡ flat_map snake_record (drop i snakes)
    → left ≡ snake_record (get_or snakes i some) ++ flat_map snake_record (drop (i + 1) snakes)
next_record snakes i left within is = is ∙ ap (flat_map snake_record) (drop_more snakes i some within)

-- one snake more is skipped
pub one_skipped : (snakes : List Snake) (i : ℕ) (left rest : List ℕ) (parts : SnakeBytes) → i < length snakes → left ≡ flat_map snake_record (drop i snakes)
    → Splits left parts rest → rest ≡ flat_map snake_record (drop (i + 1) snakes)
one_skipped snakes i left rest parts within is splits =
    (splits (get_or snakes i some) (flat_map snake_record (drop (i + 1) snakes)) (next_record snakes i left within is)).1

-- what follows the id of the next snake
pub next_state : (snakes : List Snake) (i : ℕ) (left id state : List ℕ) → i < length snakes → left ≡ flat_map snake_record (drop i snakes) → SplitsId left id state
    → state ≡ state_bytes (get_or snakes i some) ++ (flat_map (cell_bytes 1) (get_or snakes i some).body ++ flat_map snake_record (drop (i + 1) snakes))
next_state snakes i left id state within is splits =
    (splits (get_or snakes i some) (flat_map snake_record (drop (i + 1) snakes)) (next_record snakes i left within is)).1

-- one snake more, which lives or is out
pub one_living : (snakes : List Snake) (i spare next most : ℕ) → i < length snakes → spare + count_by is_living (take i snakes) ≡ most
    → true ≡ is_living (get_or snakes i some) → 0 < spare → next ≡ spare - 1 → next + count_by is_living (take (i + 1) snakes) ≡ most
one_living snakes i spare next most within so_far lives more less = omega (arith, count_by_more_yes is_living snakes i some within (sym lives))

pub one_out : (snakes : List Snake) (i spare next most : ℕ) → i < length snakes → spare + count_by is_living (take i snakes) ≡ most
    → false ≡ is_living (get_or snakes i some) → next ≡ spare → next + count_by is_living (take (i + 1) snakes) ≡ most
one_out snakes i spare next most within so_far out same = omega (arith, count_by_more_no is_living snakes i some within (sym out))

-- all are counted
pub few_live : (snakes : List Snake) (i spare most : ℕ) → length snakes ≤ i → spare + count_by is_living (take i snakes) ≡ most
    → true ≡ nat_le (count_by is_living snakes) most
few_live snakes i spare most all so_far =
    let whole = ap (count_by is_living) (take_all i snakes all) in
    sym (le-leb (count_by is_living snakes) most (omega arith))

-- one more than `most` lives
pub too_many_live : (snakes : List Snake) (i spare most : ℕ) → i < length snakes → spare + count_by is_living (take i snakes) ≡ most
    → true ≡ is_living (get_or snakes i some) → spare ≡ 0 → false ≡ nat_le (count_by is_living snakes) most
too_many_live snakes i spare most within so_far lives none =
    let one = count_by_more_yes is_living snakes i some within (sym lives) in
    let front = sum_by-take-le (λ s. if is_living s then 1 else 0) snakes (i + 1) in
    sym (lt-leb (count_by is_living snakes) most (omega arith))
