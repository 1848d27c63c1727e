-- The numbers of a legal board fit the bytes of its record.
use Rattle.std.proofs.Common.{◌≡◌, ℕ, ◌+◌, ◌*◌, ◌<◌, ◌≤◌, Bool, true, false, not, List, [], ◌∷◌, length, drop, get_or, All, MatchOption, Option, Some, None, ℤ, pos, negsuc, ◌+ℤ◌, arith}
use Rattle.std.specs.Prelude.{int_le, int_lt}
use Rattle.std.proofs.lemmas.Int.{ints}
use Rattle.std.proofs.lemmas.List.Elements.{All-cons, All-weaker}
use Rattle.std.proofs.lemmas.List.Sums.{AllPass-from_list_all}
use Rattle.std.proofs.lemmas.Nat.{mul-le}
use Rattle.bs_board.specs.declared.boards.board.Board.{Board}
use Rattle.bs_board.specs.declared.boards.point.Point.{Point}
use Rattle.bs_board.specs.declared.boards.hazards.Hazards.{Hazards}
use Rattle.bs_board.specs.declared.boards.snake.Snake.{Snake}
use Rattle.bs_board.specs.declared.boards.snake.Cause.{Cause}
use Rattle.bs_board.specs.declared.boards.snake.Cause.TheVariants.{OutOfHealth, WallCollision, SelfCollision, BodyCollision, HeadCollision, Hazard}
use Rattle.bs_board.specs.boards.Cell.{head_of, is_on_board}
use Rattle.bs_board.specs.boards.Legal.{IsLegal, IsLegalSnake, IsLegalLiving, IsLegalOut, IsKillerOf, IsTurnBy, is_near, is_head_of}
use Rattle.bs_board.specs.boards.Hazards.{are_fit_hazards}
use Rattle.bs_board.specs.boards.Wrap.{is_wrapped}
use Rattle.bs_board.specs.records.Writing.{IsByte, IsByteCell, IsWritable}
use Rattle.bs_board.specs.inner.Writing.{AreWritableHazards, IsWritableBoard}
use Rattle.bs_board.proofs.Utf8.{short_text}
use Rattle.bs_board.proofs.Chains.{and_both}
use Rattle.bs_board.proofs.boards.CellsOnBoard.{cells_on_board}
use Rattle.bs_board.proofs.records.Longest.{few_hazards, side_fits}

on_side_is_byte : (z : ℤ) (n : ℕ) → n ≤ 25 → int_le (pos 0) z ≡ true → int_lt z (pos n) ≡ true → IsByte (z +ℤ pos 0) × IsByte (z +ℤ pos 1)
on_side_is_byte z n few low high = ((grind (arith, ints), grind (arith, ints)), (grind (arith, ints), grind (arith, ints)))

near_side_is_byte : (z : ℤ) (n : ℕ) → n ≤ 25 → int_le (negsuc 0) z ≡ true → int_le z (pos n) ≡ true → IsByte (z +ℤ pos 1)
near_side_is_byte z n few low high = (grind (arith, ints), grind (arith, ints))

on_board_is_byte : (width height : ℕ) (p : Point) → width ≤ 25 → height ≤ 25 → is_on_board width height p ≡ true → IsByteCell 0 p × IsByteCell 1 p
on_board_is_byte width height p wide high on =
    let last = and_both _ _ on in
    let low = and_both _ _ last.0 in
    let first = and_both _ _ low.0 in
    let x = on_side_is_byte p.x width wide first.0 first.1 in
    let y = on_side_is_byte p.y height high low.1 last.1 in
    (record { x = x.0; y = y.0 }, record { x = x.1; y = y.1 })

pub near_is_byte : (width height : ℕ) (p : Point) → width ≤ 25 → height ≤ 25 → is_near width height p ≡ true → IsByteCell 1 p
near_is_byte width height p wide high near =
    let last = and_both _ _ near in
    let low = and_both _ _ last.0 in
    let first = and_both _ _ low.0 in
    record { x = near_side_is_byte p.x width wide first.0 first.1; y = near_side_is_byte p.y height high low.1 last.1 }

-- the cells where the head of an eliminated snake may be
out_is_byte : (cause : Cause) (wraps : Bool) (width height : ℕ) (p : Point) → width ≤ 25 → height ≤ 25 → is_head_of wraps cause width height p ≡ true → IsByteCell 1 p
out_is_byte OutOfHealth true width height p wide high head = (on_board_is_byte width height p wide high head).1
out_is_byte OutOfHealth false width height p wide high head = near_is_byte width height p wide high head
out_is_byte WallCollision true width height p wide high head = absurd cc
out_is_byte WallCollision false width height p wide high head = near_is_byte width height p wide high (and_both (is_near width height p) (not (is_on_board width height p)) head).0
out_is_byte SelfCollision wraps width height p wide high head = (on_board_is_byte width height p wide high head).1
out_is_byte BodyCollision wraps width height p wide high head = (on_board_is_byte width height p wide high head).1
out_is_byte HeadCollision wraps width height p wide high head = (on_board_is_byte width height p wide high head).1
out_is_byte Hazard wraps width height p wide high head = (on_board_is_byte width height p wide high head).1

head_is_byte : (b : Board) (seat : ℕ) (s : Snake) (cause : Option Cause) → b.width ≤ 25 → b.height ≤ 25 → MatchOption cause (IsLegalLiving b s) (IsLegalOut b seat s)
    → IsByteCell 1 (head_of s.body)
head_is_byte b seat s None wide high state = (on_board_is_byte b.width b.height (head_of s.body) wide high state.head).1
head_is_byte b seat s (Some cause) wide high state = out_is_byte cause (is_wrapped b.mode) b.width b.height (head_of s.body) wide high state.head

abbrev FitsKiller : Option ℕ → Type 0
FitsKiller killer = MatchOption killer (Unit {0}) (λ k. k + 1 < 256)

killer_of_none : (killer : Option ℕ) → killer ≡ None → FitsKiller killer
killer_of_none None is = tt
killer_of_none (Some k) is = absurd cc

killer_of_seat : (seats seat : ℕ) (killer : Option ℕ) → seats ≤ 8 → seat < seats → killer ≡ Some seat → FitsKiller killer
killer_of_seat seats seat None few within is = tt
killer_of_seat seats seat (Some k) few within is = let same : k ≡ seat = cc in omega arith

killer_of_other : (seats seat : ℕ) (killer : Option ℕ) → seats ≤ 8 → MatchOption killer ⊥ (λ k. (k < seats) × (k ≡ seat → ⊥)) → FitsKiller killer
killer_of_other seats seat None few other = tt
killer_of_other seats seat (Some k) few other = let below = other.0 in omega arith

killer_fits : (cause : Cause) (seats seat : ℕ) (killer : Option ℕ) → seats ≤ 8 → seat < seats → IsKillerOf cause seats seat killer → FitsKiller killer
killer_fits OutOfHealth seats seat killer few within is = killer_of_none killer is
killer_fits WallCollision seats seat killer few within is = killer_of_none killer is
killer_fits SelfCollision seats seat killer few within is = killer_of_seat seats seat killer few within is
killer_fits BodyCollision seats seat killer few within is = killer_of_other seats seat killer few is
killer_fits HeadCollision seats seat killer few within is = killer_of_other seats seat killer few is
killer_fits Hazard seats seat killer few within is = killer_of_none killer is

killer_is_byte : (b : Board) (seat : ℕ) (s : Snake) (cause : Option Cause) → length b.snakes ≤ 8 → seat < length b.snakes → MatchOption cause (IsLegalLiving b s) (IsLegalOut b seat s)
    → FitsKiller s.killer
killer_is_byte b seat s None few within state = killer_of_none s.killer state.killer
killer_is_byte b seat s (Some cause) few within state = killer_fits cause (length b.snakes) seat s.killer few within state.killer

out_of_none : (out : Option ℕ) → out ≡ None → MatchOption out (Unit {0}) (λ turn. 1 ≤ turn)
out_of_none None is = tt
out_of_none (Some turn) is = absurd cc

out_of_turn : (turn : ℕ) (out : Option ℕ) → IsTurnBy turn out → MatchOption out (Unit {0}) (λ number. 1 ≤ number)
out_of_turn turn None by = tt
out_of_turn turn (Some number) by = by.0

out_is_some : (b : Board) (seat : ℕ) (s : Snake) (cause : Option Cause) → MatchOption cause (IsLegalLiving b s) (IsLegalOut b seat s)
    → MatchOption s.out (Unit {0}) (λ turn. 1 ≤ turn)
out_is_some b seat s None state = out_of_none s.out state.out
out_is_some b seat s (Some cause) state = out_of_turn b.turn s.out state.out

all_bytes : (body : List Point) → 3 ≤ length body → IsByteCell 1 (head_of body) → All (IsByteCell 1) (drop 1 body) → All (IsByteCell 1) body
all_bytes [] long head rest = absurd (omega arith)
all_bytes (p ∷ ps) long head rest = All-cons (IsByteCell 1) p ps head rest

snake_is_writable : (b : Board) (seat : ℕ) (s : Snake) → b.width ≤ 25 → b.height ≤ 25 → b.turn ≤ 10000 → length b.snakes ≤ 8 → seat < length b.snakes
    → IsLegalSnake b seat s → IsWritable s
snake_is_writable b seat s wide high turn few within legal =
    let name : length s.id ≤ 64 = short_text s.id legal.id in
    let short = legal.body.short in
    let parts : All (IsByteCell 1) (drop 1 s.body) =
    All-weaker (λ p. is_on_board b.width b.height p ≡ true) (IsByteCell 1) (λ p on. (on_board_is_byte b.width b.height p wide high on).1) (drop 1 s.body) legal.body.inside in
    record {
      id = omega arith;
      killer = killer_is_byte b seat s s.cause few within legal.state;
      out = out_is_some b seat s s.cause legal.state;
      parts = omega arith;
      cells = all_bytes s.body legal.body.long (head_is_byte b seat s s.cause wide high legal.state) parts;
    }

hazards_are_writable : (width height : ℕ) (hazards : Option Hazards) → width ≤ 25 → height ≤ 25 → are_fit_hazards width height hazards ≡ true → AreWritableHazards hazards
hazards_are_writable width height None wide high fits = tt
hazards_are_writable width height (Some h) wide high fits =
    let few = few_hazards width height h fits in
    record {
      few = omega arith;
      cells = All-weaker (λ p. is_on_board width height p ≡ true) (IsByteCell 0) (λ p on. (on_board_is_byte width height p wide high on).0) h.cells
          (AllPass-from_list_all _ h.cells (and_both _ _ fits).1);
    }

pub legal_is_writable : (b : Board) → IsLegal b → IsWritableBoard b
legal_is_writable b legal =
    let wide : b.width ≤ 25 = side_fits b.width legal.limits.width in
    let high : b.height ≤ 25 = side_fits b.height legal.limits.height in
    let food = and_both _ _ legal.food.fits in
    let cells : length b.food ≤ b.width * b.height = cells_on_board b.width b.height b.food food.0 food.1 in
    let places : b.width * b.height ≤ 25 * 25 = mul-le b.width b.height 25 25 wide high in
    let few = legal.limits.few in
    record {
      few = omega arith;
      food = omega arith;
      cells = All-weaker (λ p. is_on_board b.width b.height p ≡ true) (IsByteCell 0) (λ p on. (on_board_is_byte b.width b.height p wide high on).0) b.food (AllPass-from_list_all _ b.food food.0);
      hazards = hazards_are_writable b.width b.height b.hazards wide high legal.hazards;
      snakes = λ seat d within. snake_is_writable b seat (get_or b.snakes seat d) wide high legal.limits.turn few within (legal.snakes seat d within);
    }
