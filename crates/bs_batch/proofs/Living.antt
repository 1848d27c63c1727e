-- The number of living snakes, by the bytes of their causes.
use Rattle.std.proofs.Common.{◌≡◌, ℕ, ◌+◌, ◌%◌, ◌<◌, ◌≤◌, Bool, true, false, cond, List, length, take, Option, Some, None, count_by, eqb, leb, refl, ap, ◌∙◌, arith}
use Rattle.std.specs.Prelude.{is_none}
use Rattle.std.proofs.lemmas.List.{take_all}
use Rattle.std.proofs.lemmas.List.Sums.{sum_by_more}
use mir.Val.{bool_byte}
use Rattle.bs_board.specs.declared.boards.board.Board.{Board}
use Rattle.bs_board.specs.declared.boards.board.Mode.{Mode}
use Rattle.bs_board.specs.declared.boards.board.Mode.TheVariants.{Standard, Solo, Constrictor, Wrapped}
use Rattle.bs_board.specs.declared.boards.snake.Snake.{Snake}
use Rattle.bs_board.specs.declared.boards.snake.Cause.{Cause}
use Rattle.bs_board.specs.declared.boards.snake.Cause.TheVariants.{OutOfHealth, WallCollision, SelfCollision, BodyCollision, HeadCollision, Hazard}
use Rattle.bs_board.specs.boards.Over.{is_living, is_over, last_living}
use Rattle.bs_board.specs.records.Record.{cause_byte, mode_byte}
use Rattle.bs_rules.specs.Collision.{nobody, snake_at}
use Rattle.bs_batch.specs.declared.layout.Head.{Head}

pub byte_is : (b : Bool) → bool_byte b ≡ cond {A = ℕ} b 1 0
byte_is true = refl
byte_is false = refl

pub byte_at_most : (b : Bool) → bool_byte b ≤ 1
byte_at_most true = omega arith
byte_at_most false = omega arith

lives_byte : (cause : Option Cause) → bool_byte (eqb (cause_byte cause) 0) ≡ cond {A = ℕ} (is_none cause) 1 0
lives_byte None = refl
lives_byte (Some OutOfHealth) = refl
lives_byte (Some WallCollision) = refl
lives_byte (Some SelfCollision) = refl
lives_byte (Some BodyCollision) = refl
lives_byte (Some HeadCollision) = refl
lives_byte (Some Hazard) = refl

-- one more seat
pub one_counted : (snakes : List Snake) (i living one cause : ℕ) → i < length snakes → living ≤ i → i < 8 → living ≡ count_by is_living (take i snakes)
    → one ≡ bool_byte (eqb cause 0) → cause ≡ cause_byte (snake_at snakes i).cause → (living + one) % 256 ≡ count_by is_living (take (i + 1) snakes)
one_counted snakes i living one cause within few eight so_far is byte =
    let here : one ≡ cond {A = ℕ} (is_living (snake_at snakes i)) 1 0 = is ∙ ap (λ k. bool_byte (eqb k 0)) byte ∙ lives_byte (snake_at snakes i).cause in
    let low = byte_at_most (eqb cause 0) in
    let more : count_by is_living (take (i + 1) snakes) ≡ count_by is_living (take i snakes) + cond (is_living (snake_at snakes i)) 1 0 =
    sum_by_more (λ s. cond {A = ℕ} (is_living s) 1 0) snakes i nobody within in
    omega arith

pub all_counted : (snakes : List Snake) (i living : ℕ) → length snakes ≤ i → living ≡ count_by is_living (take i snakes) → living ≡ count_by is_living snakes
all_counted snakes i living past so_far = so_far ∙ ap (count_by is_living) (take_all i snakes past)

pub last_of_solo : (m : Mode) (byte : ℕ) → byte ≡ mode_byte m → byte ≡ 1 → 0 ≡ last_living m
last_of_solo Standard byte is one = absurd (omega arith)
last_of_solo Solo byte is one = refl
last_of_solo Constrictor byte is one = absurd (omega arith)
last_of_solo Wrapped byte is one = absurd (omega arith)

pub last_of_others : (m : Mode) (byte : ℕ) → byte ≡ mode_byte m → (byte ≡ 1 → ⊥) → 1 ≡ last_living m
last_of_others Standard byte is other = refl
last_of_others Solo byte is other = absurd (other is)
last_of_others Constrictor byte is other = refl
last_of_others Wrapped byte is other = refl

-- the bytes that are written
pub counted : (old : Head) (b : Board) (living last over : ℕ) → living ≡ count_by is_living b.snakes → last ≡ last_living b.mode
    → over ≡ bool_byte (leb living last)
    → record old { living = living; over = over } ≡ record old { living = count_by is_living b.snakes; over = cond (is_over b) 1 0 }
counted old b living last over are end is =
    let over_is : over ≡ cond {A = ℕ} (is_over b) 1 0 = is ∙ byte_is (leb living last) ∙ rw (are, end) refl in
    ap (λ n. record old { living = n; over = over }) are ∙ ap (λ n. record old { living = count_by is_living b.snakes; over = n }) over_is
