-- One snake's bytes: what is read is what is written so, and what is written is read again.
use Rattle.std.proofs.Common.{◌≡◌, ℕ, ◌+◌, ◌<◌, ◌≤◌, Bool, true, cond, List, [], ◌++◌, length, MatchOption, Option, Some, None, refl, sym, ap, subst, ◌∙◌, arith}
use Rattle.std.specs.Prelude.{nat_eq, Result, Ok, Err, IfOk, MatchResult}
use Rattle.std.specs.Str.{is_utf8}
use Rattle.std.proofs.lemmas.Bool.{eqb-true}
use Rattle.std.proofs.lemmas.List.{append-nil, nil_from_length, take_all}
use Rattle.std.proofs.lemmas.List.Elements.{All-weaker}
use Rattle.std.proofs.lemmas.Option.{cond_some}
use Rattle.bs_board.specs.declared.boards.snake.Snake.{Snake}
use Rattle.bs_board.specs.declared.limits.TheConstants.{LONGEST_SIDE}
use Rattle.bs_board.specs.declared.records.decode_error.Decode.{Decode}
use Rattle.bs_board.specs.declared.records.decode_error.Decode.TheVariants.{NotARecord, Memory}
use Rattle.bs_board.specs.boards.Legal.{is_near}
use Rattle.bs_board.specs.inner.Decoder.{Fails, read_snake, read_only_snake}
use Rattle.bs_board.specs.records.FitSnake.{IsFitSnake, IsKillerInRange, IsOutInRange}
use Rattle.bs_board.specs.records.Record.{snake_record}
use Rattle.bs_board.specs.records.Writing.{IsByteCell, IsWritable}
use Rattle.bs_board.specs.inner.Writing.{Puts}
use Rattle.bs_board.proofs.Chains.{and_both}
use Rattle.bs_board.proofs.Utf8.{short_text}
use Rattle.bs_board.proofs.records.Fields.{AreBytes, bind_some, some_is, along}
use Rattle.bs_board.proofs.records.SnakeRecord.{snake_takes, snake_again}
use Rattle.bs_board.proofs.records.Writable.{near_is_byte}

-- what fills a slice is all that it holds
pub puts_all : (bytes old new : List ℕ) (next : ℕ) → Puts 0 bytes old new next → length old ≡ length bytes → new ≡ bytes
puts_all bytes old new next p room =
    let whole : length new ≤ next = omega (arith, p.place, p.room) in
    sym (take_all next new whole) ∙ p.front

-- ---- a fit snake has the room that a record gives its numbers

killer_fits : (killer : Option ℕ) → IsKillerInRange killer → MatchOption killer (Unit {0}) (λ seat. seat + 1 < 256)
killer_fits None fit = tt
killer_fits (Some seat) fit = omega arith

out_fits : (out : Option ℕ) → IsOutInRange out → MatchOption out (Unit {0}) (λ turn. 1 ≤ turn)
out_fits None fit = tt
out_fits (Some turn) fit = fit.0

pub fit_is_writable : (s : Snake) → IsFitSnake s → IsWritable s
fit_is_writable s fit =
    let name : length s.id ≤ 64 = short_text s.id fit.id in
    let short = fit.short in
    record {
      id = omega arith;
      killer = killer_fits s.killer fit.killer;
      out = out_fits s.out fit.out;
      parts = omega arith;
      cells = All-weaker (λ p. is_near LONGEST_SIDE LONGEST_SIDE p ≡ true) (IsByteCell 1) (λ p near. near_is_byte 25 25 p (omega arith) (omega arith) near) s.body fit.near;
    }

fit_is_text : (s : Snake) → IsFitSnake s → is_utf8 s.id ≡ true
fit_is_text s fit = (and_both _ _ (and_both _ _ fit.id).0).0

-- ---- the laws

only_takes : (is_text : List ℕ → Bool) (bytes : List ℕ) (s : Snake) → AreBytes bytes → read_only_snake is_text bytes ≡ Some s → bytes ≡ snake_record s
unfolding read_only_snake
only_takes is_text bytes s fits e =
    let a = bind_some (read_snake is_text bytes) (λ snake. cond (nat_eq (length snake.1) 0) (Some snake.0) None) s e in
    let g = cond_some (nat_eq (length a.0.1) 0) a.0.0 s a.2 in
    let taken = (snake_takes is_text bytes a.0.0 a.0.1 fits a.1).0 in
    let none : a.0.1 ≡ [] = nil_from_length a.0.1 (eqb-true (length a.0.1) 0 g.0) in
    let whole : bytes ≡ snake_record a.0.0 = taken.parts ∙ rw none (append-nil (snake_record a.0.0)) in
    along (λ (s : Snake). bytes ≡ snake_record s) a.0.0 s g.1 whole

only_again : (is_text : List ℕ → Bool) (s : Snake) → IsWritable s → is_text s.id ≡ true → read_only_snake is_text (snake_record s) ≡ Some s
unfolding read_only_snake
only_again is_text s fits text =
    let again : read_snake is_text (snake_record s ++ []) ≡ Some (s, []) = snake_again is_text s [] (fits, text) in
    let whole : read_snake is_text (snake_record s) ≡ Some (s, []) = ap (read_snake is_text) (sym (append-nil (snake_record s))) ∙ again in
    rw whole refl

pub what_is_read : (bytes : List ℕ) (s : Snake) → AreBytes bytes → read_only_snake is_utf8 bytes ≡ Some s → bytes ≡ snake_record s
what_is_read bytes s fits e = only_takes is_utf8 bytes s fits e

pub snake_is_read : (bytes : List ℕ) (s : Snake) → IsFitSnake s → bytes ≡ snake_record s → read_only_snake is_utf8 bytes ≡ Some s
snake_is_read bytes s fit is = ap (read_only_snake is_utf8) is ∙ only_again is_utf8 s (fit_is_writable s fit) (fit_is_text s fit)

-- if there is a snake, reading can fail only for memory
pub failed_for_memory : (error : Decode) (read : Option Snake) (s : Snake) → read ≡ Some s → Fails error read → error ≡ Memory
failed_for_memory NotARecord read s is none = absurd cc
failed_for_memory Memory read s is none = refl

-- ---- the snake that was read, or none where it is not fit

abbrev pub GivesIfFit : Snake → Result Snake Decode → Type 0
GivesIfFit snake result = MatchResult result (λ s. IsFitSnake snake × (s ≡ snake)) (λ error. (error ≡ NotARecord) × (IsFitSnake snake → ⊥))

pub read_if_fit : (bytes : List ℕ) (snake : Snake) (result : Result Snake Decode) → bytes ≡ snake_record snake → GivesIfFit snake result
    → IfOk result (λ s. IsFitSnake s × (bytes ≡ snake_record s))
read_if_fit bytes snake (Ok s) is given = rw given.1 (given.0, is)
read_if_fit bytes snake (Err error) is given = tt

pub fit_is_read : (bytes : List ℕ) (snake s : Snake) (result : Result Snake Decode) → IsFitSnake s → bytes ≡ snake_record s → read_only_snake is_utf8 bytes ≡ Some snake
    → GivesIfFit snake result → MatchResult result (λ read. read ≡ s) (λ error. error ≡ Memory)
fit_is_read bytes snake s (Ok read) fit is found given = given.1 ∙ some_is snake s (sym found ∙ snake_is_read bytes s fit is)
fit_is_read bytes snake s (Err error) fit is found given =
    let same : s ≡ snake = some_is s snake (sym (snake_is_read bytes s fit is) ∙ found) in
    absurd (given.1 (subst IsFitSnake same fit))
