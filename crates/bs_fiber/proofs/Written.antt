-- A Join writes the outcome that is defined for it.
use Rattle.std.proofs.Common.{◌≡◌, ℕ, ◌+◌, ◌≤◌, true, List, [], length, get_or, Option, Some, None, refl, sym, ap, subst, ◌∙◌, arith, All, map}
use Rattle.std.specs.Prelude.{is_some}
use Rattle.std.specs.List.{range_with_len}
use Rattle.std.proofs.lemmas.List.Elements.{All-map}
use Rattle.std.proofs.lemmas.List.FromFn.{length-map-range_with_len, get_or-map-range_with_len}
use Rattle.bs_block.specs.Rounding.{rounded}
use Rattle.bs_board.specs.declared.boards.board.Board.{Board}
use Rattle.bs_board.specs.declared.boards.snake.Snake.{Snake}
use Rattle.bs_board.specs.declared.commands.command.Command.{Command}
use Rattle.bs_board.specs.records.FitSnake.{IsFitSnake}
use Rattle.bs_game.specs.declared.reply.Answer.{Answer}
use Rattle.bs_game.specs.declared.reply.Effect.{Effect}
use Rattle.bs_game.specs.declared.reply.Effect.TheVariants as effect
use Rattle.bs_game.specs.declared.view.View.{View}
use Rattle.bs_game.specs.Law.{IsFitRecord, IsFitEffect}
use Rattle.bs_game.specs.View.{answer_of}
use Rattle.bs_game.proofs.Games.{board_charge_small}
use Rattle.bs_fiber.specs.declared.input.Input.{Input}
use Rattle.bs_fiber.specs.declared.job.JobKind.{JobKind}
use Rattle.bs_fiber.specs.declared.job.JobKind.TheVariants.{Join}
use Rattle.bs_fiber.specs.declared.out.Out.TheVariants.{Joined}
use Rattle.bs_fiber.specs.declared.piece.Piece.{Piece}
use Rattle.bs_fiber.specs.Fit.{IsFitInput}
use Rattle.bs_fiber.specs.Frames.{frame_of}
use Rattle.bs_fiber.specs.Seeing.{IsBoardOf, IsSeen}
use Rattle.bs_fiber.specs.inner.Frames.{AreFewAndFit, HoldAll}
use Rattle.bs_fiber.specs.Work.{IsWorked, moved_part, moved_parts, out_seen, parts_of, piece_added, snakes_in}
use Rattle.bs_fiber.proofs.FitSnakes.{moved_part_few, moved_part_fits}
use Rattle.bs_fiber.proofs.Framed.{frame_small}
use Rattle.bs_fiber.proofs.Joined.{fit_join, join_has_a_board}

-- ---- the room

record_is_small : (quota charge : ℕ) (bytes : List ℕ) → IsFitRecord quota charge bytes → rounded (length bytes) ≤ 166896
record_is_small quota charge bytes fit =
    let small = board_charge_small fit.board fit.legal in
    rw fit.is (omega (arith, small))

-- after the bytes of a part there is room for a record
pub record_has_room : (quota charge : ℕ) (e : Effect) (bytes block : List ℕ) (moved : List Snake) → IsFitEffect quota charge e → e ≡ effect.Add bytes
    → length moved ≤ 2 → All IsFitSnake moved → block ≡ frame_of moved → length block + rounded (length bytes) ≤ 262144
record_has_room quota charge e bytes block moved fits is few fit block_is =
    let small = record_is_small quota charge bytes (rw is at fits) in
    let front = frame_small moved fit in
    omega (arith, ap length block_is)

-- ---- the parts

some_seats : (bytes : Option (List ℕ)) (board : Option Board) → IsBoardOf bytes board → is_some bytes ≡ true → 1 ≤ length (snakes_in board)
some_seats None None is some = absurd cc
some_seats None (Some board) is some = absurd is
some_seats (Some bytes) None is some = absurd is
some_seats (Some bytes) (Some board) is some = is.0.limits.some

-- a Join has a part at least
pub some_parts : (input : Input) (view : View) → IsFitInput input → input.job.kind ≡ Join → IsSeen view input → 1 ≤ length (moved_parts view input.command)
some_parts input view fit kind seen =
    let seats = some_seats input.last view.last seen.last (join_has_a_board input fit kind) in
    let long = length-map-range_with_len (λ part. moved_part part view input.command) 0 (parts_of (length (snakes_in view.last))) in
    omega arith

pub first_part : (view : View) (command : Command) → 1 ≤ length (moved_parts view command) → get_or (moved_parts view command) 0 [] ≡ moved_part 0 view command
first_part view command some =
    let many = parts_of (length (snakes_in view.last)) in
    let long = length-map-range_with_len (λ part. moved_part part view command) 0 many in
    get_or-map-range_with_len (λ part. moved_part part view command) 0 many 0 0 [] (omega arith) refl

-- the blocks that a Join reads
pub parts_are_held : (input : Input) (view : View) (blocks : List (List ℕ)) → IsFitInput input → input.job.kind ≡ Join → IsSeen view input
    → blocks ≡ map frame_of (moved_parts view input.command) → HoldAll (moved_parts view input.command) input.parts blocks
parts_are_held input view blocks fit kind seen are =
    let P : List Snake → Type 0 = All IsFitSnake in
    let f : ℕ → List Snake = λ part. moved_part part view input.command in
    record {
      fit = All-map P f (range_with_len 0 (parts_of (length (snakes_in view.last)))) (λ i d within. moved_part_fits input view _ seen);
      places_are = (fit_join input view fit kind seen).moved;
      blocks_are = are;
    }

pub parts_are_few : (input : Input) (view : View) → IsFitInput input → input.job.kind ≡ Join → IsSeen view input → AreFewAndFit (moved_parts view input.command)
parts_are_few input view fit kind seen =
    let P : List Snake → Type 0 = All IsFitSnake in
    let Few : List Snake → Type 0 = λ part. length part ≤ 2 in
    let f : ℕ → List Snake = λ part. moved_part part view input.command in
    let parts = range_with_len 0 (parts_of (length (snakes_in view.last))) in
    record {
      some = some_parts input view fit kind seen;
      few = All-map Few f parts (λ i d within. moved_part_few view input.command _);
      fit = All-map P f parts (λ i d within. moved_part_fits input view _ seen);
    }

same_out : (a b : Answer) (p q : Option Piece) → a ≡ b → p ≡ q → Joined a p ≡ Joined b q
same_out a b p q a_is p_is = rw (a_is, p_is) refl

-- the answer is that of each view, and its record is after the first part's bytes
pub join_is_worked : (input : Input) (answer : Answer) (piece : Option Piece) → IsFitInput input → input.job.kind ≡ Join
    → ((view : View) → IsSeen view input → answer ≡ answer_of view input.command)
    → ((view : View) → IsSeen view input → piece ≡ piece_added answer.effect (get_or (moved_parts view input.command) 0 [])) → IsWorked input (Joined answer piece)
join_is_worked input answer piece fit kind given piece_is view seen =
    let first = first_part view input.command (some_parts input view fit kind seen) in
    let a = given view seen in
    let P : JobKind → Type 0 = λ k. Joined answer piece ≡ out_seen k input.job.part view input.command in
    subst P (sym kind)
    (same_out answer (answer_of view input.command) piece (piece_added (answer_of view input.command).effect (moved_part 0 view input.command)) a
    (piece_is view seen ∙ ap (piece_added answer.effect) first ∙ ap (λ (x : Answer). piece_added x.effect (moved_part 0 view input.command)) a))
