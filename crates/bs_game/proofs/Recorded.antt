-- Games and their kept records.
use Rattle.std.proofs.Common.{◌≡◌, ℕ, zero, suc, ◌+◌, ◌-◌, ◌<◌, ◌≤◌, List, [], ◌∷◌, Some, None, length, map, slice_get, slice_index_or, refl, sym, ap, ◌∙◌, arith, inl, inr}
use Rattle.std.specs.Prelude.{sum_by}
use Rattle.std.proofs.lemmas.Bool.{cases_Bool, leb-true}
use Rattle.std.proofs.lemmas.List.{length-map}
use Rattle.std.proofs.lemmas.List.Sums.{sum_by-cons}
use Rattle.std.proofs.lemmas.Option.{slice_get_within, slice_get-get_or, get_or_from_slice_get}
use Rattle.bs_block.specs.Rounding.{rounded}
use Rattle.bs_board.specs.declared.boards.board.Board.{Board}
use Rattle.bs_board.specs.boards.Legal.{IsLegal}
use Rattle.bs_board.specs.records.Record.{record_of}
use Rattle.bs_board.proofs.Chains.{and_both}
use Rattle.bs_game.specs.declared.reply.Answer.{Answer}
use Rattle.bs_game.specs.Answer.{Outcome}
use Rattle.bs_game.specs.Game.{Game, IsGame, last_board, board_of_turn, game_charge, board_charge}
use Rattle.bs_game.specs.Law.{IsAnswerTo, effected}
use Rattle.bs_game.specs.inner.Recorded.{IsRecorded}
use Rattle.bs_game.specs.Turns.{is_kept, place_of_turn, at_place}
use Rattle.bs_game.proofs.KeptTurns.{places, few_turns}

-- there are as many records as boards
pub as_many : (game : Game) (records : List (List ℕ)) → IsRecorded game records → length records ≡ length game
as_many game records kept = ap length kept.is ∙ length-map game record_of

-- the charge of the records is that of the game
charge_of_records : (game : Game) → sum_by (λ bytes. rounded (length bytes)) (map record_of game) ≡ sum_by board_charge game
charge_of_records [] = refl
charge_of_records (board ∷ game) =
    sum_by-cons (λ bytes. rounded (length bytes)) (record_of board) (map record_of game)
    ∙ ap (λ rest. board_charge board + rest) (charge_of_records game)
    ∙ sym (sum_by-cons board_charge board game)

pub same_charge : (game : Game) (records : List (List ℕ)) → IsRecorded game records
    → sum_by (λ bytes. rounded (length bytes)) records ≡ game_charge game
unfolding game_charge
same_charge game records kept = ap (sum_by (λ bytes. rounded (length bytes))) kept.is ∙ charge_of_records game

-- the records after an answer's effect are those of the game after it
pub recorded_after : (most : ℕ) (game : Game) (outcome : Outcome) (answer : Answer) (records : List (List ℕ)) → IsRecorded game records
    → IsAnswerTo most game outcome answer → IsRecorded outcome.game (effected answer.effect records)
recorded_after most game outcome answer records kept told =
    record { right = told.right; is = ap (effected answer.effect) kept.is ∙ told.records }

-- the record at a place is that of the board there

one_there : {X : Type 0} (xs : List X) (place : ℕ) → place < length xs → (x : X) × (slice_get xs place ≡ Some x)
one_there [] place within = absurd (omega arith)
one_there (x ∷ xs) zero within = (x, refl)
one_there (x ∷ xs) (suc place) within = one_there xs place (omega arith)

record_there : (game : Game) (place : ℕ) (b : Board) → slice_get game place ≡ Some b → slice_index_or (map record_of game) place [] ≡ record_of b
record_there [] place b is = let wrong : None ≡ Some b = is in absurd cc
record_there (first ∷ game) zero b is = let same : first ≡ b = cc in ap record_of same
record_there (first ∷ game) (suc place) b is = record_there game place b is

legal_there : (game : Game) (place : ℕ) (b : Board) → IsGame game → slice_get game place ≡ Some b → IsLegal b
legal_there game place b right is =
    let within = slice_get_within game place b is in
    let same = get_or_from_slice_get game place b b is in
    rw same at (right.legal place b within)

-- the board at a place, legal and with that record
pub record BoardAt (game : Game) (place : ℕ) (bytes : List ℕ) : Type 0 where
  pub board : Board
  pub there : slice_get game place ≡ Some board
  pub legal : IsLegal board
  pub recorded : bytes ≡ record_of board

pub board_at_place : (game : Game) (records : List (List ℕ)) (place : ℕ) (bytes : List ℕ) → IsRecorded game records → place < length game
    → bytes ≡ slice_index_or records place [] → BoardAt game place bytes
board_at_place game records place bytes kept within is =
    let found = one_there game place within in
    record {
      board = found.0;
      there = found.1;
      legal = legal_there game place found.0 kept.right found.1;
      recorded = is ∙ ap (λ all. slice_index_or all place []) kept.is ∙ record_there game place found.0 found.1;
    }

-- boards by their turns

pub nothing_of_turn : (game : Game) (at : ℕ) → None ≡ last_board game → board_of_turn at game ≡ None
unfolding board_of_turn
nothing_of_turn [] at none = refl
nothing_of_turn (first ∷ game) at none =
    let there = slice_get-get_or (first ∷ game) (length (first ∷ game) - 1) first (omega arith) in
    let wrong : None ≡ Some (slice_index_or (first ∷ game) (length (first ∷ game) - 1) first) = none ∙ there in
    cc

pub kept_turns : (game : Game) (records : List (List ℕ)) (last : Board) (count : ℕ) → IsRecorded game records → Some last ≡ last_board game → count ≡ length records
    → count ≤ last.turn + 1
kept_turns game records last count kept is counted =
    let most = few_turns game last kept.right (sym is) in
    let same = as_many game records kept in
    omega arith

pub turn_at : (game : Game) (records : List (List ℕ)) (last : Board) (count at : ℕ) → IsRecorded game records → Some last ≡ last_board game → count ≡ length records
    → board_of_turn at game ≡ at_place (place_of_turn count last.turn at) game
turn_at game records last count at kept is counted =
    let same : count ≡ length game = counted ∙ as_many game records kept in
    rw same (places game last at kept.right (sym is))

pub turn_is_gone : (game : Game) (records : List (List ℕ)) (last : Board) (count at : ℕ) → IsRecorded game records → Some last ≡ last_board game
    → count ≡ length records → None ≡ place_of_turn count last.turn at → board_of_turn at game ≡ None
turn_is_gone game records last count at kept is counted none =
    turn_at game records last count at kept is counted ∙ ap (λ place. at_place place game) (sym none)

pub turn_is_there : (game : Game) (records : List (List ℕ)) (last board : Board) (count at place : ℕ) → IsRecorded game records → Some last ≡ last_board game
    → count ≡ length records → Some place ≡ place_of_turn count last.turn at → slice_get game place ≡ Some board → board_of_turn at game ≡ Some board
turn_is_there game records last board count at place kept is counted found there =
    turn_at game records last count at kept is counted ∙ ap (λ place. at_place place game) (sym found) ∙ there

place_is_within : (count last at place : ℕ) → place_of_turn count last at ≡ Some place → place < count
place_is_within count last at place found =
    elim (cases_Bool (is_kept count last at)) [
      | inl kept ↦
          let tests = and_both _ _ kept in
          let from : last + 1 ≤ at + count = leb-true _ _ tests.0 in
          let to : at ≤ last = leb-true _ _ tests.1 in
          let some : Some (at + count - (last + 1)) ≡ Some place = rw kept at found in
          let same : at + count - (last + 1) ≡ place = cc in
          omega arith
      | inr gone ↦
          let wrong : None ≡ Some place = rw gone at found in
          cc
    ]

pub turn_is_within : (game : Game) (records : List (List ℕ)) (last : Board) (count at place : ℕ) → IsRecorded game records → count ≡ length records
    → Some place ≡ place_of_turn count last.turn at → place < length game
turn_is_within game records last count at place kept counted found =
    let same = as_many game records kept in
    let less = place_is_within count last.turn at place (sym found) in
    omega arith
