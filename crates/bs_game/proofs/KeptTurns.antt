-- The boards of a game are those of its newest turns.
use Rattle.std.proofs.Common.{◌≡◌, ℕ, suc, ◌+◌, ◌-◌, ◌≤◌, ◌<◌, false, [], ◌∷◌, Some, None, length, slice_get, refl, sym, ap, ◌∙◌, subst, inl, inr, arith}
use Rattle.std.specs.Prelude.{nat_eq, nat_le}
use Rattle.std.specs.List.{find}
use Rattle.std.proofs.lemmas.Option.{slice_get_past}
use Rattle.std.proofs.lemmas.Bool.{cases_Bool, leb-true, leb-false, eqb-true, eqb-false, ne_eqb}
use Rattle.bs_board.specs.declared.boards.board.Board.{Board}
use Rattle.bs_game.specs.Game.{Game, IsGame, AreConsecutive, board_of_turn, last_board}
use Rattle.bs_game.specs.Turns.{place_of_turn, at_place, PlaceLaw}
use Rattle.bs_game.proofs.Games.{last_behind}

-- the boards are of the turns from the first one on
StartAt : ℕ → Game → Type 0
StartAt first [] = Unit {0}
StartAt first (board ∷ rest) = (board.turn ≡ first) × StartAt (first + 1) rest

starts_at : (board : Board) (rest : Game) → AreConsecutive (board ∷ rest) → StartAt board.turn (board ∷ rest)
unfolding StartAt
starts_at board [] turns = (refl, tt)
starts_at board (second ∷ rest) turns = (refl, subst (λ (first : ℕ). StartAt first (second ∷ rest)) turns.0 (starts_at second rest turns.1))

none_before : (game : Game) (first at : ℕ) → StartAt first game → at < first → find (λ board. nat_eq board.turn at) game ≡ None
unfolding StartAt
none_before [] first at starts early = refl
none_before (board ∷ rest) first at starts early =
    let turn = starts.0 in
    let other : nat_eq board.turn at ≡ false = ne_eqb board.turn at (λ same. omega arith) in
    rw other (none_before rest (first + 1) at starts.1 (omega arith))

one_from : (game : Game) (first at : ℕ) → StartAt first game → first ≤ at → find (λ board. nat_eq board.turn at) game ≡ slice_get game (at - first)
unfolding StartAt
one_from [] first at starts late = refl
one_from (board ∷ rest) first at starts late =
    let turn = starts.0 in
    elim (cases_Bool (nat_eq board.turn at)) [
      | inl here ↦
          let is : board.turn ≡ at = eqb-true board.turn at here in
          let none : at - first ≡ 0 = omega arith in
          rw (here, none) refl
      | inr behind ↦
          let differ = eqb-false board.turn at behind in
          let later : first + 1 ≤ at = omega (arith, differ) in
          let next : at - first ≡ suc (at - (first + 1)) = omega arith in
          rw (behind, next) (one_from rest (first + 1) at starts.1 later)
    ]

last_turn : (game : Game) (first : ℕ) (last : Board) → StartAt first game → last_board game ≡ Some last → last.turn + 1 ≡ first + length game
unfolding StartAt
last_turn [] first last starts is = let wrong : None ≡ Some last = is in absurd cc
last_turn (board ∷ []) first last starts is =
    let same : board ≡ last = cc in
    let turn : last.turn ≡ first = sym (ap (λ board. board.turn) same) ∙ starts.0 in
    omega arith
last_turn (board ∷ second ∷ rest) first last starts is =
    let next = last_turn (second ∷ rest) (first + 1) last starts.1 (sym (last_behind board second rest) ∙ is) in
    omega arith

-- the place of a turn, counted from the first kept turn
by_place : (game : Game) (first at : ℕ) (last : Board) → StartAt first game → last_board game ≡ Some last
    → find (λ board. nat_eq board.turn at) game ≡ at_place (place_of_turn (length game) last.turn at) game
by_place game first at last starts is =
    let turns = last_turn game first last starts is in
    elim (cases_Bool (nat_le (last.turn + 1) (at + length game))) [
      | inl late ↦
          let from : first ≤ at = let le = leb-true _ _ late in omega arith in
          let found = one_from game first at starts from in
          let place : at + length game - (last.turn + 1) ≡ at - first = omega arith in
          elim (cases_Bool (nat_le at last.turn)) [
            | inl within ↦ rw (late, within, place) found
            | inr beyond ↦
                let past : length game ≤ at - first = let lt = leb-false _ _ beyond in omega arith in
                rw (late, beyond) (found ∙ slice_get_past game (at - first) past)
          ]
      | inr early ↦
          let before : at < first = let lt = leb-false _ _ early in omega arith in
          rw early (none_before game first at starts before)
    ]

pub places : PlaceLaw
unfolding board_of_turn
places [] last at right is = let wrong : None ≡ Some last = is in absurd cc
places (board ∷ rest) last at right is = by_place (board ∷ rest) board.turn at last (starts_at board rest right.turns) is

-- the kept turns begin at turn 0 or later
pub few_turns : (game : Game) (last : Board) → IsGame game → last_board game ≡ Some last → length game ≤ last.turn + 1
few_turns [] last right is = omega arith
few_turns (board ∷ rest) last right is =
    let turns = last_turn (board ∷ rest) board.turn last (starts_at board rest right.turns) is in
    omega arith
