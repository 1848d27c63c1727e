-- The number of the parts of the next command.
use Rattle.std.proofs.Common.{◌≡◌, ℕ, ◌<◌, ◌≤◌, true, false, length, Option, Some, None, refl, sym, ap, ◌∙◌, arith, inl, inr}
use Rattle.std.specs.Prelude.{nat_le, not, List, option_map}
use Rattle.std.proofs.lemmas.Bool.{cases_Bool}
use Rattle.bs_board.specs.declared.boards.board.Board.{Board}
use Rattle.bs_board.specs.records.Record.{record_of}
use Rattle.bs_board.specs.boards.Over.{is_over}
use Rattle.bs_board.specs.commands.Orders.{Orders}
use Rattle.bs_board.specs.declared.commands.command.Command.{Command}
use Rattle.bs_board.specs.declared.commands.command.Command.TheVariants as command
use Rattle.bs_board.specs.declared.limits.TheConstants.{LAST_TURN}
use Rattle.bs_game.specs.Game.{last_board}
use Rattle.bs_game.specs.Reasons.{first_reason, is_move}
use Rattle.bs_game.specs.declared.view.View.{View}
use Rattle.bs_fiber.specs.Work.{goes, parts_of, snakes_in}
use Rattle.bs_sched.specs.Answering.{AreNextParts, begun}
use Rattle.bs_sched.specs.Lane.{Lane, goes_on, lane_command, lane_view}
use Rattle.bs_sched.specs.inner.Turns.{AreMoveParts, has_no_turn}

-- whether a move goes on

stays_without_game : (most charge kept : ℕ) (asked : Option Board) (c : Command) → goes (record { quota = most; charge = charge; kept = kept; last = None; asked = asked }) c ≡ false
unfolding first_reason
stays_without_game most charge kept asked (command.New setup) = refl
stays_without_game most charge kept asked (command.Move orders) = refl
stays_without_game most charge kept asked command.Show = refl
stays_without_game most charge kept asked (command.Turn at) = refl
stays_without_game most charge kept asked command.Free = refl
stays_without_game most charge kept asked command.End = refl
stays_without_game most charge kept asked command.Bad = refl

goes_by_board : (most charge kept : ℕ) (board : Board) (asked : Option Board) (orders : Orders)
    → goes (record { quota = most; charge = charge; kept = kept; last = Some board; asked = asked }) (command.Move orders) ≡ not (has_no_turn board)
unfolding first_reason
goes_by_board most charge kept board asked orders =
    elim (cases_Bool (is_over board)) [
      | inl ends ↦ rw ends refl
      | inr runs ↦
          elim (cases_Bool (nat_le LAST_TURN board.turn)) [
            | inl last ↦ rw (runs, last) refl
            | inr early ↦ rw (runs, early) refl
          ]
    ]

goes_where : (most charge kept : ℕ) (board : Board) (asked : Option Board) (c : Command) → is_move c ≡ true
    → goes (record { quota = most; charge = charge; kept = kept; last = Some board; asked = asked }) c ≡ not (has_no_turn board)
goes_where most charge kept board asked (command.New setup) moves = let wrong : false ≡ true = moves in absurd cc
goes_where most charge kept board asked (command.Move orders) moves = goes_by_board most charge kept board asked orders
goes_where most charge kept board asked command.Show moves = let wrong : false ≡ true = moves in absurd cc
goes_where most charge kept board asked (command.Turn at) moves = let wrong : false ≡ true = moves in absurd cc
goes_where most charge kept board asked command.Free moves = let wrong : false ≡ true = moves in absurd cc
goes_where most charge kept board asked command.End moves = let wrong : false ≡ true = moves in absurd cc
goes_where most charge kept board asked command.Bad moves = let wrong : false ≡ true = moves in absurd cc

no_parts : (x : Lane) → goes_on (begun x) ≡ false → AreNextParts x 0
no_parts x stays = record { is = rw stays refl; few = omega arith; some = λ moves. let wrong : false ≡ true = sym stays ∙ moves in absurd cc }

view_of_last : (view : View) (last : Option Board) → view.last ≡ last → view ≡ record { quota = view.quota; charge = view.charge; kept = view.kept; last = last; asked = view.asked }
view_of_last view last is = ap (λ (l : Option Board). record { quota = view.quota; charge = view.charge; kept = view.kept; last = l; asked = view.asked }) is

pub none_without_game : (x : Lane) (n : ℕ) → n ≡ 0 → last_board x.game ≡ None → AreNextParts x n
none_without_game x n none gone =
    let view = lane_view (begun x) in
    let c = lane_command (begun x) in
    rw none (no_parts x (ap (λ (v : View). goes v c) (view_of_last view None gone) ∙ stays_without_game view.quota view.charge view.kept view.asked c))

pub some_on_board : (x : Lane) (board : Board) (n : ℕ) → last_board x.game ≡ Some board → is_move (lane_command (begun x)) ≡ true → AreMoveParts board n → n ≤ 4
    → AreNextParts x n
some_on_board x board n last moves are few =
    let view = lane_view (begun x) in
    let c = lane_command (begun x) in
    let on : goes_on (begun x) ≡ not (has_no_turn board)
    = ap (λ (v : View). goes v c) (view_of_last view (Some board) last) ∙ goes_where view.quota view.charge view.kept board view.asked c moves in
    elim (cases_Bool (has_no_turn board)) [
      | inl refused ↦
          let stays : goes_on (begun x) ≡ false = on ∙ ap not refused in
          rw (are.none refused) (no_parts x stays)
      | inr plays ↦
          let goes : goes_on (begun x) ≡ true = on ∙ ap not plays in
          let many : n ≡ parts_of (length (snakes_in (last_board x.game))) = rw last (are.is plays) in
          record { is = rw goes many; few = few; some = λ _. are.some plays }
    ]

-- the record of the last board, if there is one

no_board : (last : Option Board) → None ≡ option_map record_of last → last ≡ None
no_board None is = refl
no_board (Some board) is = absurd cc

some_board : (last : Option Board) (bytes : List ℕ) → Some bytes ≡ option_map record_of last → (board : Board) × (last ≡ Some board) × (bytes ≡ record_of board)
some_board None bytes is = absurd cc
some_board (Some board) bytes is = (board, refl, cc)

pub none_without_record : (x : Lane) (n : ℕ) → n ≡ 0 → None ≡ option_map record_of (last_board x.game) → AreNextParts x n
none_without_record x n none is = none_without_game x n none (no_board (last_board x.game) is)

pub some_on_record : (x : Lane) (n : ℕ) (bytes : List ℕ) → Some bytes ≡ option_map record_of (last_board x.game) → is_move (lane_command (begun x)) ≡ true
    → ((board : Board) → bytes ≡ record_of board → AreMoveParts board n) → n ≤ 4 → AreNextParts x n
some_on_record x n bytes is moves are few =
    let last = some_board (last_board x.game) bytes is in
    some_on_board x last.0 n last.1 moves (are last.0 last.2) few

-- a running game of that board
pub turn_parts : (board : Board) (n : ℕ) → is_over board ≡ false → nat_le LAST_TURN board.turn ≡ false → n ≡ parts_of (length board.snakes) → 0 < n → AreMoveParts board n
turn_parts board n runs early is some =
    let plays : has_no_turn board ≡ false = rw (runs, early) refl in
    record { none = λ ends. let wrong : false ≡ true = sym plays ∙ ends in absurd cc; is = λ _. is; some = λ _. some }
