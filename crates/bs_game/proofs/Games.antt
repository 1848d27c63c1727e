-- Games that grow, and their charges.
use Rattle.std.proofs.Common.{◌≡◌, suc, ◌+◌, ◌-◌, ◌≤◌, List, [], ◌∷◌, ◌++◌, Some, length, map, drop, slice_get, ◌<◌, ◌^◌, lit<, refl, sym, ap, ◌∙◌, arith, true, false}
use Rattle.std.proofs.Math.Seq.{drop-cons}
use Rattle.std.proofs.Math.ListN.{drop_of_length-le}
use Rattle.std.proofs.lemmas.List.{length-map, drop-map}
use Rattle.std.proofs.lemmas.List.Sums.{sum_by_push, get_or-le-sum_by}
use Rattle.std.proofs.lemmas.List.Elements.{All-push}
use Rattle.std.proofs.lemmas.Option.{slice_get_within, get_or_from_slice_get, slice_get-get_or}
use Rattle.std.specs.Prelude.{is_some}
use Rattle.bs_block.specs.Rounding.{rounded}
use Rattle.bs_board.proofs.records.Longest.{legal_size}
use Rattle.bs_board.specs.commands.Orders.{Orders}
use Rattle.bs_rules.specs.Turn.{turn_of}
use Rattle.bs_board.specs.declared.boards.board.Board.{Board}
use Rattle.bs_board.specs.boards.Legal.{IsLegal}
use Rattle.bs_board.specs.records.Record.{record_of}
use Rattle.bs_game.specs.declared.quota.TheConstants.{MOST_BOARD_CHARGE}
use Rattle.bs_game.specs.Game.{Game, IsGame, AreConsecutive, last_board, newest, board_charge, game_charge}

pub charge_of_nothing : game_charge [] ≡ 0
unfolding game_charge
charge_of_nothing = refl

pub charge_of_one_more : (game : Game) (board : Board) → game_charge (game ++ board ∷ []) ≡ game_charge game + board_charge board
unfolding game_charge
charge_of_one_more game board = sum_by_push board_charge game board

pub nothing_is_a_game : IsGame []
nothing_is_a_game = record { legal = λ k d within. absurd (omega arith); turns = tt }

-- the newest board

pub last_behind : (first second : Board) (rest : Game) → last_board (first ∷ second ∷ rest) ≡ last_board (second ∷ rest)
last_behind first second rest =
    let place : length (first ∷ second ∷ rest) - 1 ≡ suc (length (second ∷ rest) - 1) = omega arith in
    rw place refl

pub last_of_more : (game : Game) (board : Board) → last_board (game ++ board ∷ []) ≡ Some board
last_of_more [] board = refl
last_of_more (first ∷ []) board = refl
last_of_more (first ∷ second ∷ rest) board = last_behind first second (rest ++ board ∷ []) ∙ last_of_more (second ∷ rest) board

pub legal_last : (game : Game) (last : Board) → IsGame game → Some last ≡ last_board game → IsLegal last
legal_last game last right is =
    let there : slice_get game (length game - 1) ≡ Some last = sym is in
    let within = slice_get_within game (length game - 1) last there in
    let same = get_or_from_slice_get game (length game - 1) last last there in
    rw same at (right.legal (length game - 1) last within)

-- no game runs if there is no newest board
pub nothing_runs : (game : Game) → is_some (last_board game) ≡ false → game ≡ []
nothing_runs [] none = refl
nothing_runs (first ∷ rest) none =
    let there = slice_get-get_or (first ∷ rest) (length (first ∷ rest) - 1) first (omega arith) in
    let some : is_some (last_board (first ∷ rest)) ≡ true = ap is_some there in
    let wrong : false ≡ true = sym none ∙ some in cc

pub one_board_is_a_game : (board : Board) → IsLegal board → IsGame (board ∷ [])
one_board_is_a_game board legal = record { legal = All-push IsLegal [] board nothing_is_a_game.legal legal; turns = tt }

pub first_is_a_game : (game : Game) (board : Board) → is_some (last_board game) ≡ false → IsLegal board → IsGame (game ++ board ∷ [])
first_is_a_game game board none legal = rw (nothing_runs game none) (one_board_is_a_game board legal)

-- a turn is the one after the last

consecutive_and_next : (game : Game) (last board : Board) → AreConsecutive game → Some last ≡ last_board game → board.turn ≡ last.turn + 1
    → AreConsecutive (game ++ board ∷ [])
consecutive_and_next [] last board turns is next = tt
consecutive_and_next (first ∷ []) last board turns is next =
    let same : last ≡ first = cc in
    (rw same at next, tt)
consecutive_and_next (first ∷ second ∷ rest) last board turns is next =
    (turns.0, consecutive_and_next (second ∷ rest) last board turns.1 (is ∙ last_behind first second rest) next)

turn_after : (b : Board) (orders : Orders) → (turn_of b orders).turn ≡ b.turn + 1
unfolding turn_of
turn_after b orders = refl

pub next_is_a_game : (game : Game) (last board : Board) (orders : Orders) → IsGame game → Some last ≡ last_board game
    → board ≡ turn_of last orders → IsLegal board → IsGame (game ++ board ∷ [])
next_is_a_game game last board orders right is moved legal =
    let next : board.turn ≡ last.turn + 1 = rw moved (turn_after last orders) in
    record {
      legal = All-push IsLegal game board right.legal legal;
      turns = consecutive_and_next game last board right.turns is next;
    }

-- the charge of records

pub board_charge_small : (b : Board) → IsLegal b → board_charge b ≤ MOST_BOARD_CHARGE
unfolding rounded
board_charge_small b legal =
    let size = legal_size b legal in
    omega arith

-- so its size can be rounded up
pub legal_size_rounds : (b : Board) → IsLegal b → length (record_of b) + 15 < 2 ^ 64
legal_size_rounds b legal =
    let size = legal_size b legal in
    let small : 166903 < 2 ^ 64 = lit< tt in
    omega arith

pub charge_of_one : (board : Board) → game_charge (board ∷ []) ≡ board_charge board
charge_of_one board =
    let sum = charge_of_one_more [] board in
    let none = charge_of_nothing in
    omega arith

pub charge_of_last : (game : Game) (last : Board) → last_board game ≡ Some last → board_charge last ≤ game_charge game
unfolding game_charge
charge_of_last game last is =
    let within = slice_get_within game (length game - 1) last is in
    let same = get_or_from_slice_get game (length game - 1) last last is in
    rw same at (get_or-le-sum_by board_charge game (length game - 1) last within)

-- the newest alone

pub newest_of_map : {X Y : Type 0} (f : X → Y) (xs : List X) → newest (map f xs) ≡ map f (newest xs)
newest_of_map f xs =
    let many : length (map f xs) ≡ length xs = length-map xs f in
    rw many (drop-map f (length xs - 1) xs)

pub newest_is_last : (game : Game) (last : Board) → last_board game ≡ Some last → newest game ≡ last ∷ []
newest_is_last game last is =
    let at = length game - 1 in
    let inside : at < length game = slice_get_within game at last is in
    let here = get_or_from_slice_get game at last last is in
    let rest : drop (suc at) game ≡ [] = drop_of_length-le game {i = suc at} (omega arith) in
    drop-cons game at last inside ∙ (rw (here, rest) refl)
