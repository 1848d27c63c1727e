-- The turn over the plane, from its steps.
use Rattle.std.proofs.Common.{◌≡◌, ℕ, zero, suc, ◌+◌, ◌<◌, true, false, cond, List, [], ◌∷◌, ◌++◌, length, take, drop, map, count_by, None, All, refl, sym, ap, subst, ◌∙◌, arith, append-nil, length-append}
use Rattle.std.specs.List.{flat_map}
use Rattle.std.proofs.lemmas.Bool.{cond_both, lt-leb}
use Rattle.std.proofs.lemmas.List.{drop_all, length-map, take_all}
use Rattle.std.proofs.lemmas.List.Elements.{All-head, All-tail}
use Rattle.std.proofs.lemmas.List.Sums.{sum_by-cons}
use Rattle.bs_board.specs.declared.boards.board.Board.{Board}
use Rattle.bs_board.specs.declared.boards.board.Mode.{Mode}
use Rattle.bs_board.specs.declared.boards.board.Mode.TheVariants.{Standard, Solo, Constrictor, Wrapped}
use Rattle.bs_board.specs.declared.boards.point.Direction.{Direction}
use Rattle.bs_board.specs.declared.boards.point.Point.{Point}
use Rattle.bs_board.specs.declared.boards.snake.Snake.{Snake}
use Rattle.bs_board.specs.declared.records.layout.BoardBytes.{BoardBytes}
use Rattle.bs_board.specs.boards.Cell.{head_of}
use Rattle.bs_board.specs.boards.Legal.{IsLegal}
use Rattle.bs_board.specs.boards.Over.{is_living, is_over, last_living}
use Rattle.bs_board.specs.commands.Orders.{Orders, given_to}
use Rattle.bs_board.specs.records.Layout.{IsBoardBytes, cells_of}
use Rattle.bs_board.specs.records.Record.{record_of, snake_record}
use Rattle.bs_board.specs.records.Kept.{IsLegalRecord}
use Rattle.bs_board.proofs.records.BoardRecord.{record_is_of_one_board}
use Rattle.bs_board.proofs.records.Writable.{legal_is_writable}
use Rattle.bs_food.specs.Given.{given}
use Rattle.bs_food.specs.Spawning.{spawned}
use Rattle.bs_food.proofs.GivenFood.{given_refed}
use Rattle.bs_food.proofs.NewFood.{Refed, refed_self, refed_then, spawned_refed}
use Rattle.bs_rules.specs.Collision.{snake_at}
use Rattle.bs_rules.specs.Turn.{refilled, turn_of}
use Rattle.bs_rules.proofs.TurnLegal.{turn_is_legal}
use Rattle.bs_plane.specs.declared.plane.Plane.{Plane}
use Rattle.bs_plane.specs.Food.{HasFood}
use Rattle.bs_plane.specs.Onward.{AreAlone, MovesSnakes, ShowsSnakes, living_head, living_heads, onward}
use Rattle.bs_plane.specs.Plane.{ShowsBoard, contents}
use Rattle.bs_plane.specs.Turn.{GoOn, fed_onward, followed, refilled_in}
use Rattle.bs_plane.specs.inner.Answered.{IsMoveReason}
use Rattle.bs_plane.specs.inner.Turn.{MayStep, Plays, PlaysFrom, Refills}
use Rattle.bs_plane.specs.Written.{WritesNext}
use Rattle.bs_plane.proofs.MovedSnakes.{living_onward}
use Rattle.bs_plane.proofs.RunningGame.{no_reason}
use Rattle.bs_plane.proofs.QuietTurn.{is_followed}

all_right : (P : Point → Type 0) (xs ys : List Point) → All P (xs ++ ys) → All P ys
all_right P [] ys all = all
all_right P (x ∷ xs) ys all = all_right P xs ys (All-tail P x (xs ++ ys) all)

-- what holds of each head in the list holds of a living head
head_is : (P : Point → Type 0) (snakes : List Snake) (seat : ℕ) → seat < length snakes → is_living (snake_at snakes seat) ≡ true → All P (living_heads snakes)
    → P (head_of (snake_at snakes seat).body)
head_is P [] seat within alive all = absurd (omega arith)
head_is P (s ∷ snakes) zero within alive all =
    let lives : is_living s ≡ true = alive in
    let own : living_head s ≡ head_of s.body ∷ [] = rw lives refl in
    All-head P (head_of s.body) (living_heads snakes) (subst (λ (l : List Point). All P (l ++ living_heads snakes)) own all)
head_is P (s ∷ snakes) (suc seat) within alive all = head_is P snakes seat (omega arith) alive (all_right P (living_head s) (living_heads snakes) all)

-- the heads are as many as the living
head_count : (snakes : List Snake) → length (living_heads snakes) ≡ count_by is_living snakes
head_count [] = refl
head_count (s ∷ snakes) =
    let rest = head_count snakes in
    let heads : length (living_heads (s ∷ snakes)) ≡ length (living_head s) + length (living_heads snakes) = length-append (living_head s) (living_heads snakes) in
    let living = sum_by-cons (λ t. cond {A = ℕ} (is_living t) 1 0) s snakes in
    let own : length (living_head s) ≡ cond {A = ℕ} (is_living s) 1 0 =
    cond_both (is_living s) (head_of s.body ∷ []) [] (λ l. length l ≡ cond {A = ℕ} (is_living s) 1 0) (λ lives. rw lives refl) (λ dead. rw dead refl) in
    omega arith

-- no snake goes out
living_count : (b : Board) (moves : List (List ℕ × Direction)) (snakes : List Snake) → count_by is_living (map (onward b moves) snakes) ≡ count_by is_living snakes
living_count b moves [] = refl
living_count b moves (s ∷ snakes) =
    let rest = living_count b moves snakes in
    let before = sum_by-cons (λ t. cond {A = ℕ} (is_living t) 1 0) s snakes in
    let after = sum_by-cons (λ t. cond {A = ℕ} (is_living t) 1 0) (onward b moves s) (map (onward b moves) snakes) in
    let own = ap (λ lives. cond {A = ℕ} lives 1 0) (living_onward b (given_to moves s.id) s) in
    omega arith

refilled_only : (orders : Orders) (b : Board) → Refed b (refilled orders b)
refilled_only orders b =
    let new = spawned orders.words b in
    refed_then b new (given orders.food new) (spawned_refed orders.words b) (given_refed orders.food new)

refilled_refed : (mode : Mode) (orders : Orders) (b : Board) → Refed b (refilled_in mode orders b)
refilled_refed Standard orders b = refilled_only orders b
refilled_refed Solo orders b = refilled_only orders b
refilled_refed Constrictor orders b = refed_self b
refilled_refed Wrapped orders b = refilled_only orders b

module _ (b : Board) (orders : Orders) (legal : IsLegal b) (parts : BoardBytes) (of : IsBoardBytes b parts) (may : MayStep parts orders)
    (plane1 plane2 : Plane) (none snakes food food' bytes : List ℕ) (no_heads heads : List Point) where
  abbrev moved : List Snake
  moved = map (onward b orders.moves) b.snakes

  abbrev x : Board
  x = refilled_in b.mode orders (fed_onward b orders.moves)

  many : length moved ≡ length b.snakes
  many = length-map b.snakes (onward b orders.moves)

  module _ (moves : MovesSnakes (length b.snakes) b orders.moves plane1 none snakes no_heads heads) (empty : none ≡ []) (unlisted : no_heads ≡ []) where
    all : take (length b.snakes) b.snakes ≡ b.snakes
    all = take_all (length b.snakes) b.snakes (omega arith)

    rest : drop (length b.snakes) b.snakes ≡ []
    rest = drop_all (length b.snakes) b.snakes (omega arith)

    pub moved_shown : ShowsSnakes b moved plane1
    moved_shown =
        let same : map (onward b orders.moves) (take (length b.snakes) b.snakes) ++ drop (length b.snakes) b.snakes ≡ moved =
        ap (λ l. map (onward b orders.moves) l ++ drop (length b.snakes) b.snakes) all ∙ ap (λ l. moved ++ l) rest ∙ append-nil moved in
        subst (λ (l : List Snake). ShowsSnakes b l plane1) same moves.shows

    pub moved_written : snakes ≡ flat_map snake_record moved
    moved_written = moves.written ∙ ap (λ l. l ++ flat_map snake_record (map (onward b orders.moves) (take (length b.snakes) b.snakes))) empty
        ∙ ap (λ l. flat_map snake_record (map (onward b orders.moves) l)) all

    pub moved_listed : heads ≡ living_heads moved
    moved_listed = moves.listed ∙ ap (λ l. l ++ living_heads (map (onward b orders.moves) (take (length b.snakes) b.snakes))) unlisted
        ∙ ap (λ l. living_heads (map (onward b orders.moves) l)) all

    module _ (alone : AreAlone heads plane1) (refills : Refills (λ c. refilled_in c.mode orders c) parts heads plane1 food plane2 food') (no_food : food ≡ [])
        (many_live : last_living parts.mode < length heads) (writes : WritesNext parts food' snakes bytes) where
      is_on : is_over b ≡ false
      is_on =
          let count = ap length moved_listed ∙ head_count moved ∙ living_count b orders.moves b.snakes in
          let last = ap last_living of.mode in
          lt-leb (count_by is_living b.snakes) (last_living b.mode) (omega arith)

      go_on : GoOn b orders.moves
      go_on = record {
        live = moves.lives;
        alone = λ seat within alive.
            let on = contents b.food (cells_of b.hazards) moved in
            head_is (λ p. (on p).parts ≡ 1) moved seat (rw many within) alive
            (subst (λ (l : List Point). All (λ p. (on p).parts ≡ 1) l) moved_listed (alone on moved_shown.cells));
      }

      is_turn : turn_of b orders ≡ followed b orders
      is_turn = is_followed b orders go_on may.no_hazards

      has : HasFood x plane2 food'
      has = refills b orders.moves of (legal_is_writable b legal).cells moved_shown moved_listed no_food

      only : x ≡ record (fed_onward b orders.moves) { food = x.food }
      only = (refilled_refed b.mode orders (fed_onward b orders.moves)).only

      pub plays : Plays b orders plane2 bytes
      plays =
          let own : x.snakes ≡ moved = ap (λ (y : Board). y.snakes) only in
          let now : followed b orders ≡ record b { food = x.food; snakes = x.snakes; turn = b.turn + 1 } =
          ap (λ (y : Board). record y { turn = b.turn + 1 }) only ∙ ap (λ l. record b { food = x.food; snakes = l; turn = b.turn + 1 }) (sym own) in
          let shown : ShowsBoard (followed b orders) plane2 = record { width = has.shows.width; height = has.shows.height; cells = has.shows.cells } in
          let written : bytes ≡ record_of (followed b orders) =
          writes b (followed b orders) of now (ap length own ∙ many) has.written (moved_written ∙ ap (flat_map snake_record) (sym own)) in
          record {
            goes_on = is_on;
            shows = subst (λ (y : Board). ShowsBoard y plane2) (sym is_turn) shown;
            written = written ∙ ap record_of (sym is_turn);
          }

pub shown_snakes : (b : Board) (plane : Plane) → ShowsBoard b plane → ShowsSnakes b b.snakes plane
shown_snakes b plane shows = record { width = shows.width; height = shows.height; cells = shows.cells }

-- ---- the record after the turn

-- the record is that of a legal board
pub legal_after : (orders : Orders) (last bytes : List ℕ) (parts : BoardBytes) (old new : Plane) → IsLegalRecord last → ((b : Board) → last ≡ record_of b → IsBoardBytes b parts)
    → MayStep parts orders → ((b : Board) → IsLegal b → last ≡ record_of b → ShowsBoard b old) → PlaysFrom parts orders old new bytes → IsLegalRecord bytes
legal_after orders last bytes parts old new kept of may shows plays =
    let b = kept.board in
    let view = of b kept.is in
    let early : b.turn < 10000 = subst (λ n. n < 10000) view.turn may.early in
    record {
      board = turn_of b orders;
      legal = turn_is_legal b orders kept.legal early;
      is = (plays b kept.legal view (shows b kept.legal kept.is)).written;
    }

-- and a move is allowed on that board
pub allowed_before : (orders : Orders) (last bytes : List ℕ) (parts : BoardBytes) (old new : Plane) → ((b : Board) → last ≡ record_of b → IsBoardBytes b parts)
    → MayStep parts orders → ((b : Board) → IsLegal b → last ≡ record_of b → ShowsBoard b old) → PlaysFrom parts orders old new bytes → IsMoveReason last None
allowed_before orders last bytes parts old new of may shows plays b legal is =
    let view = of b is in
    no_reason b (plays b legal view (shows b legal is)).goes_on (subst (λ n. n < 10000) view.turn may.early)

-- the plane follows it
pub follows_after : (orders : Orders) (last bytes : List ℕ) (parts : BoardBytes) (old new : Plane) → IsLegalRecord last → ((b : Board) → last ≡ record_of b → IsBoardBytes b parts)
    → MayStep parts orders → ((b : Board) → IsLegal b → last ≡ record_of b → ShowsBoard b old) → PlaysFrom parts orders old new bytes
    → (next : List ℕ) → next ≡ bytes → (c : Board) → IsLegal c → next ≡ record_of c → ShowsBoard c new
follows_after orders last bytes parts old new kept of may shows plays next same c legal is =
    let b = kept.board in
    let view = of b kept.is in
    let early : b.turn < 10000 = subst (λ n. n < 10000) view.turn may.early in
    let played = plays b kept.legal view (shows b kept.legal kept.is) in
    let one : turn_of b orders ≡ c = record_is_of_one_board (turn_of b orders) c (turn_is_legal b orders kept.legal early) legal (sym played.written ∙ sym same ∙ is) in
    subst (λ (x : Board). ShowsBoard x new) one played.shows
