-- One more snake of a board is moved, on the plane and in bytes.
use Rattle.std.proofs.Common.{◌≡◌, ℕ, ◌+◌, ◌-◌, ◌<◌, true, false, ◌&&◌, cond, List, [], ◌∷◌, ◌++◌, length, take, drop, map, Option, Some, None, count_by, sum_by, refl, sym, subst, ap, ◌∙◌, arith, inl, inr, append_assoc, append-nil, length-append}
use Rattle.std.specs.List.{flat_map, list_any}
use Rattle.std.specs.Prelude.{is_none}
use Rattle.std.proofs.lemmas.Bool.{cases_eq, cond_both, false≢true}
use Rattle.std.proofs.lemmas.List.{drop_more, take_at, take_more, map_push}
use Rattle.std.proofs.lemmas.List.Elements.{All-get_or}
use Rattle.std.proofs.lemmas.List.Sums.{sum_by-cons}
use Rattle.std.proofs.lemmas.Grind.{flat_map-append}
use Rattle.bs_board.specs.declared.boards.board.Board.{Board}
use Rattle.bs_board.specs.declared.boards.board.Mode.{Mode}
use Rattle.bs_board.specs.declared.boards.board.Mode.TheVariants.{Standard, Solo, Constrictor, Wrapped}
use Rattle.bs_board.specs.declared.boards.point.Direction.{Direction}
use Rattle.bs_board.specs.declared.boards.point.Point.{Point}
use Rattle.bs_board.specs.declared.boards.snake.Snake.{Snake}
use Rattle.bs_board.specs.declared.boards.snake.Cause.{Cause}
use Rattle.bs_board.specs.declared.records.layout.SnakeBytes.{SnakeBytes}
use Rattle.bs_board.specs.boards.Cell.{head_of, is_same_cell}
use Rattle.bs_board.specs.boards.Legal.{IsLegal, IsLegalLiving}
use Rattle.bs_board.specs.boards.Over.{is_living}
use Rattle.bs_board.specs.boards.Wrap.{wrap_of}
use Rattle.bs_board.specs.commands.Orders.{given_to}
use Rattle.bs_board.specs.records.Layout.{IsSnakeBytes, cells_of}
use Rattle.bs_board.specs.records.Record.{snake_record}
use Rattle.bs_board.specs.records.Writing.{IsWritable}
use Rattle.bs_board.proofs.records.Writable.{legal_is_writable}
use Rattle.bs_modes.specs.Growth.{grown_body, grown_snake}
use Rattle.bs_rules.specs.Collision.{nobody, snake_at}
use Rattle.bs_rules.specs.Feeding.{eats, fed_snake, last_of}
use Rattle.bs_rules.specs.Motion.{moved, moved_body}
use Rattle.bs_plane.specs.declared.cell.Cell.{Cell}
use Rattle.bs_plane.specs.declared.plane.Plane.{Plane}
use Rattle.bs_plane.specs.Plane.{Shows, contents, occupants, parts_on}
use Rattle.bs_plane.specs.inner.Plane.{with_body}
use Rattle.bs_plane.specs.Onward.{MovesSnakes, grown_in, living_head, living_heads, onward, onward_by}
use Rattle.bs_plane.specs.inner.Onward.{HasGround, MovesSnake, SeesSnake}
use Rattle.bs_plane.proofs.Places.{same_cells}

none_from : (cause : Option Cause) → is_none cause ≡ true → cause ≡ None
none_from None e = refl
none_from (Some c) e = absurd (false≢true e)

-- a living snake of a legal board
pub sees_living : (b : Board) (seat : ℕ) (parts : SnakeBytes) → IsLegal b → seat < length b.snakes → is_living (snake_at b.snakes seat) ≡ true
    → IsSnakeBytes (snake_at b.snakes seat) parts → SeesSnake (snake_at b.snakes seat) parts
sees_living b seat parts legal within alive view =
    let s = snake_at b.snakes seat in
    let of = legal.snakes seat nobody within in
    let writable = legal_is_writable b legal in
    let state : IsLegalLiving b s = rw (none_from s.cause alive) at of.state in
    record {
      view = view;
      fits = All-get_or IsWritable b.snakes seat nobody within writable.snakes;
      lives = alive;
      long = of.body.long;
      killer = state.killer;
      out = state.out;
    }

pub writable_at : (b : Board) (seat : ℕ) → IsLegal b → seat < length b.snakes → IsWritable (snake_at b.snakes seat)
writable_at b seat legal within = let writable = legal_is_writable b legal in All-get_or IsWritable b.snakes seat nobody within writable.snakes

-- ---- living snakes stay living, and the others stay as they are

pub living_moved : (wrap : Option (ℕ × ℕ)) (given : Option Direction) (s : Snake) → is_living (moved wrap given s) ≡ is_living s
living_moved wrap given s = cond_both (is_living s) (record s { body = moved_body wrap given s.body; health = s.health - 1 }) s (λ t. is_living t ≡ is_living s) (λ _. refl) (λ _. refl)

pub living_fed : (food : List Point) (s : Snake) → is_living (fed_snake food s) ≡ is_living s
living_fed food s = cond_both (eats food s) (record s { body = s.body ++ last_of s.body ∷ []; health = 100 }) s (λ t. is_living t ≡ is_living s) (λ _. refl) (λ _. refl)

living_grown : (s : Snake) → is_living (grown_snake s) ≡ is_living s
living_grown s = cond_both (is_living s) (record s { health = 100; body = grown_body s.body }) s (λ t. is_living t ≡ is_living s) (λ _. refl) (λ _. refl)

pub living_in : (mode : Mode) (s : Snake) → is_living (grown_in mode s) ≡ is_living s
living_in Standard s = refl
living_in Solo s = refl
living_in Constrictor s = living_grown s
living_in Wrapped s = refl

pub living_onward : (b : Board) (given : Option Direction) (s : Snake) → is_living (onward_by b given s) ≡ is_living s
living_onward b given s = living_in b.mode (fed_snake b.food (moved (wrap_of b) given s)) ∙ living_fed b.food (moved (wrap_of b) given s) ∙ living_moved (wrap_of b) given s

dead_in : (mode : Mode) (s : Snake) → is_living s ≡ false → grown_in mode s ≡ s
dead_in Standard s dead = refl
dead_in Solo s dead = refl
dead_in Constrictor s dead = ap (λ b. cond {A = Snake} b (record s { health = 100; body = grown_body s.body }) s) dead
dead_in Wrapped s dead = refl

dead_fed : (food : List Point) (s : Snake) → is_living s ≡ false → fed_snake food s ≡ s
dead_fed food s dead = ap (λ b. cond {A = Snake} (b && list_any (is_same_cell (head_of s.body)) food) (record s { body = s.body ++ last_of s.body ∷ []; health = 100 }) s) dead

dead_moved : (wrap : Option (ℕ × ℕ)) (given : Option Direction) (s : Snake) → is_living s ≡ false → moved wrap given s ≡ s
dead_moved wrap given s dead = ap (λ b. cond {A = Snake} b (record s { body = moved_body wrap given s.body; health = s.health - 1 }) s) dead

pub dead_onward : (b : Board) (given : Option Direction) (s : Snake) → is_living s ≡ false → onward_by b given s ≡ s
dead_onward b given s dead =
    ap (λ t. grown_in b.mode (fed_snake b.food t)) (dead_moved (wrap_of b) given s dead) ∙ ap (grown_in b.mode) (dead_fed b.food s dead) ∙ dead_in b.mode s dead

-- ---- one more seat

sums : (f : Snake → ℕ) (xs ys : List Snake) → sum_by f (xs ++ ys) ≡ sum_by f xs + sum_by f ys
sums f [] ys = let none : sum_by f [] ≡ 0 = refl in omega arith
sums f (x ∷ xs) ys =
    let rest = sums f xs ys in
    let all = sum_by-cons f x (xs ++ ys) in
    let front = sum_by-cons f x xs in
    omega arith

module _ (b : Board) (moves : List (List ℕ × Direction)) (i : ℕ) (within : i < length b.snakes) where
  abbrev s : Snake
  s = snake_at b.snakes i

  abbrev done : List Snake
  done = map (onward b moves) (take i b.snakes)

  abbrev left : List Snake
  left = drop (i + 1) b.snakes

  abbrev others : Point → Cell
  others p = record {
    parts = occupants done p + occupants left p;
    food = list_any (is_same_cell p) b.food;
    hazard = list_any (is_same_cell p) (cells_of b.hazards);
  }

  split : drop i b.snakes ≡ s ∷ left
  split = drop_more b.snakes i nobody within

  moved_more : map (onward b moves) (take (i + 1) b.snakes) ≡ done ++ onward b moves s ∷ []
  moved_more = ap (map (onward b moves)) (take_more b.snakes i nobody within) ∙ map_push (onward b moves) (take i b.snakes) s

  joined : map (onward b moves) (take (i + 1) b.snakes) ++ left ≡ done ++ onward b moves s ∷ left
  joined = ap (λ l. l ++ left) moved_more ∙ append_assoc done (onward b moves s ∷ []) left

  -- what stands on a cell, with one snake apart
  apart : (t : Snake) (p : Point) → is_living t ≡ true → contents b.food (cells_of b.hazards) (done ++ t ∷ left) p ≡ with_body t.body others p
  apart t p alive =
      let both = sums (parts_on p) done (t ∷ left) in
      let one = sum_by-cons (parts_on p) t left in
      let own : parts_on p t ≡ count_by (is_same_cell p) t.body = rw alive refl in
      let all : occupants (done ++ t ∷ left) p ≡ occupants done p + occupants left p + count_by (is_same_cell p) t.body = omega arith in
      ap (λ n. record (others p) { parts = n }) all

  written_more : (bytes now now' : List ℕ) → now ≡ bytes ++ flat_map snake_record done → now' ≡ now ++ snake_record (onward b moves s)
      → now' ≡ bytes ++ flat_map snake_record (map (onward b moves) (take (i + 1) b.snakes))
  written_more bytes now now' before more =
      let all : flat_map snake_record (map (onward b moves) (take (i + 1) b.snakes)) ≡ flat_map snake_record done ++ snake_record (onward b moves s) =
      ap (flat_map snake_record) moved_more ∙ flat_map-append snake_record done (onward b moves s ∷ [])
      ∙ ap (λ l. flat_map snake_record done ++ l) (append-nil (snake_record (onward b moves s))) in
      more ∙ ap (λ l. l ++ snake_record (onward b moves s)) before ∙ append_assoc bytes (flat_map snake_record done) (snake_record (onward b moves s))
      ∙ ap (λ l. bytes ++ l) (sym all)

  listed_more : (heads here here' : List Point) → here ≡ heads ++ living_heads done → here' ≡ here ++ living_head (onward b moves s)
      → here' ≡ heads ++ living_heads (map (onward b moves) (take (i + 1) b.snakes))
  listed_more heads here here' before more =
      let all : living_heads (map (onward b moves) (take (i + 1) b.snakes)) ≡ living_heads done ++ living_head (onward b moves s) =
      ap living_heads moved_more ∙ flat_map-append living_head done (onward b moves s ∷ []) ∙ ap (λ l. living_heads done ++ l) (append-nil (living_head (onward b moves s))) in
      more ∙ ap (λ l. l ++ living_head (onward b moves s)) before ∙ append_assoc heads (living_heads done) (living_head (onward b moves s))
      ∙ ap (λ l. heads ++ l) (sym all)

  pub moves_more : (head : Point) (plane plane' : Plane) (bytes now now' : List ℕ) (heads here here' : List Point) → is_living s ≡ true
      → MovesSnakes i b moves plane bytes now heads here → MovesSnake b (given_to moves s.id) s head plane plane' now now' → here' ≡ here ++ head ∷ []
      → MovesSnakes (i + 1) b moves plane' bytes now' heads here'
  moves_more head plane plane' bytes now now' heads here here' alive so_far step pushed =
      let shows = so_far.shows in
      let before : Shows (contents b.food (cells_of b.hazards) (done ++ s ∷ left)) plane =
      subst (λ (l : List Snake). Shows (contents b.food (cells_of b.hazards) (done ++ l)) plane) split shows.cells in
      let swapped = step.swaps.cells others (same_cells plane.width plane.height _ _ plane.cells.items (λ p. apart s p alive) before) in
      let alive' : is_living (onward b moves s) ≡ true = living_onward b (given_to moves s.id) s ∙ alive in
      let after : Shows (contents b.food (cells_of b.hazards) (done ++ onward b moves s ∷ left)) plane' =
      same_cells plane'.width plane'.height _ _ plane'.cells.items (λ p. sym (apart (onward b moves s) p alive')) swapped in
      record {
        shows = record {
          width = step.swaps.width ∙ shows.width;
          height = step.swaps.height ∙ shows.height;
          cells = subst (λ (l : List Snake). Shows (contents b.food (cells_of b.hazards) l) plane') (sym joined) after;
        };
        written = written_more bytes now now' so_far.written step.written;
        listed =
            let own : living_head (onward b moves s) ≡ head ∷ [] = rw alive' (ap (λ p. p ∷ []) step.leads) in
            listed_more heads here here' so_far.listed (pushed ∙ ap (λ l. here ++ l) (sym own));
        lives = λ seat below lives. elim (cases_eq seat i) [
          | inl same ↦ rw same step.lives
          | inr other ↦ so_far.lives seat (omega arith) lives
        ];
        fits = λ seat below. elim (cases_eq seat i) [
          | inl same ↦ rw same step.fits
          | inr other ↦ so_far.fits seat (omega arith)
        ];
      }

  pub copies_more : (plane plane' : Plane) (bytes now now' : List ℕ) (heads here here' : List Point) → is_living s ≡ false → IsWritable s
      → MovesSnakes i b moves plane bytes now heads here → now' ≡ now ++ snake_record s → plane' ≡ plane → here' ≡ here
      → MovesSnakes (i + 1) b moves plane' bytes now' heads here'
  copies_more plane plane' bytes now now' heads here here' dead fit so_far more same kept =
      let shows = so_far.shows in
      let stays : onward b moves s ≡ s = dead_onward b (given_to moves s.id) s dead in
      let list : map (onward b moves) (take i b.snakes) ++ drop i b.snakes ≡ map (onward b moves) (take (i + 1) b.snakes) ++ left =
      ap (λ l. done ++ l) (split ∙ ap (λ t. t ∷ left) (sym stays)) ∙ sym joined in
      let all : MovesSnakes (i + 1) b moves plane bytes now' heads here' = record {
        shows = record {
          width = shows.width;
          height = shows.height;
          cells = subst (λ (l : List Snake). Shows (contents b.food (cells_of b.hazards) l) plane) list shows.cells;
        };
        written = written_more bytes now now' so_far.written (more ∙ ap (λ t. now ++ snake_record t) (sym stays));
        listed =
            let own : living_head (onward b moves s) ≡ [] = ap living_head stays ∙ rw dead refl in
            listed_more heads here here' so_far.listed (kept ∙ sym (append-nil here) ∙ ap (λ l. here ++ l) (sym own));
        lives = λ seat below lives. elim (cases_eq seat i) [
          | inl here ↦ absurd (false≢true (sym dead ∙ ap (λ k. is_living (snake_at b.snakes k)) (sym here) ∙ lives))
          | inr other ↦ so_far.lives seat (omega arith) lives
        ];
        fits = λ seat below. elim (cases_eq seat i) [
          | inl here ↦ rw here (subst (λ (t : Snake). IsWritable t) (sym stays) fit)
          | inr other ↦ so_far.fits seat (omega arith)
        ];
      } in
      rw same all

  pub ground_of : (plane : Plane) (bytes now : List ℕ) (heads here : List Point) → MovesSnakes i b moves plane bytes now heads here → HasGround b plane
  ground_of plane bytes now heads here so_far = record {
    width = so_far.shows.width;
    height = so_far.shows.height;
    on = contents b.food (cells_of b.hazards) (map (onward b moves) (take i b.snakes) ++ drop i b.snakes);
    shows = so_far.shows.cells;
    food = λ p. refl;
    hazard = λ p. refl;
  }

-- the bytes before the rest
pub copied : (record_bytes rest left : List ℕ) → left ≡ record_bytes ++ rest → take (length left - length rest) left ≡ record_bytes
copied record_bytes rest left is =
    let size : length left ≡ length record_bytes + length rest = ap length is ∙ length-append record_bytes rest in
    ap (take (length left - length rest)) is ∙ take_at record_bytes rest (length left - length rest) (omega arith)
