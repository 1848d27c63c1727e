-- The step of a living snake in a turn in which it does not go out.
use Rattle.std.proofs.Common.{◌≡◌, ℕ, suc, ◌+◌, ◌-◌, ◌/◌, ◌<◌, ◌≤◌, Bool, true, false, not, ◌&&◌, cond, List, [], ◌∷◌, ◌++◌, length, take, get_or, Option, Some, None, count_by, refl, sym, subst, ap, ◌∙◌, arith, inl, inr, append-nil, leb}
use Rattle.std.specs.Option.{IfSome}
use Rattle.std.specs.Prelude.{is_some}
use Rattle.std.specs.List.{list_any}
use Rattle.std.proofs.lemmas.Bool.{cases_Bool, le-leb}
use Rattle.std.proofs.lemmas.List.{get_or-take, length-take-le, take_all}
use Rattle.std.proofs.lemmas.List.Sums.{sum_by-cons, sum_by_more}
use Rattle.bs_board.specs.declared.boards.board.Board.{Board}
use Rattle.bs_board.specs.declared.boards.point.Direction.{Direction}
use Rattle.bs_board.specs.declared.boards.point.Point.{Point}
use Rattle.bs_board.specs.declared.boards.snake.Snake.{Snake}
use Rattle.bs_board.specs.declared.records.layout.SnakeBytes.{SnakeBytes}
use Rattle.bs_board.specs.boards.Cell.{head_of, is_on_board, is_same_cell, origin}
use Rattle.bs_board.specs.boards.Over.{is_living}
use Rattle.bs_board.specs.boards.Wrap.{wrap_of}
use Rattle.bs_board.specs.records.Layout.{cells_of}
use Rattle.bs_board.specs.records.Record.{cell_bytes}
use Rattle.bs_board.proofs.records.Lengths.{length_of_pairs}
use Rattle.bs_modes.specs.Growth.{grown_body, grown_snake, is_stretched}
use Rattle.bs_rules.specs.Feeding.{fed_snake, last_of}
use Rattle.bs_rules.specs.Motion.{direction_taken, moved, neighbor, second_of}
use Rattle.bs_rules.proofs.NextHead.{stepped_is_moved}
use Rattle.bs_plane.specs.declared.cell.Cell.{Cell}
use Rattle.bs_plane.specs.declared.motion.Step.{Step}
use Rattle.bs_plane.specs.declared.plane.Plane.{Plane}
use Rattle.bs_plane.specs.Plane.{Changes, IsThere, Shows, TakesPart, with_part}
use Rattle.bs_plane.specs.inner.Plane.{with_body}
use Rattle.bs_plane.specs.Onward.{grown_in}
use Rattle.bs_plane.specs.inner.Onward.{HasGround, IsStep, SeesSnake, SwapsBody, advanced, fed_by, repeated, stepped_by}
use Rattle.bs_plane.proofs.Places.{same_cells}

pub some_weaker : {X : Type 0} (o : Option X) (P Q : X → Type 0) → ((x : X) → P x → Q x) → IfSome o P → IfSome o Q
some_weaker None P Q f h = tt
some_weaker (Some x) P Q f h = f x h

-- the bytes of the body are two for each part
pub half_of : (s : Snake) (parts : SnakeBytes) → SeesSnake s parts → length parts.body.now / 2 ≡ length s.body
half_of s parts sees =
    let pairs = length_of_pairs (cell_bytes 1) (λ p. refl) s.body in
    let bytes = ap length sees.view.body in
    omega arith

module _ (head : Point) (s : Snake) (long : 3 ≤ length s.body) where
  abbrev front : List Point
  front = take (length s.body - 1) s.body

  abbrev new : List Point
  new = head ∷ front

  pub front_length : length front ≡ length s.body - 1
  front_length = length-take-le (length s.body - 1) s.body (omega arith)

  pub new_length : length new ≡ length s.body
  new_length = let few = front_length in omega arith

  -- a part behind the head was the one before it
  behind : (k : ℕ) → k + 1 < length s.body → get_or new (k + 1) origin ≡ get_or s.body k origin
  behind k within =
      let next : k + 1 ≡ suc k = omega arith in
      ap (λ i. get_or new i origin) next ∙ get_or-take (length s.body - 1) s.body k origin (omega arith)

  pub last_is : get_or new (length new - 1) origin ≡ repeated s
  last_is =
      let place : length new - 1 ≡ length s.body - 2 + 1 = let many = new_length in omega arith in
      ap (λ i. get_or new i origin) place ∙ behind (length s.body - 2) (omega arith)

  before_last_is : get_or new (length new - 2) origin ≡ get_or s.body (length s.body - 3) origin
  before_last_is =
      let place : length new - 2 ≡ length s.body - 3 + 1 = let many = new_length in omega arith in
      ap (λ i. get_or new i origin) place ∙ behind (length s.body - 3) (omega arith)

  -- ---- growth

  pub stretched_is : (stretched : Bool) → stretched ≡ not (is_same_cell (repeated s) (get_or s.body (length s.body - 3) origin)) → is_stretched new ≡ stretched
  stretched_is stretched is =
      let two : leb 2 (length new) ≡ true = let many = new_length in le-leb 2 (length new) (omega arith) in
      ap (λ b. b && not (is_same_cell (get_or new (length new - 1) origin) (get_or new (length new - 2) origin))) two
      ∙ ap (λ p. not (is_same_cell p (get_or new (length new - 2) origin))) last_is ∙ ap (λ p. not (is_same_cell (repeated s) p)) before_last_is ∙ sym is

  once_more : (grows : Bool) (xs : List Point) (p : Point) → cond grows (xs ++ p ∷ []) xs ≡ xs ++ cond grows (p ∷ []) []
  once_more true xs p = refl
  once_more false xs p = sym (append-nil xs)

  grown_is : (stretched : Bool) → stretched ≡ not (is_same_cell (repeated s) (get_or s.body (length s.body - 3) origin))
      → grown_body new ≡ new ++ cond stretched (repeated s ∷ []) []
  unfolding grown_body
  grown_is stretched is =
      ap (λ b. cond b (new ++ get_or new (length new - 1) origin ∷ []) new) (stretched_is stretched is)
      ∙ ap (λ p. cond stretched (new ++ p ∷ []) new) last_is ∙ once_more stretched new (repeated s)

  pub grows_in_constrictor : (stretched : Bool) → is_living s ≡ true → stretched ≡ not (is_same_cell (repeated s) (get_or s.body (length s.body - 3) origin))
      → stepped_by (record { head = head; health = 100; grows = stretched }) s ≡ grown_snake (advanced head s)
  grows_in_constrictor stretched lives is =
      let a = advanced head s in
      let alive : grown_snake a ≡ record a { health = 100; body = grown_body a.body } = ap (λ b. cond b (record a { health = 100; body = grown_body a.body }) a) lives in
      sym (alive ∙ ap (λ body. record a { health = 100; body = body }) (grown_is stretched is))

-- ---- the turn

module _ (b : Board) (given : Option Direction) (s : Snake) (next : Point) (there : Cell) (plane : Plane) (ground : HasGround b plane) (lives : is_living s ≡ true)
    (is : advanced next s ≡ moved (wrap_of b) given s) (at : IsThere plane next there) where
  has_food : there.food ≡ list_any (is_same_cell next) b.food
  has_food = ap (λ (c : Cell). c.food) (at.is ground.on ground.shows) ∙ ground.food next

  has_hazard : there.hazard ≡ list_any (is_same_cell next) (cells_of b.hazards)
  has_hazard = ap (λ (c : Cell). c.hazard) (at.is ground.on ground.shows) ∙ ground.hazard next

  fed_same : fed_snake b.food (advanced next s) ≡ fed_by there.food (advanced next s)
  fed_same =
      let a = advanced next s in
      let ate = record a { body = a.body ++ last_of a.body ∷ []; health = 100 } in
      ap (λ t. cond {A = Snake} (t && list_any (is_same_cell next) b.food) ate a) lives ∙ ap (λ t. cond {A = Snake} t ate a) (sym has_food)

  pub is_step : (step : Step) → (there.hazard && not there.food) ≡ false
      → (step.head ≡ next) × (1 ≤ (fed_by there.food (advanced next s)).health) × (stepped_by step s ≡ grown_in b.mode (fed_by there.food (advanced next s)))
      → IsStep b given s step
  is_step step unhurt fed =
      let width = ground.width in
      let height = ground.height in
      let inside : is_on_board b.width b.height next ≡ true = rw (← width, ← height) at.board in
      let bits : (list_any (is_same_cell next) (cells_of b.hazards) && not (list_any (is_same_cell next) b.food)) ≡ false = rw (← has_hazard, ← has_food) unhurt in
      let health : 1 ≤ (fed_snake b.food (advanced next s)).health = rw fed_same fed.1 in
      record {
        is = fed.2 ∙ ap (grown_in b.mode) (sym fed_same ∙ ap (fed_snake b.food) is);
        lives = record {
          on = subst (λ (t : Snake). is_on_board b.width b.height (head_of t.body) ≡ true) is inside;
          unhurt = subst (λ (t : Snake). (list_any (is_same_cell (head_of t.body)) (cells_of b.hazards) && not (list_any (is_same_cell (head_of t.body)) b.food)) ≡ false) is bits;
          fed = subst (λ (t : Snake). 1 ≤ (fed_snake b.food t).health) is health;
        };
        on = ap (is_on_board b.width b.height) fed.0 ∙ inside;
      }

-- the snake moved, from the first two parts of its body
pub advanced_is_moved : (b : Board) (given : Option Direction) (s : Snake) (wrap : Option (ℕ × ℕ)) (next head second : Point) → is_living s ≡ true → 3 ≤ length s.body
    → wrap ≡ wrap_of b → head ≡ get_or s.body 0 origin → second ≡ get_or s.body 1 origin
    → next ≡ neighbor wrap head (direction_taken wrap given (head ∷ second ∷ [])) → advanced next s ≡ moved (wrap_of b) given s
advanced_is_moved b given s wrap next head second lives long same first after is =
    let there : next ≡ neighbor (wrap_of b) (head_of s.body) (direction_taken (wrap_of b) given (head_of s.body ∷ second_of s.body ∷ [])) =
    is ∙ ap (λ w. neighbor w head (direction_taken w given (head ∷ second ∷ []))) same
    ∙ ap (λ p. neighbor (wrap_of b) p (direction_taken (wrap_of b) given (p ∷ second ∷ []))) first
    ∙ ap (λ p. neighbor (wrap_of b) (head_of s.body) (direction_taken (wrap_of b) given (head_of s.body ∷ p ∷ []))) after in
    ap (λ p. advanced p s) there ∙ stepped_is_moved (wrap_of b) given s lives long

-- a given direction needs no second part
pub given_is_moved : (b : Board) (given : Option Direction) (s : Snake) (wrap : Option (ℕ × ℕ)) (next head : Point) → is_living s ≡ true → 3 ≤ length s.body
    → wrap ≡ wrap_of b → head ≡ get_or s.body 0 origin → is_some given ≡ true
    → next ≡ neighbor wrap head (direction_taken wrap given (head ∷ head ∷ [])) → advanced next s ≡ moved (wrap_of b) given s
given_is_moved b None s wrap next head lives long same first some is = absurd cc
given_is_moved b (Some direction) s wrap next head lives long same first some is =
    advanced_is_moved b (Some direction) s wrap next head (get_or s.body 1 origin) lives long same first refl is

-- ---- counts

count_push : (f : Point → Bool) (xs : List Point) (x : Point) → count_by f (xs ++ x ∷ []) ≡ count_by f xs + cond {A = ℕ} (f x) 1 0
count_push f [] x = let one = sum_by-cons (λ y. cond {A = ℕ} (f y) 1 0) x [] in omega arith
count_push f (y ∷ xs) x =
    let rest = count_push f xs x in
    let one = sum_by-cons (λ z. cond {A = ℕ} (f z) 1 0) y xs in
    let all = sum_by-cons (λ z. cond {A = ℕ} (f z) 1 0) y (xs ++ x ∷ []) in
    omega arith

-- a part more in a body
body_more : (body body' : List Point) (cell : Point) → ((p : Point) → count_by (is_same_cell p) body' ≡ count_by (is_same_cell p) body + cond {A = ℕ} (is_same_cell p cell) 1 0)
    → (on : Point → Cell) (p : Point) → with_part cell (with_body body on) p ≡ with_body body' on p
body_more body body' cell count on p =
    let many = count p in
    elim (cases_Bool (is_same_cell p cell)) [
      | inl same ↦
          let more : count_by (is_same_cell p) body' ≡ count_by (is_same_cell p) body + 1 = rw same at many in
          let sum : (on p).parts + count_by (is_same_cell p) body + 1 ≡ (on p).parts + count_by (is_same_cell p) body' = omega arith in
          rw same (ap (λ n. record (on p) { parts = n }) sum)
      | inr other ↦
          let more : count_by (is_same_cell p) body' ≡ count_by (is_same_cell p) body + 0 = rw other at many in
          let sum : (on p).parts + count_by (is_same_cell p) body ≡ (on p).parts + count_by (is_same_cell p) body' = omega arith in
          rw other (ap (λ n. record (on p) { parts = n }) sum)
    ]

module _ (head : Point) (s : Snake) (long : 3 ≤ length s.body) where
  without_last : (p : Point) → count_by (is_same_cell p) s.body ≡ count_by (is_same_cell p) (take (length s.body - 1) s.body) + cond {A = ℕ} (is_same_cell p (get_or s.body (length s.body - 1) origin)) 1 0
  without_last p =
      let more = sum_by_more (λ r. cond {A = ℕ} (is_same_cell p r) 1 0) s.body (length s.body - 1) origin (omega arith) in
      let whole : length s.body - 1 + 1 ≡ length s.body = omega arith in
      let all : take (length s.body - 1 + 1) s.body ≡ s.body = ap (λ n. take n s.body) whole ∙ take_all (length s.body) s.body (omega arith) in
      sym (ap (count_by (is_same_cell p)) all) ∙ more

  with_head : (body : List Point) (p : Point) → count_by (is_same_cell p) (head ∷ body) ≡ count_by (is_same_cell p) body + cond {A = ℕ} (is_same_cell p head) 1 0
  with_head body p = let one = sum_by-cons (λ r. cond {A = ℕ} (is_same_cell p r) 1 0) head body in omega arith

  -- the new head before the body is the moved body and the last part
  both_ways : (last : Point) → last ≡ get_or s.body (length s.body - 1) origin → (p : Point)
      → count_by (is_same_cell p) (head ∷ s.body) ≡ count_by (is_same_cell p) (head ∷ take (length s.body - 1) s.body) + cond {A = ℕ} (is_same_cell p last) 1 0
  both_ways last is p =
      let long = with_head s.body p in
      let short = with_head (take (length s.body - 1) s.body) p in
      let without : count_by (is_same_cell p) s.body ≡ count_by (is_same_cell p) (take (length s.body - 1) s.body) + cond {A = ℕ} (is_same_cell p last) 1 0 = rw is (without_last p) in
      omega arith

  -- the new head is counted, the last part is taken off
  pub steps_on : (last : Point) (plane mid now : Plane) → last ≡ get_or s.body (length s.body - 1) origin → Changes (with_part head) plane mid → TakesPart last mid now
      → SwapsBody s.body (head ∷ take (length s.body - 1) s.body) plane now
  steps_on last plane mid now is adds takes =
      let body = head ∷ take (length s.body - 1) s.body in
      record {
        width = takes.width ∙ adds.width;
        height = takes.height ∙ adds.height;
        cells = λ on shows.
            let added : Shows (with_body (head ∷ s.body) on) mid =
            same_cells mid.width mid.height _ _ mid.cells.items (body_more s.body (head ∷ s.body) head (with_head s.body) on) (adds.cells (with_body s.body on) shows) in
            let before : Shows (with_part last (with_body body on)) mid =
            same_cells mid.width mid.height _ _ mid.cells.items (λ p. sym (body_more body (head ∷ s.body) last (both_ways last is) on p)) added in
            takes.cells (with_body body on) before;
      }

  -- and a part is repeated
  pub grows_on : (again : Point) (plane mid new : Plane) → again ≡ repeated s → SwapsBody s.body (head ∷ take (length s.body - 1) s.body) plane mid → Changes (with_part again) mid new
      → SwapsBody s.body ((head ∷ take (length s.body - 1) s.body) ++ repeated s ∷ []) plane new
  grows_on again plane mid new is swaps adds =
      let body = head ∷ take (length s.body - 1) s.body in
      record {
        width = adds.width ∙ swaps.width;
        height = adds.height ∙ swaps.height;
        cells = λ on shows.
            same_cells new.width new.height _ _ new.cells.items
            (body_more body (body ++ repeated s ∷ []) again (λ p. count_push (is_same_cell p) body (repeated s) ∙ ap (λ r. count_by (is_same_cell p) body + cond {A = ℕ} (is_same_cell p r) 1 0) (sym is)) on)
            (adds.cells (with_body body on) (swaps.cells on shows));
      }
