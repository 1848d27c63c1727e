-- A whole turn from its steps.
use Rattle.std.proofs.Common.{◌≡◌, ℕ, ◌+◌, ◌<◌, ◌⊎◌, List, length, map, get_or, All, MatchOption, Option, Some, None, true, ◌-◌, refl, sym, subst, ap, ◌∙◌, arith, inl, inr}
use Rattle.std.specs.Prelude.{slice_index_or}
use Rattle.std.proofs.lemmas.Bool.{cond_both, false≢true}
use Rattle.std.proofs.lemmas.List.{ext_get_or, get_or-map, length-map}
use Rattle.bs_board.specs.declared.boards.board.Board.{Board}
use Rattle.bs_board.specs.declared.boards.board.Mode.{Mode}
use Rattle.bs_board.specs.declared.boards.board.Mode.TheVariants.{Standard, Solo, Constrictor, Wrapped}
use Rattle.bs_board.specs.declared.boards.point.Direction.{Direction}
use Rattle.bs_board.specs.declared.boards.snake.Cause.{Cause}
use Rattle.bs_board.specs.declared.boards.snake.Snake.{Snake}
use Rattle.bs_board.specs.boards.Legal.{IsLegal, IsLegalLiving, IsLegalOut, IsLegalSnake}
use Rattle.bs_board.specs.boards.Over.{is_living}
use Rattle.bs_board.specs.boards.Wrap.{wrap_of}
use Rattle.bs_board.specs.commands.Orders.{Orders, given_to}
use Rattle.bs_food.specs.Given.{given}
use Rattle.bs_food.specs.Spawning.{spawned}
use Rattle.bs_food.proofs.GivenFood.{given_refed}
use Rattle.bs_food.proofs.NewFood.{refed_then, spawned_refed}
use Rattle.bs_modes.specs.Growth.{grown_snake}
use Rattle.bs_rules.specs.Collision.{collided, map_seats, nobody, snake_at}
use Rattle.bs_rules.specs.Elimination.{starved_or_outside}
use Rattle.bs_rules.specs.Feeding.{fed}
use Rattle.bs_rules.specs.Hurting.{hazards_after, hurt}
use Rattle.bs_rules.specs.Motion.{moved, moved_board, moved_body}
use Rattle.bs_rules.specs.Turn.{redrawn, refilled, replenished, turn_of}
use Rattle.bs_rules.proofs.Seats.{at_seat, length-map_seats}
use Rattle.bs_rules.proofs.TurnLegal.{turn_is_legal}
use Rattle.bs_batch.specs.declared.layout.Head.{Head}
use Rattle.bs_batch.specs.Directions.{given_by}
use Rattle.bs_batch.specs.Hazards.{ShowsHazards}
use Rattle.bs_batch.specs.Lasting.{CrossesLittle, IsLasting}
use Rattle.bs_batch.specs.Shown.{ShowsGame, ShowsSettings}
use Rattle.bs_batch.specs.Turn.{AreOrders, IsPlayed}
use Rattle.bs_batch.specs.inner.Turns.{moved_each}
use Rattle.bs_batch.proofs.Crossings.{no_more_crossings}
use Rattle.bs_batch.proofs.HurtFed.{fed_hurt}
use Rattle.bs_batch.proofs.Survivors.{hurt_fed, Survives, left, length_left, survives_grown, survivors}

-- What growth or new food changes.
pub record Refills (c n : Board) : Type 0 where
  pub only : n ≡ record c { food = n.food; snakes = n.snakes }
  pub snakes : (n.snakes ≡ c.snakes) ⊎ (n.snakes ≡ map grown_snake c.snakes)

refills_by_food : (orders : Orders) (c : Board) → Refills c (refilled orders c)
refills_by_food orders c =
    let spawn = spawned orders.words c in
    let refed = refed_then c spawn (given orders.food spawn) (spawned_refed orders.words c) (given_refed orders.food spawn) in
    let same : (refilled orders c).snakes ≡ c.snakes = ap (λ (t : Board). t.snakes) refed.only in
    record {
      only = refed.only ∙ ap (λ (snakes : List Snake). record c { food = (refilled orders c).food; snakes = snakes }) (sym same);
      snakes = inl same;
    }

pub refills : (mode : Mode) (orders : Orders) (c : Board) → Refills c (replenished mode orders c)
refills Standard orders c = refills_by_food orders c
refills Solo orders c = refills_by_food orders c
refills Constrictor orders c = record { only = refl; snakes = inr refl }
refills Wrapped orders c = refills_by_food orders c

-- a board that differs in its hazards alone
redrawn_shows : (orders : Orders) (c : Board) (head : Head) (food plane bodies : List ℕ) → ShowsGame head food plane bodies c → ShowsGame head food plane bodies (redrawn orders c)
redrawn_shows orders c head food plane bodies shows =
    let seats = shows.seats in
    let settings = seats.settings in
    let same : ShowsSettings head.settings (redrawn orders c) = record {
      mode = settings.mode;
      width = settings.width;
      height = settings.height;
      seats = settings.seats;
      min_food = settings.min_food;
      chance = settings.chance;
    } in
    record {
      seats = record { settings = same; turn = seats.turn; eight = seats.eight; snakes = seats.snakes; counts = seats.counts };
      food = shows.food;
      living = shows.living;
      over = shows.over;
    }

not_full_if : (b : Board) (seat : ℕ) (s : Snake) (cause : Option Cause) → is_living (record s { cause = cause }) ≡ true
    → MatchOption cause (IsLegalLiving b s) (IsLegalOut b seat s) → s.health - 1 ≡ 100 → ⊥
not_full_if b seat s None alive state full = let most = state.full in omega arith
not_full_if b seat s (Some cause) alive state full = absurd (false≢true alive)

-- a living snake has less than full health after a motion
not_full : (b : Board) (seat : ℕ) (s : Snake) (wrap : Option (ℕ × ℕ)) (given : Option Direction) → IsLegalSnake b seat s → is_living (moved wrap given s) ≡ true
    → (moved wrap given s).health ≡ 100 → ⊥
not_full b seat s wrap given l =
    cond_both (is_living s) (record s { body = moved_body wrap given s.body; health = s.health - 1 }) s (λ t. is_living t ≡ true → t.health ≡ 100 → ⊥)
    (λ alive _ full. not_full_if b seat s s.cause alive l.state full) (λ dead alive _. absurd (false≢true (sym dead ∙ alive)))

crosses_no_more : (width height : ℕ) (s u : Snake) → Survives s u → CrossesLittle width height s → CrossesLittle width height u
crosses_no_more width height s u survives little alive =
    let goes = survives.goes in
    let few = little (goes.before alive) in
    let less = no_more_crossings width height s.body goes.head u.body (goes.body alive) (survives.free alive) in
    omega arith

module _ (moves words counts : List ℕ) (damage : ℕ) (b : Board) (orders : Orders) (is : AreOrders moves words b orders) (lasting : IsLasting b) (early : b.turn < 10000)
    (beside : ShowsHazards counts damage b) where
  abbrev by_id : Snake → Snake
  by_id s = moved (wrap_of b) (given_to orders.moves s.id) s

  abbrev by_seat : ℕ → Snake → Snake
  by_seat seat s = moved (wrap_of b) (given_by (slice_index_or moves seat 4)) s

  same_moves : map by_id b.snakes ≡ map_seats by_seat b.snakes
  same_moves =
      let n = length-map b.snakes by_id in
      let m = length-map_seats by_seat b.snakes in
      ext_get_or nobody (map by_id b.snakes) (map_seats by_seat b.snakes) (n ∙ sym m)
      (λ k within.
      let inside : k < length b.snakes = omega arith in
      get_or-map by_id b.snakes k nobody nobody inside ∙ ap (λ d. moved (wrap_of b) d (snake_at b.snakes k)) (is.directions k inside)
      ∙ sym (at_seat by_seat b.snakes k nobody inside))

  abbrev pub next : Board
  next = replenished b.mode orders (left moves counts damage b)

  -- no snake has full health after a motion
  lower : All (λ s. is_living s ≡ true → s.health ≡ 100 → ⊥) (moved_each moves b).snakes
  lower k d within =
      let m = length-map_seats by_seat b.snakes in
      let inside : k < length b.snakes = omega arith in
      let s = snake_at b.snakes k in
      rw (at_seat by_seat b.snakes k d inside) (not_full b k s (wrap_of b) (given_by (slice_index_or moves k 4)) (lasting.legal.snakes k nobody inside))

  pub turn_is : turn_of b orders ≡ redrawn orders (record next { turn = b.turn + 1 })
  unfolding turn_of
  turn_is =
      let all : fed (hurt (moved_board orders.moves b)) ≡ hurt_fed moves counts damage b =
      ap (λ (snakes : List Snake). fed (hurt (record b { snakes = snakes }))) same_moves
      ∙ fed_hurt counts damage (moved_each moves b) (record { cells = beside.cells; hurts = beside.hurts }) lasting.legal.hazards lower in
      ap (λ (m : Board). redrawn orders (record (replenished b.mode orders (collided (starved_or_outside m))) { turn = b.turn + 1 })) all

  pub turn_stays : next.turn ≡ b.turn
  turn_stays = ap (λ (t : Board). t.turn) (refills b.mode orders (left moves counts damage b)).only

  crosses_left : All (CrossesLittle b.width b.height) (left moves counts damage b).snakes
  crosses_left k d within =
      let n = length_left moves counts damage b in
      let inside : k < length b.snakes = omega arith in
      crosses_no_more b.width b.height (snake_at b.snakes k) (get_or (left moves counts damage b).snakes k d) (survivors moves counts damage b k d inside) (lasting.bodies k nobody inside)

  crosses_grown : All (CrossesLittle b.width b.height) (map grown_snake (left moves counts damage b).snakes)
  crosses_grown k d within =
      let n = length_left moves counts damage b in
      let m = length-map (left moves counts damage b).snakes grown_snake in
      let inside : k < length b.snakes = omega arith in
      let s = get_or (left moves counts damage b).snakes k d in
      rw (get_or-map grown_snake (left moves counts damage b).snakes k d d (omega arith))
      (crosses_no_more b.width b.height (snake_at b.snakes k) (grown_snake s) (survives_grown (snake_at b.snakes k) s (survivors moves counts damage b k d inside)) (lasting.bodies k nobody inside))

  crosses_next : (snakes : List Snake) → (snakes ≡ (left moves counts damage b).snakes) ⊎ (snakes ≡ map grown_snake (left moves counts damage b).snakes) → All (CrossesLittle b.width b.height) snakes
  crosses_next snakes (inl same) = rw same crosses_left
  crosses_next snakes (inr grew) = rw grew crosses_grown

  abbrev refill : Refills (left moves counts damage b) next
  refill = refills b.mode orders (left moves counts damage b)

  wide : next.width ≡ b.width
  wide = ap (λ (t : Board). t.width) refill.only

  high : next.height ≡ b.height
  high = ap (λ (t : Board). t.height) refill.only

  pub lasts : IsLasting (turn_of b orders)
  lasts =
      let last : IsLasting (redrawn orders (record next { turn = b.turn + 1 })) = record {
        legal = subst IsLegal turn_is (turn_is_legal b orders lasting.legal early);
        bodies = rw (wide, high) (crosses_next next.snakes refill.snakes);
      } in
      subst IsLasting (sym turn_is) last

  hazards_are : (turn_of b orders).hazards ≡ hazards_after b.width b.height orders.hazards b.hazards
  hazards_are =
      let same : next.hazards ≡ b.hazards = ap (λ (t : Board). t.hazards) refill.only in
      ap (λ (t : Board). t.hazards) turn_is ∙ rw (wide, high, same) refl

  pub is_played : (head : Head) (food plane bodies : List ℕ) → ShowsGame head food plane bodies (record next { turn = next.turn + 1 })
      → IsPlayed orders b head food plane bodies
  is_played head food plane bodies shows =
      let P : Board → Type 0 = λ c. ShowsGame head food plane bodies c in
      let risen : record next { turn = next.turn + 1 } ≡ record next { turn = b.turn + 1 } = ap (λ (t : ℕ). record next { turn = t + 1 }) turn_stays in
      record {
        shows = subst P (sym turn_is) (redrawn_shows orders (record next { turn = b.turn + 1 }) head food plane bodies (subst P risen shows));
        lasting = lasts;
        hazards = hazards_are;
      }
