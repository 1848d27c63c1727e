-- A turn in which no snake goes out, step by step.
use Rattle.std.proofs.Common.{◌≡◌, ℕ, ◌+◌, ◌-◌, ◌<◌, ◌≤◌, Bool, true, false, not, ◌&&◌, ◌||◌, cond, List, [], ◌∷◌, ◌++◌, length, take, map, Option, Some, None, count_by, refl, sym, subst, ap, ◌∙◌, arith, inl, inr, eqb, length-append}
use Rattle.std.specs.List.{list_any}
use Rattle.std.proofs.lemmas.Bool.{cases_Bool, cond_both, eqb-true}
use Rattle.std.proofs.lemmas.List.{ext_get_or, get_or-map, length-map, map-id}
use Rattle.std.proofs.lemmas.List.Elements.{filter_agree}
use Rattle.std.proofs.lemmas.List.Sums.{sum_by-append, sum_by-cons}
use Rattle.std.proofs.lemmas.Simd.{map-map}
use Rattle.std.proofs.Math.Bool.{and-false, or-true}
use Rattle.bs_board.specs.declared.boards.board.Board.{Board}
use Rattle.bs_board.specs.declared.boards.board.Mode.{Mode}
use Rattle.bs_board.specs.declared.boards.board.Mode.TheVariants.{Standard, Solo, Constrictor, Wrapped}
use Rattle.bs_board.specs.declared.boards.hazards.Hazards.{Hazards}
use Rattle.bs_board.specs.declared.boards.point.Direction.{Direction}
use Rattle.bs_board.specs.declared.boards.point.Point.{Point}
use Rattle.bs_board.specs.declared.boards.snake.Snake.{Snake}
use Rattle.bs_board.specs.boards.Cell.{head_of, is_on_board, is_same_cell}
use Rattle.bs_board.specs.boards.Over.{is_living}
use Rattle.bs_board.specs.boards.Wrap.{is_wrapped, wrap_of}
use Rattle.bs_board.specs.commands.Orders.{Orders, given_to}
use Rattle.bs_board.specs.records.Layout.{cells_of}
use Rattle.bs_modes.specs.Growth.{grown_body, grown_snake, is_stretched, part_from_end}
use Rattle.bs_rules.specs.Collision.{collided, collision_verdict, map_seats, nobody, snake_at}
use Rattle.bs_rules.specs.Elimination.{judged, starved_or_outside, starved_or_outside_snake, starved_or_outside_verdict}
use Rattle.bs_rules.specs.Feeding.{eats, fed, fed_snake, food_left, has_head_on, last_of}
use Rattle.bs_rules.specs.Hurting.{hazards_after, hurt, hurt_by, hurt_snake, is_hurt}
use Rattle.bs_rules.specs.Motion.{direction_taken, moved, moved_board, neighbor}
use Rattle.bs_rules.specs.Turn.{redrawn, refilled, replenished, turn_of}
use Rattle.bs_rules.proofs.CollisionMeaning.{seat_of_living}
use Rattle.bs_rules.proofs.Seats.{at_seat, length-map_seats}
use Rattle.bs_plane.specs.Onward.{grown_in, onward}
use Rattle.bs_plane.specs.Plane.{occupants, parts_on}
use Rattle.bs_plane.specs.Turn.{GoOn, fed_onward, followed, refilled_in}
use Rattle.bs_plane.proofs.Alone.{spared}
use Rattle.bs_plane.proofs.MovedSnakes.{living_fed, living_in, living_moved}

-- ---- one snake

hurt_none : (hazards : Option Hazards) (food : List Point) (turn : ℕ) (s : Snake)
    → (list_any (is_same_cell (head_of s.body)) (cells_of hazards) && not (list_any (is_same_cell (head_of s.body)) food)) ≡ false → hurt_snake hazards food turn s ≡ s
hurt_none None food turn s unhurt = refl
hurt_none (Some h) food turn s unhurt =
    let no : is_hurt h.cells food s ≡ false = ap (λ t. is_living s && t) unhurt ∙ and-false (is_living s) in
    ap (λ t. cond {A = Snake} t (hurt_by h turn s) s) no

hurt_dead : (hazards : Option Hazards) (food : List Point) (turn : ℕ) (s : Snake) → is_living s ≡ false → hurt_snake hazards food turn s ≡ s
hurt_dead None food turn s dead = refl
hurt_dead (Some h) food turn s dead =
    ap (λ t. cond {A = Snake} (t && (list_any (is_same_cell (head_of s.body)) h.cells && not (list_any (is_same_cell (head_of s.body)) food))) (hurt_by h turn s) s) dead

above_zero : (n : ℕ) → 1 ≤ n → eqb n 0 ≡ false
above_zero n some = elim (cases_Bool (eqb n 0)) [
  | inl same ↦ let none = eqb-true n 0 same in absurd (omega arith)
  | inr other ↦ other
]

stays_in : (wraps : Bool) (width height turn : ℕ) (s : Snake) → 1 ≤ s.health → is_on_board width height (head_of s.body) ≡ true
    → starved_or_outside_snake wraps width height turn s ≡ s
stays_in wraps width height turn s some on =
    let fed = above_zero s.health some in
    let inside : (wraps || is_on_board width height (head_of s.body)) ≡ true = ap (λ t. wraps || t) on ∙ or-true wraps in
    let none : starved_or_outside_verdict wraps width height s ≡ None = rw (fed, inside) refl in
    let same : judged turn (starved_or_outside_verdict wraps width height s) s ≡ s = ap (λ v. judged turn v s) none in
    cond_both (is_living s) (judged turn (starved_or_outside_verdict wraps width height s) s) s (λ t. t ≡ s) (λ _. same) (λ _. refl)

dead_stays : (wraps : Bool) (width height turn : ℕ) (s : Snake) → is_living s ≡ false → starved_or_outside_snake wraps width height turn s ≡ s
dead_stays wraps width height turn s dead = ap (λ t. cond {A = Snake} t (judged turn (starved_or_outside_verdict wraps width height s) s) s) dead

head_front : (xs ys : List Point) → 1 ≤ length xs → head_of (xs ++ ys) ≡ head_of xs
head_front [] ys some = absurd (omega arith)
head_front (x ∷ xs) ys some = refl

some_moved : (wrap : Option (ℕ × ℕ)) (given : Option Direction) (s : Snake) → is_living s ≡ true → 1 ≤ length (moved wrap given s).body
some_moved wrap given s alive =
    let body = neighbor wrap (head_of s.body) (direction_taken wrap given s.body) ∷ take (length s.body - 1) s.body in
    let is : moved wrap given s ≡ record s { body = body; health = s.health - 1 } = rw alive refl in
    let some : 1 ≤ length body = omega arith in
    subst (λ (t : Snake). 1 ≤ length t.body) (sym is) some

fed_head : (food : List Point) (s : Snake) → 1 ≤ length s.body → head_of (fed_snake food s).body ≡ head_of s.body
fed_head food s some =
    cond_both (eats food s) (record s { body = s.body ++ last_of s.body ∷ []; health = 100 }) s (λ t. head_of t.body ≡ head_of s.body)
    (λ _. head_front s.body (last_of s.body ∷ []) some) (λ _. refl)

longer : (xs ys : List Point) → length xs ≤ length (xs ++ ys)
longer xs ys = let both = length-append xs ys in omega arith

some_fed : (food : List Point) (s : Snake) → 1 ≤ length s.body → 1 ≤ length (fed_snake food s).body
some_fed food s some =
    cond_both (eats food s) (record s { body = s.body ++ last_of s.body ∷ []; health = 100 }) s (λ t. 1 ≤ length t.body)
    (λ _. let more = longer s.body (last_of s.body ∷ []) in omega arith) (λ _. some)

grown_body_head : (body : List Point) → 1 ≤ length body → head_of (grown_body body) ≡ head_of body
unfolding grown_body
grown_body_head body some =
    cond_both (is_stretched body) (body ++ part_from_end 1 body ∷ []) body (λ l. head_of l ≡ head_of body) (λ _. head_front body (part_from_end 1 body ∷ []) some) (λ _. refl)

more_counted : (f : Point → Bool) (xs ys : List Point) → count_by f xs ≤ count_by f (xs ++ ys)
more_counted f xs ys = let both = sum_by-append (λ p. cond {A = ℕ} (f p) 1 0) xs ys in omega arith

grown_body_counts : (f : Point → Bool) (body : List Point) → count_by f body ≤ count_by f (grown_body body)
unfolding grown_body
grown_body_counts f body =
    cond_both (is_stretched body) (body ++ part_from_end 1 body ∷ []) body (λ l. count_by f body ≤ count_by f l) (λ _. more_counted f body (part_from_end 1 body ∷ [])) (λ _. omega arith)

grown_head : (s : Snake) → 1 ≤ length s.body → head_of (grown_snake s).body ≡ head_of s.body
grown_head s some =
    cond_both (is_living s) (record s { health = 100; body = grown_body s.body }) s (λ t. head_of t.body ≡ head_of s.body) (λ _. grown_body_head s.body some) (λ _. refl)

head_in : (mode : Mode) (s : Snake) → 1 ≤ length s.body → head_of (grown_in mode s).body ≡ head_of s.body
head_in Standard s some = refl
head_in Solo s some = refl
head_in Constrictor s some = grown_head s some
head_in Wrapped s some = refl

grown_parts : (p : Point) (s : Snake) → parts_on p s ≤ parts_on p (grown_snake s)
grown_parts p s = elim (cases_Bool (is_living s)) [
  | inl alive ↦
      let few = grown_body_counts (is_same_cell p) s.body in
      let own : parts_on p s ≡ count_by (is_same_cell p) s.body = rw alive refl in
      let now : parts_on p (grown_snake s) ≡ count_by (is_same_cell p) (grown_body s.body) = rw (alive, alive) refl in
      omega arith
  | inr dead ↦ let own : parts_on p s ≡ 0 = rw dead refl in omega arith
]

parts_in : (mode : Mode) (p : Point) (s : Snake) → parts_on p s ≤ parts_on p (grown_in mode s)
parts_in Standard p s = omega arith
parts_in Solo p s = omega arith
parts_in Constrictor p s = grown_parts p s
parts_in Wrapped p s = omega arith

-- ---- all snakes

mapped_at : (f : Snake → Snake) (xs : List Snake) (i : ℕ) → i < length xs → snake_at (map f xs) i ≡ f (snake_at xs i)
mapped_at f xs i within = get_or-map f xs i nobody nobody within

fixed : (f : Snake → Snake) (xs : List Snake) → ((i : ℕ) → i < length xs → f (snake_at xs i) ≡ snake_at xs i) → map f xs ≡ xs
fixed f xs each =
    let many = length-map xs f in
    ext_get_or nobody (map f xs) xs many (λ i within. let inside : i < length xs = rw many at within in mapped_at f xs i inside ∙ each i inside)

fewer_parts : (f : Snake → Snake) (p : Point) → ((s : Snake) → parts_on p s ≤ parts_on p (f s)) → (xs : List Snake) → occupants xs p ≤ occupants (map f xs) p
fewer_parts f p each [] = omega arith
fewer_parts f p each (x ∷ xs) =
    let here = each x in
    let rest = fewer_parts f p each xs in
    let a = sum_by-cons (parts_on p) x xs in
    let b = sum_by-cons (parts_on p) (f x) (map f xs) in
    omega arith

same_any : (test : Snake → Bool) (f g : Snake → Snake) → ((s : Snake) → test (f s) ≡ test (g s)) → (xs : List Snake) → list_any test (map f xs) ≡ list_any test (map g xs)
same_any test f g each [] = refl
same_any test f g each (x ∷ xs) = rw (each x, same_any test f g each xs) refl

refills : (mode : Mode) (orders : Orders) (b : Board)
    → replenished mode orders b ≡ refilled_in mode orders (record b { snakes = map (grown_in mode) b.snakes })
refills Standard orders b = ap (λ l. refilled orders (record b { snakes = l })) (sym (map-id b.snakes))
refills Solo orders b = ap (λ l. refilled orders (record b { snakes = l })) (sym (map-id b.snakes))
refills Constrictor orders b = refl
refills Wrapped orders b = ap (λ l. refilled orders (record b { snakes = l })) (sym (map-id b.snakes))

module _ (b : Board) (orders : Orders) (go : GoOn b orders.moves) where
  abbrev moves : List (List ℕ × Direction)
  moves = orders.moves

  abbrev step : Snake → Snake
  step s = moved (wrap_of b) (given_to moves s.id) s

  abbrev eat : Snake → Snake
  eat s = fed_snake b.food (step s)

  abbrev m : Board
  m = moved_board moves b

  abbrev f : Board
  f = fed m

  fed_are : f.snakes ≡ map eat b.snakes
  fed_are = map-map (fed_snake b.food) step b.snakes

  many : length f.snakes ≡ length b.snakes
  many = ap length fed_are ∙ length-map b.snakes eat

  fed_at : (i : ℕ) → i < length b.snakes → snake_at f.snakes i ≡ eat (snake_at b.snakes i)
  fed_at i within = ap (λ l. snake_at l i) fed_are ∙ mapped_at eat b.snakes i within

  not_hurt : hurt m ≡ m
  not_hurt =
      let long = length-map b.snakes step in
      ap (λ l. record m { snakes = l })
      (fixed (hurt_snake b.hazards b.food (b.turn + 1)) m.snakes
      (λ i inside.
      let within : i < length b.snakes = rw long at inside in
      let s = snake_at b.snakes i in
      let one : hurt_snake b.hazards b.food (b.turn + 1) (step s) ≡ step s = elim (cases_Bool (is_living s)) [
        | inl alive ↦ hurt_none b.hazards b.food (b.turn + 1) (step s) (go.live i within alive).unhurt
        | inr dead ↦ hurt_dead b.hazards b.food (b.turn + 1) (step s) (living_moved (wrap_of b) (given_to moves s.id) s ∙ dead)
      ] in
      let at = mapped_at step b.snakes i within in
      ap (hurt_snake b.hazards b.food (b.turn + 1)) at ∙ one ∙ sym at))

  living_eat : (s : Snake) → is_living (eat s) ≡ is_living s
  living_eat s = living_fed b.food (step s) ∙ living_moved (wrap_of b) (given_to moves s.id) s

  some_eat : (s : Snake) → is_living s ≡ true → 1 ≤ length (eat s).body
  some_eat s alive = some_fed b.food (step s) (some_moved (wrap_of b) (given_to moves s.id) s alive)

  head_eat : (s : Snake) → is_living s ≡ true → head_of (eat s).body ≡ head_of (step s).body
  head_eat s alive = fed_head b.food (step s) (some_moved (wrap_of b) (given_to moves s.id) s alive)

  none_first_out : starved_or_outside f ≡ f
  none_first_out =
      ap (λ l. record f { snakes = l })
      (fixed (starved_or_outside_snake (is_wrapped b.mode) b.width b.height (b.turn + 1)) f.snakes
      (λ i inside.
      let within : i < length b.snakes = rw many at inside in
      let s = snake_at b.snakes i in
      let judge = starved_or_outside_snake (is_wrapped b.mode) b.width b.height (b.turn + 1) in
      let one : judge (eat s) ≡ eat s = elim (cases_Bool (is_living s)) [
        | inl alive ↦
            let lives = go.live i within alive in
            stays_in (is_wrapped b.mode) b.width b.height (b.turn + 1) (eat s) lives.fed (ap (is_on_board b.width b.height) (head_eat s alive) ∙ lives.on)
        | inr dead ↦ dead_stays (is_wrapped b.mode) b.width b.height (b.turn + 1) (eat s) (living_eat s ∙ dead)
      ] in
      let at = fed_at i within in
      ap judge at ∙ one ∙ sym at))

  -- the snakes after the turn are those fed, grown in constrictor
  onward_are : map (grown_in b.mode) f.snakes ≡ map (onward b moves) b.snakes
  onward_are = ap (map (grown_in b.mode)) fed_are ∙ map-map (grown_in b.mode) eat b.snakes

  alone : (i : ℕ) → is_living (snake_at f.snakes i) ≡ true → i < length b.snakes → occupants f.snakes (head_of (snake_at f.snakes i).body) ≤ 1
  alone i alive within =
      let s = snake_at b.snakes i in
      let at = fed_at i within in
      let lived : is_living s ≡ true = sym (living_eat s) ∙ sym (ap is_living at) ∙ alive in
      let next = mapped_at (onward b moves) b.snakes i within in
      let alive' : is_living (snake_at (map (onward b moves) b.snakes) i) ≡ true = ap is_living next ∙ living_in b.mode (eat s) ∙ living_eat s ∙ lived in
      let one = go.alone i within alive' in
      let head : head_of (snake_at (map (onward b moves) b.snakes) i).body ≡ head_of (snake_at f.snakes i).body =
      ap (λ (t : Snake). head_of t.body) next ∙ head_in b.mode (eat s) (some_eat s lived) ∙ sym (ap (λ (t : Snake). head_of t.body) at) in
      let p = head_of (snake_at f.snakes i).body in
      let all : occupants (map (onward b moves) b.snakes) p ≡ 1 = ap (occupants (map (onward b moves) b.snakes)) (sym head) ∙ one in
      let few = fewer_parts (grown_in b.mode) p (parts_in b.mode p) f.snakes in
      let same : occupants (map (grown_in b.mode) f.snakes) p ≡ occupants (map (onward b moves) b.snakes) p = ap (λ l. occupants l p) onward_are in
      omega arith

  bodies : (other : ℕ) → is_living (snake_at f.snakes other) ≡ true → 1 ≤ length (snake_at f.snakes other).body
  bodies other alive =
      let inside = seat_of_living f.snakes other alive in
      let within : other < length b.snakes = rw many at inside in
      let at = fed_at other within in
      let lived : is_living (snake_at b.snakes other) ≡ true = sym (living_eat (snake_at b.snakes other)) ∙ sym (ap is_living at) ∙ alive in
      subst (λ (t : Snake). 1 ≤ length t.body) (sym at) (some_eat (snake_at b.snakes other) lived)

  abbrev judge_seat : ℕ → Snake → Snake
  judge_seat seat s = judged (b.turn + 1) (collision_verdict f.snakes seat) s

  none_collides : collided f ≡ f
  none_collides =
      let long = length-map_seats judge_seat f.snakes in
      ap (λ l. record f { snakes = l })
      (ext_get_or nobody (map_seats judge_seat f.snakes) f.snakes long
      (λ i inside.
      let here : i < length f.snakes = rw long at inside in
      let within : i < length b.snakes = rw many at here in
      at_seat judge_seat f.snakes i nobody here
      ∙ ap (λ v. judged (b.turn + 1) v (snake_at f.snakes i)) (spared f.snakes i bodies (λ alive. alone i alive within))))

  head_onward : (s : Snake) → is_living s ≡ true → head_of (onward b moves s).body ≡ head_of (step s).body
  head_onward s alive = head_in b.mode (eat s) (some_eat s alive) ∙ head_eat s alive

  living_step : (s : Snake) → is_living (step s) ≡ is_living s
  living_step s = living_moved (wrap_of b) (given_to moves s.id) s

  same_head : (cell : Point) (s : Snake) → has_head_on cell (step s) ≡ has_head_on cell (onward b moves s)
  same_head cell s =
      let now : is_living (onward b moves s) ≡ is_living s = living_in b.mode (eat s) ∙ living_eat s in
      elim (cases_Bool (is_living s)) [
        | inl alive ↦
            ap (λ t. t && is_same_cell (head_of (step s).body) cell) (living_step s ∙ alive) ∙ ap (λ h. is_same_cell h cell) (sym (head_onward s alive))
            ∙ sym (ap (λ t. t && is_same_cell (head_of (onward b moves s).body) cell) (now ∙ alive))
        | inr dead ↦
            ap (λ t. t && is_same_cell (head_of (step s).body) cell) (living_step s ∙ dead)
            ∙ sym (ap (λ t. t && is_same_cell (head_of (onward b moves s).body) cell) (now ∙ dead))
      ]

  food_same : food_left m.snakes b.food ≡ food_left (map (onward b moves) b.snakes) b.food
  food_same =
      filter_agree (λ cell. not (list_any (has_head_on cell) m.snakes)) (λ cell. not (list_any (has_head_on cell) (map (onward b moves) b.snakes)))
      (λ cell. ap not (same_any (has_head_on cell) step (onward b moves) (same_head cell) b.snakes)) b.food

  pub is_followed : orders.hazards ≡ None → turn_of b orders ≡ followed b orders
  unfolding turn_of
  is_followed no_hazards =
      let steps : collided (starved_or_outside (fed (hurt m))) ≡ f = ap (λ x. collided (starved_or_outside (fed x))) not_hurt ∙ ap collided none_first_out ∙ none_collides in
      let x : Board = record (replenished b.mode orders f) { turn = b.turn + 1 } in
      let same : record f { snakes = map (grown_in b.mode) f.snakes } ≡ fed_onward b moves =
      ap (λ l. record f { snakes = l }) onward_are ∙ ap (λ l. record b { food = l; snakes = map (onward b moves) b.snakes }) food_same in
      ap (λ y. redrawn orders (record (replenished b.mode orders y) { turn = b.turn + 1 })) steps
      ∙ ap (λ g. record x { hazards = hazards_after x.width x.height g x.hazards }) no_hazards
      ∙ ap (λ (y : Board). record y { turn = b.turn + 1 }) (refills b.mode orders f ∙ ap (refilled_in b.mode orders) same)
