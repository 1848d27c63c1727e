-- Snakes that eat first and are hurt then are those that are hurt first: the one has its head on food,
-- the other has not.
use Rattle.std.proofs.Common.{◌≡◌, ℕ, ◌+◌, ◌-◌, ◌*◌, Bool, true, false, not, ◌&&◌, cond, List, [], ◌∷◌, ◌++◌, length, map, get_or, All, IfSome, Option, Some, None, count_by, refl, sym, ap, ◌∙◌, arith, inl, inr, slice_index, leb}
use Rattle.std.specs.List.{filter, list_all, list_any}
use Rattle.std.proofs.lemmas.Bool.{and_parts, cases_Bool, cond_both, false≢true}
use Rattle.std.proofs.lemmas.List.Elements.{All-head, All-tail}
use Rattle.std.proofs.lemmas.List.Folds.{list_any_at}
use Rattle.std.proofs.lemmas.List.Sums.{AllPass-from_list_all, sum_by-cons}
use Rattle.bs_board.specs.declared.boards.board.Board.{Board}
use Rattle.bs_board.specs.declared.boards.hazards.Hazards.{Hazards}
use Rattle.bs_board.specs.declared.boards.point.Point.{Point}
use Rattle.bs_board.specs.declared.boards.snake.Snake.{Snake}
use Rattle.bs_board.specs.boards.Cell.{cell_index, head_of, is_on_board, is_same_cell}
use Rattle.bs_board.specs.boards.Hazards.{are_fit_hazards}
use Rattle.bs_board.specs.boards.Over.{is_living}
use Rattle.bs_rules.specs.declared.verdict.Verdict.{Verdict}
use Rattle.bs_rules.specs.Elimination.{judged}
use Rattle.bs_rules.specs.Feeding.{eats, fed, fed_snake, food_left, has_head_on, last_of}
use Rattle.bs_rules.specs.Hurting.{hazard_verdict, health_left, hurt, hurt_by, hurt_snake, is_hurt}
use Rattle.bs_rules.proofs.CollisionTest.{same_cell}
use Rattle.bs_batch.specs.Hazards.{ShowsHazards, hazards_on}
use Rattle.bs_batch.specs.Hurting.{count_on, hurt_all, hurt_by_count, with_health}
use Rattle.bs_batch.proofs.Hurt.{dead_unhurt, full_unhurt, never, off_unhurt}
use Rattle.bs_batch.proofs.Hurt as one
use Rattle.bs_batch.proofs.LastingBoards.{none_elsewhere}

not_on : (a : Bool) → not a ≡ true → a ≡ false
not_on true e = sym e
not_on false e = refl

-- a cell is counted if it is there
some_counted : (p : Point) (cells : List Point) → list_any (is_same_cell p) cells ≡ true → count_by (is_same_cell p) cells ≡ 0 → ⊥
some_counted p [] there none = false≢true there
some_counted p (q ∷ cells) there none =
    let all = sum_by-cons (λ r. cond {A = ℕ} (is_same_cell p r) 1 0) q cells in
    elim (cases_Bool (is_same_cell p q)) [
      | inl same ↦ let one : cond {A = ℕ} (is_same_cell p q) 1 0 ≡ 1 = rw same refl in omega arith
      | inr other ↦ some_counted p cells (rw other at there) (omega arith)
    ]

none_counted : (p : Point) (cells : List Point) → list_any (is_same_cell p) cells ≡ false → count_by (is_same_cell p) cells ≡ 0
none_counted p [] none = refl
none_counted p (q ∷ cells) none =
    let all = sum_by-cons (λ r. cond {A = ℕ} (is_same_cell p r) 1 0) q cells in
    elim (cases_Bool (is_same_cell p q)) [
      | inl same ↦ absurd (false≢true (sym (rw same at none)))
      | inr other ↦
          let zero : cond {A = ℕ} (is_same_cell p q) 1 0 ≡ 0 = rw other refl in
          let rest = none_counted p cells (rw other at none) in
          omega arith
    ]

none_off : (width height : ℕ) (hazards : Option Hazards) (p : Point) → is_on_board width height p ≡ false → are_fit_hazards width height hazards ≡ true
    → hazards_on hazards p ≡ 0
none_off width height None p off fits = refl
none_off width height (Some h) p off fits =
    none_elsewhere width height p h.cells off
    (AllPass-from_list_all (is_on_board width height) h.cells
    (and_parts (leb h.damage 100 && leb (length h.cells) 2500) (list_all (is_on_board width height) h.cells) fits).1)

-- the plane counts the hazards of each cell, and none off the board
pub counted : (counts : List ℕ) (damage : ℕ) (b : Board) (p : Point) → ShowsHazards counts damage b → are_fit_hazards b.width b.height b.hazards ≡ true
    → count_on b.width b.height counts p ≡ hazards_on b.hazards p
counted counts damage b p shows fits = elim (cases_Bool (is_on_board b.width b.height p)) [
  | inl on ↦
      let place : 0 * (b.width * b.height) + cell_index b.width p ≡ cell_index b.width p = omega arith in
      rw on (ap (λ k. slice_index counts k) (sym place) ∙ shows.cells p on)
  | inr off ↦ rw off (sym (none_off b.width b.height b.hazards p off fits))
]

judged_body : (turn : ℕ) (verdict : Option Verdict) (s : Snake) → (judged turn verdict s).body ≡ s.body
judged_body turn None s = refl
judged_body turn (Some v) s = refl

-- a snake off the food does not eat
hungry : (food : List Point) (s : Snake) → list_any (is_same_cell (head_of s.body)) food ≡ false → fed_snake food s ≡ s
hungry food s off =
    let calm : eats food s ≡ false = rw off (never (is_living s)) in
    rw calm refl

-- one that eats is not hurt
eater : (hazards : Option Hazards) (food : List Point) (turn : ℕ) (s : Snake) → eats food s ≡ true → hurt_snake hazards food turn s ≡ s
eater None food turn s ate = refl
eater (Some h) food turn s ate =
    let both = and_parts (is_living s) (list_any (is_same_cell (head_of s.body)) food) ate in
    let calm : is_hurt h.cells food s ≡ false = rw both.1 (rw (never (list_any (is_same_cell (head_of s.body)) h.cells)) (never (is_living s))) in
    rw calm refl

-- the same count as a number that is given
abbrev Same : Option Hazards → List Point → ℕ → ℕ → ℕ → Snake → Type 0
Same hazards food turn damage count s = fed_snake food (hurt_snake hazards food turn s) ≡ hurt_by_count turn damage count s

alive_off : (food : List Point) (s : Snake) → is_living s ≡ true → eats food s ≡ false → list_any (is_same_cell (head_of s.body)) food ≡ false
alive_off food s alive calm = rw alive at calm

-- a living snake off the food, on hazards
hit_off_food : (h : Hazards) (food : List Point) (turn damage count : ℕ) (s : Snake) → count ≡ count_by (is_same_cell (head_of s.body)) h.cells → damage ≡ h.damage
    → (s.health ≡ 100 → ⊥) → is_living s ≡ true → list_any (is_same_cell (head_of s.body)) food ≡ false → list_any (is_same_cell (head_of s.body)) h.cells ≡ true
    → Same (Some h) food turn damage count s
hit_off_food h food turn damage count s is harms low alive off there =
    let calm : is_hurt h.cells food s ≡ true = rw (alive, there, off) refl in
    let hit = one.is_hurt count s alive low (λ none. some_counted (head_of s.body) h.cells there (sym is ∙ none)) in
    let u = hurt_by h turn s in
    let body = judged_body turn (hazard_verdict (health_left h s)) (record s { health = health_left h s }) in
    let same : health_left h s ≡ s.health - damage * count = rw (is, harms) refl in
    let end : u ≡ with_health turn (s.health - damage * count) s = ap (λ n. with_health turn n s) same in
    let stays : fed_snake food u ≡ u = hungry food u (rw body off) in
    rw (calm, hit) (stays ∙ end)

alive_same : (h : Hazards) (food : List Point) (turn damage count : ℕ) (s : Snake) → count ≡ count_by (is_same_cell (head_of s.body)) h.cells → damage ≡ h.damage
    → (s.health ≡ 100 → ⊥) → is_living s ≡ true → list_any (is_same_cell (head_of s.body)) food ≡ false → Same (Some h) food turn damage count s
alive_same h food turn damage count s is harms low alive off = elim (cases_Bool (list_any (is_same_cell (head_of s.body)) h.cells)) [
  | inl there ↦ hit_off_food h food turn damage count s is harms low alive off there
  | inr free ↦
      let calm : is_hurt h.cells food s ≡ false = rw free (never (is_living s)) in
      let none = none_counted (head_of s.body) h.cells free in
      rw (calm, off_unhurt count s (is ∙ none)) (hungry food s off)
]

dead_same : (h : Hazards) (food : List Point) (turn damage count : ℕ) (s : Snake) → is_living s ≡ false → Same (Some h) food turn damage count s
dead_same h food turn damage count s dead =
    let calm : is_hurt h.cells food s ≡ false = rw dead refl in
    let off : eats food s ≡ false = rw dead refl in
    rw (calm, dead_unhurt count s dead) (rw off refl)

off_same : (hazards : Option Hazards) (food : List Point) (turn damage count : ℕ) (s : Snake) → count ≡ hazards_on hazards (head_of s.body)
    → IfSome hazards (λ h. damage ≡ h.damage) → (is_living s ≡ true → s.health ≡ 100 → ⊥) → eats food s ≡ false → Same hazards food turn damage count s
off_same None food turn damage count s is harms low calm = rw (off_unhurt count s is) (rw calm refl)
off_same (Some h) food turn damage count s is harms low calm = elim (cases_Bool (is_living s)) [
  | inl alive ↦ alive_same h food turn damage count s is harms (low alive) alive (alive_off food s alive calm)
  | inr dead ↦ dead_same h food turn damage count s dead
]

full_same : (turn damage count : ℕ) (s : Snake) → s.health ≡ 100 → s ≡ hurt_by_count turn damage count s
full_same turn damage count s full = rw (full_unhurt count s full) refl

-- the two orders agree on a snake that has moved
one_same : (hazards : Option Hazards) (food : List Point) (turn damage width height : ℕ) (counts : List ℕ) (s : Snake)
    → ((p : Point) → count_on width height counts p ≡ hazards_on hazards p) → IfSome hazards (λ h. damage ≡ h.damage) → (is_living s ≡ true → s.health ≡ 100 → ⊥)
    → fed_snake food (hurt_snake hazards food turn s) ≡ hurt_by_count turn damage (count_on width height counts (head_of (fed_snake food s).body)) (fed_snake food s)
one_same hazards food turn damage width height counts s is harms low = elim (cases_Bool (eats food s)) [
  | inl ate ↦
      let full = record s { body = s.body ++ last_of s.body ∷ []; health = 100 } in
      rw (eater hazards food turn s ate) (rw ate (full_same turn damage (count_on width height counts (head_of full.body)) full refl))
  | inr calm ↦
      let same : fed_snake food s ≡ s = rw calm refl in
      rw same (off_same hazards food turn damage (count_on width height counts (head_of s.body)) s (is (head_of s.body)) harms low calm)
]

each_same : (hazards : Option Hazards) (food : List Point) (turn damage width height : ℕ) (counts : List ℕ) (snakes : List Snake)
    → ((p : Point) → count_on width height counts p ≡ hazards_on hazards p) → IfSome hazards (λ h. damage ≡ h.damage)
    → All (λ s. is_living s ≡ true → s.health ≡ 100 → ⊥) snakes
    → map (fed_snake food) (map (hurt_snake hazards food turn) snakes)
    ≡ map (λ s. hurt_by_count turn damage (count_on width height counts (head_of s.body)) s) (map (fed_snake food) snakes)
each_same hazards food turn damage width height counts [] is harms low = refl
each_same hazards food turn damage width height counts (s ∷ snakes) is harms low =
    let P : Snake → Type 0 = λ s. is_living s ≡ true → s.health ≡ 100 → ⊥ in
    let here = one_same hazards food turn damage width height counts s is harms (All-head P s snakes low) in
    let rest = each_same hazards food turn damage width height counts snakes is harms (All-tail P s snakes low) in
    rw (here, rest) refl

-- hazards move no head on food
head_stays : (hazards : Option Hazards) (food : List Point) (turn : ℕ) (cell : Point) (s : Snake) → list_any (is_same_cell cell) food ≡ true
    → has_head_on cell (hurt_snake hazards food turn s) ≡ has_head_on cell s
head_stays None food turn cell s there = refl
head_stays (Some h) food turn cell s there =
    cond_both (is_hurt h.cells food s) (hurt_by h turn s) s (λ t. has_head_on cell t ≡ has_head_on cell s)
    (λ hit.
    let parts = and_parts (is_living s) (list_any (is_same_cell (head_of s.body)) h.cells && not (list_any (is_same_cell (head_of s.body)) food)) hit in
    let off = not_on (list_any (is_same_cell (head_of s.body)) food)
    (and_parts (list_any (is_same_cell (head_of s.body)) h.cells) (not (list_any (is_same_cell (head_of s.body)) food)) parts.1).1 in
    let u = hurt_by h turn s in
    let body = judged_body turn (hazard_verdict (health_left h s)) (record s { health = health_left h s }) in
    let apart : is_same_cell (head_of s.body) cell ≡ false = elim (cases_Bool (is_same_cell (head_of s.body) cell)) [
      | inl same ↦
          let e : head_of s.body ≡ cell = (same_cell (head_of s.body) cell).0 same in
          absurd (false≢true (sym off ∙ ap (λ p. list_any (is_same_cell p) food) e ∙ there))
      | inr other ↦ other
    ] in
    let new : has_head_on cell u ≡ false = rw body (rw apart (never (is_living u))) in
    let old : has_head_on cell s ≡ false = rw apart (never (is_living s)) in
    new ∙ sym old)
    (λ _. refl)

heads_stay : (f : Snake → Snake) (cell : Point) (snakes : List Snake) → ((s : Snake) → has_head_on cell (f s) ≡ has_head_on cell s)
    → list_any (has_head_on cell) (map f snakes) ≡ list_any (has_head_on cell) snakes
heads_stay f cell [] same = refl
heads_stay f cell (s ∷ snakes) same = rw (same s, heads_stay f cell snakes same) refl

left_same : (f g : Point → Bool) (food : List Point) → All (λ cell. f cell ≡ g cell) food → filter f food ≡ filter g food
left_same f g [] same = refl
left_same f g (cell ∷ food) same =
    let P : Point → Type 0 = λ c. f c ≡ g c in
    rw (All-head P cell food same, left_same f g food (All-tail P cell food same)) refl

food_stays : (hazards : Option Hazards) (food : List Point) (turn : ℕ) (snakes : List Snake) → food_left (map (hurt_snake hazards food turn) snakes) food ≡ food_left snakes food
food_stays hazards food turn snakes =
    left_same (λ cell. not (list_any (has_head_on cell) (map (hurt_snake hazards food turn) snakes))) (λ cell. not (list_any (has_head_on cell) snakes)) food
    (λ k d within.
    let cell = get_or food k d in
    let there = list_any_at (is_same_cell cell) food k d within ((same_cell cell cell).1 refl) in
    ap not (heads_stay (hurt_snake hazards food turn) cell snakes (λ s. head_stays hazards food turn cell s there)))

-- the board after both, in either order
pub fed_hurt : (counts : List ℕ) (damage : ℕ) (b : Board) → ShowsHazards counts damage b → are_fit_hazards b.width b.height b.hazards ≡ true
    → All (λ s. is_living s ≡ true → s.health ≡ 100 → ⊥) b.snakes → fed (hurt b) ≡ hurt_all counts damage (fed b)
fed_hurt counts damage b shows fits low =
    let H = hurt_snake b.hazards b.food (b.turn + 1) in
    let food = food_stays b.hazards b.food (b.turn + 1) b.snakes in
    let snakes = each_same b.hazards b.food (b.turn + 1) damage b.width b.height counts b.snakes (λ p. counted counts damage b p shows fits) shows.hurts low in
    ap (λ (food : List Point). record b { food = food; snakes = map (fed_snake b.food) (map H b.snakes) }) food
    ∙ ap (λ (snakes : List Snake). record b { food = food_left b.snakes b.food; snakes = snakes }) snakes
