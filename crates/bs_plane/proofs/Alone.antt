-- A head that is alone on its cell collides with nothing.
use Rattle.std.proofs.Common.{◌≡◌, ℕ, zero, suc, ◌+◌, ◌<◌, ◌≤◌, Bool, true, cond, List, [], ◌∷◌, length, drop, get_or, refl, sym, ap, ◌∙◌, arith, Some, None, Option, sum_by, count_by, Contains, inl, inr}
use Rattle.std.specs.List.{list_any}
use Rattle.std.proofs.lemmas.Bool.{cases_Bool, false≢true}
use Rattle.std.proofs.lemmas.List.Sums.{sum_by-cons, get_or-le-sum_by}
use Rattle.bs_board.specs.declared.boards.point.Point.{Point}
use Rattle.bs_board.specs.declared.boards.snake.Snake.{Snake}
use Rattle.bs_board.specs.declared.boards.snake.Cause.{Cause}
use Rattle.bs_board.specs.declared.boards.snake.Cause.TheVariants.{OutOfHealth, WallCollision, SelfCollision, BodyCollision, HeadCollision, Hazard}
use Rattle.bs_board.specs.boards.Cell.{head_of, is_same_cell}
use Rattle.bs_board.specs.boards.Over.{is_living}
use Rattle.bs_rules.specs.Collision.{collision_verdict, killer_of, snake_at, nobody, CollidesWith, IsOnLaterPart}
use Rattle.bs_rules.proofs.CollisionTest.{same_cell, has_cell}
use Rattle.bs_rules.proofs.CollisionMeaning.{seat_of_living}
use Rattle.bs_rules.proofs.Killers.{MeansKiller, killer_means}
use Rattle.bs_plane.specs.Plane.{occupants, parts_on}

one_if : (b : Bool) → b ≡ true → cond {A = ℕ} b 1 0 ≡ 1
one_if b e = rw e refl

-- what some element passes is counted
counted : {X : Type 0} (p : X → Bool) (xs : List X) → list_any p xs ≡ true → 1 ≤ count_by p xs
counted p [] e = absurd (false≢true e)
counted p (x ∷ xs) e =
    let more : count_by p (x ∷ xs) ≡ cond (p x) 1 0 + count_by p xs = sum_by-cons (λ y. cond (p y) 1 0) x xs in
    elim (cases_Bool (p x)) [
      | inl here ↦ let one = one_if (p x) here in omega arith
      | inr not_here ↦ let rest = counted p xs (rw not_here at e) in omega arith
    ]

-- two terms of a sum are within it
two_terms : {X : Type 0} (f : X → ℕ) (xs : List X) (i j : ℕ) (d : X) → (i ≡ j → ⊥) → i < length xs → j < length xs
    → f (get_or xs i d) + f (get_or xs j d) ≤ sum_by f xs
two_terms f [] i j d apart a b = absurd (omega arith)
two_terms f (x ∷ xs) zero zero d apart a b = absurd (apart refl)
two_terms f (x ∷ xs) zero (suc j) d apart a b = let all = sum_by-cons f x xs in let one = get_or-le-sum_by f xs j d (omega arith) in omega arith
two_terms f (x ∷ xs) (suc i) zero d apart a b = let all = sum_by-cons f x xs in let one = get_or-le-sum_by f xs i d (omega arith) in omega arith
two_terms f (x ∷ xs) (suc i) (suc j) d apart a b =
    let all = sum_by-cons f x xs in
    let rest = two_terms f xs i j d (λ e. apart (ap suc e)) (omega arith) (omega arith) in
    omega arith

-- a body of which the head is on a cell, and the parts behind it
with_head : (body : List Point) (p : Point) → 1 ≤ length body → head_of body ≡ p → count_by (is_same_cell p) body ≡ 1 + count_by (is_same_cell p) (drop 1 body)
with_head [] p some e = absurd (omega arith)
with_head (h ∷ rest) p some e =
    let here : is_same_cell p h ≡ true = (same_cell p h).1 (sym e) in
    let more : count_by (is_same_cell p) (h ∷ rest) ≡ cond (is_same_cell p h) 1 0 + count_by (is_same_cell p) (drop 1 (h ∷ rest)) =
    sum_by-cons (λ q. cond (is_same_cell p q) 1 0) h rest in
    let one = one_if (is_same_cell p h) here in
    omega arith

behind_head : (body : List Point) (p : Point) → count_by (is_same_cell p) (drop 1 body) ≤ count_by (is_same_cell p) body
behind_head [] p = omega arith
behind_head (h ∷ rest) p =
    let more : count_by (is_same_cell p) (h ∷ rest) ≡ cond (is_same_cell p h) 1 0 + count_by (is_same_cell p) (drop 1 (h ∷ rest)) =
    sum_by-cons (λ q. cond (is_same_cell p q) 1 0) h rest in
    omega arith

living_parts : (p : Point) (s : Snake) → is_living s ≡ true → parts_on p s ≡ count_by (is_same_cell p) s.body
living_parts p s alive = rw alive refl

-- a part behind the head is on the cell
behind : (p : Point) (t : Snake) → Contains (drop 1 t.body) p → 1 ≤ count_by (is_same_cell p) (drop 1 t.body)
behind p t there = counted (is_same_cell p) (drop 1 t.body) ((has_cell (drop 1 t.body) p).1 there)

module _ (snakes : List Snake) (seat : ℕ) (bodies : (other : ℕ) → is_living (snake_at snakes other) ≡ true → 1 ≤ length (snake_at snakes other).body)
    (one : is_living (snake_at snakes seat) ≡ true → occupants snakes (head_of (snake_at snakes seat).body) ≤ 1) where
  abbrev head : Point
  head = head_of (snake_at snakes seat).body

  -- the head itself
  own : is_living (snake_at snakes seat) ≡ true → parts_on head (snake_at snakes seat) ≡ 1 + count_by (is_same_cell head) (drop 1 (snake_at snakes seat).body)
  own alive = living_parts head (snake_at snakes seat) alive ∙ with_head (snake_at snakes seat).body head (bodies seat alive) refl

  no_other : (other : ℕ) → is_living (snake_at snakes seat) ≡ true → other < length snakes → (seat ≡ other → ⊥) → 1 ≤ parts_on head (snake_at snakes other) → ⊥
  no_other other alive within apart more =
      let mine = own alive in
      let few = one alive in
      let both = two_terms (parts_on head) snakes seat other nobody apart (seat_of_living snakes seat alive) within in
      omega arith

  escapes : (cause : Cause) (other : ℕ) → CollidesWith snakes seat cause other → ⊥
  escapes OutOfHealth other c = c.hit
  escapes WallCollision other c = c.hit
  escapes Hazard other c = c.hit
  escapes SelfCollision other c =
      let there : IsOnLaterPart (snake_at snakes seat) (snake_at snakes seat) = rw (← c.hit.0) at c.hit.1 in
      let more = behind head (snake_at snakes seat) there in
      let mine = own c.alive in
      let few = one c.alive in
      let all = get_or-le-sum_by (parts_on head) snakes seat nobody (seat_of_living snakes seat c.alive) in
      omega arith
  escapes BodyCollision other c =
      let more = behind head (snake_at snakes other) c.hit.1 in
      let less = behind_head (snake_at snakes other).body head in
      let is = living_parts head (snake_at snakes other) c.both in
      no_other other c.alive (seat_of_living snakes other c.both) c.hit.0 (omega arith)
  escapes HeadCollision other c =
      let within = seat_of_living snakes other c.both in
      let is = living_parts head (snake_at snakes other) c.both in
      let parts = with_head (snake_at snakes other).body head (bodies other c.both) (sym c.hit.1) in
      no_other other c.alive within c.hit.0 (omega arith)

  no_killer_from : (cause : Cause) (killer : Option ℕ) → MeansKiller (length snakes) snakes seat cause killer → killer ≡ None
  no_killer_from cause None m = refl
  no_killer_from cause (Some k) m = absurd (escapes cause k m.collides)

  no_killer : (cause : Cause) → killer_of snakes seat cause ≡ None
  no_killer cause = no_killer_from cause (killer_of snakes seat cause) (killer_means (length snakes) snakes seat cause)

  pub spared : collision_verdict snakes seat ≡ None
  unfolding collision_verdict
  spared = rw (no_killer SelfCollision, no_killer BodyCollision, no_killer HeadCollision) refl
