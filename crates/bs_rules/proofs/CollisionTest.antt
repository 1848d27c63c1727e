-- The test of a collision decides the relation.
use Rattle.std.proofs.Common.{◌≡◌, ◌∙◌, ℕ, ℤ, ◌≤◌, Bool, true, false, not, ◌&&◌, List, refl, sym, ap, leb, eqb, Contains, Decides, length, drop}
use Rattle.std.specs.Ordering.{int_eq}
use Rattle.std.specs.List.{list_any}
use Rattle.std.proofs.lemmas.Bool.{leb-true, le-leb, false≢true}
use Rattle.std.proofs.lemmas.Bool.Decides.{Decides-int_eq, Decides-eqb, Decides-and, Decides-not, Decides-like, Decides-by_or}
use Rattle.std.proofs.lemmas.List.Elements.{Decides-contains}
use Rattle.bs_board.specs.declared.boards.point.Point.{Point}
use Rattle.bs_board.specs.declared.boards.snake.Snake.{Snake}
use Rattle.bs_board.specs.declared.boards.snake.Cause.{Cause}
use Rattle.bs_board.specs.declared.boards.snake.Cause.TheVariants.{OutOfHealth, WallCollision, SelfCollision, BodyCollision, HeadCollision, Hazard}
use Rattle.bs_board.specs.boards.Cell.{head_of, is_same_cell}
use Rattle.bs_board.specs.boards.Over.{is_living}
use Rattle.bs_rules.specs.Collision.{collides, CollidesWith, runs_into, RunsInto, is_on_later_part, snake_at}

-- a cell by its coordinates
abbrev point_of : ℤ → ℤ → Point
point_of x y = record { x = x; y = y }

pub same_cell : (p q : Point) → Decides (is_same_cell p q) (p ≡ q)
same_cell p q =
    Decides-like (is_same_cell p q)
    (λ h. ap (λ x. point_of x p.y) h.0 ∙ ap (λ y. point_of q.x y) h.1)
    (λ e. (ap (λ r. r.x) e, ap (λ r. r.y) e))
    (Decides-and (int_eq p.x q.x) (int_eq p.y q.y) (Decides-int_eq p.x q.x) (Decides-int_eq p.y q.y))

pub has_cell : (cells : List Point) (p : Point) → Decides (list_any (is_same_cell p) cells) (Contains cells p)
has_cell cells p =
    Decides-contains cells p (list_any (is_same_cell p) cells)
    (Decides-by_or (is_same_cell p) (λ q. q ≡ p) (list_any (is_same_cell p)) (λ q. Decides-like (is_same_cell p q) sym sym (same_cell p q)) refl (λ _ _. refl) cells)

same_length : (a b : ℕ) → Decides (leb a b) (a ≤ b)
same_length a b = (leb-true a b, le-leb a b)

never : Decides false ⊥
never = (λ e. false≢true e, λ h. absurd h)

decides_runs_into : (cause : Cause) (i : ℕ) (s : Snake) (j : ℕ) (t : Snake) → Decides (runs_into cause i s j t) (RunsInto cause i s j t)
decides_runs_into OutOfHealth i s j t = never
decides_runs_into WallCollision i s j t = never
decides_runs_into Hazard i s j t = never
decides_runs_into SelfCollision i s j t = Decides-and (eqb i j) (is_on_later_part s t) (Decides-eqb i j) (has_cell (drop 1 t.body) (head_of s.body))
decides_runs_into BodyCollision i s j t =
    Decides-and (not (eqb i j)) (is_on_later_part s t) (Decides-not (eqb i j) (Decides-eqb i j)) (has_cell (drop 1 t.body) (head_of s.body))
decides_runs_into HeadCollision i s j t =
    let head = is_same_cell (head_of s.body) (head_of t.body) in
    let long = leb (length s.body) (length t.body) in
    let both = Decides-and head long (same_cell (head_of s.body) (head_of t.body)) (same_length (length s.body) (length t.body)) in
    Decides-like (not (eqb i j) && (head && long)) (λ h. (h.0, h.1.0, h.1.1)) (λ h. (h.0, (h.1, h.2)))
    (Decides-and (not (eqb i j)) (head && long) (Decides-not (eqb i j) (Decides-eqb i j)) both)

pub itself : (b : Bool) → Decides b (b ≡ true)
itself b = (λ e. e, λ e. e)

pub decides_collides : (snakes : List Snake) (seat : ℕ) (cause : Cause) (other : ℕ) → Decides (collides snakes seat cause other) (CollidesWith snakes seat cause other)
unfolding collides
decides_collides snakes seat cause other =
    let s = snake_at snakes seat in
    let t = snake_at snakes other in
    let alive = Decides-and (is_living s) (is_living t) (itself (is_living s)) (itself (is_living t)) in
    let all = Decides-and (is_living s && is_living t) (runs_into cause seat s other t) alive (decides_runs_into cause seat s other t) in
    Decides-like (collides snakes seat cause other) (λ h. record { alive = h.0.0; both = h.0.1; hit = h.1 }) (λ c. ((c.alive, c.both), c.hit)) all
