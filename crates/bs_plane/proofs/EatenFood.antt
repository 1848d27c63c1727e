-- The food under heads is taken off the plane.
use Rattle.std.proofs.Common.{◌≡◌, ℕ, ◌+◌, ◌<◌, Bool, true, false, not, ◌&&◌, ◌||◌, List, [], ◌∷◌, ◌++◌, length, take, get_or, refl, sym, ap, ◌∙◌, inl, inr}
use Rattle.std.specs.List.{list_any}
use Rattle.std.proofs.lemmas.Bool.{cases_Bool, false≢true}
use Rattle.std.proofs.lemmas.List.{take_more}
use Rattle.std.proofs.lemmas.List.Folds.{list_any-append}
use Rattle.std.proofs.Math.Bool.{or-false}
use Rattle.bs_board.specs.declared.boards.point.Point.{Point}
use Rattle.bs_board.specs.declared.boards.snake.Snake.{Snake}
use Rattle.bs_board.specs.boards.Cell.{head_of, is_same_cell, origin}
use Rattle.bs_board.specs.boards.Over.{is_living}
use Rattle.bs_rules.specs.Feeding.{has_head_on}
use Rattle.bs_plane.specs.declared.cell.Cell.{Cell}
use Rattle.bs_plane.specs.declared.plane.Plane.{Plane}
use Rattle.bs_plane.specs.Plane.{Changes, with_food}
use Rattle.bs_plane.specs.Food.{without_foods}
use Rattle.bs_plane.specs.Onward.{living_head, living_heads}
use Rattle.bs_plane.proofs.LoadedPlane.{then_changes}
use Rattle.bs_plane.proofs.NewFood.{any_more}
use Rattle.bs_plane.proofs.Places.{itself, same_cells, same_point}

-- no food under living heads
abbrev pub without_eaten : List Snake → (Point → Cell) → Point → Cell
without_eaten snakes on p = record (on p) { food = (on p).food && not (list_any (has_head_on p) snakes) }

pub either_way : (p q : Point) → is_same_cell p q ≡ is_same_cell q p
either_way p q = elim (cases_Bool (is_same_cell p q)) [
  | inl same ↦ let e = same_point p q same in ap (λ r. is_same_cell r q) e ∙ ap (λ r. is_same_cell q r) (sym e)
  | inr other ↦ elim (cases_Bool (is_same_cell q p)) [
    | inl back ↦ let e = same_point q p back in let wrong : is_same_cell p q ≡ true = ap (λ r. is_same_cell p r) e ∙ itself p in absurd (false≢true (sym other ∙ wrong))
    | inr apart ↦ other ∙ sym apart
  ]
]

gone : (f a : Bool) → false ≡ (f && not (a || true))
gone true true = refl
gone true false = refl
gone false a = refl

gone_after : (cells : List Point) (cell : Point) (on : Point → Cell) (p : Point)
    → with_food cell false (without_foods cells on) p ≡ without_foods (cells ++ cell ∷ []) on p
gone_after cells cell on p =
    let more = any_more (is_same_cell p) cells cell in
    elim (cases_Bool (is_same_cell p cell)) [
      | inl same ↦ rw (more, same) (ap (λ t. record (on p) { food = t }) (gone (on p).food (list_any (is_same_cell p) cells)))
      | inr other ↦ rw (more, other) (ap (λ t. record (on p) { food = (on p).food && not t }) (sym (or-false (list_any (is_same_cell p) cells))))
    ]

pub gone_more : (cells : List Point) (i : ℕ) → i < length cells → (a b c : Plane) → Changes (without_foods (take i cells)) a b
    → Changes (with_food (get_or cells i origin) false) b c → Changes (without_foods (take (i + 1) cells)) a c
gone_more cells i within a b c so_far more =
    let cell = get_or cells i origin in
    rw (take_more cells i origin within)
    (then_changes (without_foods (take i cells)) (with_food cell false) (without_foods (take i cells ++ cell ∷ [])) a b c (gone_after (take i cells) cell) so_far more)

-- ---- the heads of living snakes

own_head : (p : Point) (s : Snake) → list_any (is_same_cell p) (living_head s) ≡ has_head_on p s
own_head p s = elim (cases_Bool (is_living s)) [
  | inl alive ↦ rw alive (or-false (is_same_cell p (head_of s.body)) ∙ either_way p (head_of s.body))
  | inr dead ↦ rw dead refl
]

on_heads : (p : Point) (snakes : List Snake) → list_any (is_same_cell p) (living_heads snakes) ≡ list_any (has_head_on p) snakes
on_heads p [] = refl
on_heads p (s ∷ snakes) =
    list_any-append (is_same_cell p) (living_head s) (living_heads snakes) ∙ ap (λ t. t || list_any (is_same_cell p) (living_heads snakes)) (own_head p s)
    ∙ ap (λ t. has_head_on p s || t) (on_heads p snakes)

pub eaten_gone : (snakes : List Snake) (heads : List Point) (a b : Plane) → heads ≡ living_heads snakes → Changes (without_foods heads) a b → Changes (without_eaten snakes) a b
eaten_gone snakes heads a b listed changes = record {
  width = changes.width;
  height = changes.height;
  cells = λ on shows. same_cells b.width b.height _ _ b.cells.items
      (λ p. ap (λ t. record (on p) { food = (on p).food && not t }) (ap (list_any (is_same_cell p)) listed ∙ on_heads p snakes)) (changes.cells on shows);
}
