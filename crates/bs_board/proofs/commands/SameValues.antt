-- Tests that compare lists member by member decide whether they are equal.
use Rattle.std.proofs.Common.{◌≡◌, ℕ, ◌&&◌, List, refl, ap}
use Rattle.std.specs.Bool.{Decides}
use Rattle.std.proofs.lemmas.Slice.Eq.{bytes_eq-Decides}
use Rattle.std.proofs.lemmas.Bool.Decides.{Decides-int_eq}
use Rattle.bs_board.specs.declared.boards.point.Point.{Point}
use Rattle.bs_board.specs.boards.Cell.{is_same_cell}
use Rattle.bs_board.specs.Texts.{is_same_text}
use Rattle.bs_board.proofs.Chains.{and_both}

pub same_point : (p q : Point) → Decides (is_same_cell p q) (p ≡ q)
same_point p q =
    let x = Decides-int_eq p.x q.x in
    let y = Decides-int_eq p.y q.y in (
      λ same.
          let each = and_both _ _ same in
          let left = x.0 each.0 in
          let right = y.0 each.1 in
          rw (left, right) refl,
      λ e. rw (x.1 (ap (λ (p : Point). p.x) e), y.1 (ap (λ (p : Point). p.y) e)) refl,
    )

pub same_start : (s t : List ℕ × Point) → Decides (is_same_text s.0 t.0 && is_same_cell s.1 t.1) (s ≡ t)
same_start s t =
    let id = bytes_eq-Decides s.0 t.0 in
    let cell = same_point s.1 t.1 in (
      λ same.
          let each = and_both _ _ same in
          let left = id.0 each.0 in
          let right = cell.0 each.1 in
          rw (left, right) refl,
      λ e. rw (id.1 (ap (λ (p : List ℕ × Point). p.0) e), cell.1 (ap (λ (p : List ℕ × Point). p.1) e)) refl,
    )
