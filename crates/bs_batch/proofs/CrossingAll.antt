-- The snakes of a board, one after the other, cross themselves at most once.
use Rattle.std.proofs.Common.{◌≡◌, ℕ, ◌+◌, ◌<◌, Bool, true, false, List, length, get_or, All, sym, subst, ap, ◌∙◌, arith, inl, inr}
use Rattle.std.specs.Prelude.{IsTrue}
use Rattle.std.proofs.lemmas.Bool.{cases_eq, false≢true}
use Rattle.std.proofs.lemmas.List.{get_or_default}
use Rattle.bs_board.specs.declared.boards.board.Board.{Board}
use Rattle.bs_board.specs.declared.boards.snake.Snake.{Snake}
use Rattle.bs_board.specs.boards.Cell.{is_on_board}
use Rattle.bs_board.specs.boards.Legal.{IsLegal}
use Rattle.bs_board.specs.boards.Over.{is_living}
use Rattle.bs_batch.specs.Lasting.{CrossesLittle}
use Rattle.bs_batch.specs.inner.Crossing.{HasLittleCrossing}
use Rattle.bs_batch.proofs.LastingBoards.{on_board}

module _ (b : Board) (legal : IsLegal b) (snakes : List Snake) (same : snakes ≡ b.snakes) (i : ℕ) (s : Snake) (result : Bool) (within : i < length snakes)
    (is : s ≡ get_or snakes i s) (tells : HasLittleCrossing s result) where
  inside : i < length b.snakes
  inside = let n = ap length same in omega arith

  this_snake : (d : Snake) → s ≡ get_or b.snakes i d
  this_snake d = is ∙ ap (λ l. get_or l i s) same ∙ get_or_default b.snakes i s d inside

  exactly : (IsTrue result → CrossesLittle b.width b.height s) × (CrossesLittle b.width b.height s → IsTrue result)
  exactly = tells b.width b.height (λ alive.
      let here = this_snake s in
      let P : Snake → Type 0 = λ t. All (λ p. is_on_board b.width b.height p ≡ true) t.body in
      subst P (sym here) (on_board b i (get_or b.snakes i s) (legal.snakes i s inside) (sym (ap is_living here) ∙ alive)))

  pub none_refused : result ≡ false → All (CrossesLittle b.width b.height) b.snakes → ⊥
  none_refused fails all =
      let here = all i s inside in
      let crosses = subst (CrossesLittle b.width b.height) (sym (this_snake s)) here in
      let holds : result ≡ true = exactly.1 crosses in
      false≢true (sym fails ∙ holds)

  pub next_crosses : result ≡ true → ((k : ℕ) (d : Snake) → k < i → CrossesLittle b.width b.height (get_or b.snakes k d))
      → (k : ℕ) (d : Snake) → k < i + 1 → CrossesLittle b.width b.height (get_or b.snakes k d)
  next_crosses holds so_far k d low = elim (cases_eq k i) [
    | inl at_i ↦ rw at_i (subst (CrossesLittle b.width b.height) (this_snake d) (exactly.0 holds))
    | inr other ↦ so_far k d (omega arith)
  ]
