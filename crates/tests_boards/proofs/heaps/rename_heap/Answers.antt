use Rattle.std.proofs.Common.{◌≡◌, ◌≤◌, ◌∷◌, [], ℕ, List, slice_index_or, sym, ap, ◌∙◌, arith}
use Rattle.std.proofs.lemmas.Bool.{eqb-true}
use Rattle.bs_pool.specs.Ledger.{size}
use Rattle.bs_heap.proofs.RenamedHeap.{kept_within}
use Rattle.tests_boards.proofs.heaps.rename_heap.Goals as goal

pub rename-requires : goal.rename-requires
rename-requires g c =
    let two = eqb-true c.size.result 2 c.in_ok-holds.ensures in
    let numbers : List ℕ = 1 ∷ 0 ∷ [] in (
      omega arith,
      (
        kept_within c.args.heap.now c.args.pool.now 2 c.requires (omega (arith, two, c.size.ensures.value)),
        λ i j d below h same.
            let first : i ≡ 0 = omega (arith, below, h) in let second : j ≡ 1 = omega (arith, below, h) in
            let equal : slice_index_or numbers 0 d ≡ slice_index_or numbers 1 d = ap (λ k. slice_index_or numbers k d) (sym first) ∙ same ∙ ap (λ k. slice_index_or numbers k d) second in
            omega (arith, equal),
      ),
    )
