use Rattle.std.proofs.Common.{◌≡◌, ◌++◌, ◌∷◌, ℕ, Option, sym, ap, subst}
use Rattle.std.specs.Prelude.{unwrap_or}
use Rattle.bs_pool.specs.Ledger.{Ledger, drawn}
use Rattle.bs_heap.specs.HeldBlocks.{Holds, LeavesOthers, next_number}
use Rattle.bs_heap.proofs.HeldBlocks.{others_drawn}
use Rattle.bs_sched.proofs.FrameNumbers.{holds_inserted}
use Rattle.bs_sched.proofs.parts.draw_block.Goals as goal

pub returns-clause-kept : goal.returns-clause-kept
returns-clause-kept g c front back holds =
    let old = c.args.pool.now in
    let e = c.in-Some.ensures in
    let next : next_number old ≡ c.in-Some.owned.number = ap (λ (o : Option ℕ). unwrap_or o 0) e.2 in
    let here = holds_inserted c.args.tag c.in-Some.owned.number old front back e.2 holds in
    let P : Ledger → Type 0 = λ pool. Holds c.args.tag (front ++ next_number old ∷ back) pool in
    subst P (sym e.4) (subst (λ (n : ℕ). Holds c.args.tag (front ++ n ∷ back) (drawn c.args.tag c.in-Some.owned.number old)) (sym next) here)

pub returns-clause-others : goal.returns-clause-others
returns-clause-others g c =
    let e = c.in-Some.ensures in
    subst (λ (pool : Ledger). LeavesOthers c.args.tag c.args.pool.now pool) (sym e.4) (others_drawn c.args.tag c.in-Some.owned.number c.args.pool.now e.2)
