use Rattle.std.proofs.Common.{sym, ap, ◌∙◌, subst, arith}
use Rattle.bs_heap.specs.Blocks.{Blocks}
use Rattle.bs_heap.specs.inner.Blocks.{block_numbers}
use Rattle.bs_heap.specs.HeldBlocks.{AreOwned, all_given}
use Rattle.bs_heap.proofs.GivenBlocks.{numbers_filled, lent_from_owned}
use Rattle.bs_heap.proofs.blocks.TagBlocks.give_closed.Goals as goal

pub give_back-requires : goal.give_back-requires
give_back-requires g c =
    let b = c.self.inside in let pool = c.args.pool.now in
    let owned = subst (λ (v : Blocks). AreOwned v.tag (block_numbers v.closed) pool) (sym c.self.view_is) c.requires in
    (omega arith, (omega arith, lent_from_owned b.closed.items b.tag pool c.self.invariant.closed (rw numbers_filled at owned)))

pub returns-clause-pool : goal.returns-clause-pool
returns-clause-pool g c =
    let pool = c.args.pool.now in
    c.give_back.ensures.given ∙ ap (λ ns. all_given ns pool) (sym (numbers_filled c.self.inside.closed.items) ∙ ap (λ (v : Blocks). block_numbers v.closed) c.self.view_is)
