use Rattle.std.proofs.Common.{sym, ap, ◌∙◌, subst, subst₂, arith}
use Rattle.bs_pool.specs.Ledger.{Ledger}
use Rattle.bs_heap.specs.Blocks.{Blocks}
use Rattle.bs_heap.specs.Heap.{Heap}
use Rattle.bs_heap.specs.HeldBlocks.{Holds, IsKeptIn, LeavesOthers, all_given}
use Rattle.bs_heap.specs.inner.Entries.{packing_in}
use Rattle.bs_heap.specs.Packing.{numbers_of}
use Rattle.bs_heap.proofs.FreedBlocks.{owned_all, holds_none, others_of_all}
use Rattle.bs_heap.proofs.PutRecord.{numbers_are}
use Rattle.bs_heap.proofs.heap.TagHeap.free.Goals as goal

pub give_all-requires : goal.give_all-requires
give_all-requires g c =
    let pool = c.args.pool.now in
    let kept = subst (λ (v : Heap). IsKeptIn v pool) (sym c.self.view_is) c.requires in
    (omega arith, (omega arith, owned_all c.self.inside pool kept))

pub returns-clause-pool : goal.returns-clause-pool
returns-clause-pool g c =
    let h = c.self.inside in let pool = c.args.pool.now in
    c.give_all.ensures.pool ∙ ap (λ ns. all_given ns pool) (sym (numbers_are h.blocks h.index.items)) ∙ ap (λ (v : Heap). all_given (numbers_of v.packing) pool) c.self.view_is

pub returns-clause-kept : goal.returns-clause-kept
returns-clause-kept g c =
    let pool = c.args.pool.now in
    let kept = subst (λ (v : Heap). IsKeptIn v pool) (sym c.self.view_is) c.requires in
    let P : Blocks → Ledger → Type 0 = λ b p. Holds b.tag (numbers_of (packing_in b c.clear.new.self.items)) p in
    subst₂ P (sym c.give_all.ensures.blocks) (sym c.give_all.ensures.pool) (holds_none c.self.inside pool kept)

pub returns-clause-others : goal.returns-clause-others
returns-clause-others g c =
    let pool = c.args.pool.now in
    let kept = subst (λ (v : Heap). IsKeptIn v pool) (sym c.self.view_is) c.requires in
    subst (λ (v : Heap). LeavesOthers v.tag pool c.give_all.new.pool) c.self.view_is (subst (λ (p : Ledger). LeavesOthers c.self.inside.blocks.tag pool p) (sym c.give_all.ensures.pool) (others_of_all c.self.inside pool kept))
