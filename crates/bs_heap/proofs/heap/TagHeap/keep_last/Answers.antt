use Rattle.std.proofs.Common.{◌≡◌, [], ◌∷◌, ◌++◌, List, sym, ap, ◌∙◌, subst, subst₂, arith, refl, vec_len}
use Rattle.bs_block.specs.Rounding.{rounded}
use Rattle.bs_block.proofs.Rounded.{rounded_above}
use Rattle.bs_pool.specs.Ledger.{Ledger}
use Rattle.bs_heap.specs.declared.blocks.Entry.{Entry}
use Rattle.bs_heap.specs.declared.heap.TagHeap.TheInside.{Inside}
use Rattle.bs_heap.specs.Blocks.{Blocks}
use Rattle.bs_heap.specs.inner.Blocks.{block_numbers}
use Rattle.bs_heap.specs.Heap.{Heap, with_last}
use Rattle.bs_heap.specs.HeldBlocks.{Holds, IsKeptIn, LeavesOthers, all_given}
use Rattle.bs_heap.specs.inner.Entries.{packing_in}
use Rattle.bs_heap.specs.Packing.{numbers_of, closed_numbers}
use Rattle.bs_heap.proofs.FreedBlocks.{owned_closed, holds_current, others_of_closed}
use Rattle.bs_heap.proofs.LastRecord.{current_alone, moved, charged_less, last_is_heap, last_heap_is}
use Rattle.bs_heap.proofs.PutRecord.{numbers_are, closed_are}
use Rattle.bs_heap.proofs.heap.TagHeap.keep_last.Given.{Over}
use Rattle.bs_heap.proofs.heap.TagHeap.keep_last.Goals as goal

pub give_closed-requires : goal.give_closed-requires
give_closed-requires g c =
    let pool = c.args.pool.now in
    let kept = subst (λ (v : Heap). IsKeptIn v pool) (sym c.self.view_is) c.requires in
    (omega arith, (omega arith, owned_closed c.self.inside pool kept))

pub round_up-requires : goal.round_up-requires
round_up-requires g c =
    let less = charged_less c.self.inside c.self.invariant c.pop.new.self.items c.in-Some.last c.in-Some.ensures.items in
    omega (arith, less, rounded_above c.in-Some.last.len)

pub overflow_cast-self : goal.overflow_cast-self
overflow_cast-self g c =
    let less = charged_less c.self.inside c.self.invariant c.pop.new.self.items c.in-Some.last c.in-Some.ensures.items in
    omega (arith, less)

index_is : (g : Over) (c : goal.After-self-1 g) → c.push_reserved.new.self.items ≡ moved c.in-Some.last ∷ []
index_is g c = c.push_reserved.ensures.items ∙ ap (λ (es : List Entry). es ++ moved c.in-Some.last ∷ []) c.clear.ensures.items

pub invariant_of-self : goal.invariant_of-self
invariant_of-self g c =
    last_is_heap c.self.inside c.self.invariant c.pop.new.self.items c.in-Some.last c.in-Some.ensures.items _ c.give_closed.ensures.blocks (index_is g c) (omega arith) refl

pub returns-in-Some-clause-heap : goal.returns-in-Some-clause-heap
returns-in-Some-clause-heap g c =
    let h = c.self.inside in
    let h' : Inside g.row.CAP = record { blocks = c.give_closed.new.self; index = c.push_reserved.new.self; charge = rounded c.in-Some.last.len; quota = h.quota } in
    let capacity = c.push_reserved.ensures.capacity ∙ c.clear.ensures.capacity ∙ c.pop.ensures.capacity in
    let len : vec_len c.push_reserved.new.self ≡ 1 = omega (arith, c.push_reserved.ensures.len, c.clear.ensures.len) in
    last_heap_is h c.self.invariant c.pop.new.self.items c.in-Some.last c.in-Some.ensures.items h' c.give_closed.ensures.blocks (index_is g c) refl refl capacity len ∙ ap with_last c.self.view_is

pub returns-in-Some-clause-pool : goal.returns-in-Some-clause-pool
returns-in-Some-clause-pool g c =
    let h = c.self.inside in let pool = c.args.pool.now in
    c.give_closed.ensures.pool ∙ ap (λ ns. all_given ns pool) (sym (closed_are h.blocks h.index.items)) ∙ ap (λ (v : Heap). all_given (closed_numbers v.packing) pool) c.self.view_is

pub returns-in-Some-clause-kept : goal.returns-in-Some-clause-kept
returns-in-Some-clause-kept g c =
    let h = c.self.inside in let pool = c.args.pool.now in let index = c.push_reserved.new.self.items in
    let kept = subst (λ (v : Heap). IsKeptIn v pool) (sym c.self.view_is) c.requires in
    let P : Blocks → Ledger → Type 0 = λ b p. Holds b.tag (numbers_of (packing_in b index)) p in
    let after = subst (λ ns. Holds h.blocks.tag ns (all_given (block_numbers h.blocks.closed) pool)) (sym (numbers_are (current_alone h.blocks) index)) (holds_current h pool kept) in
    subst₂ P (sym c.give_closed.ensures.blocks) (sym c.give_closed.ensures.pool) after

pub returns-in-Some-clause-others : goal.returns-in-Some-clause-others
returns-in-Some-clause-others g c =
    let pool = c.args.pool.now in
    let kept = subst (λ (v : Heap). IsKeptIn v pool) (sym c.self.view_is) c.requires in
    subst (λ (v : Heap). LeavesOthers v.tag pool c.give_closed.new.pool) c.self.view_is
    (subst (λ (p : Ledger). LeavesOthers c.self.inside.blocks.tag pool p) (sym c.give_closed.ensures.pool) (others_of_closed c.self.inside pool kept))
