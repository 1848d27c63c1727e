use Rattle.std.proofs.Common.{◌≡◌, ◌≤◌, ◌+◌, [], ◌∷◌, ◌++◌, length, false, Some, sym, ap, ◌∙◌, subst, arith, refl}
use Rattle.bs_block.specs.Rounding.{rounded}
use Rattle.bs_pool.specs.Ledger.{held, reserved, least_free}
use Rattle.bs_heap.specs.AddAnswer.{heap_with, pool_with, charge_with}
use Rattle.bs_heap.specs.Charge.{blocks_for}
use Rattle.bs_heap.specs.Heap.{Heap}
use Rattle.bs_heap.specs.declared.heap.TagHeap.TheInside.{Inside}
use Rattle.bs_heap.specs.HeldBlocks.{IsKeptIn, LeavesOthers, next_number}
use Rattle.bs_heap.specs.inner.HeapLayout.{heap_in}
use Rattle.bs_heap.specs.Packing.{fits}
use Rattle.bs_heap.proofs.AddedRecord.{few_held, has_room, drawable, still_heap, heap_is, kept_after, few_after, others_after}
use Rattle.bs_heap.proofs.heap.TagHeap.add.Given.{Over}
use Rattle.bs_heap.proofs.heap.TagHeap.add.Goals as goal

pub returns-then-size-left-clause-held : goal.returns-then-size-left-clause-held
returns-then-size-left-clause-held g c =
    let pool = c.args.pool.now in
    let kept = subst (λ (v : Heap). IsKeptIn v pool) (sym c.self.view_is) c.requires.kept in
    subst (λ (v : Heap). held v.tag pool ≤ blocks_for g.row.CAP v.quota) c.self.view_is (few_held c.self.inside c.self.invariant pool kept)

pub put-entry-requires : goal.put-entry-requires
put-entry-requires g c =
    let h = c.self.inside in let ok = c.self.invariant in let pool = c.args.pool.now in let bytes = c.args.bytes.now in
    let kept = subst (λ (v : Heap). IsKeptIn v pool) (sym c.self.view_is) c.requires.kept in
    let enough = subst (λ (v : Heap). blocks_for g.row.CAP v.quota ≤ reserved v.tag pool) (sym c.self.view_is) c.requires.reserved in
    let size : rounded (length bytes) ≤ g.row.CAP = omega (arith, c.requires.size, ok.wide) in
    (omega arith, (omega arith, (size, (drawable h ok pool kept bytes c.requires.size enough, has_room h ok pool kept))))

index_is : (g : Over) (c : goal.After-self-1 g) → c.push_reserved.new.self.items ≡ c.self.inside.index.items ++ c.put-entry.result ∷ []
index_is g c = c.push_reserved.ensures.items

fits_quota : (g : Over) (c : goal.After-self-1 g) → c.self.inside.charge + rounded (length c.args.bytes.now) ≤ c.self.inside.quota
fits_quota g c = omega (arith, c.if-size-left.false, c.round_up-size.ensures.value, c.self.invariant.within)

pub invariant_of-self : goal.invariant_of-self
invariant_of-self g c =
    let h = c.self.inside in let ok = c.self.invariant in let pool = c.args.pool.now in let put = c.put-entry in
    let kept = subst (λ (v : Heap). IsKeptIn v pool) (sym c.self.view_is) c.requires.kept in
    still_heap h ok pool kept c.args.bytes.now c.requires.size put.new.self put.result put.ensures.put put.ensures.number
    _ refl (index_is g c) (omega arith) refl (fits_quota g c)

pub returns-clause-added : goal.returns-clause-added
returns-clause-added g c =
    let h = c.self.inside in let ok = c.self.invariant in let pool = c.args.pool.now in let bytes = c.args.bytes.now in let put = c.put-entry in
    let kept = subst (λ (v : Heap). IsKeptIn v pool) (sym c.self.view_is) c.requires.kept in
    let h' : Inside g.row.CAP = record { blocks = c.put-entry.new.self; index = c.push_reserved.new.self; charge = h.charge + rounded (length bytes); quota = h.quota } in
    let is = heap_is h ok pool kept bytes c.requires.size put.new.self put.result put.ensures.put put.ensures.number
    h' refl (index_is g c) refl refl c.push_reserved.ensures.capacity c.push_reserved.ensures.len in
    let within : charge_with bytes (heap_in h) ≤ h.quota = omega (arith, fits_quota g c, ok.charge) in (
      subst (λ (v : Heap). charge_with bytes v ≤ v.quota) c.self.view_is within,
      is ∙ ap (heap_with g.row.CAP pool bytes) c.self.view_is,
      put.ensures.pool ∙ ap (λ (v : Heap). pool_with g.row.CAP v bytes pool) c.self.view_is,
    )

pub returns-clause-kept : goal.returns-clause-kept
returns-clause-kept g c =
    let h = c.self.inside in let ok = c.self.invariant in let pool = c.args.pool.now in let put = c.put-entry in
    let kept = subst (λ (v : Heap). IsKeptIn v pool) (sym c.self.view_is) c.requires.kept in
    kept_after h ok pool kept c.args.bytes.now c.requires.size put.new.self put.result put.ensures.put put.ensures.number c.push_reserved.new.self.items (index_is g c) put.new.pool put.ensures.pool

pub returns-clause-held : goal.returns-clause-held
returns-clause-held g c =
    let h = c.self.inside in let ok = c.self.invariant in let pool = c.args.pool.now in let put = c.put-entry in
    let kept = subst (λ (v : Heap). IsKeptIn v pool) (sym c.self.view_is) c.requires.kept in
    few_after h ok pool kept c.args.bytes.now c.requires.size put.new.self put.result put.ensures.put put.ensures.number c.push_reserved.new.self.items (index_is g c) put.new.pool put.ensures.pool (fits_quota g c)

pub returns-clause-others : goal.returns-clause-others
returns-clause-others g c =
    let h = c.self.inside in let ok = c.self.invariant in let pool = c.args.pool.now in let put = c.put-entry in
    let kept = subst (λ (v : Heap). IsKeptIn v pool) (sym c.self.view_is) c.requires.kept in
    subst (λ (v : Heap). LeavesOthers v.tag pool put.new.pool) c.self.view_is
    (others_after h ok pool kept c.args.bytes.now c.requires.size put.new.self put.result put.ensures.put put.ensures.number c.push_reserved.new.self.items (index_is g c) put.new.pool put.ensures.pool)

pub returns-clause-free : goal.returns-clause-free
returns-clause-free g c =
    subst (λ (v : Heap). fits g.row.CAP (rounded (length c.args.bytes.now)) v.packing.current ≡ false → least_free c.args.pool.now ≡ Some (next_number c.args.pool.now)) c.self.view_is c.put-entry.ensures.number
