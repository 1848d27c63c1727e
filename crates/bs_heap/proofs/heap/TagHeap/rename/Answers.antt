use Rattle.std.proofs.Common.{◌<◌, ◌∙◌, ℕ, length, refl, sym, ap, subst, arith}
use Rattle.std.specs.Prelude.{All, List}
use Rattle.bs_heap.specs.Heap.{Heap}
use Rattle.bs_heap.specs.inner.Renaming.{number_at}
use Rattle.bs_heap.specs.Packing.{numbers_of}
use Rattle.bs_heap.specs.Renaming.{renamed_heap}
use Rattle.bs_heap.proofs.PutRecord.{numbers_are}
use Rattle.bs_heap.proofs.RenamedHeap.{renamed_is_heap, renamed_heap_is}
use Rattle.bs_heap.proofs.heap.TagHeap.rename.Goals as goal

pub rename-requires : goal.rename-requires
rename-requires g c =
    let n = length c.args.numbers.now in let h = c.self.inside in
    let all = subst (λ (v : Heap). All (λ m. m < n) (numbers_of v.packing)) (sym c.self.view_is) c.requires.within in
    (omega arith, subst (λ (ns : List ℕ). All (λ m. m < n) ns) (numbers_are h.blocks h.index.items) all)

pub invariant_of-self : goal.invariant_of-self
invariant_of-self g c =
    let all = subst (λ (v : Heap). All (λ m. m < length c.args.numbers.now) (numbers_of v.packing)) (sym c.self.view_is) c.requires.within in
    renamed_is_heap c.self.inside c.self.invariant c.args.tag c.args.numbers.now all c.requires.once _ c.rename.ensures refl refl refl

pub returns : goal.returns
returns g c =
    let all = subst (λ (v : Heap). All (λ m. m < length c.args.numbers.now) (numbers_of v.packing)) (sym c.self.view_is) c.requires.within in
    renamed_heap_is c.self.inside c.self.invariant c.args.tag c.args.numbers.now all c.requires.once _ c.rename.ensures refl refl refl
    ∙ ap (renamed_heap c.args.tag (number_at c.args.numbers.now)) c.self.view_is
