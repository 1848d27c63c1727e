use Rattle.std.proofs.Common.{◌≡◌, ◌<◌, ◌+◌, List, suc, length, slice_index_or, slice_set, sym, ap, subst, ◌∙◌, arith}
use Rattle.bs_pool.specs.declared.owned.Owned.{Owned}
use Rattle.bs_heap.specs.inner.Renaming.{number_at, renamed_owned}
use Rattle.bs_heap.proofs.Renaming.{mapped_below, next_same, next_mapped}
use Rattle.bs_heap.proofs.blocks.rename_blocks.Goals as goal

pub rename_block-requires : goal.rename_block-requires
rename_block-requires g c =
    let f : Owned g.row.CAP → Owned g.row.CAP = renamed_owned c.args.tag (number_at c.args.numbers.now) in
    let old = c.args.blocks.now.items in let at = c.loop-at.at in let o = c.index_mut.result.now in
    let there : at < length old = omega (arith, c.loop-at-test.true, c.len-at-end.ensures, c.args.blocks.now.ok.0) in
    let is : o ≡ slice_index_or old at o = c.index_mut.ensures.value ∙ ap (λ (xs : List (Owned g.row.CAP)). slice_index_or xs at o) c.loop-at.invariant.items ∙ next_same f old at o there in
    (omega arith, subst (λ (b : Owned g.row.CAP). b.number < length c.args.numbers.now) (sym is) (c.requires at o there))

pub loop-at-preserved : goal.loop-at-preserved
loop-at-preserved g c =
    let f : Owned g.row.CAP → Owned g.row.CAP = renamed_owned c.args.tag (number_at c.args.numbers.now) in
    let old = c.args.blocks.now.items in let at = c.loop-at.at in let o = c.index_mut.result.now in
    let there : at < length old = omega (arith, c.loop-at-test.true, c.len-at-end.ensures, c.args.blocks.now.ok.0) in
    let is : o ≡ slice_index_or old at o = c.index_mut.ensures.value ∙ ap (λ (xs : List (Owned g.row.CAP)). slice_index_or xs at o) c.loop-at.invariant.items ∙ next_same f old at o there in
    let more : suc at ≡ at + 1 = omega arith in
    record {
      items = (λ i. slice_set (c.loop-at.invariant.items i) at ((c.rename_block.ensures ∙ ap f is) i)) ∙ next_mapped f old at o there ∙ ap (λ k. mapped_below f k old) more;
      room = c.loop-at.invariant.room;
    }
