use Rattle.std.proofs.Common.{◌≡◌, ◌<◌, length, sym, ap, subst, ◌∙◌, arith}
use Rattle.std.specs.Prelude.{All, List, Option, IfSome, map, option_map}
use Rattle.bs_pool.specs.declared.owned.Owned.{Owned}
use Rattle.bs_heap.specs.Blocks.{Blocks}
use Rattle.bs_heap.specs.inner.Blocks.{block_numbers, all_blocks}
use Rattle.bs_heap.specs.inner.OwnedBlocks.{numbered_block}
use Rattle.bs_heap.specs.inner.Renaming.{number_at, renamed_blocks}
use Rattle.bs_heap.proofs.Renaming.{within_blocks, closed_tagged, current_tagged, closed_renamed, current_renamed}
use Rattle.bs_heap.proofs.blocks.TagBlocks.rename.Goals as goal

pub rename_blocks-requires : goal.rename_blocks-requires
rename_blocks-requires g c =
    let n = length c.args.numbers.now in
    let all = subst (λ (b : Blocks). All (λ m. m < n) (block_numbers (all_blocks b))) (sym c.self.view_is) c.requires in
    (omega arith, (within_blocks n c.self.inside.closed.items c.self.inside.current all).0)

pub rename_current-requires : goal.rename_current-requires
rename_current-requires g c =
    let n = length c.args.numbers.now in
    let all = subst (λ (b : Blocks). All (λ m. m < n) (block_numbers (all_blocks b))) (sym c.self.view_is) c.requires in
    (omega arith, (within_blocks n c.self.inside.closed.items c.self.inside.current all).1)

pub invariant_of-self : goal.invariant_of-self
invariant_of-self g c =
    let f = number_at c.args.numbers.now in
    record {
      closed = subst (λ (xs : List (Owned g.row.CAP)). All (λ o. o.tag ≡ c.args.tag) xs) (sym c.rename_blocks.ensures.items) (closed_tagged c.args.tag f c.self.inside.closed.items);
      current = subst (λ (o : Option (Owned g.row.CAP)). IfSome o (λ b. b.tag ≡ c.args.tag)) (sym c.rename_current.ensures) (current_tagged c.args.tag f c.self.inside.current);
    }

pub returns : goal.returns
returns g c =
    let f = number_at c.args.numbers.now in
    let closed = ap (map numbered_block) c.rename_blocks.ensures.items ∙ closed_renamed c.args.tag f c.self.inside.closed.items in
    let current = ap (option_map numbered_block) c.rename_current.ensures ∙ current_renamed c.args.tag f c.self.inside.current in
    (λ i. record { tag = c.args.tag; room = c.rename_blocks.ensures.room i; closed = closed i; current = current i }) ∙ ap (renamed_blocks c.args.tag f) c.self.view_is
