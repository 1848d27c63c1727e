use Rattle.std.proofs.Common.{subst, sym}
use Rattle.bs_block.specs.declared.raw.Region.{Region}
use Rattle.bs_block.specs.inner.Joins.{Adjoin}
use Rattle.bs_block.proofs.group.joined.Goals as goal

pub join-region-requires : goal.join-region-requires
join-region-requires c =
    let a = c.in_ok-whole.whole in let b = c.in_ok-next.next in
    subst (λ (y : Region). Adjoin c.into_region.result y) (sym c.into_region-2.ensures)
    (subst (λ (x : Region). Adjoin x b.region) (sym c.into_region.ensures) (c.requires a b c.in_ok-whole.was c.in_ok-next.was))
