use Rattle.std.proofs.Common.{rules, ◌≡◌, subst, sym, replicate, None}
use Rattle.atomic_table.specs.Table.{opening}
use Rattle.bs_block.specs.Returns.{Returned}
use Rattle.bs_block.proofs.ReturnSteps.{opens}
use Rattle.bs_block.proofs.group.returns_of.Goals as goal

pub vacant-requires : goal.vacant-requires
vacant-requires c =
    let l = c.args.layout.now in
    let zeros : c.as_slice.result.now ≡ replicate l.count 0 = search rules in
    subst (λ ws. Returned l (opening ws (replicate l.count None) tt)) (sym zeros) (opens l)
