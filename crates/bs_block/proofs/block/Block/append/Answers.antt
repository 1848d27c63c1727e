use Rattle.std.proofs.Common.{◌+◌, ◌≤◌, ◌++◌, length, refl, ap, ◌∙◌, arith, length-append}
use Rattle.bs_block.proofs.BlockBytes.{appended_bytes}
use Rattle.bs_block.proofs.block.Block.append.Goals as goal

pub invariant_of-self : goal.invariant_of-self
invariant_of-self g c =
    let b = c.self.inside in let ok = c.self.invariant in let n = length c.args.bytes.now in let e = c.write_slice.ensures in
    let le : b.len + n ≤ g.row.CAP = omega (arith, c.requires, ok.len.1, ap length c.self.view_is) in
    (appended_bytes b ok _ n _ _ c.args.bytes.now e.1 e.0 (omega arith) (omega arith) refl le).0

pub returns : goal.returns
returns g c =
    let b = c.self.inside in let ok = c.self.invariant in let n = length c.args.bytes.now in let e = c.write_slice.ensures in
    let le : b.len + n ≤ g.row.CAP = omega (arith, c.requires, ok.len.1, ap length c.self.view_is) in
    let is = (appended_bytes b ok _ n _ _ c.args.bytes.now e.1 e.0 (omega arith) (omega arith) refl le).1 ∙ ap (λ xs. xs ++ c.args.bytes.now) c.self.view_is in
    record { bytes = is; len = ap length is ∙ length-append c.args.self.now c.args.bytes.now }
