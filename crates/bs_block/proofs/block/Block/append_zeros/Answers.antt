use Rattle.std.proofs.Common.{◌+◌, ◌≤◌, ◌++◌, length, replicate, ap, ◌∙◌, arith, length-append}
use Rattle.std.proofs.lemmas.List.{length-replicate}
use Rattle.bs_block.proofs.BlockBytes.{appended_bytes}
use Rattle.bs_block.proofs.block.Block.append_zeros.Goals as goal

pub invariant_of-self : goal.invariant_of-self
invariant_of-self g c =
    let b = c.self.inside in let ok = c.self.invariant in let n = c.args.n in let e = c.write_zeros.ensures in
    let le : b.len + n ≤ g.row.CAP = omega (arith, c.requires, ok.len.1, ap length c.self.view_is) in
    (appended_bytes b ok _ n _ _ (replicate n 0) e.1 e.0 (omega arith) (omega arith) (length-replicate n 0) le).0

pub returns : goal.returns
returns g c =
    let b = c.self.inside in let ok = c.self.invariant in let n = c.args.n in let e = c.write_zeros.ensures in
    let le : b.len + n ≤ g.row.CAP = omega (arith, c.requires, ok.len.1, ap length c.self.view_is) in
    let is = (appended_bytes b ok _ n _ _ (replicate n 0) e.1 e.0 (omega arith) (omega arith) (length-replicate n 0) le).1 ∙ ap (λ xs. xs ++ replicate n 0) c.self.view_is in
    record { bytes = is; len = ap length is ∙ length-append c.args.self.now (replicate n 0) ∙ ap (λ k. length c.args.self.now + k) (length-replicate n 0) }
