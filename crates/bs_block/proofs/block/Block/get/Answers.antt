use Rattle.std.proofs.Common.{◌+◌, ◌≤◌, ap, ◌∙◌, arith, length}
use Rattle.bs_block.specs.Bytes.{range}
use Rattle.bs_block.proofs.BlockBytes.{run_at, run_reads}
use Rattle.bs_block.proofs.Runs.{length-range}
use Rattle.bs_block.proofs.block.Block.get.Goals as goal

pub slice-requires : goal.slice-requires
slice-requires g c =
    let b = c.self.inside in let ok = c.self.invariant in
    (ok.base.0, run_at b ok _ _ (omega (arith, c.requires, ok.len.1, ap length c.self.view_is)))

pub returns : goal.returns
returns g c =
    let b = c.self.inside in let ok = c.self.invariant in let at = c.args.at in let n = c.args.n in
    let le : at + n ≤ b.len = omega (arith, c.requires, ok.len.1, ap length c.self.view_is) in
    let is = run_reads b ok at n le _ _ _ c.slice.ensures (omega arith) (omega arith) ∙ ap (range at n) c.self.view_is in
    record { value = is; len = ap length is ∙ length-range c.args.self.now at n c.requires }
