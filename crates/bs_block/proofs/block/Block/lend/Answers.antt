use Rattle.std.proofs.Common.{◌+◌, ◌≤◌, refl, ap, take, ◌∙◌, arith, length}
use Rattle.bs_block.specs.Bytes.{range}
use Rattle.bs_block.specs.inner.Bytes.{with_range}
use Rattle.bs_block.proofs.BlockBytes.{run_at, run_is, lent}
use Rattle.bs_block.proofs.Runs.{length-range}
use Rattle.bs_block.proofs.block.Block.lend.Goals as goal

pub split-requires : goal.split-requires
split-requires g c =
    let b = c.self.inside in let ok = c.self.invariant in let at = c.args.at in let n = c.args.n in
    let le : at + n ≤ b.len = omega (arith, c.requires, ok.len.1, ap length c.self.view_is) in
    (ok.base.0, run_at b ok 0 at (omega (arith, le)), run_at b ok at n le)

pub invariant_of-self-lent : goal.invariant_of-self-lent
invariant_of-self-lent g c = λ w.
    let b = c.self.inside in let ok = c.self.invariant in
    (lent b ok c.args.at c.args.n (omega (arith, c.requires, ok.len.1, ap length c.self.view_is)) w).0

pub returns : goal.returns
returns g c =
    let b = c.self.inside in let ok = c.self.invariant in let at = c.args.at in let n = c.args.n in
    let le : at + n ≤ b.len = omega (arith, c.requires, ok.len.1, ap length c.self.view_is) in
    let front = run_is b ok 0 at (omega (arith, le)) c.split.result.0.now c.split.ensures.front ∙ ap (take at) c.self.view_is in
    let is = run_is b ok at n le c.split.result.1.now c.split.ensures.run ∙ ap (range at n) c.self.view_is in
    ((refl, λ w. (lent b ok at n le w).1 ∙ ap (λ xs. with_range xs at n w) c.self.view_is), record { writes_back = tt; front = front; run = is; len = ap length is ∙ length-range c.args.self.now at n c.requires })
