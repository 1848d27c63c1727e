use Rattle.std.proofs.Common.{◌≡◌, ◌+◌, ℕ, List, map, drop, ap, sym, ◌∙◌}
use Rattle.bs_sched.specs.declared.parts.Part.{Part}
use Rattle.bs_sched.specs.inner.PartsLayout.{number_in}
use Rattle.bs_sched.specs.Frames.{flattened}
use Rattle.bs_sched.proofs.FrameBlocks.{known_passed}
use Rattle.bs_sched.proofs.parts.are_named.Goals as goal

pub loop-part-preserved-in_default : goal.loop-part-preserved-in_default
loop-part-preserved-in_default g c =
    let parts : List (Part g.row.CAP) = c.args.parts.now in
    let named : List ℕ → List (ℕ × ℕ) = map (λ n. (c.args.tag, n)) in
    let none = known_passed parts c.loop-part.part-index c.part-item.result c.loop-part-test.true c.part-item.is (sym c.number_in.ensures ∙ c.in_default.is) in
    let same : named (flattened (map number_in (drop c.loop-part.part-index parts))) ≡ named (flattened (map number_in (drop (c.loop-part.part-index + 1) parts))) = ap named none in
    (λ all. c.loop-part.invariant.0 all ∙ same, λ rest. c.loop-part.invariant.1 (rest ∙ sym same))
