use Rattle.std.proofs.Common.{◌≡◌, ℕ, arith, sym, ap, ◌∙◌, length, take, ◌-◌}
use Rattle.std.specs.Prelude.{cond}
use Rattle.std.proofs.lemmas.Bool.{le-leb, leb-true}
use Rattle.bs_food.specs.Free.{all_cells}
use Rattle.bs_batch.proofs.CrossingCounts.{above, next_count, none_above}
use Rattle.bs_batch.proofs.Living.{byte_is}
use Rattle.bs_batch.proofs.Repeated.{one_at_most}
use Rattle.bs_batch.proofs.crossing.crosses_once.Goals as goal

pub loop-part-init : goal.loop-part-init
loop-part-init c = record { few = omega arith; count = λ width height on. sym (none_above (all_cells width height)) }

pub loop-part-preserved : goal.loop-part-preserved
loop-part-preserved c =
    let most = one_at_most c.is_among-again.result in
    let bit : c.from-crossings.result ≡ cond {A = ℕ} c.is_among-again.result 1 0 = c.from-crossings.ensures ∙ byte_is c.is_among-again.result in
    record {
      few = omega (arith, most, bit, c.loop-part.invariant.few, c.loop-part-test.true, c.saturating_sub-part-end.type_inv);
      count = λ width height on.
          next_count width height c.args.body.now _ c.loop-part.part c.loop-part.crossings c.from-crossings.result c.is_among-again.result
          (omega (arith, c.loop-part-test.true, c.saturating_sub-part-end.ensures)) c.loop-part.invariant.few
          (omega (arith, c.loop-part-test.true, c.saturating_sub-part-end.ensures, c.saturating_sub-part-end.type_inv)) c.is_among-again.ensures bit on
          (c.loop-part.invariant.count width height on);
    }

pub returns : goal.returns
returns c width height on =
    let body = c.args.body.now in
    let end : c.loop-part.part ≡ length body - 1 =
    omega (arith, c.loop-part-test.false, c.loop-part.auto.part-end, c.saturating_sub-part-end.ensures) in
    let count = c.loop-part.invariant.count width height on ∙ ap (λ n. above (all_cells width height) (take n body)) end in
    (λ few. let low = leb-true c.loop-part.crossings 1 few in omega arith, λ few. le-leb c.loop-part.crossings 1 (omega arith))
