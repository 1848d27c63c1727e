use Rattle.std.proofs.Common.{arith, refl}
use Rattle.std.proofs.lemmas.List.{get_or-set_same, get_or_default}
use Rattle.bs_batch.specs.Advancing.{AdvancesLarge}
use Rattle.bs_batch.specs.Showing.{IsLargeBoard}
use Rattle.bs_batch.proofs.Advanced.{all_advanced, none_yet, one_more}
use Rattle.bs_batch.proofs.StartedGames.{all_started, none_started, one_started}
use Rattle.bs_batch.proofs.large.advance_large.Goals as goal

pub loop-number-init : goal.loop-number-init
loop-number-init c = record {
  games = none_started (AdvancesLarge c.args.orders.now c.args.first.now) c.args.games.now;
  planes = none_yet IsLargeBoard c.args.first.now c.args.each c.args.games.now c.args.into.now;
}

pub loop-number-preserved : goal.loop-number-preserved
loop-number-preserved c = record {
  games = one_started (AdvancesLarge c.args.orders.now c.args.first.now) c.loop-number.number c.args.games.now c.loop-number.games c.loop-number.started _ c.from-started.result _
      c.act-begins.new.game c.act-begins.result c.loop-number-test.true (omega arith)
      (λ d. get_or_default c.loop-number.games c.loop-number.number _ d (omega (arith, c.loop-number-test.true, c.loop-number.auto.games))) c.from-started.ensures refl
      c.loop-number.invariant.games c.act-begins.ensures;
  planes = one_more IsLargeBoard c.args.first.now c.args.each c.loop-number.games c.loop-number.number _ c.act-begins.new.game c.args.into.now c.loop-number.into c.show_changed.new.into
      (omega (arith, c.loop-number-test.true, c.loop-number.auto.games))
      (get_or-set_same c.loop-number.games c.loop-number.number c.act-begins.new.game _ (omega (arith, c.loop-number-test.true, c.loop-number.auto.games))) c.show_changed.ensures c.loop-number.invariant.planes;
}

pub returns : goal.returns
returns c = record {
  games = all_started (AdvancesLarge c.args.orders.now c.args.first.now) c.loop-number.number c.args.games.now c.loop-number.games c.loop-number.started (omega arith)
      c.loop-number.invariant.games;
  planes = all_advanced IsLargeBoard c.args.first.now c.args.each c.loop-number.games c.loop-number.number c.args.into.now c.loop-number.into
      (omega (arith, c.loop-number-test.false, c.loop-number.auto.games)) c.loop-number.invariant.planes;
}
