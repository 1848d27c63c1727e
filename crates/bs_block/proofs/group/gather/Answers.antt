use Rattle.std.proofs.Common.{rules, ◌≡◌, Some, ap, ◌∙◌}
use mathlib.Core.Option.{some}
use Rattle.bs_block.specs.declared.group.Spare.{Spare}
use Rattle.bs_block.specs.Returns.{LiesAt, place_of}
use Rattle.bs_block.proofs.ReturnSteps.{came_back, if_some, next_adjoins, one_more}
use Rattle.bs_block.proofs.group.gather.Goals as goal

pub joined-whole-requires : goal.joined-whole-requires
joined-whole-requires c =
    let inv = c.loop-number.invariant in let l = c.args.layout in let k = c.loop-number.number in let next = c.returned-next.result in
    let lies : (x : Spare) → next ≡ Some x → LiesAt (place_of l k) x.region
    = λ x is. let told = if_some l next _ x c.returned-next.ensures is in came_back l _ _ k _ x inv.final (search rules) (c.word.ensures ∙ ap some told.0) c.take.ensures.value told.1 in
    next_adjoins l k c.loop-number.whole next c.requires.few (search rules) inv.whole lies

pub loop-number-preserved : goal.loop-number-preserved
loop-number-preserved c =
    let inv = c.loop-number.invariant in let l = c.args.layout in let k = c.loop-number.number in let next = c.returned-next.result in
    let lies : (x : Spare) → next ≡ Some x → LiesAt (place_of l k) x.region
    = λ x is. let told = if_some l next _ x c.returned-next.ensures is in came_back l _ _ k _ x inv.final (search rules) (c.word.ensures ∙ ap some told.0) c.take.ensures.value told.1 in
    record {
      words = search rules;
      counts = search rules;
      final = search rules;
      left = search rules;
      taken = search rules;
      whole = one_more l k c.loop-number.whole next _ inv.whole lies c.joined-whole.ensures;
    }
