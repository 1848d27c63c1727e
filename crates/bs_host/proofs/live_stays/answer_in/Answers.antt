use Rattle.std.proofs.Common.{◌++◌, sym, ap, ◌∙◌, append-nil}
use Rattle.bs_host.proofs.LiveStays.{answered_there, none_answers}
use Rattle.bs_host.proofs.live_stays.answer_in.Goals as goal

pub returns-in_ok-answer-in-Some-clause-text : goal.returns-in_ok-answer-in-Some-clause-text
returns-in_ok-answer-in-Some-clause-text c =
    let is = sym c.in-Some.is ∙ c.place_of.ensures in
    let there = answered_there c.args.number c.args.command.now c.args.stays.now c.in-Some.place c.kept_mut.result.now is c.kept_mut.ensures.value in
    c.in_ok-answer-in-Some.ensures.text ∙ ap (λ line. c.args.text.now.bytes ++ line) there.1

pub returns-in-None-clause-text : goal.returns-in-None-clause-text
returns-in-None-clause-text c =
    let none = none_answers c.args.number c.args.command.now c.args.stays.now (sym c.in-None.is ∙ c.place_of.ensures) in
    sym (ap (λ line. c.args.text.now.bytes ++ line) none.1 ∙ append-nil c.args.text.now.bytes)
