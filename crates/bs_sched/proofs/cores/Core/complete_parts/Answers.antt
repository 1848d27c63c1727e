use Rattle.std.proofs.Common.{◌≡◌, ◌+◌, ◌<◌, ◌≤◌, List, ◌∷◌, Option, length, drop, set, refl, sym, ap, subst, ◌∙◌, arith}
use Rattle.std.proofs.lemmas.List.{at_drop_all, at_drop_more, drop-set-lt}
use Rattle.bs_fiber.specs.Tickets.{TicketView}
use Rattle.bs_sched.specs.Parts.{core_run, puts_of}
use Rattle.bs_sched.proofs.OwnParts.{AreOwnFrom, from_all, next_part, own_next}
use Rattle.bs_sched.proofs.cores.Core.complete_parts.Goals as goal

pub loop-part-init : goal.loop-part-init
loop-part-init g c = record { own = (c.requires.game, from_all c.args.self.now.games c.args.parts.now c.requires); run = refl }

pub complete_part-requires : goal.complete_part-requires
complete_part-requires g c =
    let parts = c.loop-part.parts in
    let part = c.loop-part.part in
    let one = c.take-done.result in
    let rest = drop (part + 1) parts in
    let own = c.loop-part.invariant.own in
    let more = c.loop-part-test.true in
    let many = c.loop-part.auto.parts in
    let within : part < length parts = omega (arith, more, many) in
    let is : drop part parts ≡ one ∷ rest
    = at_drop_more (λ (xs : List (Option TicketView)). xs) parts part c.index-parts-part.result within ∙ ap (λ (x : Option TicketView). x ∷ rest) (sym c.take-done.ensures.value) in
    (omega arith, (omega arith, (own.0, part, own_next c.loop-part.self.games own.0 part (drop part parts) rest one is own.1)))

pub loop-part-preserved : goal.loop-part-preserved
loop-part-preserved g c =
    let parts = c.loop-part.parts in
    let part = c.loop-part.part in
    let one = c.take-done.result in
    let rest = drop (part + 1) parts in
    let own = c.loop-part.invariant.own in
    let more = c.loop-part-test.true in
    let many = c.loop-part.auto.parts in
    let within : part < length parts = omega (arith, more, many) in
    let is : drop part parts ≡ one ∷ rest
    = at_drop_more (λ (xs : List (Option TicketView)). xs) parts part c.index-parts-part.result within ∙ ap (λ (x : Option TicketView). x ∷ rest) (sym c.take-done.ensures.value) in
    let next = next_part g.row.CAP c.loop-part.self c.complete_part.new.self own.0 part (drop part parts) rest one is own.1 c.complete_part.ensures in
    let same : drop (part + 1) (set parts part c.take-done.new.self) ≡ rest = drop-set-lt (part + 1) parts part c.take-done.new.self (omega arith) in
    record {
      own = (own.0, subst (AreOwnFrom c.complete_part.new.self.games own.0 (part + 1)) (sym same) next.0);
      run = ap (λ (xs : List (Option TicketView)). core_run g.row.CAP c.complete_part.new.self (puts_of xs)) same ∙ next.1 ∙ c.loop-part.invariant.run;
    }

pub returns : goal.returns
returns g c =
    let parts = c.loop-part.parts in
    let part = c.loop-part.part in
    let past : length parts ≤ part = let all = c.loop-part-test.false in let many = c.loop-part.auto.parts in omega (arith, all, many) in
    sym (at_drop_all (λ (xs : List (Option TicketView)). core_run g.row.CAP c.loop-part.self (puts_of xs)) parts part past) ∙ c.loop-part.invariant.run
