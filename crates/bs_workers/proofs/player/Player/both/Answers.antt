-- The stays of both threads were played.
use Rattle.std.proofs.Common.{Result, sym, subst}
use Rattle.std.specs.Prelude.{All, IfOk}
use Rattle.std.proofs.lemmas.List.Elements.{All-append}
use Rattle.bs_workers.specs.declared.crew.Ran.{Ran}
use Rattle.bs_workers.specs.declared.player.Lone.{Lone}
use Rattle.bs_workers.specs.declared.stop.Stop.{Stop}
use Rattle.bs_workers.specs.inner.Stays.{IsPlayedStay}
use Rattle.bs_workers.proofs.player.Player.both.Goals as goal

pub returns-in_ok-with-in-Ok-other-clause-played : goal.returns-in_ok-with-in-Ok-other-clause-played
returns-in_ok-with-in-Ok-other-clause-played g c =
    let player = c.args.self.now in
    let P : Lone g.row.CAP → Type 0 = λ lone. IsPlayedStay g.row.CAP player.workers player.acts.now player.stays.now lone.row lone.stay in
    let Q : Result (Ran g.row.CAP) Stop → Type 0 = λ some. IfOk some (λ ran. All P ran.stays.items) in
    subst (All P) (sym c.in_ok-with-in-Ok-other.ensures.stays)
    (All-append P c.in-Ok.ran.stays.items c.in-Ok-other.more.stays.items (subst Q c.in-Ok.is c.requires.one) (subst Q c.in-Ok-other.is c.requires.other))
