-- One more stay is kept.
use Rattle.std.proofs.Common.{sym, subst}
use Rattle.std.specs.Prelude.{All, IfSome}
use Rattle.std.proofs.lemmas.List.Elements.{All-pop}
use Rattle.bs_workers.specs.declared.crew.Table.{Table}
use Rattle.bs_workers.specs.declared.player.Lone.{Lone}
use Rattle.bs_workers.specs.inner.Stays.{ArePlayedStays, IsPlayedStay}
use Rattle.bs_workers.proofs.PlayedStays.{slot_more}
use Rattle.bs_workers.proofs.player.Player.keep.Goals as goal
use Rattle.bs_workers.proofs.player.Player.keep.Goals.{in-Some+in_ok-put, in_default}

pub loop-preserved : goal.loop-preserved
loop-preserved g c =
    let player = c.args.self.now in
    let P : Lone g.row.CAP → Type 0 = λ lone. IsPlayedStay g.row.CAP player.workers player.acts.now player.stays.now lone.row lone.stay in
    let T : Table g.row.CAP → Type 0 = λ table. ArePlayedStays g.row.CAP player.workers player.acts.now player.stays.now table.slots.items in
    let popped = All-pop P c.loop.ran.items c.pop.new.self.items c.pop.result c.pop.ensures.items c.loop.invariant.0 in
    let kept : T c.match-pop.table =
    elim c.match-pop.branch [
      | in-Some+in_ok-put w ↦
          subst T (sym w.table-is)
          (slot_more g.row.CAP player.workers player.acts.now player.stays.now c.loop.table.slots.items _ _ _ w.in_ok-put.ensures.row w.in_ok-put.ensures.kept
          (subst (λ r. IfSome r P) w.in-Some.is popped.1) c.loop.invariant.1)
      | in_default w ↦ subst T (sym w.table-is) c.loop.invariant.1
    ] in
    (popped.0, kept)
