-- The core of all stays has the plan and the blocks, its journal makes the acts, and it is idle.
use Rattle.std.proofs.Common.{◌≡◌, ◌+◌, length, map, refl, rules, sym, ap, ◌∙◌, arith}
use Rattle.bs_pool.specs.Ledger.{size}
use Rattle.bs_sched.specs.Core.{CoreView}
use Rattle.bs_sched.specs.StaysHeld.{AreHeld, blocks_held}
use Rattle.bs_workers.specs.Run.{acts_of}
use Rattle.bs_workers.specs.inner.Stays.{event_of}
use Rattle.bs_workers.proofs.Ended.{run_made}
use Rattle.bs_workers.proofs.PlayedStays.{are_put, whole_acts}
use Rattle.bs_workers.proofs.apart.put_together.Goals as goal

pub assemble_stays-requires : goal.assemble_stays-requires
assemble_stays-requires g c =
    let many : length c.args.played.items ≡ length c.args.stays.rows.items = search rules in
    let put =
    are_put g.row.CAP c.args.rest.blocks c.args.rest.workers c.args.rest.rows c.args.acts.now c.args.stays c.args.played.items c.requires.acceptable c.requires.listed many c.requires.played in
    let held : AreHeld g.row.CAP c.args.rest.blocks c.args.rest.workers c.args.rest.rows c.args.played.items c.args.stays.order.items
    = record { acts = map event_of c.args.acts.now; played = put.played; were = put.were } in
    let blocks =
    ap (λ stays. length c.args.rest.free.items + blocks_held stays) (sym c.as_slice.ensures.value) ∙ c.have_all.ensures c.if-not-have_all.false in
    (omega arith, (omega arith, (omega arith, (c.requires.workers, (c.requires.hosted, (blocks, held))))))

pub returns-clause-run : goal.returns-clause-run
returns-clause-run g c =
    λ old rows blocks.
    let acts = c.args.acts.now in
    let many : length c.args.played.items ≡ length c.args.stays.rows.items = search rules in
    let put =
    are_put g.row.CAP c.args.rest.blocks c.args.rest.workers c.args.rest.rows acts c.args.stays c.args.played.items c.requires.acceptable c.requires.listed many c.requires.played in
    let is = c.in_ok-core.ensures (map event_of acts) put.played put.were in
    let same : size c.in_ok-core.core.games.storage.pool ≡ c.args.rest.blocks = search rules in
    run_made g.row.CAP acts old c.in_ok-core.core c.keeps_apart.ensures
    (ap (λ (core : CoreView). acts_of core.journal) is ∙ whole_acts put.played acts)
    (ap (λ (core : CoreView). core.games.rows) is ∙ rows) (same ∙ blocks) (ap (λ (core : CoreView). core.games.failed) is) (sym c.if-not-is_quiet.ensures)
