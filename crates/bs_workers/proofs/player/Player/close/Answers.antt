-- What is left of the core: its stay, which was played alone.
use Rattle.std.proofs.Common.{◌≡◌, ◌<◌, [], false, true, length, refl, rules, sym, subst, ◌∙◌, arith}
use Rattle.std.specs.Prelude.{slice_index_or}
use Rattle.std.specs.List.{filter_map}
use Rattle.std.proofs.lemmas.List.{get_or_default}
use Rattle.bs_board.specs.plans.Plan.{row_of}
use Rattle.bs_sched.specs.Assembly.{RanAlone}
use Rattle.bs_sched.specs.Games.{row_at}
use Rattle.bs_workers.specs.Acts.{command_in}
use Rattle.bs_workers.proofs.PlayedStays.{kept_stay, left_stay}
use Rattle.bs_workers.proofs.player.Player.close.Goals as goal

pub returns-then-not-index-clause-stay : goal.returns-then-not-index-clause-stay
returns-then-not-index-clause-stay g c =
    let player = c.args.self.now in
    let commands = filter_map (command_in c.args.row) player.acts.now in
    let stays : slice_index_or player.stays.now.leaves.items c.args.row false ≡ false = search rules in
    let there : c.args.row < length player.stays.now.rows.items = (let less = c.if-row-len.false in omega (arith, less, c.len.ensures)) in
    let row : c.get.result.now ≡ row_at player.stays.now.rows.items c.args.row
    = c.get.ensures ∙ c.index.ensures ∙ get_or_default player.stays.now.rows.items c.args.row c.index.result.now (row_of [] 0) there in
    kept_stay g.row.CAP player.workers player.acts.now player.stays.now c.args.row c.args.core c.into_lone.result stays c.into_lone.ensures
    (λ have. subst (λ r. RanAlone g.row.CAP player.workers r commands c.args.core) row (c.if-not-ran_alone.ensures commands (c.requires have) refl))

pub returns-clause-stay : goal.returns-clause-stay
returns-clause-stay g c =
    let player = c.args.self.now in
    let commands = filter_map (command_in c.args.row) player.acts.now in
    let among : c.args.row < length player.stays.now.leaves.items = (let less = c.if-row-len-2.false in omega (arith, less, c.len-else-row-len.ensures)) in
    let leaves : slice_index_or player.stays.now.leaves.items c.args.row false ≡ true
    = get_or_default player.stays.now.leaves.items c.args.row false c.index-2.result.now among ∙ sym c.index-2.ensures ∙ c.if-not-index.false in
    let there : c.args.row < length player.stays.now.rows.items = (let less = c.if-row-len.false in omega (arith, less, c.len.ensures)) in
    let row : c.get.result.now ≡ row_at player.stays.now.rows.items c.args.row
    = c.get.ensures ∙ c.index.ensures ∙ get_or_default player.stays.now.rows.items c.args.row c.index.result.now (row_of [] 0) there in
    let one : length c.args.core.games.lanes ≡ 1 = search rules in
    left_stay g.row.CAP player.workers player.acts.now player.stays.now c.args.row c.args.core c.in_ok-close_alone.field-0 leaves
    (sym c.if-not-is_open.ensures) (sym c.if-not-is_quiet.ensures) one c.in_ok-close_alone.ensures.left
    (λ have. subst (λ r. RanAlone g.row.CAP player.workers r commands c.args.core) row (c.if-not-ran_alone.ensures commands (c.requires have) refl))
