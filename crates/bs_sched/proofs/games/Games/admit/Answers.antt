use Rattle.std.proofs.Common.{◌≡◌, ℕ, length, refl, ap, ◌∙◌, arith}
use Rattle.std.proofs.lemmas.List.{length-map}
use Rattle.bs_registry.specs.OpenStays.{OpenStayList, open_stays_of}
use Rattle.bs_registry.specs.Registry.{before_push, seen}
use Rattle.bs_registry.proofs.Rows.{undone}
use Rattle.bs_sched.specs.declared.games.Games.TheInside.{Inside}
use Rattle.bs_sched.specs.Games.{GamesView, pool_left, setting_of}
use Rattle.bs_sched.specs.PlanBlocks.{with_row}
use Rattle.bs_sched.specs.Registry.{registry_of, stay_of}
use Rattle.bs_sched.specs.inner.GamesLayout.{lanes_in, tallies_in}
use Rattle.bs_sched.proofs.ChangedStays.{Comes, can_reserve, can_take_back, lanes_come, may_come, may_come_in, sound_comes, sound_still, storage_comes}
use Rattle.bs_sched.proofs.ListedGames.{many_lanes}
use Rattle.bs_sched.proofs.RegistryRefusals.{new_name}
use Rattle.bs_sched.proofs.Tallies.{tallies_come}
use Rattle.bs_sched.proofs.games.Games.admit.Goals as goal

pub list_row-requires : goal.list_row-requires
list_row-requires g c =
    let now = c.args.self.now in
    let inside = c.self.inside in
    let games = inside.list.items in
    let open_now = may_come (setting_of g.row.CAP now) now.lanes c.args.row c.requires.may in
    let may = may_come_in g.row.CAP inside now c.args.row c.self.view_is open_now.0 open_now.1 in
    let room = may.0 in
    let wide = c.self.invariant.wide in
    let number : c.len-row_number.result ≡ length games = c.len-row_number.ensures ∙ inside.list.ok.0 in
    let made : inside.registry.made ≡ length games
    = ap (λ (o : OpenStayList). o.made) c.self.invariant.listed ∙ length-map (lanes_in games) stay_of ∙ many_lanes games in
    let listed = c.self.invariant.listed ∙ ap (λ (v : GamesView). open_stays_of (registry_of v.lanes)) c.self.view_is in
    let new = new_name (setting_of g.row.CAP now) (seen inside.registry) now.lanes c.args.row listed c.requires.may in
    let can = can_reserve g.row.CAP inside c.args.row c.self.invariant may.1 in
    (omega arith, (omega (arith, wide), (omega (arith, number, room), (omega (arith, made, room), (new, (rw number can.0, can.1))))))

pub release_row-requires : goal.release_row-requires
release_row-requires g c =
    let now = c.args.self.now in
    let open_now = may_come (setting_of g.row.CAP now) now.lanes c.args.row c.requires.may in
    let may = may_come_in g.row.CAP c.self.inside now c.args.row c.self.view_is open_now.0 open_now.1 in
    let room = may.0 in
    let number : c.len-row_number.result ≡ length c.self.inside.list.items = c.len-row_number.ensures ∙ c.self.inside.list.ok.0 in
    let reserved = c.in_ok-list_row.ensures.reserved ∙ ap (λ (n : ℕ). with_row g.row.CAP n c.args.row c.self.inside.pool) number in
    let can = (can_take_back g.row.CAP c.self.inside c.args.row c.list_row.new.pool c.self.invariant c.size-blocks.ensures.sound may.1 reserved).0 in
    (omega arith, (omega (arith, number, room), (rw number can.records, (rw number can.frames, (rw number can.no_records, rw number can.no_frames)))))

pub invariant_of-self-in-Err : goal.invariant_of-self-in-Err
invariant_of-self-in-Err g c =
    let now = c.args.self.now in
    let inside = c.self.inside in
    let open_now = may_come (setting_of g.row.CAP now) now.lanes c.args.row c.requires.may in
    let may = may_come_in g.row.CAP inside now c.args.row c.self.view_is open_now.0 open_now.1 in
    let number : c.len-row_number.result ≡ length inside.list.items = c.len-row_number.ensures ∙ inside.list.ok.0 in
    let reserved = c.in_ok-list_row.ensures.reserved ∙ ap (λ (n : ℕ). with_row g.row.CAP n c.args.row inside.pool) number in
    let back = (can_take_back g.row.CAP inside c.args.row c.list_row.new.pool c.self.invariant c.size-blocks.ensures.sound may.1 reserved).1 in
    let new = record inside { list = c.push_game.new.list; registry = c.undo_push.new.self; pool = c.release_row.new.pool } in
    let registry = c.undo_push.ensures ∙ ap before_push c.in_ok-list_row.ensures.listed ∙ undone inside.registry c.args.row tt in
    let pool = c.release_row.ensures ∙ ap (λ (n : ℕ). pool_left n c.list_row.new.pool) number ∙ back in
    sound_still g.row.CAP inside new c.self.invariant refl c.in-Err.ensures.err registry pool

pub returns-in-Err-clause-err : goal.returns-in-Err-clause-err
returns-in-Err-clause-err g c =
    let now = c.args.self.now in
    let inside = c.self.inside in
    let open_now = may_come (setting_of g.row.CAP now) now.lanes c.args.row c.requires.may in
    let may = may_come_in g.row.CAP inside now c.args.row c.self.view_is open_now.0 open_now.1 in
    let number : c.len-row_number.result ≡ length inside.list.items = c.len-row_number.ensures ∙ inside.list.ok.0 in
    let reserved = c.in_ok-list_row.ensures.reserved ∙ ap (λ (n : ℕ). with_row g.row.CAP n c.args.row inside.pool) number in
    let back = (can_take_back g.row.CAP inside c.args.row c.list_row.new.pool c.self.invariant c.size-blocks.ensures.sound may.1 reserved).1 in
    let pool : c.release_row.new.pool ≡ inside.pool = c.release_row.ensures ∙ ap (λ (n : ℕ). pool_left n c.list_row.new.pool) number ∙ back in
    rw (← c.self.view_is, c.in-Err.ensures.err, pool) refl

pub invariant_of-self-in_default : goal.invariant_of-self-in_default
invariant_of-self-in_default g c =
    let now = c.args.self.now in
    let inside = c.self.inside in
    let open_now = may_come (setting_of g.row.CAP now) now.lanes c.args.row c.requires.may in
    let may = may_come_in g.row.CAP inside now c.args.row c.self.view_is open_now.0 open_now.1 in
    let number : c.len-row_number.result ≡ length inside.list.items = c.len-row_number.ensures ∙ inside.list.ok.0 in
    let reserved = c.in_ok-list_row.ensures.reserved ∙ ap (λ (n : ℕ). with_row g.row.CAP n c.args.row inside.pool) number in
    let new : Inside g.row.CAP = record inside { list = c.push_game.new.list; registry = c.list_row.new.registry; pool = c.list_row.new.pool } in
    let comes : Comes g.row.CAP inside new c.args.row
    = record { rows = refl; games = c.in_default.ensures.ok; listed = c.in_ok-list_row.ensures.listed; pool = reserved } in
    sound_comes g.row.CAP inside new c.args.row c.self.invariant c.size-blocks.ensures.sound may.0 may.1 comes

pub returns-clause-ok : goal.returns-clause-ok
returns-clause-ok g c =
    let inside = c.self.inside in
    let games = inside.list.items in
    let number : c.len-row_number.result ≡ length games = c.len-row_number.ensures ∙ inside.list.ok.0 in
    let reserved = c.in_ok-list_row.ensures.reserved ∙ ap (λ (n : ℕ). with_row g.row.CAP n c.args.row inside.pool) number in
    let new : Inside g.row.CAP = record inside { list = c.push_game.new.list; registry = c.list_row.new.registry; pool = c.list_row.new.pool } in
    let comes : Comes g.row.CAP inside new c.args.row
    = record { rows = refl; games = c.in_default.ensures.ok; listed = c.in_ok-list_row.ensures.listed; pool = reserved } in
    let tallies = ap tallies_in comes.games ∙ tallies_come games (length games) c.args.row in
    rw (
      ← c.self.view_is,
      lanes_come g.row.CAP inside new c.args.row comes,
      storage_comes g.row.CAP inside new c.args.row comes,
      tallies,
      many_lanes games,
    )
    refl
