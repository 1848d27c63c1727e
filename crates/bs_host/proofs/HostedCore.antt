-- A core from its opening to its text.
use Rattle.std.proofs.Common.{◌≡◌, ℕ, suc, ◌+◌, ◌<◌, ◌≤◌, List, [], ◌∷◌, ◌++◌, None, Some, drop, length, refl, sym, ap, subst, ◌∙◌, arith, append-nil, append_assoc}
use Rattle.std.proofs.Math.ListN.{get_or-map}
use Rattle.std.specs.Prelude.{Ok}
use Rattle.std.specs.List.{enumerate_from, filter_map, flat_map}
use Rattle.std.proofs.lemmas.Bool.{le-ltb, cond-false}
use Rattle.std.proofs.lemmas.List.{drop_more, length-map, length-replicate}
use Rattle.std.proofs.lemmas.List.Concat.{flat_map-append, flat_map-cons}
use Rattle.bs_board.specs.declared.commands.command.Command.{Command}
use Rattle.bs_board.specs.declared.plans.plan.Plan.{Plan}
use Rattle.bs_board.specs.plans.Plan.{GameRow}
use Rattle.bs_json.specs.declared.line.Stray.{Stray}
use Rattle.bs_game.specs.Alone.{alone}
use Rattle.bs_pool.specs.Ledger.{size}
use Rattle.bs_sched.specs.Core.{CoreView, opened_core}
use Rattle.bs_sched.specs.Games.{row_at}
use Rattle.bs_sched.specs.Registry.{IsServedAlone}
use Rattle.bs_sched.specs.Lane.{Lane, no_lane}
use Rattle.bs_sched.specs.Machine.{lane_of}
use Rattle.bs_registry.specs.Blocks.{blocks_of_all}
use Rattle.bs_workers.specs.declared.act.Act.{Act}
use Rattle.bs_workers.specs.Acts.{command_in, rows_admitted}
use Rattle.bs_workers.specs.Run.{IsRunOf, rows_made}
use Rattle.bs_host.specs.declared.fault.Fault.TheVariants.{Plan as OfPlan}
use Rattle.bs_host.specs.declared.fault.PlanRefusal.TheVariants as refusal
use Rattle.bs_host.specs.declared.limits.TheConstants.{BLOCK_BYTES}
use Rattle.bs_host.specs.declared.route.Route.{Route}
use Rattle.bs_host.specs.Hosted.{Hosts, HostsLines}
use Rattle.bs_host.specs.Routing.{acts_in, commands_to, routes_of, stays_of, strays_of}
use Rattle.bs_host.specs.Faults.{refusal_of_plan}
use Rattle.bs_host.specs.Transcript.{section_of, transcript_of}
use Rattle.bs_host.specs.inner.Transcript.{core_text_of, lane_lines_of}
use Rattle.bs_transcript.specs.Lines.{last_line_of, reply_lines_of, section_lines_of, stray_lines_of}
use Rattle.bs_transcript.specs.declared.section.Section.{Section}

pub no_refusal : (blocks : ℕ) (plan : Plan) → blocks_of_all BLOCK_BYTES plan.rows ≤ blocks → refusal_of_plan blocks (Ok plan) ≡ None
no_refusal blocks plan enough =
    cond-false _ (Some (OfPlan refusal.Short)) None (le-ltb blocks (blocks_of_all BLOCK_BYTES plan.rows) enough)

pub is_fresh : (capacity blocks workers : ℕ) (rows : List GameRow) (core : CoreView) → core ≡ opened_core capacity blocks workers rows
    → core ≡ opened_core capacity (size core.games.storage.pool) core.games.workers core.games.rows
is_fresh capacity blocks workers rows core is =
    let many : size core.games.storage.pool ≡ blocks = ap (λ core. size core.games.storage.pool) is ∙ length-replicate blocks None in
    let hands : core.games.workers ≡ workers = ap (λ core. core.games.workers) is in
    let games : core.games.rows ≡ rows = ap (λ core. core.games.rows) is in
    is ∙ ap (λ many. opened_core capacity many workers rows) (sym many) ∙ ap (λ hands. opened_core capacity (size core.games.storage.pool) hands rows) (sym hands)
    ∙ ap (λ games. opened_core capacity (size core.games.storage.pool) core.games.workers games) (sym games)

pub hosts_lines : (capacity blocks workers : ℕ) (rows stays : List GameRow) (routes : List (ℕ × Route)) (acts : List Act) (old new : CoreView)
    → old ≡ opened_core capacity blocks workers rows → stays ≡ rows ++ rows_admitted acts → acts ≡ acts_in routes
    → ((stay : ℕ) → commands_to stay routes ≡ filter_map (command_in stay) (acts_in routes)) → IsRunOf old acts new → HostsLines blocks rows stays routes new
hosts_lines capacity blocks workers rows stays routes acts old new is all asked acted ran =
    let same : old.games.rows ≡ rows = ap (λ (core : CoreView). core.games.rows) is in
    let every : old.games.rows ++ rows_admitted acts ≡ stays = ap (λ first. first ++ rows_admitted acts) same ∙ sym all in
    record {
      rows = ran.plan ∙ same;
      made = ran.stays ∙ every;
      pool = ran.blocks ∙ ap (λ (core : CoreView). size core.games.storage.pool) is ∙ length-replicate blocks None;
      failed = ran.failed;
      quiet = ran.quiet;
      acted = ran.acted ∙ asked;
      served =
          λ stay within.
          let x = lane_of new.games.lanes stay in
          let there : stay < length (old.games.rows ++ rows_admitted acts) = subst (λ (made : List GameRow). stay < length made) (sym every) within in
          let given : filter_map (command_in stay) acts ≡ commands_to stay routes
          = ap (λ made. filter_map (command_in stay) made) asked ∙ sym (acted stay) in
          let one : IsServedAlone (row_at stays stay) (filter_map (command_in stay) acts) x
          = subst (λ (made : List GameRow). IsServedAlone (row_at made stay) (filter_map (command_in stay) acts) x) every (ran.served stay there) in
          subst (λ commands. IsServedAlone (row_at stays stay) commands x) given one;
    }

-- the text of a core

pub one_more_section : (sections new : List Section) (section : Section) (lanes : List Lane) (game : ℕ) (total : List ℕ) → game < length lanes
    → section_lines_of section ≡ lane_lines_of (lane_of lanes game) → new ≡ sections ++ section ∷ []
    → flat_map section_lines_of sections ++ flat_map lane_lines_of (drop game lanes) ≡ total
    → flat_map section_lines_of new ++ flat_map lane_lines_of (drop (game + 1) lanes) ≡ total
one_more_section sections new section lanes game total within is pushed before =
    let rest = flat_map lane_lines_of (drop (game + 1) lanes) in
    let told : flat_map section_lines_of new ≡ flat_map section_lines_of sections ++ section_lines_of section
    = ap (λ (all : List Section). flat_map section_lines_of all) pushed ∙ flat_map-append section_lines_of sections (section ∷ [])
    ∙ ap (λ more. flat_map section_lines_of sections ++ more) (flat_map-cons section_lines_of section [] ∙ append-nil (section_lines_of section)) in
    let next : flat_map lane_lines_of (drop game lanes) ≡ section_lines_of section ++ rest
    = ap (λ (left : List Lane). flat_map lane_lines_of left) (drop_more lanes game no_lane within)
    ∙ flat_map-cons lane_lines_of (lane_of lanes game) (drop (game + 1) lanes) ∙ ap (λ first. first ++ rest) (sym is) in
    ap (λ all. all ++ rest) told ∙ append_assoc (flat_map section_lines_of sections) (section_lines_of section) rest
    ∙ ap (λ left. flat_map section_lines_of sections ++ left) (sym next) ∙ before

lane_lines : (x : Lane) (commands : List Command) → IsServedAlone x.row commands x → lane_lines_of x ≡ section_of x.row commands
unfolding section_of
lane_lines x commands served =
    ap (λ replies. reply_lines_of x.row.game replies ++ last_line_of x.row.game x.game) served.replies
    ∙ ap (λ game. reply_lines_of x.row.game (alone x.row commands).replies ++ last_line_of x.row.game game) served.game

sections_served : (routes : List (ℕ × Route)) (first : ℕ) (lanes : List Lane)
    → ((stay : ℕ) → stay < length lanes → IsServedAlone (lane_of lanes stay).row (commands_to (first + stay) routes) (lane_of lanes stay))
    → flat_map lane_lines_of lanes ≡ flat_map (λ stay. section_of stay.1 (commands_to stay.0 routes)) (enumerate_from first (rows_made lanes))
sections_served routes first [] each = refl
sections_served routes first (x ∷ lanes) each =
    let section_by : ℕ × GameRow → List ℕ = λ stay. section_of stay.1 (commands_to stay.0 routes) in
    let here : first + 0 ≡ first = omega arith in
    let head : lane_lines_of x ≡ section_by (first, x.row)
    = lane_lines x (commands_to (first + 0) routes) (each 0 (omega arith)) ∙ ap (λ at. section_of x.row (commands_to at routes)) here in
    let tail = sections_served routes (first + 1) lanes
    (λ stay within. let next : first + suc stay ≡ first + 1 + stay = omega arith in
    subst (λ at. IsServedAlone (lane_of lanes stay).row (commands_to at routes) (lane_of lanes stay)) next (each (suc stay) (omega (arith, within)))) in
    flat_map-cons lane_lines_of x lanes ∙ ap (λ first_lines. first_lines ++ flat_map lane_lines_of lanes) head
    ∙ ap (λ more. section_by (first, x.row) ++ more) tail
    ∙ sym (flat_map-cons section_by (first, x.row) (enumerate_from (first + 1) (rows_made lanes)))

pub transcript_of_core : (blocks : ℕ) (file : List ℕ) (core : CoreView) (strays : List (ℕ × Stray)) → Hosts blocks file core
    → strays ≡ strays_of blocks file → core_text_of core strays ≡ transcript_of blocks file
unfolding transcript_of
transcript_of_core blocks file core strays hosts is =
    let lanes = core.games.lanes in
    let routes = routes_of blocks file in
    let many : length lanes ≡ length (stays_of blocks file) = sym (length-map lanes (λ (x : Lane). x.row)) ∙ ap length hosts.made in
    let told = sections_served routes 0 lanes
    (λ stay within.
    let at : stay ≡ 0 + stay = omega arith in
    let there : stay < length (stays_of blocks file) = subst (λ n. stay < n) many within in
    let row : row_at (stays_of blocks file) stay ≡ (lane_of lanes stay).row
    = ap (λ (rows : List GameRow). row_at rows stay) (sym hosts.made) ∙ get_or-map (λ (x : Lane). x.row) lanes stay no_lane in
    let one : IsServedAlone (lane_of lanes stay).row (commands_to stay routes) (lane_of lanes stay)
    = subst (λ r. IsServedAlone r (commands_to stay routes) (lane_of lanes stay)) row (hosts.served stay there) in
    subst (λ n. IsServedAlone (lane_of lanes stay).row (commands_to n routes) (lane_of lanes stay)) at one) in
    ap (λ sections. sections ++ stray_lines_of strays) told
    ∙ ap (λ (rows : List GameRow). flat_map (λ stay. section_of stay.1 (commands_to stay.0 routes)) (enumerate_from 0 rows) ++ stray_lines_of strays) hosts.made
    ∙ ap (λ all. flat_map (λ stay. section_of stay.1 (commands_to stay.0 routes)) (enumerate_from 0 (stays_of blocks file)) ++ stray_lines_of all) is
