-- A core is its journal, before and after each event, and so the isolation law speaks of it.
use Rattle.std.proofs.Common.{◌≡◌, ℕ, ◌+◌, ◌<◌, ◌≤◌, false, true, List, [], ◌∷◌, ◌++◌, length, map, Option, refl, sym, ap, subst, ◌∙◌, arith, inl, inr}
use Rattle.std.specs.Prelude.{All}
use Rattle.std.proofs.lemmas.Bool.{cases_Bool, cond-true, and_from}
use Rattle.std.proofs.lemmas.List.Elements.{All-nil, All-cons, All-append}
use Rattle.std.proofs.lemmas.List.Sums.{fold-append}
use Rattle.bs_board.proofs.Chains.{and_both}
use Rattle.bs_board.specs.plans.Plan.{GameRow}
use Rattle.bs_counter.specs.Keys.{TallyId}
use Rattle.bs_pool.specs.Ledger.{size}
use Rattle.bs_sched.specs.declared.cores.Core.TheInside.{Inside}
use Rattle.bs_sched.specs.declared.event.Event.{Event}
use Rattle.bs_sched.specs.Registry.{AreKnownApart, rows_in}
use Rattle.bs_sched.specs.Core.{CoreView, opened_core, core_after}
use Rattle.bs_sched.specs.Games.{GamesView, after, setting_of, opened}
use Rattle.bs_sched.specs.Isolation.{AreHosted, HandsFit, are_enabled, opened_lanes, shared_run}
use Rattle.bs_sched.specs.Journal.{IsItsJournal, KeepsApart, setting_in}
use Rattle.bs_sched.specs.inner.Journal.{IsJournaled, core_in, jobs_out}
use Rattle.bs_sched.specs.Lane.{Lane, is_quiet, is_ready}
use Rattle.bs_sched.specs.inner.Lane.{HasNoneReady}
use Rattle.bs_sched.specs.Machine.{Setting, is_enabled, lane_of, step, run_of}
use Rattle.bs_sched.specs.Memory.{games_run, games_step}
use Rattle.bs_sched.specs.SharedMemory.{IsHosted, SharesMemory}
use Rattle.bs_sched.specs.inner.Taking.{AreNoneOpenReady, AreNoneReady}
use Rattle.bs_sched.proofs.Registry.{journal_law}
use Rattle.bs_sched.proofs.Isolation.{isolation_law}
use Rattle.bs_sched.proofs.MemoryLaw.{memory_law}
use Rattle.bs_sched.proofs.Names.{names_law}
use Rattle.bs_sched.proofs.Reserved.{opened_blocks}
use Rattle.bs_sched.proofs.RightRuns.{busy_ready}

enabled_more : (setting : Setting) (lanes : List Lane) (events : List Event) (e : Event) → are_enabled setting lanes events ≡ true
    → is_enabled setting (run_of setting lanes events) e ≡ true → are_enabled setting lanes (events ++ e ∷ []) ≡ true
enabled_more setting lanes [] e all here = and_from (is_enabled setting lanes e) true here refl
enabled_more setting lanes (first ∷ events) e all here =
    let both = and_both (is_enabled setting lanes first) (are_enabled setting (step setting lanes first) events) all in
    and_from _ _ both.0 (enabled_more setting (step setting lanes first) events e both.1 here)

-- the law for a core

law_of : (cap : ℕ) (core : CoreView) → IsItsJournal cap core → SharesMemory (setting_in cap core) core.games.rows core.journal
law_of cap core is = memory_law (setting_in cap core) core.games.rows core.journal is.hosted is.fits

its_lanes : (cap : ℕ) (core : CoreView) → IsItsJournal cap core → shared_run (setting_in cap core) core.games.rows core.journal ≡ core.games.lanes
its_lanes cap core is = let law = law_of cap core is in sym law.lanes ∙ ap (λ (games : GamesView). games.lanes) (sym law.core ∙ is.games)

its_stays : (cap : ℕ) (core : CoreView) → IsItsJournal cap core → AreHosted (setting_in cap core) core.games.rows core.journal
its_stays cap core is =
    let room = is.hosted.room in
    let plan = opened_blocks cap core.games.rows in
    isolation_law (setting_in cap core) core.games.rows core.journal is.hosted.plan (omega (arith, room, plan)) is.fits

pub keeps_apart : (cap : ℕ) (core : CoreView) → IsItsJournal cap core → KeepsApart cap core
keeps_apart cap core is =
    record {
      lanes = its_lanes cap core is;
      stays = its_stays cap core is;
      memory = law_of cap core is;
      told = journal_law (setting_in cap core) core.games.rows core.journal is.enabled;
      names = subst AreKnownApart (its_lanes cap core is) (names_law (setting_in cap core) core.games.rows core.journal is.hosted.plan);
    }

-- the rows are those of the plan, then those that were admitted
pub rows_made : (cap : ℕ) (core : CoreView) → IsItsJournal cap core → map (λ (x : Lane). x.row) core.games.lanes ≡ core.games.rows ++ rows_in core.journal
rows_made cap core is =
    let told = journal_law (setting_in cap core) core.games.rows core.journal is.enabled in
    ap (map (λ (x : Lane). x.row)) (sym (its_lanes cap core is)) ∙ told.rows

-- a stay that has left is idle, so if no job can be taken in the open stays, none can be taken

pub quiet_closed : (cap : ℕ) (core : CoreView) (game : ℕ) → IsItsJournal cap core → game < length core.games.lanes → (lane_of core.games.lanes game).is_open ≡ false
    → is_quiet (lane_of core.games.lanes game) ≡ true
quiet_closed cap core game is within shut =
    let lanes = its_lanes cap core is in
    let long = ap length lanes in
    let well = ((its_stays cap core is).stays game (omega (arith, within, long))).course.well in
    subst (λ (ls : List Lane). (lane_of ls game).is_open ≡ false → is_quiet (lane_of ls game) ≡ true) lanes well.closed shut

none_quiet_ready : (x : Lane) → is_quiet x ≡ true → HasNoneReady x
none_quiet_ready x quiet k p =
    elim (cases_Bool (is_ready x k p)) [
      | inl ready ↦ let wrong : true ≡ false = sym quiet ∙ busy_ready x k p ready in absurd cc
      | inr not_ready ↦ not_ready
    ]

pub none_ready : (cap : ℕ) (core : CoreView) → IsItsJournal cap core → AreNoneOpenReady core.games.lanes → AreNoneReady core.games.lanes
none_ready cap core is none game within =
    elim (cases_Bool (lane_of core.games.lanes game).is_open) [
      | inl stands ↦ none game within stands
      | inr shut ↦ none_quiet_ready (lane_of core.games.lanes game) (quiet_closed cap core game is within shut)
    ]

-- a newly opened core

pub opened_journal : (cap blocks workers : ℕ) (rows : List GameRow) → IsHosted (record { cap = cap; blocks = blocks; workers = workers }) rows
    → size (opened cap blocks workers rows).storage.pool ≡ blocks → IsItsJournal cap (opened_core cap blocks workers rows)
opened_journal cap blocks workers rows hosted many =
    record {
      hosted = rw many hosted;
      fits = All-nil HandsFit;
      enabled = refl;
      games = ap (λ b. opened cap b workers rows) many;
    }

-- after an event

events_fit : (events : List Event) (e : Event) → All HandsFit events → HandsFit e → All HandsFit (events ++ e ∷ [])
events_fit events e all fits = All-append HandsFit events (e ∷ []) all (All-cons HandsFit e [] fits (All-nil HandsFit))

run_more : (cap : ℕ) (core : CoreView) (e : Event) → IsItsJournal cap core → is_enabled (setting_in cap core) core.games.lanes e ≡ true
    → games_run (setting_in cap core) (opened cap (setting_in cap core).blocks core.games.workers core.games.rows) (core.journal ++ e ∷ [])
    ≡ record (after cap core.games e) { failed = false; tallies = [] }
run_more cap core e is enabled =
    let setting = setting_in cap core in
    let games = record core.games { failed = false; tallies = [] } in
    let start = opened cap setting.blocks core.games.workers core.games.rows in
    let more : games_run setting start (core.journal ++ e ∷ []) ≡ games_step setting (games_run setting start core.journal) e
    = fold-append (games_step setting) start core.journal (e ∷ []) in
    let goes : games_step setting games e ≡ after cap games e = cond-true _ (after cap games e) games enabled in
    more ∙ ap (λ before. games_step setting before e) is.games ∙ goes

-- no event changes the number of blocks
pub same_setting : (cap : ℕ) (core : CoreView) (e : Event) → IsItsJournal cap core → is_enabled (setting_in cap core) core.games.lanes e ≡ true → HandsFit e
    → setting_in cap (core_after cap core e) ≡ setting_in cap core
same_setting cap core e is enabled fits =
    let events = core.journal ++ e ∷ [] in
    let law = memory_law (setting_in cap core) core.games.rows events is.hosted (events_fit core.journal e is.fits fits) in
    let blocks : size (after cap core.games e).storage.pool ≡ size core.games.storage.pool
    = ap (λ (games : GamesView). size games.storage.pool) (sym (run_more cap core e is enabled) ∙ law.core) ∙ law.blocks_shared.size in
    ap (λ (b : ℕ). record { cap = cap; blocks = b; workers = core.games.workers }) blocks

pub journal_after : (cap : ℕ) (core : CoreView) (e : Event) → IsItsJournal cap core → is_enabled (setting_in cap core) core.games.lanes e ≡ true → HandsFit e
    → IsItsJournal cap (core_after cap core e)
journal_after cap core e is enabled fits =
    let setting = setting_in cap core in
    let rows = core.games.rows in
    let events = core.journal ++ e ∷ [] in
    let same = same_setting cap core e is enabled fits in
    let more = run_more cap core e is enabled in
    record {
      hosted = subst (λ (h : Setting). IsHosted h rows) (sym same) is.hosted;
      fits = events_fit core.journal e is.fits fits;
      enabled = subst (λ (h : Setting). are_enabled h (opened_lanes rows) events ≡ true) (sym same)
          (enabled_more setting (opened_lanes rows) core.journal e is.enabled
          (subst (λ (xs : List Lane). is_enabled setting xs e ≡ true) (sym (its_lanes cap core is)) enabled));
      games = ap (λ (h : Setting). games_run h (opened cap h.blocks core.games.workers rows) events) same ∙ more;
    }

-- no event names a tally
journal_told : (cap : ℕ) (core : CoreView) (tallies : List (Option TallyId)) → IsItsJournal cap core
    → IsItsJournal cap (record core { games = record core.games { tallies = tallies } })
journal_told cap core tallies is = record { hosted = is.hosted; fits = is.fits; enabled = is.enabled; games = is.games }

-- how a core that has one event more lies in its fields, with whatever tallies
pub journaled_told : (cap : ℕ) {at : ℕ} (c : Inside at) (e : Event) (tallies : List (Option TallyId)) (new : Inside at) → IsJournaled cap c
    → is_enabled (setting_of cap c.games) c.games.lanes e ≡ true → HandsFit e → new.games ≡ record (after cap c.games e) { tallies = tallies }
    → new.journal.events ≡ c.journal.events ++ e ∷ [] → new.out ≡ jobs_out (after cap c.games e).lanes → new.journal.used + new.out ≤ new.journal.room
    → IsJournaled cap new
journaled_told cap c e tallies new sound enabled fits games journal out room =
    let told : GamesView = record (after cap c.games e) { tallies = tallies } in
    let is : core_in new ≡ record { games = told; journal = c.journal.events ++ e ∷ [] }
    = ap (λ (g : GamesView). record { games = g; journal = new.journal.events }) games ∙ ap (λ (j : List Event). record { games = told; journal = j }) journal in
    record {
      journal =
          subst (IsItsJournal cap) (sym is) (journal_told cap (core_after cap (core_in c) e) tallies (journal_after cap (core_in c) e sound.journal enabled fits));
      out = out ∙ ap (λ (g : GamesView). jobs_out g.lanes) (sym games);
      room = room;
    }

pub journaled_after : (cap : ℕ) {at : ℕ} (c : Inside at) (e : Event) (new : Inside at) → IsJournaled cap c
    → is_enabled (setting_of cap c.games) c.games.lanes e ≡ true → HandsFit e → new.games ≡ after cap c.games e → new.journal.events ≡ c.journal.events ++ e ∷ []
    → new.out ≡ jobs_out (after cap c.games e).lanes → new.journal.used + new.out ≤ new.journal.room → IsJournaled cap new
journaled_after cap c e new sound enabled fits games journal out room =
    journaled_told cap c e c.games.tallies new sound enabled fits games journal out room
