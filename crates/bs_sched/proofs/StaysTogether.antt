-- Stays that come and go, each of which was played in a core of its own, gathered: the core that the
-- law of stays that come and go speaks of.
use Rattle.std.proofs.Common.{◌≡◌, ℕ, suc, ◌+◌, ◌*◌, ◌<◌, ◌≤◌, Bool, true, false, List, [], ◌∷◌, length, map, Option, refl, sym, ap, subst, ◌∙◌, arith}
use Rattle.std.specs.Prelude.{All}
use Rattle.std.proofs.lemmas.List.{length-map}
use Rattle.std.proofs.lemmas.List.Elements.{All-nil, All-cons}
use Rattle.bs_board.specs.plans.Plan.{GameRow}
use Rattle.bs_counter.specs.Keys.{TallyId}
use Rattle.bs_pool.specs.declared.reservation.Reservation.{Reservation}
use Rattle.bs_pool.specs.Assembly.{Assembled, unlaid}
use Rattle.bs_pool.specs.Ledger.{ledger_of}
use Rattle.bs_registry.specs.declared.blocks.TheConstants.{MOST_STAYS}
use Rattle.bs_sched.specs.declared.event.Event.{Event}
use Rattle.bs_sched.specs.declared.step.Step.{Step}
use Rattle.bs_sched.specs.Assembly.{own_lane, setting_with}
use Rattle.bs_sched.specs.Core.{CoreView, without_tallies}
use Rattle.bs_sched.specs.Game.{GameView}
use Rattle.bs_sched.specs.Games.{row_at}
use Rattle.bs_sched.specs.Journal.{IsItsJournal}
use Rattle.bs_sched.specs.Lane.{is_idle}
use Rattle.bs_sched.specs.LoneStay.{LoneView}
use Rattle.bs_sched.specs.SharedMemory.{IsHosted}
use Rattle.bs_sched.specs.StaysApart.{PlayedStay, all_rows, lane_kept, stay_of_row, stays_assembled}
use Rattle.bs_sched.specs.Registry.{commands_to}
use Rattle.bs_sched.specs.StaysHeld.{WerePlayed, blocks_held, lone_of}
use Rattle.bs_sched.specs.inner.Assembling.{ArePlaced, GatheredView, games_of, gathered_of}
use Rattle.bs_sched.specs.inner.GamesLayout.{lanes_in, tallies_in}
use Rattle.bs_sched.specs.inner.Journal.{core_of}
use Rattle.bs_sched.specs.inner.LoneStays.{AreNextStays, gathered_stays, stays_in, without_tally}
use Rattle.bs_sched.specs.inner.Merging.{merged}
use Rattle.bs_sched.proofs.GatheredStays.{EndsAsStays, HasRun, HaveRun, MayGatherStays, ends_as_stays, lanes_same, may_gather_stays, numbers_same, packings_same, placed_same}
use Rattle.bs_sched.proofs.Idle.{IsIdle}
use Rattle.bs_sched.proofs.Journaled.{keeps_apart}
use Rattle.bs_sched.proofs.MergedActs.{merged_stays}
use Rattle.bs_sched.proofs.StaysApart.{stays_apart_law}

-- no event leads to the tallies
abbrev with_tallies : List (Option TallyId) → CoreView → CoreView
with_tallies tallies core = record core { games = record core.games { tallies = tallies } }

still_its_journal : (cap : ℕ) (core : CoreView) (tallies : List (Option TallyId)) → IsItsJournal cap core → IsItsJournal cap (with_tallies tallies core)
still_its_journal cap core tallies is = record { hosted = is.hosted; fits = is.fits; enabled = is.enabled; games = is.games }

have_run : (cap workers : ℕ) (stays : List PlayedStay) → ((row : ℕ) → row < length stays → HasRun cap workers (stay_of_row stays row).core) → HaveRun cap workers stays
have_run cap workers [] each = record {}
have_run cap workers (stay ∷ stays) each = (each 0 (omega arith), have_run cap workers stays (λ row less. each (suc row) (omega (arith, less))))

kept_idle : (core : CoreView) (leaves : Bool) → is_idle (own_lane core).stage ≡ true → IsIdle (lane_kept (record { core = core; leaves = leaves }))
kept_idle core true idle = idle
kept_idle core false idle = idle

all_idle : (cap workers : ℕ) (stays : List PlayedStay) → HaveRun cap workers stays → All IsIdle (map lane_kept stays)
all_idle cap workers [] ran = All-nil IsIdle
all_idle cap workers (stay ∷ stays) ran =
    All-cons IsIdle (lane_kept stay) (map lane_kept stays) (kept_idle stay.core stay.leaves ran.0.alone.idle) (all_idle cap workers stays ran.1)

module _ (cap blocks workers free : ℕ) (plan : List GameRow) (lone : List LoneView) (order : List Step) (hosted : IsHosted (setting_with cap blocks workers) plan)
    (room : free + blocks_held lone ≡ blocks) (acts : List Event) (stays : List PlayedStay) (were : WerePlayed cap blocks workers plan lone order acts stays) where
  abbrev start : GatheredView
  start = gathered_of [] [] (unlaid blocks free)

  abbrev whole : CoreView
  whole = stays_assembled blocks workers plan acts stays

  ran : HaveRun cap workers stays
  ran =
      have_run cap workers stays
      (λ row less. record { row = row_at (all_rows plan acts) row; commands = commands_to row acts; alone = (were.apart.each row less).alone })

  journaled : IsItsJournal cap whole
  journaled = (stays_apart_law cap blocks workers plan acts stays hosted were.fits were.allowed were.apart).journaled

  few : length stays ≤ MOST_STAYS
  few = let made = (keeps_apart cap whole journaled).names.made in let many = length-map stays lane_kept in omega (arith, made, many)

  may : MayGatherStays 0 stays start
  may =
      let held = ap blocks_held were.same in
      let most = few in
      record { many = refl; few = omega (arith, most); room = omega (arith, room, held); below = All-nil (λ (r : Reservation). r.tag < 2 * 0) }

  are_next : AreNextStays 0 lone start
  are_next = subst (λ (vs : List LoneView). AreNextStays 0 vs start) were.same (may_gather_stays cap workers 0 stays start ran may)

  -- what is gathered in the end, and the journal that it is merged to
  pub record IsWholeStays (games : List GameView) (g : GatheredView) (events : List Event) : Type 0 where
    pub few : length g.journals ≤ MOST_STAYS
    pub none_missing : g.assembly.missing ≡ 0
    pub placed : ArePlaced games
    pub journal : IsItsJournal cap (core_of (games_of plan workers games g.assembly.ledger) events)
    pub idle : All IsIdle (lanes_in games)
    pub whole_is : without_tallies (core_of (games_of plan workers games g.assembly.ledger) events) ≡ whole

  whole_at : (games : List GameView) (g : GatheredView) (events : List Event) → map without_tally games ≡ g.games → events ≡ merged order g.journals
      → EndsAsStays 0 stays start g → IsWholeStays games g events
  whole_at games g events same merge ends =
      let left = ends.missing in
      let held = ap blocks_held were.same in
      let most = few in
      let lanes = sym (lanes_same games) ∙ ap lanes_in same ∙ ends.lanes in
      let packings = sym (packings_same games) ∙ ap (map (λ (v : GameView). v.packing)) same ∙ ends.packings in
      let numbers = sym (numbers_same games) ∙ ap (map (λ (v : GameView). v.frames.numbers)) same ∙ ends.numbers in
      let journal = merge ∙ ap (merged order) ends.journals ∙ ap (λ steps. merged steps (map (λ (v : LoneView). v.journal) (map lone_of stays))) (sym were.ordered)
      ∙ merged_stays cap blocks workers plan acts stays were.allowed were.apart in
      let many : length g.journals ≡ length stays
      = ap length ends.journals ∙ length-map (map lone_of stays) (λ (v : LoneView). v.journal) ∙ length-map stays lone_of in
      let is : core_of (games_of plan workers games g.assembly.ledger) events ≡ with_tallies (tallies_in games) whole
      = (λ i. core_of (record {
        rows = plan;
        workers = workers;
        failed = false;
        lanes = lanes i;
        storage = record { packings = packings i; frames = numbers i; pool = ledger_of (ends.owners i) (ends.reservations i) };
        tallies = tallies_in games;
      }) (journal i)) in
      record {
        few = omega (arith, many, most);
        none_missing = omega (arith, left, room, held);
        placed = placed_same games (subst ArePlaced (sym same) ends.placed);
        journal = subst (IsItsJournal cap) (sym is) (still_its_journal cap whole (tallies_in games) journaled);
        idle = subst (All IsIdle) (sym lanes) (all_idle cap workers stays ran);
        whole_is = ap without_tallies is;
      }

  -- the first stay finds no game, no journal, and all numbers free
  module _ (games : List GameView) (journals : List (List Event)) (assembly : Assembled) (none : games ≡ []) (none_left : journals ≡ []) (unused : assembly ≡ unlaid blocks free)
    where
      from_start : stays_in games journals assembly ≡ start
      from_start = (λ i. stays_in (none i) (none_left i) (unused i))

      pub next_stays : AreNextStays 0 lone (stays_in games journals assembly)
      next_stays = subst (AreNextStays 0 lone) (sym from_start) are_next

      pub whole_stays : (done : List GameView) (left : List (List Event)) (laid : Assembled) (events : List Event)
          → stays_in done left laid ≡ gathered_stays 0 lone (stays_in games journals assembly) → events ≡ merged order left
          → IsWholeStays done (stays_in done left laid) events
      whole_stays done left laid events is merge =
          whole_at done (stays_in done left laid) events refl merge
          (subst (EndsAsStays 0 stays start) (sym (is ∙ ap (gathered_stays 0 lone) from_start ∙ ap (λ (vs : List LoneView). gathered_stays 0 vs start) (sym were.same)))
          (ends_as_stays cap workers 0 stays start ran may (λ game less. absurd (omega (arith, less)))))
