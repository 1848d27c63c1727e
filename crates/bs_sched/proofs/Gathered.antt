-- What is gathered of stays, game by game.
use Rattle.std.proofs.Common.{◌≡◌, ℕ, suc, ◌+◌, ◌*◌, ◌^◌, ◌<◌, List, [], ◌∷◌, ◌++◌, length, map, None, sym, ap, subst, ◌∙◌, arith, inl, inr}
use Rattle.std.specs.Prelude.{All}
use Rattle.std.proofs.lemmas.Bool.{cases_eq}
use Rattle.std.proofs.lemmas.List.{append_assoc, length_push, map-append, get_or_append_left, get_or_push}
use Rattle.std.proofs.lemmas.List.Elements.{All-nil, All-cons, All-append, All-weaker}
use Rattle.bs_board.specs.plans.Plan.{GameRow}
use Rattle.bs_board.specs.declared.commands.command.Command.{Command}
use Rattle.bs_pool.specs.declared.reservation.Reservation.{Reservation}
use Rattle.bs_pool.specs.Assembly.{AreNew, raised}
use Rattle.bs_pool.specs.Ledger.{Ledger, reservation_of}
use Rattle.bs_registry.specs.declared.blocks.TheConstants.{FRAME_BLOCKS, MOST_STAYS}
use Rattle.bs_registry.specs.Blocks.{record_blocks}
use Rattle.bs_sched.specs.declared.event.Event.{Event}
use Rattle.bs_sched.specs.declared.event.Event.TheVariants as event
use Rattle.bs_sched.specs.Assembly.{jobs_at, reservation_at, RanAlone}
use Rattle.bs_sched.specs.Core.{CoreView}
use Rattle.bs_sched.specs.Game.{GameView}
use Rattle.bs_sched.specs.inner.Assembling.{ArePlaced, IsWork}
use Rattle.bs_sched.specs.inner.Game.{no_game}
use Rattle.bs_sched.specs.inner.GamesLayout.{game_at}
use Rattle.bs_sched.specs.Isolation.{opened_lanes}
use Rattle.bs_sched.specs.Journal.{setting_in}
use Rattle.bs_sched.specs.PlanBlocks.{reservations_of}
use Rattle.bs_sched.specs.Registry.{registry_of}
use Rattle.bs_sched.specs.Storage.{frame_tag, record_tag}
use Rattle.bs_sched.proofs.Journaled.{keeps_apart}
use Rattle.bs_sched.proofs.OpenStays.{many_open, run_stays}
use Rattle.bs_sched.proofs.PlanBlocks.{none_from, none_next}

-- commands and jobs let no stay come or go

jobs_work : (row : ℕ) (journal : List Event) → All IsWork (jobs_at row journal)
jobs_work row [] = All-nil IsWork
jobs_work row (event.Hand game command ∷ journal) = jobs_work row journal
jobs_work row (event.Take worker job ∷ journal) = All-cons IsWork _ (jobs_at row journal) (record {}) (jobs_work row journal)
jobs_work row (event.Put worker job ∷ journal) = All-cons IsWork _ (jobs_at row journal) (record {}) (jobs_work row journal)
jobs_work row (event.Admit new ∷ journal) = jobs_work row journal
jobs_work row (event.Leave game ∷ journal) = jobs_work row journal

commands_work : (commands : List Command) → All IsWork (map (event.Hand 0) commands)
commands_work [] = All-nil IsWork
commands_work (command ∷ commands) = All-cons IsWork (event.Hand 0 command) (map (event.Hand 0) commands) (record {}) (commands_work commands)

pub one_lane : (cap workers : ℕ) (row : GameRow) (commands : List Command) (core : CoreView) → RanAlone cap workers row commands core → length core.games.lanes ≡ 1
one_lane cap workers row commands core alone =
    let work : All IsWork core.journal = subst (All IsWork) (sym alone.hands_first)
    (All-append IsWork (map (event.Hand 0) commands) (jobs_at 0 core.journal) (commands_work commands) (jobs_work 0 core.journal)) in
    many_open core.games.rows core.games.lanes
    (ap registry_of (sym (keeps_apart cap core alone.journaled).lanes) ∙ run_stays (setting_in cap core) (opened_lanes core.games.rows) core.journal work)
    ∙ ap length alone.plan

-- each core may be gathered in its turn

abbrev pub AreBelow : ℕ → List Reservation → Type 0
AreBelow row = All (λ (r : Reservation). r.tag < 2 * row)

abbrev IsNewAt : ℕ → Ledger → Reservation → Type 0
IsNewAt row whole r = (raised (record_tag row) r.tag < 2 ^ 32) × (reservation_of (raised (record_tag row) r.tag) whole ≡ None)

pub row_new : (cap row : ℕ) (plan_row : GameRow) (pool whole : Ledger) → pool.reservations ≡ reservations_of cap (plan_row ∷ []) → AreBelow row whole.reservations → row < MOST_STAYS
    → AreNew (record_tag row) pool whole
row_new cap row plan_row pool whole are below few =
    let records : Reservation = record { tag = record_tag 0; blocks = record_blocks cap plan_row } in
    let frames : Reservation = record { tag = frame_tag 0; blocks = FRAME_BLOCKS } in
    let one : 2 * row ≡ raised (record_tag row) records.tag = omega arith in
    let other : 2 * row + 1 ≡ raised (record_tag row) frames.tag = omega arith in
    let first : IsNewAt row whole records = (omega (arith, few), ap (λ tag. reservation_of tag whole) (sym one) ∙ none_from row whole below) in
    let second : IsNewAt row whole frames = (omega (arith, few), ap (λ tag. reservation_of tag whole) (sym other) ∙ none_next row whole below) in
    subst (All (IsNewAt row whole)) (sym are) (All-cons (IsNewAt row whole) records (frames ∷ []) first (All-cons (IsNewAt row whole) frames [] second (All-nil (IsNewAt row whole))))

pub still_below : (cap row : ℕ) (plan_row : GameRow) (pool whole : Ledger) → pool.reservations ≡ reservations_of cap (plan_row ∷ []) → AreBelow row whole.reservations
    → AreBelow (suc row) (whole.reservations ++ map (reservation_at row) pool.reservations)
still_below cap row plan_row pool whole are below =
    let records : Reservation = reservation_at row (record { tag = record_tag 0; blocks = record_blocks cap plan_row }) in
    let frames : Reservation = reservation_at row (record { tag = frame_tag 0; blocks = FRAME_BLOCKS }) in
    let Below : Reservation → Type 0 = λ r. r.tag < 2 * suc row in
    let old : AreBelow (suc row) whole.reservations = All-weaker (λ (r : Reservation). r.tag < 2 * row) Below (λ r less. omega (arith, less)) whole.reservations below in
    let new : AreBelow (suc row) (records ∷ frames ∷ [])
    = All-cons Below records (frames ∷ []) (omega arith) (All-cons Below frames [] (omega arith) (All-nil Below)) in
    subst (λ rs. AreBelow (suc row) (whole.reservations ++ map (reservation_at row) rs)) (sym are)
    (All-append Below whole.reservations (records ∷ frames ∷ []) old new)

-- one game more

pub pushed_placed : (row : ℕ) (games : List GameView) (v : GameView) → length games ≡ row → v.tag ≡ record_tag row → v.frames.tag ≡ frame_tag row → ArePlaced games
    → ArePlaced (games ++ v ∷ [])
pushed_placed row games v many tag frame_tag_is placed game less =
    let more = length_push games v in
    elim (cases_eq game row) [
      | inl here ↦
          let at : game_at (games ++ v ∷ []) game ≡ v = get_or_push games v no_game game (many ∙ sym here) in
          rw (at, here) (tag, frame_tag_is)
      | inr other ↦
          let within : game < length games = omega (arith, less, more, many, other) in
          rw (get_or_append_left games (v ∷ []) no_game game within) (placed game within)
    ]

pub pushed : {X : Type 0} (f : GameView → X) (games : List GameView) (v : GameView) (rest : List X) → map f (games ++ v ∷ []) ++ rest ≡ map f games ++ f v ∷ rest
pushed f games v rest = ap (λ xs. xs ++ rest) (map-append f games (v ∷ [])) ∙ append_assoc (map f games) (f v ∷ []) rest
