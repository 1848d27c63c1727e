-- The cores of games that ran apart, put together: the whole is its journal.
use Rattle.std.proofs.Common.{◌≡◌, ℕ, suc, true, ◌≤◌, ◌<◌, List, [], ◌∷◌, length, map, replicate, None, refl, sym, ap, subst, ◌∙◌, arith, inl, inr}
use Rattle.std.specs.Prelude.{All, count_by}
use Rattle.std.proofs.lemmas.Bool.{cases_eq}
use Rattle.std.proofs.lemmas.List.{length-replicate}
use Rattle.std.proofs.lemmas.List.Elements.{All-nil, All-cons, All-head, All-tail, All-append}
use Rattle.bs_board.specs.declared.commands.command.Command.{Command}
use Rattle.bs_board.specs.plans.Plan.{GameRow}
use Rattle.bs_game.specs.Answer.{Fits}
use Rattle.bs_pool.specs.Ledger.{is_unowned, size}
use Rattle.bs_sched.specs.declared.event.Event.{Event}
use Rattle.bs_sched.specs.declared.event.Event.TheVariants as event
use Rattle.bs_sched.specs.Assembly.{Hand, hand_event, commands_for, jobs_at, jobs_from, assembled_journal, own_lane, assembled, RanAlone, RanApart, core_at, setting_with, IsAssembled, AssemblyLaw}
use Rattle.bs_sched.specs.Core.{CoreView}
use Rattle.bs_sched.specs.Games.{row_at, opened}
use Rattle.bs_sched.specs.Isolation.{HandsFit, are_enabled, opened_lanes}
use Rattle.bs_sched.specs.Machine.{Setting}
use Rattle.bs_sched.specs.Memory.{games_run}
use Rattle.bs_registry.specs.Blocks.{blocks_of_all}
use Rattle.bs_sched.specs.PlanBlocks.{reservations_of}
use Rattle.bs_sched.specs.SharedMemory.{IsHosted}
use Rattle.bs_sched.proofs.ApartLanes.{for_this, for_others}
use Rattle.bs_sched.proofs.ApartRows.{AreAlone, rows_alone, rows_handed, lanes_law}
use Rattle.bs_sched.proofs.ApartRun.{storage_run, games_law, after_hands}
use Rattle.bs_sched.proofs.ApartNeeds.{all_left}
use Rattle.bs_sched.proofs.ApartReservations.{rows_reserved}
use Rattle.bs_sched.proofs.ApartGames.{all_unowned, rows_stored, owners_many}

-- the commands and the jobs are within the limits

pub jobs_fit : (row : ℕ) (journal : List Event) → All HandsFit (jobs_at row journal)
jobs_fit row [] = All-nil HandsFit
jobs_fit row (event.Hand game command ∷ journal) = jobs_fit row journal
jobs_fit row (event.Take worker job ∷ journal) = All-cons HandsFit _ (jobs_at row journal) (record {}) (jobs_fit row journal)
jobs_fit row (event.Put worker job ∷ journal) = All-cons HandsFit _ (jobs_at row journal) (record {}) (jobs_fit row journal)
jobs_fit row (event.Admit new ∷ journal) = jobs_fit row journal
jobs_fit row (event.Leave game ∷ journal) = jobs_fit row journal

all_jobs_fit : (row : ℕ) (cores : List CoreView) → All HandsFit (jobs_from row cores)
all_jobs_fit row [] = All-nil HandsFit
all_jobs_fit row (core ∷ cores) = All-append HandsFit (jobs_at row core.journal) (jobs_from (suc row) cores) (jobs_fit row core.journal) (all_jobs_fit (suc row) cores)

commands_fit : (commands : List Command) → All HandsFit (map (event.Hand 0) commands) → All Fits commands
commands_fit [] fits = All-nil Fits
commands_fit (command ∷ commands) fits =
    All-cons Fits command commands (All-head HandsFit (event.Hand 0 command) (map (event.Hand 0) commands) fits)
    (commands_fit commands (All-tail HandsFit (event.Hand 0 command) (map (event.Hand 0) commands) fits))

-- the commands of each row are
abbrev FitByRow : ℕ → List Hand → Type 0
FitByRow many hands = (row : ℕ) → row < many → All Fits (commands_for row hands)

fewer_fit : (many : ℕ) (hand : Hand) (hands : List Hand) → FitByRow many (hand ∷ hands) → FitByRow many hands
fewer_fit many hand hands fits row less =
    elim (cases_eq hand.row row) [
      | inl same ↦ All-tail Fits hand.command (commands_for row hands) (subst (All Fits) (for_this row hand hands same) (fits row less))
      | inr other ↦ subst (All Fits) (for_others row hand hands other) (fits row less)
    ]

hands_fit : (many : ℕ) (hands : List Hand) → All (λ hand. hand.row < many) hands → FitByRow many hands → All HandsFit (map hand_event hands)
hands_fit many [] within fits = All-nil HandsFit
hands_fit many (hand ∷ hands) within fits =
    let less = All-head (λ h. h.row < many) hand hands within in
    let first = All-head Fits hand.command (commands_for hand.row hands) (subst (All Fits) (for_this hand.row hand hands refl) (fits hand.row less)) in
    All-cons HandsFit (hand_event hand) (map hand_event hands) first
    (hands_fit many hands (All-tail (λ h. h.row < many) hand hands within) (fewer_fit many hand hands fits))

own_fit : (cap workers : ℕ) (row : GameRow) (commands : List Command) (core : CoreView) → RanAlone cap workers row commands core → All Fits commands
own_fit cap workers row commands core alone =
    commands_fit commands (all_left HandsFit (map (event.Hand 0) commands) (jobs_at 0 core.journal) (subst (All HandsFit) alone.hands_first alone.journaled.fits))

-- the law

module _ (cap blocks workers : ℕ) (plan : List GameRow) (hands : List Hand) (cores : List CoreView) (hosted : IsHosted (setting_with cap blocks workers) plan)
    (within : All (λ hand. hand.row < length plan) hands) (apart : RanApart cap workers plan hands cores) where
  abbrev all : Setting
  all = setting_with cap blocks workers

  abbrev whole : CoreView
  whole = assembled cap blocks workers plan hands cores

  abbrev journal : List Event
  journal = assembled_journal hands cores

  alone : AreAlone cap workers hands 0 plan cores
  alone = rows_alone cap workers plan hands cores apart

  room : blocks_of_all cap plan ≤ count_by is_unowned (replicate blocks None)
  room = let e = all_unowned blocks in let fit = hosted.room in omega (arith, e, fit)

  many : size whole.games.storage.pool ≡ blocks
  many = owners_many cap workers hands 0 (replicate blocks None) plan cores alone room ∙ length-replicate blocks None

  stored : storage_run cap all journal (opened_lanes plan) (opened cap blocks workers plan).storage ≡ whole.games.storage
  stored =
      after_hands cap all hands (jobs_from 0 cores) (opened_lanes plan) (opened cap blocks workers plan).storage
      ∙ ap (λ ls. storage_run cap all (jobs_from 0 cores) ls (opened cap blocks workers plan).storage) (rows_handed all plan hands within)
      ∙ rows_stored cap workers all refl hands (reservations_of cap plan) [] [] [] 0 (replicate blocks None) plan cores refl refl refl (λ worker. refl) alone room

  fits : All HandsFit journal
  fits =
      All-append HandsFit (map hand_event hands) (jobs_from 0 cores)
      (hands_fit (length plan) hands within
      (λ row less. own_fit cap workers (row_at plan row) (commands_for row hands) (core_at cores row) (apart.each row less)))
      (all_jobs_fit 0 cores)

  goes : games_run all (opened cap blocks workers plan) journal ≡ whole.games
  goes =
      let lanes = lanes_law cap workers all plan hands cores refl within apart in
      games_law all (opened cap blocks workers plan) journal lanes.enabled
      ∙ ap (λ ls. record (opened cap blocks workers plan) { lanes = ls; storage = storage_run cap all journal (opened_lanes plan) (opened cap blocks workers plan).storage }) lanes.lanes
      ∙ ap (λ s. record (opened cap blocks workers plan) { lanes = map own_lane cores; storage = s }) stored

  pub is_assembled : IsAssembled cap blocks workers plan hands cores
  is_assembled =
      let lanes = lanes_law cap workers all plan hands cores refl within apart in
      record {
        blocks_same = many;
        reserved = rows_reserved cap workers hands 0 plan cores alone;
        journaled = record {
          hosted = subst (λ b. IsHosted (setting_with cap b workers) plan) (sym many) hosted;
          fits = fits;
          enabled = subst (λ b. are_enabled (setting_with cap b workers) (opened_lanes plan) journal ≡ true) (sym many) lanes.enabled;
          games = ap (λ b. games_run (setting_with cap b workers) (opened cap b workers plan) journal) many ∙ goes;
        };
      }

pub assembly_law : AssemblyLaw
assembly_law cap blocks workers plan hands cores hosted within apart = is_assembled cap blocks workers plan hands cores hosted within apart
