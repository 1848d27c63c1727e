-- The reservations of games that ran apart: no job changes one.
use Rattle.std.proofs.Common.{◌≡◌, ℕ, suc, ◌+◌, Bool, true, false, if◌then◌else◌, List, [], ◌∷◌, ◌++◌, length, map, refl, sym, ap, ◌∙◌, arith}
use Rattle.bs_board.specs.plans.Plan.{GameRow}
use Rattle.bs_board.specs.declared.commands.command.Command.{Command}
use Rattle.bs_block.specs.Rounding.{rounded}
use Rattle.bs_pool.specs.declared.reservation.Reservation.{Reservation}
use Rattle.bs_pool.specs.Ledger.{Ledger, drawn, given}
use Rattle.bs_heap.specs.HeldBlocks.{all_given, next_number}
use Rattle.bs_heap.specs.Packing.{Packing, numbers_of, closed_numbers, fits}
use Rattle.bs_fiber.specs.declared.job.JobKind.{JobKind}
use Rattle.bs_fiber.specs.declared.job.JobKind.TheVariants as kind
use Rattle.bs_game.specs.declared.reply.Effect.{Effect}
use Rattle.bs_game.specs.declared.reply.Effect.TheVariants as effect
use Rattle.bs_sched.specs.declared.event.Event.{Event}
use Rattle.bs_sched.specs.declared.event.Event.TheVariants as event
use Rattle.bs_registry.specs.declared.blocks.TheConstants.{FRAME_BLOCKS}
use Rattle.bs_sched.specs.Assembly.{Hand, commands_for, job_at, jobs_at, tag_at, reservation_at, reservations_laid, RanAlone}
use Rattle.bs_sched.specs.Core.{CoreView}
use Rattle.bs_sched.specs.Frames.{flattened}
use Rattle.bs_sched.specs.Games.{storage_taken, storage_put, answer_effect}
use Rattle.bs_sched.specs.Journal.{setting_in}
use Rattle.bs_sched.specs.Lane.{Lane, empty_lane, goes_on, forked}
use Rattle.bs_sched.specs.Machine.{Setting, lane_of, step}
use Rattle.bs_registry.specs.Blocks.{record_blocks}
use Rattle.bs_sched.specs.PlanBlocks.{reservations_from, reservations_of}
use Rattle.bs_sched.specs.Storage.{Storage, packing_of, frames_of, pool_after, record_tag, frame_tag, stored, with_parts}
use Rattle.bs_sched.proofs.ApartLanes.{queued}
use Rattle.bs_sched.proofs.ApartRows.{AreAlone}
use Rattle.bs_sched.proofs.ApartRun.{storage_run}
use Rattle.bs_sched.proofs.ApartNeeds.{first_storage, own_storage}

abbrev reserved_in : Storage → List Reservation
reserved_in s = s.pool.reservations

given_kept : (numbers : List ℕ) (pool : Ledger) → (all_given numbers pool).reservations ≡ pool.reservations
given_kept [] pool = refl
given_kept (n ∷ numbers) pool = given_kept numbers (given n pool)

added_kept : (tag : ℕ) (pool : Ledger) (b : Bool) → (if b then pool else drawn tag (next_number pool) pool).reservations ≡ pool.reservations
added_kept tag pool true = refl
added_kept tag pool false = refl

after_kept : (cap tag : ℕ) (effect : Effect) (p : Packing) (pool : Ledger) → (pool_after cap tag effect p pool).reservations ≡ pool.reservations
after_kept cap tag effect.Keep p pool = refl
after_kept cap tag (effect.Add bytes) p pool = added_kept tag pool (fits cap (rounded (length bytes)) p.current)
after_kept cap tag effect.Trim p pool = given_kept (closed_numbers p) pool
after_kept cap tag effect.Drop p pool = given_kept (numbers_of p) pool

begun_kept : (cap game : ℕ) (x : Lane) (s : Storage) (b : Bool)
    → reserved_in (if b then with_parts game (length (forked x).parts) s else stored cap game (answer_effect x) s) ≡ reserved_in s
begun_kept cap game x s true = refl
begun_kept cap game x s false = after_kept cap (record_tag game) (answer_effect x) (packing_of s game) s.pool

put_kept : (cap game : ℕ) (job : JobKind) (x : Lane) (s : Storage) → reserved_in (storage_put job cap game x s) ≡ reserved_in s
put_kept cap game kind.Begin x s = begun_kept cap game x s (goes_on x)
put_kept cap game kind.Part x s = refl
put_kept cap game kind.Join x s =
    given_kept (flattened (frames_of s game)) (pool_after cap (record_tag game) (answer_effect x) (packing_of s game) s.pool)
    ∙ after_kept cap (record_tag game) (answer_effect x) (packing_of s game) s.pool

taken_kept : (game part : ℕ) (job : JobKind) (s : Storage) → reserved_in (storage_taken job game part s) ≡ reserved_in s
taken_kept game part kind.Begin s = refl
taken_kept game part kind.Part s = refl
taken_kept game part kind.Join s = refl

run_kept : (cap : ℕ) (setting : Setting) (journal : List Event) (lanes : List Lane) (s : Storage)
    → reserved_in (storage_run cap setting (jobs_at 0 journal) lanes s) ≡ reserved_in s
run_kept cap setting [] lanes s = refl
run_kept cap setting (event.Hand game command ∷ journal) lanes s = run_kept cap setting journal lanes s
run_kept cap setting (event.Take worker job ∷ journal) lanes s =
    run_kept cap setting journal (step setting lanes (event.Take worker (job_at 0 job))) (storage_taken job.kind 0 job.part s) ∙ taken_kept 0 job.part job.kind s
run_kept cap setting (event.Put worker job ∷ journal) lanes s =
    run_kept cap setting journal (step setting lanes (event.Put worker (job_at 0 job))) (storage_put job.kind cap 0 (lane_of lanes 0) s)
    ∙ put_kept cap 0 job.kind (lane_of lanes 0) s
run_kept cap setting (event.Admit new ∷ journal) lanes s = run_kept cap setting journal lanes s
run_kept cap setting (event.Leave game ∷ journal) lanes s = run_kept cap setting journal lanes s

pub own_reserved : (cap workers : ℕ) (row : GameRow) (commands : List Command) (core : CoreView) → RanAlone cap workers row commands core
    → core.games.storage.pool.reservations ≡ reservations_of cap (row ∷ [])
own_reserved cap workers row commands core alone =
    ap reserved_in (sym (own_storage cap workers row commands core alone).storage)
    ∙ run_kept cap (setting_in cap core) core.journal (queued commands (empty_lane row) ∷ []) (first_storage cap row core)

pub two_reservations : (cap game : ℕ) (row : GameRow) (rest : List Reservation) → map (reservation_at game) (reservations_of cap (row ∷ [])) ++ rest
    ≡ record { tag = record_tag game; blocks = record_blocks cap row } ∷ record { tag = frame_tag game; blocks = FRAME_BLOCKS } ∷ rest
two_reservations cap game row rest =
    let records : tag_at game (record_tag 0) ≡ record_tag game = omega arith in
    let frames : tag_at game (frame_tag 0) ≡ frame_tag game = omega arith in
    ap (λ tag. record { tag = tag; blocks = record_blocks cap row } ∷ record { tag = tag_at game (frame_tag 0); blocks = FRAME_BLOCKS } ∷ rest) records
    ∙ ap (λ tag. record { tag = record_tag game; blocks = record_blocks cap row } ∷ record { tag = tag; blocks = FRAME_BLOCKS } ∷ rest) frames

pub rows_reserved : (cap workers : ℕ) (hands : List Hand) (game : ℕ) (rows : List GameRow) (cores : List CoreView) → AreAlone cap workers hands game rows cores
    → reservations_laid game cores ≡ reservations_from cap game rows
rows_reserved cap workers hands game [] [] alone = refl
rows_reserved cap workers hands game [] (core ∷ cores) alone = absurd alone
rows_reserved cap workers hands game (row ∷ rows) [] alone = absurd alone
rows_reserved cap workers hands game (row ∷ rows) (core ∷ cores) alone =
    let next : suc game ≡ game + 1 = omega arith in
    ap (λ rs. map (reservation_at game) rs ++ reservations_laid (suc game) cores) (own_reserved cap workers row (commands_for game hands) core alone.0)
    ∙ ap (λ rs. map (reservation_at game) (reservations_of cap (row ∷ [])) ++ rs)
    (rows_reserved cap workers hands (suc game) rows cores alone.1 ∙ ap (λ g. reservations_from cap g rows) next)
    ∙ two_reservations cap game row (reservations_from cap (game + 1) rows)
