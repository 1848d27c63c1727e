-- Newly opened cores of all rows are the newly opened core of the plan.
use Rattle.std.proofs.Common.{◌≡◌, ℕ, suc, ◌<◌, ◌≤◌, true, false, List, [], ◌∷◌, length, map, replicate, Option, None, refl, sym, ap, subst, ◌∙◌, arith}
use Rattle.std.specs.Prelude.{count_by}
use Rattle.std.proofs.lemmas.List.{get_or-map, length-map, length-replicate}
use Rattle.std.proofs.lemmas.List.Elements.{All-nil, All-cons, All-get_or}
use Rattle.std.proofs.lemmas.List.Sums.{sum_by-cons}
use Rattle.bs_board.specs.plans.Plan.{GameRow, row_of, is_fit_row, IsFitPlan}
use Rattle.bs_heap.specs.Packing.{Packing, no_packing}
use Rattle.bs_pool.specs.Ledger.{ledger_of, is_unowned}
use Rattle.bs_sched.specs.declared.event.Event.{Event}
use Rattle.bs_sched.specs.Assembly.{jobs_from, tag_at, owners_with, owners_from, packings_from, own_lane, own_frames, RanAlone, setting_with, opened_apart, SharingLaw}
use Rattle.bs_sched.specs.Core.{CoreView, opened_core}
use Rattle.bs_sched.specs.Games.{row_at}
use Rattle.bs_sched.specs.Lane.{Lane, empty_lane}
use Rattle.bs_registry.specs.Blocks.{blocks_of, blocks_of_all}
use Rattle.bs_sched.specs.PlanBlocks.{reservations_of}
use Rattle.bs_sched.specs.SharedMemory.{IsHosted}
use Rattle.bs_pool.proofs.Woven.{fresh_woven}
use Rattle.bs_sched.proofs.ApartGames.{all_unowned}
use Rattle.bs_sched.proofs.Journaled.{opened_journal}

abbrev IsFitRow : GameRow → Type 0
IsFitRow row = is_fit_row row ≡ true

-- a row of a plan is a plan
row_fits : (plan : List GameRow) (row : ℕ) → IsFitPlan plan → row < length plan → IsFitPlan (row_at plan row ∷ [])
row_fits plan row fit less =
    let few = fit.few in
    record {
      rows_fit = All-cons IsFitRow (row_at plan row) [] (All-get_or IsFitRow plan row (row_of [] 0) less fit.rows_fit) (All-nil IsFitRow);
      distinct = refl;
      few = omega (arith, few, less);
    }

pub row_hosted : (cap blocks workers : ℕ) (plan : List GameRow) (row : ℕ) → IsHosted (setting_with cap blocks workers) plan → row < length plan
    → IsHosted (setting_with cap (blocks_of cap (row_at plan row)) workers) (row_at plan row ∷ [])
row_hosted cap blocks workers plan row hosted less =
    let one = sum_by-cons (blocks_of cap) (row_at plan row) [] in
    record { wide = hosted.wide; plan = row_fits plan row hosted.plan less; room = omega (arith, one) }

opened_alone : (cap workers : ℕ) (row : GameRow) → IsHosted (setting_with cap (blocks_of cap row) workers) (row ∷ [])
    → RanAlone cap workers row [] (opened_core cap (blocks_of cap row) workers (row ∷ []))
opened_alone cap workers row hosted =
    let many = length-replicate (blocks_of cap row) None in
    record {
      journaled = opened_journal cap (blocks_of cap row) workers (row ∷ []) hosted many;
      plan = refl;
      workers_same = refl;
      blocks = many;
      hands_first = refl;
      idle = refl;
    }

pub record IsFresh (cap workers game : ℕ) (owners : List (Option ℕ)) (rows : List GameRow) : Type 0 where
  pub packings : packings_from game owners (opened_apart cap workers rows) ≡ map (λ _. no_packing) rows
  pub owners_same : owners_from game owners (opened_apart cap workers rows) ≡ owners

fresh_from : (cap workers game : ℕ) (owners : List (Option ℕ)) (rows : List GameRow) → blocks_of_all cap rows ≤ count_by is_unowned owners
    → IsFresh cap workers game owners rows
fresh_from cap workers game owners [] room = record { packings = refl; owners_same = refl }
fresh_from cap workers game owners (row ∷ rows) room =
    let all = sum_by-cons (blocks_of cap) row rows in
    let cores = opened_apart cap workers rows in
    let same : owners_with game owners (opened_core cap (blocks_of cap row) workers (row ∷ [])) ≡ owners
    = fresh_woven (tag_at game) owners (blocks_of cap row) (omega (arith, all, room)) in
    let later = fresh_from cap workers (suc game) owners rows (omega (arith, all, room)) in
    record {
      packings = ap (λ os. no_packing ∷ packings_from (suc game) os cores) same ∙ ap (λ ps. no_packing ∷ ps) later.packings;
      owners_same = ap (λ os. owners_from (suc game) os cores) same ∙ later.owners_same;
    }

fresh_lanes : (cap workers : ℕ) (rows : List GameRow) → map own_lane (opened_apart cap workers rows) ≡ map empty_lane rows
fresh_lanes cap workers [] = refl
fresh_lanes cap workers (row ∷ rows) = ap (λ ls. empty_lane row ∷ ls) (fresh_lanes cap workers rows)

fresh_frames : (cap workers : ℕ) (rows : List GameRow) → map own_frames (opened_apart cap workers rows) ≡ map (λ _. []) rows
fresh_frames cap workers [] = refl
fresh_frames cap workers (row ∷ rows) = ap (λ fs. [] ∷ fs) (fresh_frames cap workers rows)

no_jobs : (cap workers game : ℕ) (rows : List GameRow) → jobs_from game (opened_apart cap workers rows) ≡ []
no_jobs cap workers game [] = refl
no_jobs cap workers game (row ∷ rows) = no_jobs cap workers (suc game) rows

abbrev whole_with : ℕ → ℕ → List GameRow → List Lane → List Packing → List (List (Option ℕ)) → List (Option ℕ) → List Event → CoreView
whole_with cap workers plan lanes packings frames owners journal =
    record {
      games = record {
        rows = plan;
        workers = workers;
        failed = false;
        lanes = lanes;
        storage = record { packings = packings; frames = frames; pool = ledger_of owners (reservations_of cap plan) };
        tallies = [];
      };
      journal = journal;
    }

pub sharing_law : SharingLaw
sharing_law cap blocks workers plan hosted =
    let cores = opened_apart cap workers plan in
    let none = replicate blocks None in
    let e = all_unowned blocks in
    let room = hosted.room in
    let fresh = fresh_from cap workers 0 none plan (omega (arith, e, room)) in
    record {
      apart = record {
        many = length-map plan (λ row. opened_core cap (blocks_of cap row) workers (row ∷ []));
        each = λ row less.
            subst (RanAlone cap workers (row_at plan row) [])
            (sym (get_or-map (λ r. opened_core cap (blocks_of cap r) workers (r ∷ [])) plan row (row_of [] 0) (opened_core 0 0 0 []) less))
            (opened_alone cap workers (row_at plan row) (row_hosted cap blocks workers plan row hosted less));
      };
      whole =
          ap (λ ls. whole_with cap workers plan ls (packings_from 0 none cores) (map own_frames cores) (owners_from 0 none cores) (jobs_from 0 cores)) (fresh_lanes cap workers plan)
          ∙ ap (λ ps. whole_with cap workers plan (map empty_lane plan) ps (map own_frames cores) (owners_from 0 none cores) (jobs_from 0 cores)) fresh.packings
          ∙ ap (λ fs. whole_with cap workers plan (map empty_lane plan) (map (λ _. no_packing) plan) fs (owners_from 0 none cores) (jobs_from 0 cores)) (fresh_frames cap workers plan)
          ∙ ap (λ os. whole_with cap workers plan (map empty_lane plan) (map (λ _. no_packing) plan) (map (λ _. []) plan) os (jobs_from 0 cores)) fresh.owners_same
          ∙ ap (whole_with cap workers plan (map empty_lane plan) (map (λ _. no_packing) plan) (map (λ _. []) plan) none) (no_jobs cap workers 0 plan);
    }
