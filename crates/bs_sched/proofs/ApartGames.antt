-- The storage of all games that ran apart, one core after the other.
use Rattle.std.proofs.Common.{◌≡◌, ℕ, zero, suc, ◌+◌, ◌≤◌, List, [], ◌∷◌, ◌++◌, length, map, replicate, Option, Some, None, refl, sym, ap, subst, ◌∙◌, arith}
use Rattle.std.specs.Prelude.{count_by, option_map}
use Rattle.std.proofs.lemmas.List.{append_assoc, length_push}
use Rattle.std.proofs.lemmas.List.Sums.{sum_by-cons}
use Rattle.bs_board.specs.plans.Plan.{GameRow}
use Rattle.bs_heap.specs.Packing.{Packing, no_packing}
use Rattle.bs_pool.proofs.Counts.{count_cons}
use Rattle.bs_pool.specs.declared.reservation.Reservation.{Reservation}
use Rattle.bs_pool.specs.Ledger.{ledger_of, is_unowned, size}
use Rattle.bs_heap.specs.Renaming.{renamed_packing}
use Rattle.bs_sched.specs.Assembly.{Hand, commands_for, jobs_at, jobs_from, tag_at, owners_with, owners_from, packings_from, own_lane, own_frames, RanAlone}
use Rattle.bs_sched.specs.Core.{CoreView}
use Rattle.bs_sched.specs.Isolation.{opened_lanes}
use Rattle.bs_sched.specs.Journal.{setting_in}
use Rattle.bs_sched.specs.Lane.{Lane, empty_lane}
use Rattle.bs_sched.specs.Machine.{Setting}
use Rattle.bs_registry.specs.Blocks.{blocks_of, blocks_of_all}
use Rattle.bs_sched.specs.Storage.{Storage, packing_of}
use Rattle.bs_pool.specs.Woven.{woven, place_in}
use Rattle.bs_pool.proofs.Woven.{fresh_woven, size_woven}
use Rattle.bs_sched.proofs.ApartLanes.{AreFree, queued, handed}
use Rattle.bs_sched.proofs.ApartRows.{AreAlone, handed_free, free_push, row_beside}
use Rattle.bs_sched.proofs.ApartRun.{storage_run, storage_run_after, jobs_stored}
use Rattle.bs_sched.proofs.ApartStep.{beside}
use Rattle.bs_sched.proofs.ApartNeeds.{first_storage, own_storage, frames_stay}

-- room

-- as many numbers stay free as the part does not have
pub room_woven : (rename : ℕ → ℕ) (whole part : List (Option ℕ)) → count_by is_unowned whole ≤ count_by is_unowned (woven rename whole part) + length part
room_woven rename [] part = omega arith
room_woven rename (Some owner ∷ whole) part =
    let rest = room_woven rename whole part in
    let a = count_cons is_unowned (Some owner) whole in
    let b = count_cons is_unowned (Some owner) (woven rename whole part) in
    omega (arith, rest, a, b)
room_woven rename (None ∷ whole) [] =
    let rest = room_woven rename whole [] in
    let a = count_cons is_unowned None whole in
    let b = count_cons is_unowned None (woven rename whole []) in
    omega (arith, rest, a, b)
room_woven rename (None ∷ whole) (o ∷ part) =
    let rest = room_woven rename whole part in
    let a = count_cons is_unowned None whole in
    let b = count_cons is_unowned (option_map rename o) (woven rename whole part) in
    omega (arith, rest, a, b)

pub all_unowned : (n : ℕ) → count_by is_unowned (replicate n None) ≡ n
all_unowned zero = refl
all_unowned (suc n) =
    let e = count_cons is_unowned None (replicate n None) in
    let rest = all_unowned n in
    omega (arith, e, rest)

-- the row's blocks are free, and then those of the rows after it
pub record HasRoom (cap game : ℕ) (owners : List (Option ℕ)) (rows : List GameRow) (core : CoreView) : Type 0 where
  pub here : size core.games.storage.pool ≤ count_by is_unowned owners
  pub later : blocks_of_all cap rows ≤ count_by is_unowned (owners_with game owners core)

has_room : (cap workers game : ℕ) (owners : List (Option ℕ)) (row : GameRow) (rows : List GameRow) (hands : List Hand) (core : CoreView)
    → RanAlone cap workers row (commands_for game hands) core → blocks_of_all cap (row ∷ rows) ≤ count_by is_unowned owners → HasRoom cap game owners rows core
has_room cap workers game owners row rows hands core alone room =
    let all = sum_by-cons (blocks_of cap) row rows in
    let mine = alone.blocks in
    let kept = room_woven (tag_at game) owners core.games.storage.pool.owners in
    record { here = omega (arith, all, mine, room); later = omega (arith, all, mine, room, kept) }

module _ (cap workers : ℕ) (all : Setting) (same : all.workers ≡ workers) (hands : List Hand) (rs : List Reservation) where
  -- the storage while the rows from here on have no record
  abbrev pub before_rows : List Packing → List (List (Option ℕ)) → List (Option ℕ) → List GameRow → Storage
  before_rows packings frames owners rows =
      record { packings = packings ++ map (λ _. no_packing) rows; frames = frames ++ map (λ _. []) rows; pool = ledger_of owners rs }

  abbrev pub after_rows : List Packing → List (List (Option ℕ)) → ℕ → List (Option ℕ) → List CoreView → Storage
  after_rows packings frames game owners cores =
      record {
        packings = packings ++ packings_from game owners cores;
        frames = frames ++ map own_frames cores;
        pool = ledger_of (owners_from game owners cores) rs;
      }

  abbrev packing_here : List (Option ℕ) → CoreView → Packing
  packing_here owners core = renamed_packing (place_in owners) (packing_of core.games.storage 0)

  -- the storage once the core of one row is laid into it
  abbrev laid_row : List Packing → List (List (Option ℕ)) → ℕ → List (Option ℕ) → List GameRow → CoreView → Storage
  laid_row packings frames game owners rows core =
      record {
        packings = packings ++ packing_here owners core ∷ map (λ _. no_packing) rows;
        frames = frames ++ own_frames core ∷ map (λ _. []) rows;
        pool = ledger_of (owners_with game owners core) rs;
      }

  row_stored : (done : List Lane) (packings : List Packing) (frames : List (List (Option ℕ))) (game : ℕ) (owners : List (Option ℕ)) (row : GameRow) (rows : List GameRow)
      (core : CoreView) → length done ≡ game → length packings ≡ game → length frames ≡ game → AreFree done → RanAlone cap workers row (commands_for game hands) core
      → size core.games.storage.pool ≤ count_by is_unowned owners
      → storage_run cap all (jobs_at game core.journal) (done ++ handed hands game (opened_lanes (row ∷ rows))) (before_rows packings frames owners (row ∷ rows))
      ≡ laid_row packings frames game owners rows core
  row_stored done packings frames game owners row rows core long many_packings many_frames free alone room =
      let mine = setting_in cap core in
      let x = queued (commands_for game hands) (empty_lane row) in
      let rest = handed hands (suc game) (opened_lanes rows) in
      let first = first_storage cap row core in
      let fresh = fresh_woven (tag_at (length done)) owners (size core.games.storage.pool) room in
      let own = own_storage cap workers row (commands_for game hands) core alone in
      let at_packings : length packings ≡ length done = many_packings ∙ sym long in
      let at_frames : length frames ≡ length done = many_frames ∙ sym long in
      let rest_packings = map (λ (r : GameRow). no_packing) rows in
      let rest_frames = map (λ (r : GameRow). []) rows in
      let laid = beside (length done) owners rs packings rest_packings frames rest_frames at_packings at_frames in
      let stored = jobs_stored cap mine all (alone.workers_same ∙ sym same) done rest free (handed_free hands (suc game) rows) owners rs packings rest_packings frames
      rest_frames at_packings at_frames core.journal x first refl own.can in
      let one : storage_run cap all (jobs_at (length done) core.journal) (done ++ x ∷ rest) (before_rows packings frames owners (row ∷ rows))
      ≡ laid_row packings frames (length done) owners rows core
      = ap (λ os. storage_run cap all (jobs_at (length done) core.journal) (done ++ x ∷ rest) (before_rows packings frames os (row ∷ rows))) (sym fresh)
      ∙ stored ∙ ap laid own.storage
      ∙ ap (λ f. record {
        packings = packings ++ packing_here owners core ∷ rest_packings;
        frames = frames ++ f ∷ rest_frames;
        pool = ledger_of (owners_with (length done) owners core) rs;
      }) (frames_stay cap workers row (commands_for game hands) core (place_in owners) alone) in
      subst (λ g. storage_run cap all (jobs_at g core.journal) (done ++ x ∷ rest) (before_rows packings frames owners (row ∷ rows))
      ≡ laid_row packings frames g owners rows core) long one

  pub rows_stored : (done : List Lane) (packings : List Packing) (frames : List (List (Option ℕ))) (game : ℕ) (owners : List (Option ℕ)) (rows : List GameRow)
      (cores : List CoreView) → length done ≡ game → length packings ≡ game → length frames ≡ game → AreFree done → AreAlone cap workers hands game rows cores
      → blocks_of_all cap rows ≤ count_by is_unowned owners
      → storage_run cap all (jobs_from game cores) (done ++ handed hands game (opened_lanes rows)) (before_rows packings frames owners rows)
      ≡ after_rows packings frames game owners cores
  rows_stored done packings frames game owners [] [] long many_packings many_frames free alone room = refl
  rows_stored done packings frames game owners [] (core ∷ cores) long many_packings many_frames free alone room = absurd alone
  rows_stored done packings frames game owners (row ∷ rows) [] long many_packings many_frames free alone room = absurd alone
  rows_stored done packings frames game owners (row ∷ rows) (core ∷ cores) long many_packings many_frames free alone room =
      let y = own_lane core in
      let p = packing_here owners core in
      let f = own_frames core in
      let owners' = owners_with game owners core in
      let lanes = done ++ handed hands game (opened_lanes (row ∷ rows)) in
      let jobs = jobs_at game core.journal in
      let later = jobs_from (suc game) cores in
      let has = has_room cap workers game owners row rows hands core alone.0 room in
      let one = row_stored done packings frames game owners row rows core long many_packings many_frames free alone.0 has.here in
      let next = (row_beside cap workers all same hands done game row rows core long free alone.0).next in
      let lanes' = (done ++ y ∷ []) ++ handed hands (suc game) (opened_lanes rows) in
      let goes = rows_stored (done ++ y ∷ []) (packings ++ p ∷ []) (frames ++ f ∷ []) (suc game) owners' rows cores
      (let e = length_push done y in omega (arith, e, long))
      (let e = length_push packings p in omega (arith, e, many_packings))
      (let e = length_push frames f in omega (arith, e, many_frames))
      (free_push done y free alone.0.idle) alone.1 has.later in
      storage_run_after cap all jobs later lanes (before_rows packings frames owners (row ∷ rows))
      ∙ ap (λ ls. storage_run cap all later ls (storage_run cap all jobs lanes (before_rows packings frames owners (row ∷ rows)))) next
      ∙ ap (storage_run cap all later lanes') one
      ∙ ap (λ ps. storage_run cap all later lanes' (record { packings = ps; frames = frames ++ f ∷ map (λ (r : GameRow). []) rows; pool = ledger_of owners' rs }))
      (sym (append_assoc packings (p ∷ []) (map (λ (r : GameRow). no_packing) rows)))
      ∙ ap (λ fs. storage_run cap all later lanes' (record { packings = (packings ++ p ∷ []) ++ map (λ (r : GameRow). no_packing) rows; frames = fs; pool = ledger_of owners' rs }))
      (sym (append_assoc frames (f ∷ []) (map (λ (r : GameRow). []) rows)))
      ∙ goes
      ∙ ap (λ ps. record { packings = ps; frames = (frames ++ f ∷ []) ++ map own_frames cores; pool = ledger_of (owners_from (suc game) owners' cores) rs })
      (append_assoc packings (p ∷ []) (packings_from (suc game) owners' cores))
      ∙ ap (λ fs. record { packings = packings ++ packings_from game owners (core ∷ cores); frames = fs; pool = ledger_of (owners_from (suc game) owners' cores) rs })
      (append_assoc frames (f ∷ []) (map own_frames cores))

-- no number comes or goes
pub owners_many : (cap workers : ℕ) (hands : List Hand) (game : ℕ) (owners : List (Option ℕ)) (rows : List GameRow) (cores : List CoreView)
    → AreAlone cap workers hands game rows cores → blocks_of_all cap rows ≤ count_by is_unowned owners → length (owners_from game owners cores) ≡ length owners
owners_many cap workers hands game owners [] [] alone room = refl
owners_many cap workers hands game owners [] (core ∷ cores) alone room = absurd alone
owners_many cap workers hands game owners (row ∷ rows) [] alone room = absurd alone
owners_many cap workers hands game owners (row ∷ rows) (core ∷ cores) alone room =
    let has = has_room cap workers game owners row rows hands core alone.0 room in
    owners_many cap workers hands (suc game) (owners_with game owners core) rows cores alone.1 has.later
    ∙ size_woven (tag_at game) owners core.games.storage.pool.owners has.here
