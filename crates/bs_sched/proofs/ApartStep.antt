-- One event of a core of one game on its storage, beside the same event on the storage of all.
use Rattle.std.proofs.Common.{◌≡◌, ℕ, zero, suc, Bool, true, false, if◌then◌else◌, List, [], ◌∷◌, ◌++◌, length, map, replicate, Option, Some, None, refl, sym, ap, subst, ◌∙◌, arith}
use Rattle.std.specs.Prelude.{option_map, slice_set}
use Rattle.std.proofs.lemmas.List.{get_or_at, set_at, length-set, map-set}
use Rattle.bs_block.specs.Rounding.{rounded}
use Rattle.bs_pool.specs.declared.reservation.Reservation.{Reservation}
use Rattle.bs_pool.specs.Ledger.{Ledger, ledger_of, drawn, least_free}
use Rattle.bs_heap.specs.HeldBlocks.{all_given, next_number}
use Rattle.bs_heap.specs.Packing.{Packing, no_packing, numbers_of, closed_numbers, fits, with_block, with_place}
use Rattle.bs_fiber.specs.declared.job.JobKind.{JobKind}
use Rattle.bs_fiber.specs.declared.job.JobKind.TheVariants as kind
use Rattle.bs_game.specs.declared.reply.Effect.{Effect}
use Rattle.bs_game.specs.declared.reply.Effect.TheVariants as effect
use Rattle.bs_heap.specs.Renaming.{renamed_packing}
use Rattle.bs_sched.specs.Assembly.{tag_at}
use Rattle.bs_sched.specs.Frames.{flattened}
use Rattle.bs_sched.specs.Games.{storage_taken, storage_put, put_effect, answer_effect}
use Rattle.bs_sched.specs.Lane.{Lane, goes_on, forked}
use Rattle.bs_sched.specs.Memory.{CanDraw}
use Rattle.bs_sched.specs.Storage.{Storage, packing_of, frames_of, packing_after, pool_after, record_tag, frame_tag, stored, with_parts, with_frame, without_frames}
use Rattle.bs_pool.specs.Woven.{place_in}
use Rattle.bs_sched.proofs.ApartStorage.{whole_ledger, AreBelow, block_apart, place_apart, fits_apart, packings_law, pool_law, gives_law, draws_law, frames_apart}

-- the storage of a core of one game
abbrev pub lone_storage : Packing → List (Option ℕ) → Ledger → Storage
lone_storage p f pool = record { packings = p ∷ []; frames = f ∷ []; pool = pool }

abbrev pub renamed_frames : (ℕ → ℕ) → List (Option ℕ) → List (Option ℕ)
renamed_frames number = map (option_map number)

abbrev pub IsLone : Storage → Type 0
IsLone s = s ≡ lone_storage (packing_of s 0) (frames_of s 0) s.pool

-- the packing after an effect, whichever number is next where none is needed

module _ (rename : ℕ → ℕ) (before : List (Option ℕ)) (rs : List Reservation) where
  added_packing : (len : ℕ) (p : Packing) (pool : Ledger) (b : Bool) → (b ≡ false → least_free pool ≡ Some (next_number pool))
      → with_place len (if b then renamed_packing (place_in before) p else with_block (next_number (whole_ledger rename before rs pool)) (renamed_packing (place_in before) p))
      ≡ renamed_packing (place_in before) (with_place len (if b then p else with_block (next_number pool) p))
  added_packing len p pool true can = place_apart (place_in before) len p
  added_packing len p pool false can =
      ap (λ m. with_place len (with_block m (renamed_packing (place_in before) p))) (draws_law rename before rs 0 (next_number pool) pool (can refl)).0
      ∙ ap (with_place len) (block_apart (place_in before) (next_number pool) p)
      ∙ place_apart (place_in before) len (with_block (next_number pool) p)

  packing_whole : (cap : ℕ) (effect : Effect) (p : Packing) (pool : Ledger) → CanDraw cap effect p pool
      → packing_after cap (next_number (whole_ledger rename before rs pool)) effect (renamed_packing (place_in before) p)
      ≡ renamed_packing (place_in before) (packing_after cap (next_number pool) effect p)
  packing_whole cap effect.Keep p pool can = refl
  packing_whole cap (effect.Add bytes) p pool can =
      ap (λ (b : Bool). with_place (length bytes) (if b then renamed_packing (place_in before) p else with_block (next_number (whole_ledger rename before rs pool)) (renamed_packing (place_in before) p)))
      (fits_apart (place_in before) cap (rounded (length bytes)) p.current)
      ∙ added_packing (length bytes) p pool (fits cap (rounded (length bytes)) p.current) can
  packing_whole cap effect.Trim p pool can = packings_law (place_in before) cap 0 effect.Trim p
  packing_whole cap effect.Drop p pool can = refl

-- the size of a pool

size_given : (numbers : List ℕ) (pool : Ledger) → length (all_given numbers pool).owners ≡ length pool.owners
size_given [] pool = refl
size_given (m ∷ numbers) pool = size_given numbers (ledger_of (slice_set pool.owners m None) pool.reservations) ∙ length-set pool.owners m None

size_added : (tag : ℕ) (pool : Ledger) (b : Bool) → length (if b then pool else drawn tag (next_number pool) pool).owners ≡ length pool.owners
size_added tag pool true = refl
size_added tag pool false = length-set pool.owners (next_number pool) (Some tag)

size_after : (cap tag : ℕ) (effect : Effect) (p : Packing) (pool : Ledger) → length (pool_after cap tag effect p pool).owners ≡ length pool.owners
size_after cap tag effect.Keep p pool = refl
size_after cap tag (effect.Add bytes) p pool = size_added tag pool (fits cap (rounded (length bytes)) p.current)
size_after cap tag effect.Trim p pool = size_given (closed_numbers p) pool
size_after cap tag effect.Drop p pool = size_given (numbers_of p) pool

new_frames : (phi : ℕ → ℕ) (parts : ℕ) → replicate parts None ≡ map (option_map phi) (replicate parts None)
new_frames phi zero = refl
new_frames phi (suc parts) = ap (λ xs. None ∷ xs) (new_frames phi parts)

-- what a job needs of the storage of its own core
pub record CanStore (cap : ℕ) (effect : Effect) (s : Storage) : Type 0 where
  pub draws : CanDraw cap effect (packing_of s 0) s.pool
  pub closed : AreBelow (length s.pool.owners) (closed_numbers (packing_of s 0))
  pub numbers : AreBelow (length s.pool.owners) (numbers_of (packing_of s 0))
  pub frames : AreBelow (length s.pool.owners) (flattened (frames_of s 0))

module _ (row : ℕ) (before : List (Option ℕ)) (rs : List Reservation) (done_packings rest_packings : List Packing) (done_frames rest_frames : List (List (Option ℕ)))
    (many_packings : length done_packings ≡ row) (many_frames : length done_frames ≡ row) where
  abbrev phi : ℕ → ℕ
  phi = place_in before

  abbrev laid : Ledger → Ledger
  laid pool = whole_ledger (tag_at row) before rs pool

  abbrev storage_with : Packing → List (Option ℕ) → Ledger → Storage
  storage_with p f pool = record { packings = done_packings ++ p ∷ rest_packings; frames = done_frames ++ f ∷ rest_frames; pool = pool }

  -- the storage of all while the core of this row is laid into it
  abbrev pub beside : Storage → Storage
  beside s = storage_with (renamed_packing phi (packing_of s 0)) (renamed_frames phi (frames_of s 0)) (laid s.pool)

  packing_there : (p : Packing) (f : List (Option ℕ)) (pool : Ledger) → packing_of (storage_with p f pool) row ≡ p
  packing_there p f pool = get_or_at done_packings p rest_packings no_packing row many_packings

  frames_there : (p : Packing) (f : List (Option ℕ)) (pool : Ledger) → frames_of (storage_with p f pool) row ≡ f
  frames_there p f pool = get_or_at done_frames f rest_frames [] row many_frames

  records_tag : tag_at row (record_tag 0) ≡ record_tag row
  records_tag = omega arith

  frames_tag : tag_at row (frame_tag 0) ≡ frame_tag row
  frames_tag = omega arith

  pub stored_beside : (cap : ℕ) (effect : Effect) (p : Packing) (f : List (Option ℕ)) (pool : Ledger) → CanStore cap effect (lone_storage p f pool)
      → stored cap row effect (beside (lone_storage p f pool)) ≡ beside (stored cap 0 effect (lone_storage p f pool))
  stored_beside cap effect p f pool can =
      let w = laid pool in
      let q = renamed_packing phi p in
      let g = renamed_frames phi f in
      ap (λ r. record {
        frames = done_frames ++ g ∷ rest_frames;
        packings = slice_set (done_packings ++ q ∷ rest_packings) row (packing_after cap (next_number w) effect r);
        pool = pool_after cap (record_tag row) effect r w;
      }) (packing_there q g w)
      ∙ ap (λ ps. record { frames = done_frames ++ g ∷ rest_frames; packings = ps; pool = pool_after cap (record_tag row) effect q w })
      (set_at done_packings q rest_packings (packing_after cap (next_number w) effect q) row many_packings)
      ∙ ap (λ r. storage_with r g (pool_after cap (record_tag row) effect q w)) (packing_whole (tag_at row) before rs cap effect p pool can.draws)
      ∙ ap (λ tag. storage_with (renamed_packing phi (packing_after cap (next_number pool) effect p)) g (pool_after cap tag effect q w)) (sym records_tag)
      ∙ ap (storage_with (renamed_packing phi (packing_after cap (next_number pool) effect p)) g)
      (pool_law (tag_at row) before rs cap (record_tag 0) effect p pool can.draws can.closed can.numbers)

  parts_beside : (parts : ℕ) (p : Packing) (f : List (Option ℕ)) (pool : Ledger)
      → with_parts row parts (beside (lone_storage p f pool)) ≡ beside (with_parts 0 parts (lone_storage p f pool))
  parts_beside parts p f pool =
      ap (λ fs. record { packings = done_packings ++ renamed_packing phi p ∷ rest_packings; frames = fs; pool = laid pool })
      (set_at done_frames (renamed_frames phi f) rest_frames (replicate parts None) row many_frames)
      ∙ ap (λ g. storage_with (renamed_packing phi p) g (laid pool)) (new_frames phi parts)

  frame_beside : (part : ℕ) (p : Packing) (f : List (Option ℕ)) (pool : Ledger) → least_free pool ≡ Some (next_number pool)
      → with_frame row part (beside (lone_storage p f pool)) ≡ beside (with_frame 0 part (lone_storage p f pool))
  frame_beside part p f pool some =
      let w = laid pool in
      let n = next_number pool in
      let q = renamed_packing phi p in
      let g = renamed_frames phi f in
      let draws = draws_law (tag_at row) before rs (frame_tag 0) n pool some in
      ap (λ h. record {
        packings = done_packings ++ q ∷ rest_packings;
        frames = slice_set (done_frames ++ g ∷ rest_frames) row (slice_set h part (Some (next_number w)));
        pool = drawn (frame_tag row) (next_number w) w;
      }) (frames_there q g w)
      ∙ ap (λ fs. record { packings = done_packings ++ q ∷ rest_packings; frames = fs; pool = drawn (frame_tag row) (next_number w) w })
      (set_at done_frames g rest_frames (slice_set g part (Some (next_number w))) row many_frames)
      ∙ ap (λ m. storage_with q (slice_set g part (Some m)) (drawn (frame_tag row) m w)) draws.0
      ∙ ap (λ h. storage_with q h (drawn (frame_tag row) (phi n) w)) (sym (map-set (option_map phi) f part (Some n)))
      ∙ ap (λ tag. storage_with q (renamed_frames phi (slice_set f part (Some n))) (drawn tag (phi n) w)) (sym frames_tag)
      ∙ ap (storage_with q (renamed_frames phi (slice_set f part (Some n)))) draws.1

  no_frames_beside : (p : Packing) (f : List (Option ℕ)) (pool : Ledger) → AreBelow (length pool.owners) (flattened f)
      → without_frames row (beside (lone_storage p f pool)) ≡ beside (without_frames 0 (lone_storage p f pool))
  no_frames_beside p f pool below =
      let w = laid pool in
      let q = renamed_packing phi p in
      let g = renamed_frames phi f in
      ap (λ h. record {
        packings = done_packings ++ q ∷ rest_packings;
        frames = slice_set (done_frames ++ g ∷ rest_frames) row [];
        pool = all_given (flattened h) w;
      }) (frames_there q g w)
      ∙ ap (λ fs. record { packings = done_packings ++ q ∷ rest_packings; frames = fs; pool = all_given (flattened g) w })
      (set_at done_frames g rest_frames [] row many_frames)
      ∙ ap (λ numbers. storage_with q [] (all_given numbers w)) (frames_apart phi f)
      ∙ ap (storage_with q []) (gives_law (tag_at row) before rs (flattened f) pool below)

  -- a job

  begun_beside : (cap : ℕ) (x : Lane) (p : Packing) (f : List (Option ℕ)) (pool : Ledger) (b : Bool)
      → CanStore cap (if b then effect.Keep else answer_effect x) (lone_storage p f pool)
      → (if b then with_parts row (length (forked x).parts) (beside (lone_storage p f pool)) else stored cap row (answer_effect x) (beside (lone_storage p f pool)))
      ≡ beside (if b then with_parts 0 (length (forked x).parts) (lone_storage p f pool) else stored cap 0 (answer_effect x) (lone_storage p f pool))
  begun_beside cap x p f pool true can = parts_beside (length (forked x).parts) p f pool
  begun_beside cap x p f pool false can = stored_beside cap (answer_effect x) p f pool can

  put_beside_lone : (cap : ℕ) (x : Lane) (job : JobKind) (p : Packing) (f : List (Option ℕ)) (pool : Ledger) → CanStore cap (put_effect job x) (lone_storage p f pool)
      → storage_put job cap row x (beside (lone_storage p f pool)) ≡ beside (storage_put job cap 0 x (lone_storage p f pool))
  put_beside_lone cap x kind.Begin p f pool can = begun_beside cap x p f pool (goes_on x) can
  put_beside_lone cap x kind.Part p f pool can = refl
  put_beside_lone cap x kind.Join p f pool can =
      let size = size_after cap (record_tag 0) (answer_effect x) p pool in
      ap (without_frames row) (stored_beside cap (answer_effect x) p f pool can)
      ∙ no_frames_beside (packing_after cap (next_number pool) (answer_effect x) p) f (pool_after cap (record_tag 0) (answer_effect x) p pool)
      (subst (λ many. AreBelow many (flattened f)) (sym size) can.frames)

  taken_beside_lone : (job : JobKind) (part : ℕ) (p : Packing) (f : List (Option ℕ)) (pool : Ledger) → (job ≡ kind.Part → least_free pool ≡ Some (next_number pool))
      → storage_taken job row part (beside (lone_storage p f pool)) ≡ beside (storage_taken job 0 part (lone_storage p f pool))
  taken_beside_lone kind.Begin part p f pool some = refl
  taken_beside_lone kind.Part part p f pool some = frame_beside part p f pool (some refl)
  taken_beside_lone kind.Join part p f pool some = refl

  pub put_beside : (cap : ℕ) (x : Lane) (job : JobKind) (s : Storage) → IsLone s → CanStore cap (put_effect job x) s
      → storage_put job cap row x (beside s) ≡ beside (storage_put job cap 0 x s)
  put_beside cap x job s is can =
      ap (λ t. storage_put job cap row x (beside t)) is
      ∙ put_beside_lone cap x job (packing_of s 0) (frames_of s 0) s.pool (subst (CanStore cap (put_effect job x)) is can)
      ∙ ap (λ t. beside (storage_put job cap 0 x t)) (sym is)

  pub taken_beside : (job : JobKind) (part : ℕ) (s : Storage) → IsLone s → (job ≡ kind.Part → least_free s.pool ≡ Some (next_number s.pool))
      → storage_taken job row part (beside s) ≡ beside (storage_taken job 0 part s)
  taken_beside job part s is some =
      ap (λ t. storage_taken job row part (beside t)) is
      ∙ taken_beside_lone job part (packing_of s 0) (frames_of s 0) s.pool some
      ∙ ap (λ t. beside (storage_taken job 0 part t)) (sym is)

-- a job leaves the storage of one game

begun_lone : (cap : ℕ) (x : Lane) (p : Packing) (f : List (Option ℕ)) (pool : Ledger) (b : Bool)
    → IsLone (if b then with_parts 0 (length (forked x).parts) (lone_storage p f pool) else stored cap 0 (answer_effect x) (lone_storage p f pool))
begun_lone cap x p f pool true = refl
begun_lone cap x p f pool false = refl

put_lone_at : (cap : ℕ) (x : Lane) (job : JobKind) (p : Packing) (f : List (Option ℕ)) (pool : Ledger) → IsLone (storage_put job cap 0 x (lone_storage p f pool))
put_lone_at cap x kind.Begin p f pool = begun_lone cap x p f pool (goes_on x)
put_lone_at cap x kind.Part p f pool = refl
put_lone_at cap x kind.Join p f pool = refl

taken_lone_at : (job : JobKind) (part : ℕ) (p : Packing) (f : List (Option ℕ)) (pool : Ledger) → IsLone (storage_taken job 0 part (lone_storage p f pool))
taken_lone_at kind.Begin part p f pool = refl
taken_lone_at kind.Part part p f pool = refl
taken_lone_at kind.Join part p f pool = refl

pub put_lone : (cap : ℕ) (x : Lane) (job : JobKind) (s : Storage) → IsLone s → IsLone (storage_put job cap 0 x s)
put_lone cap x job s is = subst (λ t. IsLone (storage_put job cap 0 x t)) (sym is) (put_lone_at cap x job (packing_of s 0) (frames_of s 0) s.pool)

pub taken_lone : (job : JobKind) (part : ℕ) (s : Storage) → IsLone s → IsLone (storage_taken job 0 part s)
taken_lone job part s is = subst (λ t. IsLone (storage_taken job 0 part t)) (sym is) (taken_lone_at job part (packing_of s 0) (frames_of s 0) s.pool)
