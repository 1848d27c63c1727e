-- The blocks for the parts of a game's move, drawn and given back.
use Rattle.std.proofs.Common.{◌≡◌, ◌≢◌, ℕ, ◌+◌, ◌<◌, List, [], ◌∷◌, ◌++◌, length, slice_get, slice_index_or, Option, Some, None, refl, sym, ap, subst, ◌∙◌, arith, inl, inr}
use Rattle.std.specs.Prelude.{All, slice_set, replicate}
use Rattle.std.proofs.lemmas.Bool.{cases_eq, cases_lt}
use Rattle.std.proofs.lemmas.Grind.{get_or-set_at}
use Rattle.std.proofs.lemmas.List.{length-append, length-set, length_push, append-nil, get_or_append_left, get_or_push, get_or-set_other}
use Rattle.std.proofs.lemmas.List.Elements.{All-nil, All-head, All-tail}
use Rattle.std.proofs.lemmas.Option.{slice_get-get_or, slice_get_past}
use Rattle.bs_heap.specs.HeldBlocks.{AreOwned, Holds, LeavesOthers, all_given, next_number}
use Rattle.bs_heap.proofs.HeldBlocks.{owned_tail, holds_rest, leaves_rest, leaves_none, others_drawn}
use Rattle.bs_pool.specs.Ledger.{Ledger, ledger_of, Owns, size, free, least_free, drawn, given}
use Rattle.bs_pool.specs.declared.reservation.Reservation.{Reservation}
use Rattle.bs_pool.proofs.Owners.{free_at, free_drawn, size_drawn, free_given, size_given, owns_drawn}
use Rattle.bs_sched.specs.inner.FrameEffects.{FrameEffect, Keeps, Forks, Draws, Returns, numbers_after, pool_framed}
use Rattle.bs_sched.specs.Frames.{flattened}
use Rattle.bs_sched.specs.Lane.{Lane, no_lane}
use Rattle.bs_sched.specs.Machine.{lane_of}
use Rattle.bs_sched.specs.Memory.{Memory, block_in}
use Rattle.bs_sched.specs.Storage.{frame_tag}
use Rattle.bs_sched.proofs.BegunParts.{AreBegun}
use Rattle.bs_sched.proofs.FrameNumbers.{all_inserted, holds_inserted, parted}
use Rattle.bs_sched.proofs.PartFrames.{none_known}
use Rattle.bs_sched.proofs.StoredRecords.{AreWiped}

-- no byte of any of the blocks is a record's
abbrev pub AreBare : List ℕ → Memory → Type 0
AreBare numbers memory = All (λ n. block_in memory n ≡ []) numbers

-- one tag's numbers change, and no bytes
pub record IsReframed (tag : ℕ) (numbers numbers' : List ℕ) (pool pool' : Ledger) (memory : Memory) : Type 0 where
  pub held : Holds tag numbers' pool'
  pub others : LeavesOthers tag pool pool'
  pub wiped : AreWiped pool' memory
  pub counts : free pool' + length numbers' ≡ free pool + length numbers
  pub size : size pool' ≡ size pool
  pub bare : AreBare numbers' memory

get_beside_set : (xs : List (Option ℕ)) (i j : ℕ) (y : Option ℕ) → j ≢ i → slice_get (slice_set xs i y) j ≡ slice_get xs j
get_beside_set xs i j y differ =
    elim (cases_lt j (length xs)) [
      | inl less ↦
          let long : j < length (slice_set xs i y) = omega (arith, length-set xs i y) in
          slice_get-get_or (slice_set xs i y) j y long ∙ ap Some (get_or-set_other xs i j y y differ) ∙ sym (slice_get-get_or xs j y less)
      | inr past ↦
          let most = length-set xs i y in
          slice_get_past (slice_set xs i y) j (omega (arith, past)) ∙ sym (slice_get_past xs j (omega (arith, past)))
    ]

wiped_drawn : (tag number : ℕ) (pool : Ledger) (memory : Memory) → least_free pool ≡ Some number → AreWiped pool memory → AreWiped (drawn tag number pool) memory
wiped_drawn tag number pool memory at was_wiped other free =
    elim (cases_eq other number) [
      | inl same ↦
          let owned : slice_get (drawn tag number pool).owners other ≡ Some (Some tag) = rw same (owns_drawn pool tag number at) in
          let wrong : Some (Some tag) ≡ Some None = sym owned ∙ free in
          cc
      | inr differ ↦ was_wiped other (sym (get_beside_set pool.owners number other (Some tag) differ) ∙ free)
    ]

-- a block without bytes is given back
wiped_bare : (number : ℕ) (pool : Ledger) (memory : Memory) → block_in memory number ≡ [] → AreWiped pool memory → AreWiped (given number pool) memory
wiped_bare number pool memory bare was_wiped other free =
    elim (cases_eq other number) [
      | inl same ↦ rw same bare
      | inr differ ↦ was_wiped other (sym (get_beside_set pool.owners number other None differ) ∙ free)
    ]

wiped_all_bare : (numbers : List ℕ) (pool : Ledger) (memory : Memory) → AreBare numbers memory → AreWiped pool memory → AreWiped (all_given numbers pool) memory
wiped_all_bare [] pool memory bare was_wiped = was_wiped
wiped_all_bare (number ∷ numbers) pool memory bare was_wiped =
    let P : ℕ → Type 0 = λ n. block_in memory n ≡ [] in
    wiped_all_bare numbers (given number pool) memory (All-tail P number numbers bare) (wiped_bare number pool memory (All-head P number numbers bare) was_wiped)

size_all_given : (numbers : List ℕ) (pool : Ledger) → size (all_given numbers pool) ≡ size pool
size_all_given [] pool = refl
size_all_given (number ∷ numbers) pool = size_all_given numbers (given number pool) ∙ size_given pool number

free_all_given : (tag : ℕ) (numbers : List ℕ) (pool : Ledger) → AreOwned tag numbers pool → free (all_given numbers pool) ≡ free pool + length numbers
free_all_given tag [] pool owned = omega arith
free_all_given tag (number ∷ numbers) pool owned =
    let one = free_given pool tag number (owned.each 0 number (omega arith)) in
    let rest = free_all_given tag numbers (given number pool) (owned_tail tag number numbers pool owned) in
    omega (arith, one, rest)

-- the condition of an effect on the frames
abbrev pub MayFrame : FrameEffect → List (Option ℕ) → Ledger → Type 0
MayFrame Keeps numbers pool = Unit {0}
MayFrame (Forks parts) numbers pool = flattened numbers ≡ []
MayFrame (Draws p) numbers pool = (slice_get numbers p ≡ Some None) × (least_free pool ≡ Some (next_number pool))
MayFrame Returns numbers pool = Unit {0}

pub reframed : (f : FrameEffect) (tag : ℕ) (numbers : List (Option ℕ)) (pool : Ledger) (memory : Memory) → MayFrame f numbers pool
    → AreWiped pool memory → Holds tag (flattened numbers) pool → AreBare (flattened numbers) memory
    → IsReframed tag (flattened numbers) (flattened (numbers_after f numbers pool)) pool (pool_framed f tag numbers pool) memory
reframed Keeps tag numbers pool memory may was_wiped held bare =
    record { held = held; others = leaves_none tag pool; wiped = was_wiped; counts = refl; size = refl; bare = bare }
reframed (Forks parts) tag numbers pool memory may was_wiped held bare =
    let same : flattened numbers ≡ flattened (replicate parts None) = may ∙ sym (none_known parts) in
    record {
      held = subst (λ (ns : List ℕ). Holds tag ns pool) same held;
      others = leaves_none tag pool;
      wiped = was_wiped;
      counts = ap (λ (ns : List ℕ). free pool + length ns) (sym same);
      size = refl;
      bare = subst (λ (ns : List ℕ). AreBare ns memory) same bare;
    }
reframed (Draws p) tag numbers pool memory may was_wiped held bare =
    let n = next_number pool in
    let at = may.1 in
    let split = parted numbers p n may.0 in
    let one = free_drawn pool tag n at in
    let before = subst (λ (ns : List ℕ). Holds tag ns pool) split.2 held in
    let bare_before = subst (λ (ns : List ℕ). AreBare ns memory) split.2 bare in
    let long : length (flattened numbers) ≡ length (split.0 ++ split.1) = ap length split.2 in
    let longer : length (flattened (slice_set numbers p (Some n))) ≡ length (split.0 ++ n ∷ split.1) = ap length split.3 in
    record {
      held = subst (λ (ns : List ℕ). Holds tag ns (drawn tag n pool)) (sym split.3) (holds_inserted tag n pool split.0 split.1 at before);
      others = others_drawn tag n pool at;
      wiped = wiped_drawn tag n pool memory at was_wiped;
      counts = omega (arith, one, long, longer, length-append split.0 split.1, length-append split.0 (n ∷ split.1));
      size = size_drawn pool tag n;
      bare = subst (λ (ns : List ℕ). AreBare ns memory) (sym split.3)
          (all_inserted (λ m. block_in memory m ≡ []) split.0 split.1 n bare_before (was_wiped n (free_at pool.owners n at)));
    }
reframed Returns tag numbers pool memory may was_wiped held bare =
    let whole : Holds tag (flattened numbers ++ []) pool = rw (append-nil (flattened numbers)) held in
    record {
      held = holds_rest tag [] (flattened numbers) pool whole;
      others = leaves_rest tag [] (flattened numbers) pool whole.owned;
      wiped = wiped_all_bare (flattened numbers) pool memory bare was_wiped;
      counts = omega (arith, free_all_given tag (flattened numbers) pool held.owned);
      size = size_all_given (flattened numbers) pool;
      bare = All-nil (λ m. block_in memory m ≡ []);
    }

-- of all stays: a block for each part that was taken

pub record IsFramed (game : ℕ) (x : Lane) (numbers : List (Option ℕ)) (pool : Ledger) (memory : Memory) : Type 0 where
  pub held : Holds (frame_tag game) (flattened numbers) pool
  pub begun : AreBegun x numbers
  pub bare : AreBare (flattened numbers) memory

abbrev pub numbers_at : List (List (Option ℕ)) → ℕ → List (Option ℕ)
numbers_at frames game = slice_index_or frames game []

pub record AreFramed (lanes : List Lane) (frames : List (List (Option ℕ))) (pool : Ledger) (memory : Memory) : Type 0 where
  pub many : length frames ≡ length lanes
  pub each : (game : ℕ) → game < length lanes → IsFramed game (lane_of lanes game) (numbers_at frames game) pool memory

-- another tag's blocks change, with their bytes
pub framed_beside : (tag : ℕ) (lanes : List Lane) (frames : List (List (Option ℕ))) (pool pool' : Ledger) (memory memory' : Memory)
    → ((game : ℕ) → game < length lanes → frame_tag game ≢ tag) → LeavesOthers tag pool pool'
    → ((other number : ℕ) → other ≢ tag → Owns other number pool → block_in memory' number ≡ block_in memory number)
    → AreFramed lanes frames pool memory → AreFramed lanes frames pool' memory'
framed_beside tag lanes frames pool pool' memory memory' apart leaves same framed =
    record {
      many = framed.many;
      each = λ game less.
          let before = framed.each game less in
          record {
            held = leaves.holds (frame_tag game) (flattened (numbers_at frames game)) (apart game less) before.held;
            begun = before.begun;
            bare = λ k d within. same (frame_tag game) _ (apart game less) (before.held.owned.each k d within) ∙ before.bare k d within;
          };
    }

-- the game's own blocks change, and its lane
pub framed_changed : (game : ℕ) (lanes : List Lane) (frames : List (List (Option ℕ))) (pool pool' : Ledger) (memory : Memory) (y : Lane) (numbers : List (Option ℕ))
    → AreFramed lanes frames pool memory → game < length lanes
    → IsReframed (frame_tag game) (flattened (numbers_at frames game)) (flattened numbers) pool pool' memory
    → AreBegun y numbers → AreFramed (slice_set lanes game y) (slice_set frames game numbers) pool' memory
framed_changed game lanes frames pool pool' memory y numbers framed within new begun =
    let many = framed.many in
    let same_lanes = length-set lanes game y in
    let same_frames = length-set frames game numbers in
    record {
      many = omega (arith, many, same_lanes, same_frames);
      each = λ other less.
          elim (cases_eq other game) [
            | inl here ↦
                rw (get_or-set_at lanes game other y no_lane here within, get_or-set_at frames game other numbers [] here (omega (arith, many, within)), here)
                (record {
                  held = new.held;
                  begun = begun;
                  bare = new.bare;
                })
            | inr differ ↦
                let before = framed.each other (omega (arith, less, same_lanes)) in
                rw (get_or-set_other lanes game other y no_lane differ, get_or-set_other frames game other numbers [] differ)
                (record {
                  held = new.others.holds (frame_tag other) (flattened (numbers_at frames other)) (λ twice. differ (omega (arith, twice))) before.held;
                  begun = before.begun;
                  bare = before.bare;
                })
          ];
    }

-- a stay is admitted
pub framed_comes : (lanes : List Lane) (frames : List (List (Option ℕ))) (pool : Ledger) (memory : Memory) (y : Lane) → AreFramed lanes frames pool memory
    → Holds (frame_tag (length lanes)) [] pool → AreBegun y [] → AreFramed (lanes ++ y ∷ []) (frames ++ [] ∷ []) pool memory
framed_comes lanes frames pool memory y framed nothing begun =
    let many = framed.many in
    let long = length_push lanes y in
    let none : List (Option ℕ) = [] in
    let long_frames : length (frames ++ none ∷ []) ≡ length frames + 1 = length_push frames none in
    record {
      many = omega (arith, many, long, long_frames);
      each = λ game less.
          elim (cases_lt game (length lanes)) [
            | inl before ↦
                rw (get_or_append_left lanes (y ∷ []) no_lane game before, get_or_append_left frames (none ∷ []) none game (omega (arith, before, many)))
                (framed.each game before)
            | inr past ↦
                let last : length lanes ≡ game = omega (arith, long, less, past) in
                rw (get_or_push lanes y no_lane game last, get_or_push frames none none game (omega (arith, many, last)), ← last)
                (record { held = nothing; begun = begun; bare = All-nil (λ m. block_in memory m ≡ []) })
          ];
    }

-- only the reservations change
pub framed_reserved : (lanes : List Lane) (frames : List (List (Option ℕ))) (pool : Ledger) (memory : Memory) (rs : List Reservation)
    → AreFramed lanes frames pool memory → AreFramed lanes frames (ledger_of pool.owners rs) memory
framed_reserved lanes frames pool memory rs framed =
    record {
      many = framed.many;
      each = λ game less.
          let before = framed.each game less in
          record {
            held = record { owned = record { each = before.held.owned.each; once = before.held.owned.once }; all = before.held.all };
            begun = before.begun;
            bare = before.bare;
          };
    }
