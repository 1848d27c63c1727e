-- The effect of an answer on the records of one game, on its blocks and on their bytes, and that
-- all else is unchanged.
use Rattle.std.proofs.Common.{◌≡◌, ◌≢◌, ℕ, zero, suc, ◌+◌, ◌<◌, ◌≤◌, Bool, true, false, if◌then◌else◌, List, [], ◌∷◌, ◌++◌, length, map, slice_get, Option, Some, None, IsSome, refl, sym, ap, subst, ◌∙◌, arith, inl, inr}
use Rattle.std.specs.Prelude.{All, AllPairs, option_to_list, slice_index_or, slice_set}
use Rattle.std.proofs.lemmas.Bool.{cases_eq, cases_lt}
use Rattle.std.proofs.lemmas.List.{length-set, length_push, map_push, map-append, append-nil, length-append, get_or-set_other}
use Rattle.std.proofs.lemmas.List.Elements.{All-pop, All-nil, All-push, All-head, All-tail}
use Rattle.std.proofs.lemmas.List.Sums.{sum_by_push}
use Rattle.std.proofs.lemmas.Option.{slice_get_within, slice_get-get_or, slice_get_past}
use Rattle.bs_block.specs.Bytes.{padded}
use Rattle.bs_block.specs.Rounding.{rounded}
use Rattle.bs_game.specs.declared.reply.Effect.{Effect}
use Rattle.bs_game.specs.declared.reply.Effect.TheVariants as effect
use Rattle.bs_game.specs.Law.{IsFitEffect, IsFitRecord, effected}
use Rattle.bs_game.proofs.Games.{board_charge_small}
use Rattle.bs_heap.specs.declared.heap.TheConstants.{MOST_RECORD_BYTES}
use Rattle.bs_heap.specs.Charge.{charge_of, blocks_for}
use Rattle.bs_heap.specs.Fullness.{AreFull}
use Rattle.bs_heap.specs.HeldBlocks.{AreOwned, Holds, LeavesOthers, all_given, next_number}
use Rattle.bs_heap.specs.PackedPlaces.{AreApart}
use Rattle.bs_heap.specs.Packing.{Use, Place, Packing, numbers_of, closed_numbers, no_packing, fits, with_block, with_place, packed, packing_of_last}
use Rattle.bs_heap.proofs.Fullness.{full_none, full_packed, full_last}
use Rattle.bs_heap.proofs.HeldBlocks.{owned_tail, holds_rest, leaves_rest, leaves_none, owned_front, holds_packed, leaves_packed, fresh_number, numbers_packed}
use Rattle.bs_heap.proofs.PackedPlaces.{apart_none, apart_packed, apart_last, some_fits}
use Rattle.bs_pool.specs.Ledger.{Ledger, Owns, size, free, reserved, least_free, drawn, given}
use Rattle.bs_pool.proofs.Owners.{free_at, free_drawn, size_drawn, free_given, size_given, owns_drawn, still_owns_drawn, one_owner}
use Rattle.bs_sched.specs.Memory.{Memory, block_in, with_bytes, wiped, current_number, memory_with, CanDraw}
use Rattle.bs_sched.specs.Storage.{packing_after, pool_after}
use Rattle.bs_sched.proofs.PlacedRecords.{IsLaid, IsFresh, other_block, laid_nothing, laid_trimmed, laid_by, last_differs}

-- the records of one game, in blocks of its tag
pub record IsKept (cap quota tag : ℕ) (records : List (List ℕ)) (packing : Packing) (pool : Ledger) (memory : Memory) : Type 0 where
  pub within : charge_of records ≤ quota
  pub full : AreFull cap (charge_of records) packing
  pub apart : AreApart packing
  pub held : Holds tag (numbers_of packing) pool
  pub laid : IsLaid records packing memory
  pub reserved : blocks_for cap quota ≤ reserved tag pool

-- a block that is free has no bytes
abbrev pub AreWiped : Ledger → Memory → Type 0
AreWiped pool memory = (number : ℕ) → slice_get pool.owners number ≡ Some None → block_in memory number ≡ []

-- one game's records change, and no other's
pub record IsChanged (cap quota tag : ℕ) (records : List (List ℕ)) (packing : Packing) (pool : Ledger) (memory : Memory) (new_packing : Packing)
    (new_pool : Ledger) (new_memory : Memory) : Type 0 where
  pub kept : IsKept cap quota tag records new_packing new_pool new_memory
  pub others : LeavesOthers tag pool new_pool
  pub blocks : (other number : ℕ) → other ≢ tag → Owns other number pool → block_in new_memory number ≡ block_in memory number
  pub wiped : AreWiped new_pool new_memory
  pub counts : free new_pool + length (numbers_of new_packing) ≡ free pool + length (numbers_of packing)
  pub size : size new_pool ≡ size pool
  pub many : length new_memory ≡ length memory

-- reading elsewhere than a write

get_beside_set : (xs : List (Option ℕ)) (i j : ℕ) (y : Option ℕ) → j ≢ i → slice_get (slice_set xs i y) j ≡ slice_get xs j
get_beside_set xs i j y differ =
    elim (cases_lt j (length xs)) [
      | inl less ↦
          let long : j < length (slice_set xs i y) = omega (arith, length-set xs i y) in
          slice_get-get_or (slice_set xs i y) j y long ∙ ap Some (get_or-set_other xs i j y y differ) ∙ sym (slice_get-get_or xs j y less)
      | inr past ↦
          let most = length-set xs i y in
          slice_get_past (slice_set xs i y) j (omega (arith, past)) ∙ sym (slice_get_past xs j (omega (arith, past)))
    ]

-- blocks are given back

emptied_block : (memory : Memory) (number : ℕ) → block_in (slice_set memory number []) number ≡ []
emptied_block [] zero = refl
emptied_block [] (suc number) = refl
emptied_block (bytes ∷ memory) zero = refl
emptied_block (bytes ∷ memory) (suc number) = emptied_block memory number

wiped_given : (pool : Ledger) (memory : Memory) (number : ℕ) → AreWiped pool memory → AreWiped (given number pool) (slice_set memory number [])
wiped_given pool memory number wiped other free =
    elim (cases_eq other number) [
      | inl same ↦ rw same (emptied_block memory number)
      | inr differ ↦
          let before : slice_get pool.owners other ≡ Some None = sym (get_beside_set pool.owners number other None differ) ∙ free in
          other_block memory number other [] differ ∙ wiped other before
    ]

wiped_all_given : (numbers : List ℕ) (pool : Ledger) (memory : Memory) → AreWiped pool memory → AreWiped (all_given numbers pool) (wiped numbers memory)
wiped_all_given [] pool memory before = before
wiped_all_given (number ∷ numbers) pool memory before =
    wiped_all_given numbers (given number pool) (slice_set memory number []) (wiped_given pool memory number before)

size_all_given : (numbers : List ℕ) (pool : Ledger) → size (all_given numbers pool) ≡ size pool
size_all_given [] pool = refl
size_all_given (number ∷ numbers) pool = size_all_given numbers (given number pool) ∙ size_given pool number

many_wiped : (numbers : List ℕ) (memory : Memory) → length (wiped numbers memory) ≡ length memory
many_wiped [] memory = refl
many_wiped (number ∷ numbers) memory = many_wiped numbers (slice_set memory number []) ∙ length-set memory number []

not_wiped : (numbers : List ℕ) (memory : Memory) (other : ℕ) → All (λ n. n ≢ other) numbers → block_in (wiped numbers memory) other ≡ block_in memory other
not_wiped [] memory other differ = refl
not_wiped (number ∷ numbers) memory other differ =
    not_wiped numbers (slice_set memory number []) other (All-tail (λ n. n ≢ other) number numbers differ)
    ∙ other_block memory number other [] (λ same. All-head (λ n. n ≢ other) number numbers differ (sym same))

free_all_given : (tag : ℕ) (numbers : List ℕ) (pool : Ledger) → AreOwned tag numbers pool → free (all_given numbers pool) ≡ free pool + length numbers
free_all_given tag [] pool owned = omega arith
free_all_given tag (number ∷ numbers) pool owned =
    let one = free_given pool tag number (owned.each 0 number (omega arith)) in
    let rest = free_all_given tag numbers (given number pool) (owned_tail tag number numbers pool owned) in
    omega (arith, one, rest)

-- no block of another tag is among those of a tag
pub of_others : (tag other number : ℕ) (numbers : List ℕ) (pool : Ledger) → other ≢ tag → All (λ n. Owns tag n pool) numbers → Owns other number pool
    → All (λ n. n ≢ number) numbers
of_others tag other number numbers pool differ owned owns = λ k d within. one_owner pool other tag number (slice_index_or numbers k d) owns (owned k d within) differ

-- of a game's own blocks
module _ (cap quota tag : ℕ) (packing : Packing) (pool : Ledger) (memory : Memory) (was_wiped : AreWiped pool memory) where
  closed_first : numbers_of packing ≡ closed_numbers packing ++ map (λ u. u.number) (option_to_list packing.current)
  closed_first = map-append (λ u. u.number) packing.closed (option_to_list packing.current)

  pub changed_kept : (records : List (List ℕ)) → IsKept cap quota tag records packing pool memory
      → IsChanged cap quota tag records packing pool memory packing pool memory
  changed_kept records kept =
      record {
        kept = kept;
        others = leaves_none tag pool;
        blocks = λ other number differ owns. refl;
        wiped = was_wiped;
        counts = refl;
        size = refl;
        many = refl;
      }

  pub changed_dropped : (records : List (List ℕ)) → IsKept cap quota tag records packing pool memory
      → IsChanged cap quota tag [] packing pool memory no_packing (all_given (numbers_of packing) pool) (wiped (numbers_of packing) memory)
  changed_dropped records kept =
      let numbers = numbers_of packing in
      let pool' = all_given numbers pool in
      let none : numbers ++ [] ≡ numbers = append-nil numbers in
      let held : Holds tag (numbers ++ []) pool = rw none kept.held in
      let leaves : LeavesOthers tag pool pool' = leaves_rest tag [] numbers pool held.owned in
      record {
        kept = record {
          within = omega arith;
          full = full_none cap 0;
          apart = apart_none;
          held = holds_rest tag [] numbers pool held;
          laid = laid_nothing (wiped numbers memory);
          reserved = rw leaves.reservations kept.reserved;
        };
        others = leaves;
        blocks = λ other number differ owns. not_wiped numbers memory number (of_others tag other number numbers pool differ kept.held.owned.each owns);
        wiped = wiped_all_given numbers pool memory was_wiped;
        counts = omega (arith, free_all_given tag numbers pool kept.held.owned);
        size = size_all_given numbers pool;
        many = many_wiped numbers memory;
      }

  -- the current block is not a closed one
  current_stays : (o : Option Use) → AllPairs (λ m n. m ≢ n) (map (λ u. u.number) packing.closed ++ map (λ u. u.number) (option_to_list o))
      → All (λ n. block_in (wiped (closed_numbers packing) memory) n ≡ block_in memory n) (map (λ u. u.number) (option_to_list o))
  current_stays None once = λ k d within. absurd (omega (arith, within))
  current_stays (Some u) once =
      let P : ℕ → Type 0 = λ n. block_in (wiped (closed_numbers packing) memory) n ≡ block_in memory n in
      All-push P [] u.number (All-nil P) (not_wiped (closed_numbers packing) memory u.number (last_differs (closed_numbers packing) u.number once))

  pub changed_trimmed : (records : List (List ℕ)) → charge_of (effected effect.Trim records) ≤ quota → IsKept cap quota tag records packing pool memory
      → IsChanged cap quota tag (effected effect.Trim records) packing pool memory (packing_of_last packing) (all_given (closed_numbers packing) pool)
      (wiped (closed_numbers packing) memory)
  changed_trimmed records within kept =
      let numbers = closed_numbers packing in
      let rest : List ℕ = map (λ u. u.number) (option_to_list packing.current) in
      let held : Holds tag (numbers ++ rest) pool = subst (λ (ns : List ℕ). Holds tag ns pool) closed_first kept.held in
      let owned : AreOwned tag numbers pool = owned_front tag numbers rest pool held.owned in
      let leaves : LeavesOthers tag pool (all_given numbers pool) = leaves_rest tag rest numbers pool held.owned in
      let once : AllPairs (λ m n. m ≢ n) (numbers ++ rest) = held.owned.once in
      let many : length (numbers_of packing) ≡ length numbers + length rest = ap length closed_first ∙ length-append numbers rest in
      record {
        kept = record {
          within = within;
          full = full_last cap (charge_of (effected effect.Trim records)) packing;
          apart = apart_last packing kept.apart;
          held = holds_rest tag rest numbers pool held;
          laid = laid_trimmed records packing memory (wiped numbers memory) kept.apart (current_stays packing.current once) kept.laid;
          reserved = rw leaves.reservations kept.reserved;
        };
        others = leaves;
        blocks = λ other number differ owns. not_wiped numbers memory number (of_others tag other number numbers pool differ owned.each owns);
        wiped = wiped_all_given numbers pool memory was_wiped;
        counts = omega (arith, free_all_given tag numbers pool owned, many);
        size = size_all_given numbers pool;
        many = many_wiped numbers memory;
      }

-- a record is added

wiped_drawn : (tag number : ℕ) (pool : Ledger) (memory : Memory) → least_free pool ≡ Some number → AreWiped pool memory → AreWiped (drawn tag number pool) memory
wiped_drawn tag number pool memory at was_wiped other free =
    elim (cases_eq other number) [
      | inl same ↦
          let owned : slice_get (drawn tag number pool).owners other ≡ Some (Some tag) = rw same (owns_drawn pool tag number at) in
          let wrong : Some (Some tag) ≡ Some None = sym owned ∙ free in
          cc
      | inr differ ↦ was_wiped other (sym (get_beside_set pool.owners number other (Some tag) differ) ∙ free)
    ]

wiped_by : (b : Bool) (tag number : ℕ) (pool : Ledger) (memory : Memory) → (b ≡ false → least_free pool ≡ Some number) → AreWiped pool memory
    → AreWiped (if b then pool else drawn tag number pool) memory
wiped_by true tag number pool memory at was_wiped = was_wiped
wiped_by false tag number pool memory at was_wiped = wiped_drawn tag number pool memory (at refl) was_wiped

-- writing to an owned block
wiped_written : (tag number : ℕ) (bytes : List ℕ) (pool : Ledger) (memory : Memory) → Owns tag number pool → AreWiped pool memory → AreWiped pool (with_bytes number bytes memory)
wiped_written tag number bytes pool memory owns was_wiped other free =
    let differ : other ≢ number = λ same. let here : slice_get pool.owners number ≡ Some None = rw (← same) free in let wrong : Some (Some tag) ≡ Some None = sym owns ∙ here in absurd cc in
    other_block memory number other (block_in memory number ++ bytes) differ ∙ was_wiped other free

-- the block that the record goes to is the tag's
current_owned : (b : Bool) (tag number len : ℕ) (closed : List Use) (o : Option Use) (places : List Place) (pool : Ledger)
    → let p : Packing = record { closed = closed; current = o; places = places } in
    (b ≡ true → IsSome o) → (b ≡ false → least_free pool ≡ Some number) → All (λ n. Owns tag n pool) (numbers_of p)
    → Owns tag (current_number (with_place len (if b then p else with_block number p))) (if b then pool else drawn tag number pool)
current_owned true tag number len closed None places pool some at owned =
    let none : Option Use = None in let no : IsSome none = some refl in absurd cc
current_owned true tag number len closed (Some u) places pool some at owned =
    let last : map (λ (v : Use). v.number) (closed ++ u ∷ []) ≡ map (λ (v : Use). v.number) closed ++ u.number ∷ [] = map_push (λ (v : Use). v.number) closed u in
    let all : All (λ n. Owns tag n pool) (map (λ (v : Use). v.number) closed ++ u.number ∷ []) = subst (λ (ns : List ℕ). All (λ n. Owns tag n pool) ns) last owned in
    (All-pop (λ n. Owns tag n pool) (map (λ (v : Use). v.number) closed ++ u.number ∷ []) (map (λ (v : Use). v.number) closed) (Some u.number) refl all).1
current_owned false tag number len closed o places pool some at owned = owns_drawn pool tag number (at refl)

still_by : (b : Bool) (tag number other m : ℕ) (pool : Ledger) → (b ≡ false → least_free pool ≡ Some number) → Owns other m pool
    → Owns other m (if b then pool else drawn tag number pool)
still_by true tag number other m pool at owns = owns
still_by false tag number other m pool at owns = still_owns_drawn pool tag number other m (at refl) owns

counted_by : (b : Bool) (tag number : ℕ) (ns : List ℕ) (pool : Ledger) → (b ≡ false → least_free pool ≡ Some number)
    → free (if b then pool else drawn tag number pool) + length (if b then ns else ns ++ number ∷ []) ≡ free pool + length ns
counted_by true tag number ns pool at = refl
counted_by false tag number ns pool at = let one = free_drawn pool tag number (at refl) in let more = length_push ns number in omega (arith, one, more)

size_by : (b : Bool) (tag number : ℕ) (pool : Ledger) → size (if b then pool else drawn tag number pool) ≡ size pool
size_by true tag number pool = refl
size_by false tag number pool = size_drawn pool tag number

pub changed_added : (cap quota tag number : ℕ) (bytes : List ℕ) (records : List (List ℕ)) (packing : Packing) (pool : Ledger) (memory : Memory)
    → MOST_RECORD_BYTES < cap → size pool ≡ length memory → rounded (length bytes) ≤ MOST_RECORD_BYTES → charge_of records + rounded (length bytes) ≤ quota
    → (fits cap (rounded (length bytes)) packing.current ≡ false → least_free pool ≡ Some number) → AreWiped pool memory
    → IsKept cap quota tag records packing pool memory
    → IsChanged cap quota tag (records ++ bytes ∷ []) packing pool memory (packed cap number (length bytes) packing)
    (if fits cap (rounded (length bytes)) packing.current then pool else drawn tag number pool)
    (with_bytes (current_number (packed cap number (length bytes) packing)) (padded bytes) memory)
changed_added cap quota tag number bytes records packing pool memory wide flattened small room at was_wiped kept =
    let len = length bytes in
    let b = fits cap (rounded len) packing.current in
    let pool' = if b then pool else drawn tag number pool in
    let packing' = packed cap number len packing in
    let n' = current_number packing' in
    let more : charge_of (records ++ bytes ∷ []) ≡ charge_of records + rounded len = sum_by_push (λ each. rounded (length each)) records bytes in
    let leaves : LeavesOthers tag pool pool' = leaves_packed cap tag number len packing pool at in
    let owns : Owns tag n' pool' = current_owned b tag number len packing.closed packing.current packing.places pool (some_fits cap (rounded len) packing.current) at kept.held.owned.each in
    let fresh : b ≡ false → IsFresh number packing memory = λ no_room.
    record {
      flattened = let in_pool = slice_get_within pool.owners number None (free_at pool.owners number (at no_room)) in omega (arith, in_pool, flattened);
      others = fresh_number cap tag number len packing pool at kept.held no_room;
      empty = was_wiped number (free_at pool.owners number (at no_room));
    } in
    let all_known : All (λ n. n < length memory) (numbers_of packing) = λ k d within.
    let in_pool = slice_get_within pool.owners _ (Some tag) (kept.held.owned.each k d within) in omega (arith, in_pool, flattened) in
    record {
      kept = record {
        within = omega (arith, more, room);
        full = rw more (full_packed cap (charge_of records) number len packing wide small kept.full);
        apart = apart_packed cap number len packing (fresh_number cap tag number len packing pool at kept.held) kept.apart;
        held = holds_packed cap tag number len packing pool at kept.held;
        laid = laid_by b number packing.closed packing.current packing.places records memory bytes (some_fits cap (rounded len) packing.current) fresh kept.apart all_known kept.laid;
        reserved = rw leaves.reservations kept.reserved;
      };
      others = leaves;
      blocks = λ other m differ owned.
          other_block memory n' m (block_in memory n' ++ padded bytes)
          (one_owner pool' tag other n' m owns (still_by b tag number other m pool at owned) (λ same. differ (sym same)));
      wiped = wiped_written tag n' (padded bytes) pool' memory owns (wiped_by b tag number pool memory at was_wiped);
      counts = ap (λ (ns : List ℕ). free pool' + length ns) (numbers_packed cap number len packing) ∙ counted_by b tag number (numbers_of packing) pool at;
      size = size_by b tag number pool;
      many = length-set memory n' (block_in memory n' ++ padded bytes);
    }

-- any effect

pub small_record : (most charge : ℕ) (bytes : List ℕ) → IsFitRecord most charge bytes → rounded (length bytes) ≤ MOST_RECORD_BYTES
small_record most charge bytes fit =
    let size : rounded (length bytes) ≤ 166896 = rw fit.is (board_charge_small fit.board fit.legal) in
    omega (arith, size)

pub changed_by : (effect : Effect) (cap quota tag : ℕ) (records : List (List ℕ)) (packing : Packing) (pool : Ledger) (memory : Memory)
    → MOST_RECORD_BYTES < cap → size pool ≡ length memory → IsFitEffect quota (charge_of records) effect → charge_of (effected effect records) ≤ quota
    → CanDraw cap effect packing pool → AreWiped pool memory → IsKept cap quota tag records packing pool memory
    → IsChanged cap quota tag (effected effect records) packing pool memory (packing_after cap (next_number pool) effect packing) (pool_after cap tag effect packing pool)
    (memory_with cap (next_number pool) effect packing memory)
changed_by effect.Keep cap quota tag records packing pool memory wide flattened fit within can was_wiped kept =
    changed_kept cap quota tag packing pool memory was_wiped records kept
changed_by (effect.Add bytes) cap quota tag records packing pool memory wide flattened fit within can was_wiped kept =
    changed_added cap quota tag (next_number pool) bytes records packing pool memory wide flattened (small_record quota (charge_of records) bytes fit) fit.room can was_wiped kept
changed_by effect.Trim cap quota tag records packing pool memory wide flattened fit within can was_wiped kept =
    changed_trimmed cap quota tag packing pool memory was_wiped records within kept
changed_by effect.Drop cap quota tag records packing pool memory wide flattened fit within can was_wiped kept =
    changed_dropped cap quota tag packing pool memory was_wiped records kept
