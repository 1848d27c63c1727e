-- Where the bytes of a game's records lie in the memory, and that writing elsewhere leaves them
-- unchanged.
use Rattle.std.proofs.Common.{◌≡◌, ◌≢◌, ℕ, ◌+◌, ◌-◌, ◌<◌, ◌≤◌, Bool, true, false, if◌then◌else◌, List, [], ◌∷◌, ◌++◌, length, map, take, drop, replicate, Option, Some, None, IsSome, refl, sym, ap, subst, ◌∙◌, arith, inl, inr, length-append}
use Rattle.std.specs.Prelude.{All, AllPairs, option_to_list, slice_index_or, slice_set}
use Rattle.std.proofs.Math.ListN.{get_or-map}
use Rattle.std.proofs.lemmas.Bool.{cases_eq}
use Rattle.std.proofs.lemmas.List.{length-map, length_push, map_push, get_or-set_same, get_or-set_other, get_or_append_left, get_or_push, take_at, drop_at}
use Rattle.std.proofs.lemmas.List.Elements.{All-push, All-pop, All-drop, All-contains}
use Rattle.bs_block.specs.Bytes.{range, padded}
use Rattle.bs_block.specs.Rounding.{rounded}
use Rattle.bs_block.proofs.Runs.{length-padded}
use Rattle.bs_game.proofs.Games.{newest_of_map}
use Rattle.bs_heap.specs.Packing.{Use, Place, Packing, uses, numbers_of, no_packing, with_block, with_place, last_alone, packing_of_last}
use Rattle.bs_heap.specs.PackedPlaces.{IsInside, AreApart}
use Rattle.bs_heap.proofs.Entries.{range_front, map_agree}
use Rattle.bs_heap.proofs.PackedPlaces.{apart_last}
use Rattle.bs_sched.specs.Memory.{Memory, block_in, bytes_at, with_bytes, current_number}

-- the records lie at the places of the packing, and each block has as many bytes as the packing
-- uses
pub record IsLaid (records : List (List ℕ)) (packing : Packing) (memory : Memory) : Type 0 where
  pub used : All (λ u. length (block_in memory u.number) ≡ u.used) (uses packing)
  pub reads : map (bytes_at memory) packing.places ≡ records

-- one block changes

pub block_set : (memory : Memory) (number : ℕ) (bytes : List ℕ) → number < length memory → block_in (slice_set memory number bytes) number ≡ bytes
block_set memory number bytes within = get_or-set_same memory number bytes [] within

pub other_block : (memory : Memory) (number other : ℕ) (bytes : List ℕ) → other ≢ number → block_in (slice_set memory number bytes) other ≡ block_in memory other
other_block memory number other bytes differ = get_or-set_other memory number other bytes [] differ

-- what holds of each block's number holds of the blocks
all_of_map : {X Y : Type 0} (Q : Y → Type 0) (f : X → Y) (xs : List X) → All Q (map f xs) → All (λ x. Q (f x)) xs
all_of_map Q f xs all k d within = subst Q (get_or-map f xs k d) (all k (f d) (omega (arith, length-map xs f)))

-- only the bytes of its own blocks matter

pub laid_elsewhere : (records : List (List ℕ)) (packing : Packing) (memory memory' : Memory) → AreApart packing
    → All (λ n. block_in memory' n ≡ block_in memory n) (numbers_of packing) → IsLaid records packing memory → IsLaid records packing memory'
laid_elsewhere records packing memory memory' apart same laid =
    let Same : ℕ → Type 0 = λ n. block_in memory' n ≡ block_in memory n in
    let number : Use → ℕ = λ u. u.number in
    let each = all_of_map Same number (uses packing) same in
    record {
      used = λ k d within. ap length (each k d within) ∙ laid.used k d within;
      reads = map_agree (bytes_at memory') (bytes_at memory) (IsInside (uses packing))
          (λ place inside. ap (range place.at place.len) (All-contains Same (numbers_of packing) place.number same inside.block)) packing.places apart.inside
          ∙ laid.reads;
    }

-- there are no records

pub laid_nothing : (memory : Memory) → IsLaid [] no_packing memory
laid_nothing memory = record { used = λ k d within. absurd (omega (arith, within)); reads = refl }

-- only the last record is kept, in the current block

pub laid_last : (records : List (List ℕ)) (packing : Packing) (memory : Memory) → IsLaid records packing memory
    → IsLaid (last_alone records) (packing_of_last packing) memory
laid_last records packing memory laid =
    let P : Use → Type 0 = λ u. length (block_in memory u.number) ≡ u.used in
    record {
      used = subst (All P) (drop_at packing.closed (option_to_list packing.current) (length packing.closed) refl)
          (All-drop P (length packing.closed) (uses packing) laid.used);
      reads = sym (newest_of_map (bytes_at memory) packing.places) ∙ ap last_alone laid.reads;
    }

pub laid_trimmed : (records : List (List ℕ)) (packing : Packing) (memory memory' : Memory) → AreApart packing
    → All (λ n. block_in memory' n ≡ block_in memory n) (numbers_of (packing_of_last packing)) → IsLaid records packing memory
    → IsLaid (last_alone records) (packing_of_last packing) memory'
laid_trimmed records packing memory memory' apart same laid =
    laid_elsewhere (last_alone records) (packing_of_last packing) memory memory' (apart_last packing apart) same (laid_last records packing memory laid)

-- a record is appended to the current block

module _ (closed : List Use) (u : Use) (places : List Place) (records : List (List ℕ)) (memory : Memory) (bytes : List ℕ) where
  abbrev old : Packing
  old = record { closed = closed; current = Some u; places = places }

  abbrev new : Memory
  new = with_bytes u.number (padded bytes) memory

  abbrev spot : Place
  spot = record { number = u.number; at = u.used; len = length bytes }

  pub record IsOpen : Type 0 where
    pub flattened : u.number < length memory
    pub others : All (λ v. v.number ≢ u.number) closed
    pub used : All (λ v. length (block_in memory v.number) ≡ v.used) closed
    pub filled : length (block_in memory u.number) ≡ u.used
    pub inside : All (λ q. q.number ≡ u.number → q.at + q.len ≤ u.used) places
    pub reads : map (bytes_at memory) places ≡ records

  block_written : IsOpen → block_in new u.number ≡ block_in memory u.number ++ padded bytes
  block_written ready = block_set memory u.number (block_in memory u.number ++ padded bytes) ready.flattened

  block_kept : (number : ℕ) → number ≢ u.number → block_in new number ≡ block_in memory number
  block_kept number differ = other_block memory u.number number (block_in memory u.number ++ padded bytes) differ

  place_kept : IsOpen → (q : Place) → (q.number ≡ u.number → q.at + q.len ≤ u.used) → bytes_at new q ≡ bytes_at memory q
  place_kept ready q inside =
      elim (cases_eq q.number u.number) [
        | inl same ↦
            let le : q.at + q.len ≤ u.used = inside same in
            let filled = ready.filled in
            ap (λ number. range q.at q.len (block_in new number)) same
            ∙ ap (range q.at q.len) (block_written ready)
            ∙ range_front (block_in memory u.number) (padded bytes) q.at q.len (omega (arith, le, filled))
            ∙ ap (λ number. range q.at q.len (block_in memory number)) (sym same)
        | inr differ ↦ ap (range q.at q.len) (block_kept q.number differ)
      ]

  spot_reads : IsOpen → bytes_at new spot ≡ bytes
  spot_reads ready =
      let behind : drop u.used (block_in memory u.number ++ padded bytes) ≡ padded bytes = drop_at (block_in memory u.number) (padded bytes) u.used ready.filled in
      ap (range u.used (length bytes)) (block_written ready)
      ∙ ap (take (length bytes)) behind
      ∙ take_at bytes (replicate (rounded (length bytes) - length bytes) 0) (length bytes) refl

  pub laid_open : IsOpen → IsLaid (records ++ bytes ∷ []) (with_place (length bytes) old) new
  laid_open ready =
      let P : Use → Type 0 = λ v. length (block_in new v.number) ≡ v.used in
      let grown : Use = record { number = u.number; used = u.used + rounded (length bytes) } in
      let filled = ready.filled in
      let more : length (block_in new u.number) ≡ u.used + rounded (length bytes)
      = ap length (block_written ready) ∙ length-append (block_in memory u.number) (padded bytes)
      ∙ ap (λ n. n + length (padded bytes)) filled ∙ ap (λ n. u.used + n) (length-padded bytes) in
      record {
        used = All-push P closed grown (λ k d within. ap length (block_kept _ (ready.others k d within)) ∙ ready.used k d within) more;
        reads = map_push (bytes_at new) places spot
            ∙ ap (λ front. front ++ bytes_at new spot ∷ [])
            (map_agree (bytes_at new) (bytes_at memory) (λ q. q.number ≡ u.number → q.at + q.len ≤ u.used) (place_kept ready) places ready.inside ∙ ready.reads)
            ∙ ap (λ last. records ++ last ∷ []) (spot_reads ready);
      }

-- a record is added, in the current block or in one that is opened

pub last_differs : (ms : List ℕ) (n : ℕ) → AllPairs (λ l m. l ≢ m) (ms ++ n ∷ []) → All (λ m. m ≢ n) ms
last_differs ms n once = λ k d h e.
    let long = length_push ms n in
    once k (length ms) d h (omega (arith, long)) (get_or_append_left ms (n ∷ []) d k h ∙ e ∙ sym (get_or_push ms n d (length ms) refl))

-- a block that can be opened: not one of the packing, and empty
pub record IsFresh (number : ℕ) (packing : Packing) (memory : Memory) : Type 0 where
  pub flattened : number < length memory
  pub others : All (λ m. m ≢ number) (numbers_of packing)
  pub empty : block_in memory number ≡ []

pub laid_by : (b : Bool) (number : ℕ) (closed : List Use) (o : Option Use) (places : List Place) (records : List (List ℕ)) (memory : Memory) (bytes : List ℕ)
    → let p : Packing = record { closed = closed; current = o; places = places } in
    let q : Packing = with_place (length bytes) (if b then p else with_block number p) in
    (b ≡ true → IsSome o) → (b ≡ false → IsFresh number p memory) → AreApart p → All (λ n. n < length memory) (numbers_of p) → IsLaid records p memory
    → IsLaid (records ++ bytes ∷ []) q (with_bytes (current_number q) (padded bytes) memory)
laid_by true number closed None places records memory bytes some fresh apart flattened laid =
    let none : Option Use = None in let no : IsSome none = some refl in absurd cc
laid_by true number closed (Some u) places records memory bytes some fresh apart flattened laid =
    let of_use : Use → ℕ = λ v. v.number in
    let P : Use → Type 0 = λ v. length (block_in memory v.number) ≡ v.used in
    let numbers : map of_use (closed ++ u ∷ []) ≡ map of_use closed ++ u.number ∷ [] = map_push of_use closed u in
    let once : AllPairs (λ l m. l ≢ m) (map of_use closed ++ u.number ∷ []) = subst (λ (ns : List ℕ). AllPairs (λ l m. l ≢ m) ns) numbers apart.once in
    let used = All-pop P (closed ++ u ∷ []) closed (Some u) refl laid.used in
    let all_known = all_of_map (λ n. n < length memory) of_use (closed ++ u ∷ []) flattened in
    laid_open closed u places records memory bytes (record {
      flattened = (All-pop (λ v. v.number < length memory) (closed ++ u ∷ []) closed (Some u) refl all_known).1;
      others = all_of_map (λ m. m ≢ u.number) of_use closed (last_differs (map of_use closed) u.number once);
      used = used.0;
      filled = used.1;
      inside = λ k d within same.
          let q = slice_index_or places k d in
          (All-pop (λ v. v.number ≡ q.number → q.at + q.len ≤ v.used) (closed ++ u ∷ []) closed (Some u) refl (apart.inside k d within).within).1 (sym same);
      reads = laid.reads;
    })
laid_by false number closed o places records memory bytes some fresh apart flattened laid =
    let of_use : Use → ℕ = λ v. v.number in
    let p : Packing = record { closed = closed; current = o; places = places } in
    let is = fresh refl in
    laid_open (uses p) (record { number = number; used = 0 }) places records memory bytes (record {
      flattened = is.flattened;
      others = all_of_map (λ m. m ≢ number) of_use (uses p) is.others;
      used = laid.used;
      filled = ap length is.empty;
      inside = λ k d within same. absurd (All-contains (λ m. m ≢ number) (numbers_of p) _ is.others (apart.inside k d within).block same);
      reads = laid.reads;
    })
