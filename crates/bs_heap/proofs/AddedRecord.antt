-- A record is added to a heap.
use Rattle.std.proofs.Common.{◌≡◌, ℕ, ◌+◌, ◌-◌, ◌<◌, ◌≤◌, false, List, [], ◌∷◌, ◌++◌, length, map, Some, sym, ap, subst, subst₂, ◌∙◌, arith, vec_len, vec_capacity}
use Rattle.std.specs.Prelude.{All, option_map}
use Rattle.std.proofs.lemmas.List.{length-map, length_push, map_push, get_or_push}
use Rattle.std.proofs.lemmas.List.Elements.{All-push, All-weaker}
use Rattle.std.proofs.lemmas.List.Sums.{sum_by_push}
use Rattle.bs_block.specs.Rounding.{rounded}
use Rattle.bs_pool.specs.Ledger.{Ledger, least_free, held, reserved}
use Rattle.bs_heap.specs.declared.blocks.Entry.{Entry}
use Rattle.bs_heap.specs.declared.heap.TagHeap.TheInside.{Inside}
use Rattle.bs_heap.specs.declared.heap.TheConstants.{MOST_RECORD_BYTES}
use Rattle.bs_heap.specs.AddAnswer.{heap_with, pool_with}
use Rattle.bs_heap.specs.Blocks.{Blocks}
use Rattle.bs_heap.specs.inner.Blocks.{use_of}
use Rattle.bs_heap.specs.Charge.{charge_of, blocks_for}
use Rattle.bs_heap.specs.inner.Entries.{entry_bytes, entry_place, records_in, packing_in, IsWithin, PutsRecord}
use Rattle.bs_heap.specs.Fullness.{AreFull}
use Rattle.bs_heap.specs.inner.HeapLayout.{heap_in, IsHeap, IsIndexed}
use Rattle.bs_heap.specs.HeldBlocks.{Holds, IsKeptIn, LeavesOthers, next_number}
use Rattle.bs_heap.specs.PackedPlaces.{AreApart}
use Rattle.bs_heap.specs.Packing.{Use, Packing, uses, numbers_of, fits, packed}
use Rattle.bs_heap.proofs.Entries.{map_agree}
use Rattle.bs_heap.proofs.Fullness.{few_blocks, few_closed, may_draw, full_packed}
use Rattle.bs_heap.proofs.HeldBlocks.{holds_packed, leaves_packed, fresh_number}
use Rattle.bs_heap.proofs.PackedPlaces.{apart_packed}
use Rattle.bs_heap.proofs.PutRecord.{packed_behind}

-- the index with the record's entry
module _ (cap number : ℕ) (bytes : List ℕ) (old new : Blocks) (entry : Entry) (puts : PutsRecord cap number bytes old new entry) (index : List Entry) (within : All (IsWithin old) index) where
  pub records_more : records_in new (index ++ entry ∷ []) ≡ records_in old index ++ bytes ∷ []
  records_more =
      map_push (entry_bytes new) index entry
      ∙ (λ i. map_agree (entry_bytes new) (entry_bytes old) (IsWithin old) (λ e w. (puts.others e w).bytes) index within i ++ puts.reads i ∷ [])

  pub packing_more : packing_in new (index ++ entry ∷ []) ≡ packed cap number (length bytes) (packing_in old index)
  packing_more =
      let one = puts.packing in
      let same : map (entry_place new) index ≡ map (entry_place old) index = map_agree (entry_place new) (entry_place old) (IsWithin old) (λ e w. (puts.others e w).place) index within in
      let places : map (entry_place new) (index ++ entry ∷ []) ≡ map (entry_place old) index ++ entry_place new entry ∷ [] = map_push (entry_place new) index entry ∙ ap (λ ps. ps ++ entry_place new entry ∷ []) same in
      (λ i. record { closed = map use_of new.closed; current = option_map use_of new.current; places = places i })
      ∙ (λ i. record (one i) { places = map (entry_place old) index ++ (one i).places }) ∙ sym (packed_behind cap number (length bytes) (packing_in old index))

  pub indexed_more : IsIndexed new (index ++ entry ∷ [])
  indexed_more =
      let long : length (index ++ entry ∷ []) ≡ length index + 1 = length_push index entry in
      record {
        within = All-push (IsWithin new) index entry (All-weaker (IsWithin old) (IsWithin new) (λ e w. (puts.others e w).within) index within) puts.within;
        last = λ d h. ap (λ (e : Entry). e.position) (get_or_push index entry d (length (index ++ entry ∷ []) - 1) (omega (arith, long))) ∙ puts.last;
        none = λ empty. absurd (omega (arith, long, empty));
      }

module _ {most : ℕ} (h : Inside most) (ok : IsHeap most h) (pool : Ledger) (kept : IsKeptIn (heap_in h) pool) where
  abbrev packing : Packing
  packing = packing_in h.blocks h.index.items

  count : held h.blocks.tag pool ≡ length (uses packing)
  count = kept.all ∙ length-map (uses packing) (λ (u : Use). u.number)

  pub few_held : held h.blocks.tag pool ≤ blocks_for most h.quota
  few_held = omega (arith, count, few_blocks most h.charge h.quota ok.wide ok.within packing ok.full)

  pub has_room : length h.blocks.closed < h.blocks.room
  has_room = omega (arith, few_closed most h.charge h.quota ok.wide ok.within packing ok.full, length-map h.blocks.closed use_of, ok.room)

  module _ (bytes : List ℕ) (small : rounded (length bytes) ≤ MOST_RECORD_BYTES) where
    abbrev size : ℕ
    size = rounded (length bytes)

    abbrev number : ℕ
    number = next_number pool

    pub drawable : blocks_for most h.quota ≤ reserved h.blocks.tag pool → fits most size packing.current ≡ false → held h.blocks.tag pool < reserved h.blocks.tag pool
    drawable enough no_room = omega (arith, count, may_draw most h.charge h.quota ok.wide ok.within packing size small no_room ok.full, enough)

    abbrev packing' : Packing
    packing' = packed most number (length bytes) packing

    full_after : AreFull most (h.charge + size) packing'
    full_after = full_packed most h.charge number (length bytes) packing ok.wide small ok.full

    -- the record is put into the blocks
    module _ (blocks : Blocks) (entry : Entry) (puts : PutsRecord most number bytes h.blocks blocks entry) (fresh : fits most size packing.current ≡ false → least_free pool ≡ Some number) where
      abbrev index' : List Entry
      index' = h.index.items ++ entry ∷ []

      records_are : records_in blocks index' ≡ records_in h.blocks h.index.items ++ bytes ∷ []
      records_are = records_more most number bytes h.blocks blocks entry puts h.index.items ok.indexed.within

      packing_is : packing_in blocks index' ≡ packing'
      packing_is = packing_more most number bytes h.blocks blocks entry puts h.index.items ok.indexed.within

      charge_is : charge_of (records_in blocks index') ≡ charge_of (records_in h.blocks h.index.items) + size
      charge_is = ap charge_of records_are ∙ sum_by_push (λ (xs : List ℕ). rounded (length xs)) (records_in h.blocks h.index.items) bytes

      apart_after : AreApart packing'
      apart_after = apart_packed most number (length bytes) packing (fresh_number most h.blocks.tag number (length bytes) packing pool fresh kept) ok.apart

      holds_after : Holds h.blocks.tag (numbers_of packing') (pool_with most (heap_in h) bytes pool)
      holds_after = holds_packed most h.blocks.tag number (length bytes) packing pool fresh kept

      -- the pool afterwards
      module _ (index : List Entry) (is : index ≡ index') (pool' : Ledger) (pool_is : pool' ≡ pool_with most (heap_in h) bytes pool) where
        holds_now : Holds blocks.tag (numbers_of packing') pool'
        holds_now =
            let P : ℕ → Ledger → Type 0 = λ tag p. Holds tag (numbers_of packing') p in
            subst₂ P (sym puts.tag) (sym pool_is) holds_after

        pub kept_after : Holds blocks.tag (numbers_of (packing_in blocks index)) pool'
        kept_after =
            let there : packing_in blocks index ≡ packing' = ap (packing_in blocks) is ∙ packing_is in
            subst (λ (p : Packing). Holds blocks.tag (numbers_of p) pool') (sym there) holds_now

        pub few_after : h.charge + size ≤ h.quota → held blocks.tag pool' ≤ blocks_for most h.quota
        few_after within = omega (arith, holds_now.all, length-map (uses packing') (λ (u : Use). u.number), few_blocks most (h.charge + size) h.quota ok.wide within packing' full_after)

        pub others_after : LeavesOthers h.blocks.tag pool pool'
        others_after = subst (λ p. LeavesOthers h.blocks.tag pool p) (sym pool_is) (leaves_packed most h.blocks.tag number (length bytes) packing pool fresh)

      -- the heap's fields afterwards
      module _ (h' : Inside most) (blocks_are : h'.blocks ≡ blocks) (index_is : h'.index.items ≡ index') (charge : h'.charge ≡ h.charge + size) (quota : h'.quota ≡ h.quota) where
        there : packing_in h'.blocks h'.index.items ≡ packing'
        there = (λ i. packing_in (blocks_are i) (index_is i)) ∙ packing_is

        pub still_heap : h.charge + size ≤ h.quota → IsHeap most h'
        still_heap within =
            record {
              wide = ok.wide;
              indexed = subst₂ IsIndexed (sym blocks_are) (sym index_is) (indexed_more most number bytes h.blocks blocks entry puts h.index.items ok.indexed.within);
              charge = charge ∙ ap (λ n. n + size) ok.charge ∙ sym charge_is ∙ (λ i. charge_of (records_in (sym blocks_are i) (sym index_is i)));
              within = omega (arith, within, charge, quota);
              full = subst₂ (AreFull most) (sym charge) (sym there) full_after;
              apart = subst AreApart (sym there) apart_after;
              room = omega (arith, ok.room, ap (λ n. blocks_for most n) quota, ap (λ (b : Blocks). b.room) blocks_are ∙ puts.room);
            }

        pub heap_is : vec_capacity h'.index ≡ vec_capacity h.index → vec_len h'.index ≡ vec_len h.index + 1 → heap_in h' ≡ heap_with most pool bytes (heap_in h)
        heap_is capacity len =
            let room : vec_capacity h'.index - vec_len h'.index ≡ vec_capacity h.index - vec_len h.index - 1 = omega (arith, capacity, len) in
            let tag : h'.blocks.tag ≡ h.blocks.tag = ap (λ (b : Blocks). b.tag) blocks_are ∙ puts.tag in
            (λ i. record {
              tag = tag i;
              quota = quota i;
              records = ((λ j. records_in (blocks_are j) (index_is j)) ∙ records_are) i;
              packing = there i;
              index_room = room i;
            })
