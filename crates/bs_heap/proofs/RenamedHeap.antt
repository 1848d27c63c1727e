-- A heap whose blocks have other numbers is a heap, and its records are the same.
use Rattle.std.proofs.Common.{◌≡◌, ◌≢◌, ℕ, ◌+◌, ◌-◌, ◌<◌, ◌≤◌, List, [], ◌∷◌, ◌++◌, length, map, drop, slice_index_or, refl, sym, ap, subst, ◌∙◌, arith, inl, inr, vec_len, vec_capacity}
use Rattle.std.specs.Prelude.{All, AllPairs, Contains, Option, Some, None, IsSome, option_map, option_to_list, sum_by}
use Rattle.std.specs.List.{drop-map}
use Rattle.std.proofs.lemmas.Bool.{cases_lt}
use Rattle.std.proofs.lemmas.List.{map-append, length-map, get_or-map}
use Rattle.std.proofs.lemmas.List.Elements.{All-head, All-tail, All-map, All-weaker, All-contains, All-contains_itself}
use Rattle.std.proofs.lemmas.List.Sums.{sum_by-cons}
use Rattle.bs_block.specs.Bytes.{range}
use Rattle.std.proofs.lemmas.Option.{slice_get_within}
use Rattle.bs_pool.specs.Assembly.{raised, with_pool, AreNew}
use Rattle.bs_pool.specs.Ledger.{Ledger, IsSound, Owns, size, reservation_of}
use Rattle.bs_pool.specs.Woven.{place_in, ArePlaces}
use Rattle.bs_pool.proofs.Woven.{places_grow}
use Rattle.bs_pool.proofs.WovenOwners.{owns_laid, still_owns_laid, held_laid, still_held_laid}
use Rattle.bs_heap.specs.declared.blocks.Entry.{Entry}
use Rattle.bs_heap.specs.declared.heap.TagHeap.TheInside.{Inside}
use Rattle.bs_heap.specs.declared.heap.TheConstants.{MOST_RECORD_BYTES}
use Rattle.bs_heap.specs.Blocks.{NumberedBlock, Blocks}
use Rattle.bs_heap.specs.inner.Blocks.{all_blocks, block_at, use_of}
use Rattle.bs_heap.specs.inner.Entries.{entry_bytes, entry_place, records_in, packing_in, IsWithin}
use Rattle.bs_heap.specs.inner.HeapLayout.{heap_in, IsIndexed, IsHeap}
use Rattle.bs_heap.specs.inner.Renaming.{number_at, renamed_block, renamed_blocks}
use Rattle.bs_heap.specs.Charge.{charge_of, blocks_for}
use Rattle.bs_heap.specs.Fullness.{AreFull}
use Rattle.bs_heap.specs.PackedPlaces.{IsBefore, IsInside, AreApart}
use Rattle.bs_heap.specs.Heap.{Heap}
use Rattle.bs_heap.specs.HeldBlocks.{Holds, IsKeptIn}
use Rattle.bs_heap.specs.Packing.{Use, Place, Packing, uses, numbers_of, last_alone, packing_of_last}
use Rattle.bs_heap.specs.Renaming.{renamed_use, renamed_place, renamed_packing, renamed_heap}
use Rattle.bs_heap.proofs.Entries.{map_agree}
use Rattle.bs_heap.proofs.Renaming.{map_twice, option_twice}

abbrev number_of_use : Use → ℕ
number_of_use u = u.number

map_option : {X Y : Type 0} (f : X → Y) (xs : List X) (o : Option X) → map f (xs ++ option_to_list o) ≡ map f xs ++ option_to_list (option_map f o)
map_option f xs None = map-append f xs []
map_option f xs (Some x) = map-append f xs (x ∷ [])

contains_mapped : {X Y : Type 0} (f : X → Y) (xs : List X) (x : X) → Contains xs x → Contains (map f xs) (f x)
contains_mapped f xs x (k, within, is) =
    (k, omega (arith, within, length-map xs f), get_or-map f xs k x (f x) within ∙ ap f is)

-- distinct numbers stay distinct
pub distinct_numbers : (numbers : List ℕ) → AllPairs (λ m n. m ≢ n) numbers → (m n : ℕ) → m < length numbers → n < length numbers
    → number_at numbers m ≡ number_at numbers n → m ≡ n
distinct_numbers numbers once m n within within' same =
    elim (cases_lt m n) [
      | inl below ↦ absurd (once m n 0 below within' same)
      | inr above ↦ elim (cases_lt n m) [
        | inl below ↦ absurd (once n m 0 below within (sym same))
        | inr more ↦ omega (arith, above, more)
      ]
    ]

module _ (number : ℕ → ℕ) where
  numbers_renamed : (us : List Use) → map number_of_use (map (renamed_use number) us) ≡ map number (map number_of_use us)
  numbers_renamed = map_twice (renamed_use number) number_of_use number_of_use number (λ u. refl)

  uses_renamed : (p : Packing) → uses (renamed_packing number p) ≡ map (renamed_use number) (uses p)
  uses_renamed p = sym (map_option (renamed_use number) p.closed p.current)

  used_renamed : (us : List Use) → sum_by (λ u. u.used) (map (renamed_use number) us) ≡ sum_by (λ u. u.used) us
  used_renamed [] = refl
  used_renamed (u ∷ us) =
      omega (arith, sum_by-cons (λ (v : Use). v.used) (renamed_use number u) (map (renamed_use number) us), sum_by-cons (λ (v : Use). v.used) u us, used_renamed us)

  pub all_numbers_renamed : (p : Packing) → numbers_of (renamed_packing number p) ≡ map number (numbers_of p)
  all_numbers_renamed p = ap (map number_of_use) (uses_renamed p) ∙ numbers_renamed (uses p)

  full_renamed : (cap charge : ℕ) (p : Packing) → AreFull cap charge p → AreFull cap charge (renamed_packing number p)
  full_renamed cap charge p full =
      let after : drop 1 (uses (renamed_packing number p)) ≡ map (renamed_use number) (drop 1 (uses p)) = ap (drop 1) (uses_renamed p) ∙ drop-map (renamed_use number) 1 (uses p) in
      record {
        closed = All-map (λ u. cap - MOST_RECORD_BYTES < u.used) (renamed_use number) p.closed full.closed;
        charged = omega (arith, ap (λ (us : List Use). sum_by (λ u. u.used) us) after, used_renamed (drop 1 (uses p)), full.charged);
      }

  last_renamed : (p : Packing) → packing_of_last (renamed_packing number p) ≡ renamed_packing number (packing_of_last p)
  last_renamed p =
      let long : length (map (renamed_place number) p.places) ≡ length p.places = length-map p.places (renamed_place number) in
      ap (λ (ps : List Place). record { closed = []; current = option_map (renamed_use number) p.current; places = ps })
      (ap (λ n. drop (n - 1) (map (renamed_place number) p.places)) long ∙ drop-map (renamed_place number) (length p.places - 1) p.places)

  -- the renaming keeps the numbers of these blocks apart
  abbrev pub KeepsApart : List ℕ → Type 0
  KeepsApart ns = (m n : ℕ) → Contains ns m → Contains ns n → number m ≡ number n → m ≡ n

  inside_renamed : (us : List Use) (p : Place) → KeepsApart (map number_of_use us) → IsInside us p → IsInside (map (renamed_use number) us) (renamed_place number p)
  inside_renamed us p once inside =
      let P : Use → Type 0 = λ u. u.number ≡ number p.number → p.at + p.len ≤ u.used in
      record {
        block = subst (λ (ns : List ℕ). Contains ns (number p.number)) (sym (numbers_renamed us)) (contains_mapped number (map number_of_use us) p.number inside.block);
        within = All-map P (renamed_use number) us
            (λ k d h same. inside.within k d h (once (slice_index_or us k d).number p.number (contains_mapped number_of_use us (slice_index_or us k d) (All-contains_itself us k d h)) inside.block same));
      }

  before_renamed : (p : Packing) → KeepsApart (numbers_of p) → AreApart p → AllPairs IsBefore (map (renamed_place number) p.places)
  before_renamed p once apart = λ i j d below h same.
      let ps = p.places in
      let h' : j < length ps = omega (arith, h, length-map ps (renamed_place number)) in let i' : i < length ps = omega (arith, h', below) in
      let a = slice_index_or ps i d in let b = slice_index_or ps j d in
      let at_i : slice_index_or (map (renamed_place number) ps) i d ≡ renamed_place number a = get_or-map (renamed_place number) ps i d d i' in
      let at_j : slice_index_or (map (renamed_place number) ps) j d ≡ renamed_place number b = get_or-map (renamed_place number) ps j d d h' in
      let equal : a.number ≡ b.number = once a.number b.number (apart.inside i d i').block (apart.inside j d h').block
      (sym (ap (λ (q : Place). q.number) at_i) ∙ same ∙ ap (λ (q : Place). q.number) at_j) in
      let le = apart.before i j d below h' equal in
      omega (arith, le, ap (λ (q : Place). q.at + q.len) at_i, ap (λ (q : Place). q.at) at_j)

  pub apart_renamed : (p : Packing) → KeepsApart (numbers_of p) → AreApart p → AreApart (renamed_packing number p)
  apart_renamed p once apart =
      let ns = numbers_of p in let long : length (map number ns) ≡ length ns = length-map ns number in
      record {
        once = subst (λ (ms : List ℕ). AllPairs (λ m n. m ≢ n) ms) (sym (all_numbers_renamed p))
            (λ i j d below h same.
            let h' : j < length ns = omega (arith, h, long) in let i' : i < length ns = omega (arith, h', below) in
            let at_i = get_or-map number ns i d d i' in let at_j = get_or-map number ns j d d h' in
            apart.once i j d below h' (once (slice_index_or ns i d) (slice_index_or ns j d) (All-contains_itself ns i d i') (All-contains_itself ns j d h') (sym at_i ∙ same ∙ at_j)));
        inside = subst (λ (us : List Use). All (IsInside us) (map (renamed_place number) p.places)) (sym (uses_renamed p))
            (All-map (IsInside (map (renamed_use number) (uses p))) (renamed_place number) p.places
            (All-weaker (IsInside (uses p)) (λ q. IsInside (map (renamed_use number) (uses p)) (renamed_place number q)) (λ q inside. inside_renamed (uses p) q once inside) p.places apart.inside));
        before = before_renamed p once apart;
        last =
            let P : List ℕ → Place → Type 0 = λ ms q. Contains ms q.number in
            subst (λ (q : Packing). All (λ s. Contains (numbers_of q) s.number) (last_alone (map (renamed_place number) p.places))) (sym (last_renamed p))
            (subst (λ (ms : List ℕ). All (λ s. Contains ms s.number) (last_alone (map (renamed_place number) p.places))) (sym (all_numbers_renamed (packing_of_last p)))
            (subst (λ (ps : List Place). All (λ s. Contains (map number (numbers_of (packing_of_last p))) s.number) ps) (sym (ap (λ (q : Packing). q.places) (last_renamed p)))
            (All-map (P (map number (numbers_of (packing_of_last p)))) (renamed_place number) (last_alone p.places)
            (All-weaker (P (numbers_of (packing_of_last p))) (λ q. P (map number (numbers_of (packing_of_last p))) (renamed_place number q))
            (λ q has. contains_mapped number (numbers_of (packing_of_last p)) q.number has) (last_alone p.places) apart.last))));
      }

map_two : {X Y Z : Type 0} (g : Y → Z) (f : X → Y) (xs : List X) → map (λ x. g (f x)) xs ≡ map g (map f xs)
map_two g f [] = refl
map_two g f (x ∷ xs) = ap (λ zs. g (f x) ∷ zs) (map_two g f xs)

-- the fields of a heap
module _ (tag : ℕ) (number : ℕ → ℕ) (blocks : Blocks) where
  abbrev new : Blocks
  new = renamed_blocks tag number blocks

  all_renamed : all_blocks new ≡ map (renamed_block number) (all_blocks blocks)
  all_renamed = sym (map_option (renamed_block number) blocks.closed blocks.current)

  as_many : length (all_blocks new) ≡ length (all_blocks blocks)
  as_many = ap length all_renamed ∙ length-map (all_blocks blocks) (renamed_block number)

  at_renamed : (i : ℕ) → i < length (all_blocks blocks) → block_at new i ≡ renamed_block number (block_at blocks i)
  at_renamed i within =
      let none : NumberedBlock = record { number = 0; bytes = [] } in
      ap (λ (bs : List NumberedBlock). slice_index_or bs i none) all_renamed ∙ get_or-map (renamed_block number) (all_blocks blocks) i none none within

  within_renamed : (e : Entry) → IsWithin blocks e → IsWithin new e
  within_renamed e (there, inside) =
      (omega (arith, there, as_many), omega (arith, inside, ap (λ (b : NumberedBlock). length b.bytes) (at_renamed e.position there)))

  pub records_renamed : (index : List Entry) → All (IsWithin blocks) index → records_in new index ≡ records_in blocks index
  records_renamed index within =
      map_agree (entry_bytes new) (entry_bytes blocks) (IsWithin blocks) (λ e w. ap (λ (b : NumberedBlock). range e.at e.len b.bytes) (at_renamed e.position w.0)) index within

  pub packing_renamed : (index : List Entry) → All (IsWithin blocks) index → packing_in new index ≡ renamed_packing number (packing_in blocks index)
  packing_renamed index within =
      let closed : map use_of (map (renamed_block number) blocks.closed) ≡ map (renamed_use number) (map use_of blocks.closed) = map_twice (renamed_block number) use_of use_of (renamed_use number) (λ b. refl) blocks.closed in
      let current : option_map use_of (option_map (renamed_block number) blocks.current) ≡ option_map (renamed_use number) (option_map use_of blocks.current) = option_twice (renamed_block number) use_of use_of (renamed_use number) (λ b. refl) blocks.current in
      let places : map (entry_place new) index ≡ map (renamed_place number) (map (entry_place blocks) index) =
      map_agree (entry_place new) (λ e. renamed_place number (entry_place blocks e)) (IsWithin blocks)
      (λ e w. ap (λ (b : NumberedBlock). record { number = b.number; at = e.at; len = e.len }) (at_renamed e.position w.0)) index within
      ∙ map_two (renamed_place number) (entry_place blocks) index in
      (λ i. record { closed = closed i; current = current i; places = places i })

  indexed_renamed : (index : List Entry) → IsIndexed blocks index → IsIndexed new index
  indexed_renamed index ok = record {
    within = All-weaker (IsWithin blocks) (IsWithin new) within_renamed index ok.within;
    last = λ d some. ok.last d some ∙ sym (length-map blocks.closed (renamed_block number));
    none = λ empty. as_many ∙ ok.none empty;
  }

module _ {most : ℕ} (h : Inside most) (ok : IsHeap most h) (tag : ℕ) (numbers : List ℕ) (within : All (λ n. n < length numbers) (numbers_of (packing_in h.blocks h.index.items))) (once : AllPairs (λ m n. m ≢ n) numbers)
    (h' : Inside most) (blocks : h'.blocks ≡ renamed_blocks tag (number_at numbers) h.blocks) (index : h'.index ≡ h.index) (charge : h'.charge ≡ h.charge) (quota : h'.quota ≡ h.quota) where
  abbrev p : Packing
  p = packing_in h.blocks h.index.items

  keeps : KeepsApart (number_at numbers) (numbers_of p)
  keeps m n has has' = distinct_numbers numbers once m n (All-contains (λ k. k < length numbers) (numbers_of p) m within has) (All-contains (λ k. k < length numbers) (numbers_of p) n within has')

  records_are : records_in h'.blocks h'.index.items ≡ records_in h.blocks h.index.items
  records_are = (λ i. records_in (blocks i) (index i).items) ∙ records_renamed tag (number_at numbers) h.blocks h.index.items ok.indexed.within

  packing_is : packing_in h'.blocks h'.index.items ≡ renamed_packing (number_at numbers) p
  packing_is = (λ i. packing_in (blocks i) (index i).items) ∙ packing_renamed tag (number_at numbers) h.blocks h.index.items ok.indexed.within

  pub renamed_is_heap : IsHeap most h'
  renamed_is_heap = record {
    wide = ok.wide;
    indexed = subst (λ (b : Blocks). IsIndexed b h'.index.items) (sym blocks) (subst (λ (es : List Entry). IsIndexed (renamed_blocks tag (number_at numbers) h.blocks) es) (ap (λ v. v.items) (sym index)) (indexed_renamed tag (number_at numbers) h.blocks h.index.items ok.indexed));
    charge = charge ∙ ok.charge ∙ ap charge_of (sym records_are);
    within = omega (arith, charge, quota, ok.within);
    full = subst (AreFull most h'.charge) (sym packing_is) (subst (λ n. AreFull most n (renamed_packing (number_at numbers) p)) (sym charge) (full_renamed (number_at numbers) most h.charge p ok.full));
    apart = subst AreApart (sym packing_is) (apart_renamed (number_at numbers) p keeps ok.apart);
    room = omega (arith, ok.room, ap (λ n. blocks_for most n) quota, ap (λ (b : Blocks). b.room) blocks);
  }

  pub renamed_heap_is : heap_in h' ≡ renamed_heap tag (number_at numbers) (heap_in h)
  renamed_heap_is =
      (λ i. record { tag = (blocks i).tag; quota = quota i; records = records_are i; packing = packing_is i; index_room = vec_capacity (index i) - vec_len (index i) })

-- the renaming is that of the numbers of a pool that is laid into another
agrees_at : (f g : ℕ → ℕ) (closed : List Use) (current : Option Use) → All (λ n. f n ≡ g n) (map number_of_use (closed ++ option_to_list current))
    → (map (renamed_use f) closed ≡ map (renamed_use g) closed) × (option_map (renamed_use f) current ≡ option_map (renamed_use g) current)
agrees_at f g [] None same = (refl, refl)
agrees_at f g [] (Some u) same = (refl, (λ i. Some (record { number = same 0 u.number (omega arith) i; used = u.used })))
agrees_at f g (u ∷ closed) current same =
    let us = map number_of_use (closed ++ option_to_list current) in
    let rest = agrees_at f g closed current (All-tail (λ n. f n ≡ g n) u.number us same) in
    ((λ i. record { number = All-head (λ n. f n ≡ g n) u.number us same i; used = u.used } ∷ rest.0 i), rest.1)

-- two renamings that agree at the numbers of a packing
pub packing_agrees : (f g : ℕ → ℕ) (p : Packing) → AreApart p → All (λ n. f n ≡ g n) (numbers_of p) → renamed_packing f p ≡ renamed_packing g p
packing_agrees f g p apart same =
    let blocks = agrees_at f g p.closed p.current same in
    let places : map (renamed_place f) p.places ≡ map (renamed_place g) p.places =
    map_agree (renamed_place f) (renamed_place g) (IsInside (uses p))
    (λ q inside. (λ i. record { number = All-contains (λ n. f n ≡ g n) (numbers_of p) q.number same inside.block i; at = q.at; len = q.len })) p.places apart.inside in
    (λ i. record { closed = blocks.0 i; current = blocks.1 i; places = places i })

pub packing_places : (whole : List (Option ℕ)) (n : ℕ) (numbers : List ℕ) (p : Packing) → ArePlaces whole n numbers → AreApart p → All (λ m. m < length numbers) (numbers_of p)
    → renamed_packing (number_at numbers) p ≡ renamed_packing (place_in whole) p
packing_places whole n numbers p are apart within =
    packing_agrees (number_at numbers) (place_in whole) p apart (λ k d h. are.each (slice_index_or (numbers_of p) k d) 0 (within k d h))

-- the numbers of a heap are those of its pool
pub kept_within : (heap : Heap) (pool : Ledger) (n : ℕ) → IsKeptIn heap pool → size pool ≤ n → All (λ m. m < n) (numbers_of heap.packing)
kept_within heap pool n kept few = λ k d h.
    let within = slice_get_within pool.owners (slice_index_or (numbers_of heap.packing) k d) (Some heap.tag) (kept.owned.each k d h) in
    omega (arith, within, few)

-- a heap of the pool is one of the whole
module _ (offset : ℕ) (pool whole : Ledger) (sound : IsSound pool) (sound' : IsSound whole) (new : AreNew offset pool whole) where
  pub kept_laid : (heap : Heap) → reservation_of (raised offset heap.tag) whole ≡ None → IsKeptIn heap pool
      → IsKeptIn (renamed_heap (raised offset heap.tag) (place_in whole.owners) heap) (with_pool offset pool whole)
  kept_laid heap none kept =
      let ns = numbers_of heap.packing in let f = place_in whole.owners in
      let apart : (m n : ℕ) → f m ≡ f n → m ≡ n = λ m n same.
      elim (cases_lt m n) [
        | inl below ↦ absurd (let grow = places_grow whole.owners m n below in omega (arith, same, grow))
        | inr above ↦ elim (cases_lt n m) [
          | inl below ↦ absurd (let grow = places_grow whole.owners n m below in omega (arith, same, grow))
          | inr more ↦ omega (arith, above, more)
        ]
      ] in
      let long : length (map f ns) ≡ length ns = length-map ns f in
      subst (λ (ms : List ℕ). Holds (raised offset heap.tag) ms (with_pool offset pool whole)) (sym (all_numbers_renamed f heap.packing))
      (record {
        owned = record {
          each = All-map (λ n. Owns (raised offset heap.tag) n (with_pool offset pool whole)) f ns (λ k d h. owns_laid offset pool whole heap.tag (slice_index_or ns k d) (kept.owned.each k d h));
          once = λ i j d below h same.
              let h' : j < length ns = omega (arith, h, long) in let i' : i < length ns = omega (arith, below, h') in
              kept.owned.once i j d below h' (apart (slice_index_or ns i d) (slice_index_or ns j d) (sym (get_or-map f ns i d d i') ∙ same ∙ get_or-map f ns j d d h'));
        };
        all = held_laid offset pool whole sound sound' new heap.tag none ∙ kept.all ∙ sym long;
      })

  -- and a heap of the whole stays one
  pub still_kept_laid : (heap : Heap) → IsSome (reservation_of heap.tag whole) → IsKeptIn heap whole → IsKeptIn heap (with_pool offset pool whole)
  still_kept_laid heap some kept = record {
    owned = record {
      each = λ k d h. still_owns_laid offset pool whole heap.tag (slice_index_or (numbers_of heap.packing) k d) (kept.owned.each k d h);
      once = kept.owned.once;
    };
    all = still_held_laid offset pool whole sound sound' new heap.tag some ∙ kept.all;
  }
