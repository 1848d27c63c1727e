-- A heap drops all records but the last.
use Rattle.std.proofs.Common.{◌≡◌, ℕ, ◌+◌, ◌-◌, ◌≤◌, List, [], ◌∷◌, ◌++◌, length, map, slice_index_or, Option, Some, None, refl, sym, ap, subst, subst₂, ◌∙◌, arith, zero-add, vec_len, vec_capacity}
use Rattle.std.proofs.lemmas.List.{map_push, length-map, length_push, get_or_push, append-nil}
use Rattle.std.proofs.lemmas.List.Elements.{All-nil, All-cons}
use Rattle.std.proofs.lemmas.List.Sums.{sum_by_push}
use Rattle.bs_block.specs.Bytes.{range}
use Rattle.bs_block.specs.Rounding.{rounded}
use Rattle.bs_block.proofs.Runs.{length-range}
use Rattle.bs_heap.specs.declared.blocks.Entry.{Entry}
use Rattle.bs_heap.specs.declared.heap.TagHeap.TheInside.{Inside}
use Rattle.bs_heap.specs.Blocks.{NumberedBlock, Blocks}
use Rattle.bs_heap.specs.inner.Blocks.{block_at, use_of}
use Rattle.bs_heap.specs.Charge.{charge_of, blocks_for}
use Rattle.bs_heap.specs.Heap.{with_last}
use Rattle.bs_heap.specs.inner.Entries.{entry_bytes, entry_place, records_in, packing_in, IsWithin}
use Rattle.bs_heap.specs.Fullness.{AreFull}
use Rattle.bs_heap.specs.inner.HeapLayout.{heap_in, IsIndexed, IsHeap}
use Rattle.bs_heap.specs.PackedPlaces.{AreApart}
use Rattle.bs_heap.specs.Packing.{last_alone, packing_of_last}
use Rattle.bs_heap.proofs.Fullness.{full_last}
use Rattle.bs_heap.proofs.PackedPlaces.{last_of_push, apart_last}

last_of_map : {X Y : Type 0} (f : X → Y) (xs : List X) (x : X) → last_alone (map f (xs ++ x ∷ [])) ≡ f x ∷ []
last_of_map f xs x = ap last_alone (map_push f xs x) ∙ last_of_push (map f xs) (f x)

abbrev pub moved : Entry → Entry
moved e = record e { position = 0 }

abbrev pub current_alone : Blocks → Blocks
current_alone blocks = record blocks { closed = [] }

-- only the last record is kept, at its place
pub record Leaves (blocks : Blocks) (front : List Entry) (last : Entry) : Type 0 where
  pub records : records_in (current_alone blocks) (moved last ∷ []) ≡ last_alone (records_in blocks (front ++ last ∷ []))
  pub packing : packing_in (current_alone blocks) (moved last ∷ []) ≡ packing_of_last (packing_in blocks (front ++ last ∷ []))
  pub charge : charge_of (records_in (current_alone blocks) (moved last ∷ [])) ≡ rounded last.len
  pub less : rounded last.len ≤ charge_of (records_in blocks (front ++ last ∷ []))
  pub indexed : IsIndexed (current_alone blocks) (moved last ∷ [])

-- the current block f, in which the last record lies
module _ (tag room : ℕ) (closed : List NumberedBlock) (f : NumberedBlock) (front : List Entry) (last : Entry) where
  abbrev old : Blocks
  old = record { tag = tag; room = room; closed = closed; current = Some f }

  abbrev new : Blocks
  new = record { tag = tag; room = room; closed = []; current = Some f }

  module _ (at : last.position ≡ length closed) (within : IsWithin old last) where
    at_last : block_at old last.position ≡ f
    at_last = ap (block_at old) at ∙ get_or_push closed f (record { number = 0; bytes = [] }) (length closed) refl

    inside : last.at + last.len ≤ length f.bytes
    inside = omega (arith, within.1, ap (λ (b : NumberedBlock). length b.bytes) at_last)

    bytes_stay : entry_bytes new (moved last) ≡ entry_bytes old last
    bytes_stay = sym (ap (λ (b : NumberedBlock). range last.at last.len b.bytes) at_last)

    place_stays : entry_place new (moved last) ≡ entry_place old last
    place_stays = (λ i. record { number = (sym at_last i).number; at = last.at; len = last.len })

    size_of_last : length (entry_bytes old last) ≡ last.len
    size_of_last = sym (ap length bytes_stay) ∙ length-range f.bytes last.at last.len inside

    leaves_in : Leaves old front last
    leaves_in =
        let size = λ (xs : List ℕ). rounded (length xs) in
        let before : charge_of (records_in old (front ++ last ∷ [])) ≡ charge_of (records_in old front) + rounded (length (entry_bytes old last))
        = ap charge_of (map_push (entry_bytes old) front last) ∙ sum_by_push size (records_in old front) (entry_bytes old last) in
        record {
          records = (λ i. bytes_stay i ∷ []) ∙ sym (last_of_map (entry_bytes old) front last);
          packing = (λ i. record { closed = []; current = Some (use_of f); places = ((λ j. place_stays j ∷ []) ∙ sym (last_of_map (entry_place old) front last)) i });
          charge = zero-add (rounded (length (entry_bytes new (moved last)))) ∙ ap rounded (ap length bytes_stay ∙ size_of_last);
          less = omega (arith, before, ap rounded size_of_last);
          indexed = record {
            within = All-cons (IsWithin new) (moved last) [] (omega arith, inside) (All-nil (IsWithin new));
            last = λ d h. refl;
            none = λ empty. absurd (omega (arith, empty));
          };
        }

leaves_by : (tag room : ℕ) (closed : List NumberedBlock) (o : Option NumberedBlock) (front : List Entry) (last : Entry) → let blocks : Blocks = record { tag = tag; room = room; closed = closed; current = o } in
    last.position ≡ length closed → IsWithin blocks last → Leaves blocks front last
leaves_by tag room closed None front last at within = absurd (omega (arith, within.0, at, ap length (append-nil closed)))
leaves_by tag room closed (Some f) front last at within = leaves_in tag room closed f front last at within

pub leaves_last : (blocks : Blocks) (front : List Entry) (last : Entry) → IsIndexed blocks (front ++ last ∷ []) → Leaves blocks front last
leaves_last blocks front last indexed =
    let long : length (front ++ last ∷ []) ≡ length front + 1 = length_push front last in
    let end : slice_index_or (front ++ last ∷ []) (length (front ++ last ∷ []) - 1) last ≡ last = get_or_push front last last (length (front ++ last ∷ []) - 1) (omega (arith, long)) in
    let at : last.position ≡ length blocks.closed = sym (ap (λ (e : Entry). e.position) end) ∙ indexed.last last (omega (arith, long)) in
    let within : IsWithin blocks last = subst (IsWithin blocks) end (indexed.within (length (front ++ last ∷ []) - 1) last (omega (arith, long))) in
    leaves_by blocks.tag blocks.room blocks.closed blocks.current front last at within

-- the fields of a heap, whose last record is popped
module _ {most : ℕ} (h : Inside most) (ok : IsHeap most h) (front : List Entry) (last : Entry) (popped : h.index.items ≡ front ++ last ∷ []) where
  left : Leaves h.blocks front last
  left = leaves_last h.blocks front last (subst (λ (es : List Entry). IsIndexed h.blocks es) popped ok.indexed)

  pub charged_less : rounded last.len ≤ h.charge
  charged_less = omega (arith, left.less, ok.charge, ap (λ (es : List Entry). charge_of (records_in h.blocks es)) popped)

  -- and the fields after it
  module _ (h' : Inside most) (blocks : h'.blocks ≡ current_alone h.blocks) (index : h'.index.items ≡ moved last ∷ []) (charge : h'.charge ≡ rounded last.len) (quota : h'.quota ≡ h.quota) where
    packing_is : packing_in h'.blocks h'.index.items ≡ packing_of_last (packing_in h.blocks h.index.items)
    packing_is = (λ i. packing_in (blocks i) (index i)) ∙ left.packing ∙ ap (λ (es : List Entry). packing_of_last (packing_in h.blocks es)) (sym popped)

    pub last_is_heap : IsHeap most h'
    last_is_heap =
        record {
          wide = ok.wide;
          indexed = subst₂ IsIndexed (sym blocks) (sym index) left.indexed;
          charge = charge ∙ sym left.charge ∙ (λ i. charge_of (records_in (sym blocks i) (sym index i)));
          within = omega (arith, charged_less, ok.within, charge, quota);
          full = subst (AreFull most h'.charge) (sym packing_is) (full_last most h'.charge (packing_in h.blocks h.index.items));
          apart = subst AreApart (sym packing_is) (apart_last (packing_in h.blocks h.index.items) ok.apart);
          room = omega (arith, ok.room, ap (λ n. blocks_for most n) quota, ap (λ (b : Blocks). b.room) blocks);
        }

    pub last_heap_is : vec_capacity h'.index ≡ vec_capacity h.index → vec_len h'.index ≡ 1 → heap_in h' ≡ with_last (heap_in h)
    last_heap_is capacity len =
        let records : records_in h'.blocks h'.index.items ≡ last_alone (records_in h.blocks h.index.items)
        = (λ i. records_in (blocks i) (index i)) ∙ left.records ∙ ap (λ (es : List Entry). last_alone (records_in h.blocks es)) (sym popped) in
        let room : vec_capacity h'.index - vec_len h'.index ≡ vec_capacity h.index - vec_len h.index + (length (records_in h.blocks h.index.items) - 1)
        = omega (arith, capacity, len, length-map h.index.items (entry_bytes h.blocks), ap length popped, length_push front last, h.index.ok.0, h.index.ok.1) in
        (λ i. record { tag = (blocks i).tag; quota = quota i; records = records i; packing = packing_is i; index_room = room i })
