-- What entries read is unchanged when blocks are opened or appended to.
use Rattle.std.proofs.Common.{◌≡◌, ℕ, ◌+◌, ◌-◌, ◌<◌, ◌≤◌, List, [], ◌∷◌, ◌++◌, length, map, take, drop, replicate, Some, None, refl, sym, ap, ◌∙◌, arith, inl, inr, length-append, length-drop, append-nil, take_at, drop_at}
use Rattle.std.specs.Prelude.{All, Option, option_map, option_to_list}
use Rattle.std.proofs.lemmas.Bool.{cases_lt}
use Rattle.std.proofs.lemmas.List.{map-append, length_push, get_or_append_left, get_or_push, drop-append-le, take-append-le}
use Rattle.std.proofs.lemmas.List.Elements.{All-head, All-tail}
use Rattle.bs_block.specs.Bytes.{range, padded}
use Rattle.bs_block.specs.Rounding.{rounded}
use Rattle.bs_block.proofs.Rounded.{rounded_above}
use Rattle.bs_block.proofs.Runs.{length-padded}
use Rattle.bs_heap.specs.declared.blocks.Entry.{Entry}
use Rattle.bs_heap.specs.Blocks.{NumberedBlock, Blocks}
use Rattle.bs_heap.specs.inner.Blocks.{all_blocks, block_at, use_of}
use Rattle.bs_heap.specs.inner.Entries.{entry_bytes, packing_in, IsWithin, ReadsTheSame}
use Rattle.bs_heap.specs.Packing.{with_block, with_place}
use Rattle.bs_heap.proofs.BlockSteps.{with_empty, with_bytes, next_entry}

-- `new` has the blocks of `old` with their bytes, possibly with more bytes after them
record Grows (old new : Blocks) : Type 0 where
  longer : length (all_blocks old) ≤ length (all_blocks new)
  same : (i : ℕ) → i < length (all_blocks old) → (block_at new i).number ≡ (block_at old i).number
  more : (i : ℕ) → i < length (all_blocks old) → (xs : List ℕ) × ((block_at new i).bytes ≡ (block_at old i).bytes ++ xs)

-- a range within xs is unchanged when bytes are appended
pub range_front : (xs ys : List ℕ) (at n : ℕ) → at + n ≤ length xs → range at n (xs ++ ys) ≡ range at n xs
range_front xs ys at n le =
    ap (take n) (drop-append-le at xs ys (omega (arith, le))) ∙ take-append-le n (drop at xs) ys (omega (arith, le, length-drop at xs))

-- two functions that agree at each element
pub map_agree : {X Y : Type 0} (f g : X → Y) (P : X → Type 0) → ((x : X) → P x → f x ≡ g x) → (xs : List X) → All P xs → map f xs ≡ map g xs
map_agree f g P same [] all = refl
map_agree f g P same (x ∷ xs) all = (λ i. same x (All-head P x xs all) i ∷ map_agree f g P same xs (All-tail P x xs all) i)

reads_by : (old new : Blocks) → Grows old new → (e : Entry) → IsWithin old e → ReadsTheSame old new e
reads_by old new grows e within =
    let more = grows.more e.position within.0 in
    record {
      within = (omega (arith, within.0, grows.longer), omega (arith, within.1, ap length more.1, length-append (block_at old e.position).bytes more.0));
      bytes = ap (range e.at e.len) more.1 ∙ range_front (block_at old e.position).bytes more.0 e.at e.len within.1;
      place = (λ i. record { number = grows.same e.position within.0 i; at = e.at; len = e.len });
    }

map_all : (bs : List NumberedBlock) (o : Option NumberedBlock) → map use_of (bs ++ option_to_list o) ≡ map use_of bs ++ option_to_list (option_map use_of o)
map_all bs None = map-append use_of bs []
map_all bs (Some b) = map-append use_of bs (b ∷ [])

-- an empty block is opened
module _ (number : ℕ) (blocks : Blocks) where
  opening_grows : Grows blocks (with_empty number blocks)
  opening_grows =
      let new : NumberedBlock = record { number = number; bytes = [] } in
      let same : (i : ℕ) → i < length (all_blocks blocks) → block_at (with_empty number blocks) i ≡ block_at blocks i = λ i h. get_or_append_left (all_blocks blocks) (new ∷ []) (record { number = 0; bytes = [] }) i h in
      record {
        longer = omega (arith, length_push (all_blocks blocks) new);
        same = λ i h. ap (λ (b : NumberedBlock). b.number) (same i h);
        more = λ i h. ([], ap (λ (b : NumberedBlock). b.bytes) (same i h) ∙ sym (append-nil (block_at blocks i).bytes));
      }

  pub reads_opened : (e : Entry) → IsWithin blocks e → ReadsTheSame blocks (with_empty number blocks) e
  reads_opened = reads_by blocks (with_empty number blocks) opening_grows

  pub packing_opened : packing_in (with_empty number blocks) [] ≡ with_block number (packing_in blocks [])
  packing_opened =
      let closed : map use_of (all_blocks blocks) ≡ map use_of blocks.closed ++ option_to_list (option_map use_of blocks.current) = map_all blocks.closed blocks.current in
      (λ i. record { closed = closed i; current = Some (record { number = number; used = 0 }); places = [] })

-- bytes are written to the current block b
module _ (tag room : ℕ) (closed : List NumberedBlock) (b : NumberedBlock) (bytes : List ℕ) where
  abbrev old : Blocks
  old = record { tag = tag; room = room; closed = closed; current = Some b }

  abbrev new : Blocks
  new = record { tag = tag; room = room; closed = closed; current = Some (with_bytes bytes b) }

  abbrev none : NumberedBlock
  none = record { number = 0; bytes = [] }

  at_current : block_at old (length closed) ≡ b
  at_current = get_or_push closed b none (length closed) refl

  at_written : block_at new (length closed) ≡ with_bytes bytes b
  at_written = get_or_push closed (with_bytes bytes b) none (length closed) refl

  below : (i : ℕ) → i < length closed → block_at new i ≡ block_at old i
  below i h = get_or_append_left closed (with_bytes bytes b ∷ []) none i h ∙ sym (get_or_append_left closed (b ∷ []) none i h)

  same_at : (i : ℕ) → i ≡ length closed → (block_at new i).number ≡ (block_at old i).number
  same_at i e = ap (λ j. (block_at new j).number) e ∙ ap (λ (c : NumberedBlock). c.number) at_written ∙ sym (ap (λ (c : NumberedBlock). c.number) at_current) ∙ ap (λ j. (block_at old j).number) (sym e)

  more_at : (i : ℕ) → i ≡ length closed → (block_at new i).bytes ≡ (block_at old i).bytes ++ padded bytes
  more_at i e = ap (λ j. (block_at new j).bytes) e ∙ ap (λ (c : NumberedBlock). c.bytes) at_written ∙ ap (λ (c : NumberedBlock). c.bytes ++ padded bytes) (sym at_current) ∙ ap (λ j. (block_at old j).bytes ++ padded bytes) (sym e)

  writing_grows : Grows old new
  writing_grows =
      record {
        longer = omega (arith, length_push closed b, length_push closed (with_bytes bytes b));
        same = λ i h. elim (cases_lt i (length closed)) [
          | inl l ↦ ap (λ (c : NumberedBlock). c.number) (below i l)
          | inr l ↦ same_at i (omega (arith, h, l, length_push closed b))
        ];
        more = λ i h. elim (cases_lt i (length closed)) [
          | inl l ↦ ([], ap (λ (c : NumberedBlock). c.bytes) (below i l) ∙ sym (append-nil (block_at old i).bytes))
          | inr l ↦ (padded bytes, more_at i (omega (arith, h, l, length_push closed b)))
        ];
      }

  pub reads_written : (e : Entry) → IsWithin old e → ReadsTheSame old new e
  reads_written = reads_by old new writing_grows

  abbrev entry : Entry
  entry = next_entry (length bytes) old

  pub within_written : IsWithin new entry
  within_written =
      let long = ap (λ (c : NumberedBlock). length c.bytes) at_written in
      (omega (arith, length_push closed (with_bytes bytes b)), omega (arith, long, length-append b.bytes (padded bytes), length-padded bytes, rounded_above (length bytes)))

  pub bytes_written : entry_bytes new entry ≡ bytes
  bytes_written =
      let n = length bytes in
      ap (λ (c : NumberedBlock). range (length b.bytes) n c.bytes) at_written ∙ ap (take n) (drop_at b.bytes (padded bytes) (length b.bytes) refl)
      ∙ take_at bytes (replicate (rounded n - n) 0) n refl

  pub packing_written : packing_in new (entry ∷ []) ≡ with_place (length bytes) (packing_in old [])
  packing_written =
      let used : length (b.bytes ++ padded bytes) ≡ length b.bytes + rounded (length bytes) = length-append b.bytes (padded bytes) ∙ ap (λ n. length b.bytes + n) (length-padded bytes) in
      (λ i. record {
        closed = map use_of closed;
        current = Some (record { number = b.number; used = used i });
        places = record { number = (at_written i).number; at = length b.bytes; len = length bytes } ∷ [];
      })
