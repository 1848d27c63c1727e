-- A record is put into the blocks of its tag: into the current one, or into one that is opened.
use Rattle.std.proofs.Common.{◌≡◌, ℕ, Bool, true, false, if◌then◌else◌, List, [], ◌∷◌, ◌++◌, length, map, Option, Some, None, IsSome, refl, sym, ap, ◌∙◌}
use Rattle.std.specs.Prelude.{option_map, option_to_list}
use Rattle.std.proofs.lemmas.List.{map-append}
use Rattle.bs_block.specs.Rounding.{rounded}
use Rattle.bs_heap.specs.declared.blocks.Entry.{Entry}
use Rattle.bs_heap.specs.Blocks.{NumberedBlock, Blocks}
use Rattle.bs_heap.specs.inner.Blocks.{all_blocks, block_numbers, use_of, fits_current}
use Rattle.bs_heap.specs.inner.Entries.{packing_in, IsWithin, ReadsTheSame, PutsRecord}
use Rattle.bs_heap.specs.Packing.{Use, Place, Packing, fits, with_block, with_place, packed, numbers_of, closed_numbers}
use Rattle.bs_heap.proofs.BlockSteps.{with_empty, written, next_entry}
use Rattle.bs_heap.proofs.Entries.{reads_opened, packing_opened, reads_written, within_written, bytes_written, packing_written}
use Rattle.bs_heap.proofs.GivenBlocks.{all_numbers}
use Rattle.bs_heap.proofs.PackedPlaces.{some_fits}

packed_by : (b : Bool) (cap number len : ℕ) (p : Packing) → fits cap (rounded len) p.current ≡ b → packed cap number len p ≡ with_place len (if b then p else with_block number p)
packed_by b cap number len p is = ap (λ (c : Bool). with_place len (if c then p else with_block number p)) is

some_block : (o : Option NumberedBlock) → IsSome (option_map use_of o) → IsSome o
some_block None some = some
some_block (Some b) some = refl

puts_by : (cap number : ℕ) (bytes : List ℕ) (tag room : ℕ) (closed : List NumberedBlock) (o : Option NumberedBlock) → IsSome o
    → let old : Blocks = record { tag = tag; room = room; closed = closed; current = o } in fits_current cap (length bytes) old ≡ true
    → PutsRecord cap number bytes old (written bytes old) (next_entry (length bytes) old)
puts_by cap number bytes tag room closed None some here = cc
puts_by cap number bytes tag room closed (Some b) some here =
    let old : Blocks = record { tag = tag; room = room; closed = closed; current = Some b } in
    record {
      tag = refl;
      room = refl;
      within = within_written tag room closed b bytes;
      reads = bytes_written tag room closed b bytes;
      last = refl;
      others = reads_written tag room closed b bytes;
      packing = packing_written tag room closed b bytes ∙ sym (packed_by true cap number (length bytes) (packing_in old []) here);
    }

-- into the current block
pub puts_here : (cap number : ℕ) (bytes : List ℕ) (old : Blocks) → fits_current cap (length bytes) old ≡ true → PutsRecord cap number bytes old (written bytes old) (next_entry (length bytes) old)
puts_here cap number bytes old here =
    puts_by cap number bytes old.tag old.room old.closed old.current (some_block old.current (some_fits cap (rounded (length bytes)) (option_map use_of old.current) here)) here

reads_then : (old mid new : Blocks) (e : Entry) → ReadsTheSame old mid e → (IsWithin mid e → ReadsTheSame mid new e) → ReadsTheSame old new e
reads_then old mid new e a next =
    let b = next a.within in record { within = b.within; bytes = b.bytes ∙ a.bytes; place = b.place ∙ a.place }

-- into a block that is opened
pub puts_opened : (cap number : ℕ) (bytes : List ℕ) (old : Blocks) → fits_current cap (length bytes) old ≡ false
    → let mid = with_empty number old in PutsRecord cap number bytes old (written bytes mid) (next_entry (length bytes) mid)
puts_opened cap number bytes old not_here =
    let mid = with_empty number old in let new : NumberedBlock = record { number = number; bytes = [] } in
    record {
      tag = refl;
      room = refl;
      within = within_written old.tag old.room mid.closed new bytes;
      reads = bytes_written old.tag old.room mid.closed new bytes;
      last = refl;
      others = λ e within. reads_then old mid (written bytes mid) e (reads_opened number old e within) (reads_written old.tag old.room mid.closed new bytes e);
      packing = packing_written old.tag old.room mid.closed new bytes ∙ ap (with_place (length bytes)) (packing_opened number old) ∙ sym (packed_by false cap number (length bytes) (packing_in old []) not_here);
    }

-- the old places stay first
with_places : (b : Bool) (number len : ℕ) (closed : List Use) (o : Option Use) (places : List Place) → (b ≡ true → IsSome o)
    → let p : Packing = record { closed = closed; current = o; places = [] } in let q : Packing = record { closed = closed; current = o; places = places } in
    let r = with_place len (if b then p else with_block number p) in
    with_place len (if b then q else with_block number q) ≡ record r { places = places ++ r.places }
with_places true number len closed None places some = let none : Option Use = None in let no : IsSome none = some refl in cc
with_places true number len closed (Some u) places some = refl
with_places false number len closed o places some = refl

pub packed_behind : (cap number len : ℕ) (p : Packing) → let r = packed cap number len (record p { places = [] }) in packed cap number len p ≡ record r { places = p.places ++ r.places }
packed_behind cap number len p = with_places (fits cap (rounded len) p.current) number len p.closed p.current p.places (some_fits cap (rounded len) p.current)

-- the numbers of a packing are those of its blocks
map_numbers : (bs : List NumberedBlock) → map (λ u. u.number) (map use_of bs) ≡ block_numbers bs
map_numbers [] = refl
map_numbers (b ∷ bs) = ap (λ ns. b.number ∷ ns) (map_numbers bs)

map_number : (o : Option NumberedBlock) → map (λ u. u.number) (option_to_list (option_map use_of o)) ≡ block_numbers (option_to_list o)
map_number None = refl
map_number (Some b) = refl

pub closed_are : (blocks : Blocks) (index : List Entry) → closed_numbers (packing_in blocks index) ≡ block_numbers blocks.closed
closed_are blocks index = map_numbers blocks.closed

pub numbers_are : (blocks : Blocks) (index : List Entry) → numbers_of (packing_in blocks index) ≡ block_numbers (all_blocks blocks)
numbers_are blocks index =
    map-append (λ (u : Use). u.number) (map use_of blocks.closed) (option_to_list (option_map use_of blocks.current))
    ∙ (λ i. map_numbers blocks.closed i ++ map_number blocks.current i) ∙ sym (all_numbers blocks.closed blocks.current)
