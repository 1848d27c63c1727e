-- A heap whose blocks have other numbers and another tag.
use Rattle.std.specs.Prelude.{ℕ, map, option_map}
use Rattle.bs_heap.specs.Heap.{Heap}
use Rattle.bs_heap.specs.Packing.{Use, Place, Packing}

abbrev pub renamed_use : (ℕ → ℕ) → Use → Use
renamed_use number u = record { number = number u.number; used = u.used }

abbrev pub renamed_place : (ℕ → ℕ) → Place → Place
renamed_place number p = record { number = number p.number; at = p.at; len = p.len }

-- each record lies where it lay, in a block of another number
abbrev pub renamed_packing : (ℕ → ℕ) → Packing → Packing
renamed_packing number p =
    record {
      closed = map (renamed_use number) p.closed;
      current = option_map (renamed_use number) p.current;
      places = map (renamed_place number) p.places;
    }

abbrev pub renamed_heap : ℕ → (ℕ → ℕ) → Heap → Heap
renamed_heap tag number heap = record heap { tag = tag; packing = renamed_packing number heap.packing }
