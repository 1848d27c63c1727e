-- How many blocks the records within a quota need.
use Rattle.std.proofs.Common.{◌≡◌, ℕ, ◌+◌, ◌-◌, ◌*◌, ◌<◌, ◌≤◌, Bool, true, false, if◌then◌else◌, List, [], ◌∷◌, ◌++◌, length, drop, Option, Some, None, refl, arith, length-append, suc-mul, zero-mul, leb-false}
use Rattle.std.specs.Prelude.{All, sum_by, option_to_list}
use Rattle.std.proofs.lemmas.List.Elements.{All-nil, All-head, All-tail, All-append, All-push}
use Rattle.std.proofs.lemmas.List.Sums.{sum_by-cons, sum_by-append, sum_by_push}
use Rattle.std.proofs.lemmas.Nat.{le-div}
use Rattle.bs_block.specs.Rounding.{rounded}
use Rattle.bs_heap.specs.Charge.{blocks_for}
use Rattle.bs_heap.specs.declared.heap.TheConstants.{MOST_RECORD_BYTES}
use Rattle.bs_heap.specs.Fullness.{AreFull}
use Rattle.bs_heap.specs.Packing.{Use, Place, Packing, uses, no_packing, fits, with_block, with_place, packed, packing_of_last}

abbrev used : Use → ℕ
used u = u.used

-- what all blocks but the first use
abbrev used_after : List Use → ℕ
used_after us = sum_by used (drop 1 us)

used_push : (us : List Use) (u : Use) → used_after (us ++ u ∷ []) ≤ used_after us + used u
used_push [] u = omega arith
used_push (v ∷ us) u = omega (arith, sum_by_push used us u)

used_more : (us : List Use) (u v : Use) (n : ℕ) → used v ≡ used u + n → used_after (us ++ v ∷ []) ≤ used_after (us ++ u ∷ []) + n
used_more [] u v n more = omega arith
used_more (w ∷ us) u v n more = omega (arith, sum_by_push used us u, sum_by_push used us v, more)

used_front : (us vs : List Use) → used_after us ≤ used_after (us ++ vs)
used_front [] vs = omega arith
used_front (u ∷ us) vs = omega (arith, sum_by-append used us vs)

-- blocks that use more than m bytes each
each_more : (m : ℕ) (us : List Use) → All (λ u. m < used u) us → length us * m ≤ sum_by used us
each_more m [] all = omega arith
each_more m (u ∷ us) all = omega (arith, sum_by-cons used u us, All-head (λ v. m < used v) u us all, each_more m us (All-tail (λ v. m < used v) u us all), suc-mul (length us) m)

all_more : (m : ℕ) (us : List Use) → All (λ u. m < used u) us → (length us - 1) * m ≤ used_after us
all_more m [] all = omega (arith, zero-mul m)
all_more m (u ∷ us) all = let e : length (u ∷ us) - 1 ≡ length us = omega arith in rw e (each_more m us (All-tail (λ v. m < used v) u us all))

pub full_none : (cap charge : ℕ) → AreFull cap charge no_packing
full_none cap charge = record { closed = All-nil (λ u. cap - MOST_RECORD_BYTES < used u); charged = omega arith }

-- a record is written to the current block
full_written : (cap charge len : ℕ) (closed : List Use) (o : Option Use) (places : List Place)
    → let old : Packing = record { closed = closed; current = o; places = places } in AreFull cap charge old → AreFull cap (charge + rounded len) (with_place len old)
full_written cap charge len closed None places full = record { closed = full.closed; charged = omega (arith, full.charged) }
full_written cap charge len closed (Some u) places full =
    record { closed = full.closed; charged = omega (arith, used_more closed u (record { number = u.number; used = u.used + rounded len }) (rounded len) refl, full.charged) }

-- the current block has no room for a record: it is closed
one_more : (cap size : ℕ) (o : Option Use) → MOST_RECORD_BYTES < cap → size ≤ MOST_RECORD_BYTES → fits cap size o ≡ false → All (λ u. cap - MOST_RECORD_BYTES < used u) (option_to_list o)
one_more cap size None wide small no_room = All-nil (λ u. cap - MOST_RECORD_BYTES < used u)
one_more cap size (Some u) wide small no_room =
    let past : cap < used u + size = leb-false (used u + size) cap no_room in
    All-push (λ v. cap - MOST_RECORD_BYTES < used v) [] u (All-nil (λ v. cap - MOST_RECORD_BYTES < used v)) (omega (arith, past, small, wide))

full_opened : (cap charge size number : ℕ) (p : Packing) → MOST_RECORD_BYTES < cap → size ≤ MOST_RECORD_BYTES → fits cap size p.current ≡ false → AreFull cap charge p → AreFull cap charge (with_block number p)
full_opened cap charge size number p wide small no_room full =
    record {
      closed = All-append (λ u. cap - MOST_RECORD_BYTES < used u) p.closed (option_to_list p.current) full.closed (one_more cap size p.current wide small no_room);
      charged = omega (arith, used_push (uses p) (record { number = number; used = 0 }), full.charged);
    }

full_by : (b : Bool) (cap charge number len : ℕ) (p : Packing) → MOST_RECORD_BYTES < cap → rounded len ≤ MOST_RECORD_BYTES → fits cap (rounded len) p.current ≡ b → AreFull cap charge p
    → AreFull cap (charge + rounded len) (with_place len (if b then p else with_block number p))
full_by true cap charge number len p wide small is full = full_written cap charge len p.closed p.current p.places full
full_by false cap charge number len p wide small is full =
    full_written cap charge len (uses p) (Some (record { number = number; used = 0 })) p.places (full_opened cap charge (rounded len) number p wide small is full)

-- a record is added
pub full_packed : (cap charge number len : ℕ) (p : Packing) → MOST_RECORD_BYTES < cap → rounded len ≤ MOST_RECORD_BYTES → AreFull cap charge p → AreFull cap (charge + rounded len) (packed cap number len p)
full_packed cap charge number len p wide small full = full_by (fits cap (rounded len) p.current) cap charge number len p wide small refl full

-- all records but the last are dropped
none_after : (charge : ℕ) (o : Option Use) → used_after (option_to_list o) ≤ charge
none_after charge None = omega arith
none_after charge (Some u) = omega arith

pub full_last : (cap charge : ℕ) (p : Packing) → AreFull cap charge (packing_of_last p)
full_last cap charge p = record { closed = All-nil (λ u. cap - MOST_RECORD_BYTES < used u); charged = none_after charge p.current }

-- full blocks are no more than the quota needs
module _ (cap charge quota : ℕ) (wide : MOST_RECORD_BYTES < cap) (within : charge ≤ quota) where
  pub few_closed : (p : Packing) → AreFull cap charge p → length p.closed + 1 ≤ blocks_for cap quota
  few_closed p full =
      let m = cap - MOST_RECORD_BYTES in let k = length p.closed - 1 in
      let le : k * m ≤ quota = omega (arith, all_more m p.closed full.closed, used_front p.closed (option_to_list p.current), full.charged, within) in
      omega (arith, le-div k quota m (omega (arith, wide)) le)

  one_at_most : (o : Option Use) → length (option_to_list o) ≤ 1
  one_at_most None = omega arith
  one_at_most (Some u) = omega arith

  pub few_blocks : (p : Packing) → AreFull cap charge p → length (uses p) ≤ blocks_for cap quota
  few_blocks p full = omega (arith, length-append p.closed (option_to_list p.current), one_at_most p.current, few_closed p full)

  -- while a block has to be drawn, the tag has fewer blocks than the quota needs
  pub may_draw : (p : Packing) (size : ℕ) → size ≤ MOST_RECORD_BYTES → fits cap size p.current ≡ false → AreFull cap charge p → length (uses p) + 1 ≤ blocks_for cap quota
  may_draw p size small no_room full = few_closed (with_block 0 p) (full_opened cap charge size 0 p wide small no_room full)
