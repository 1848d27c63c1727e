-- Where the records of a tag lie in its blocks.
use Rattle.std.specs.Prelude.{ℕ, ◌+◌, ◌-◌, Bool, false, if◌then◌else◌, nat_le, List, [], ◌∷◌, ◌++◌, length, map, drop, Option, Some, None, option_to_list}
use Rattle.bs_block.specs.Rounding.{rounded}

-- a block's number, and how many of its bytes are used
pub record Use : Type 0 where
  pub number : ℕ
  pub used : ℕ

-- where a record lies: the `len` bytes from the byte `at` of a block on
pub record Place : Type 0 where
  pub number : ℕ
  pub at : ℕ
  pub len : ℕ

-- the blocks of a tag, of which the current one is the last, and a place for each kept record
pub record Packing : Type 0 where
  pub closed : List Use
  pub current : Option Use
  pub places : List Place

abbrev pub uses : Packing → List Use
uses packing = packing.closed ++ option_to_list packing.current

abbrev pub numbers_of : Packing → List ℕ
numbers_of packing = map (λ u. u.number) (uses packing)

abbrev pub no_packing : Packing
no_packing = record { closed = []; current = None; places = [] }

-- the current block has room for `size` more bytes
abbrev pub fits : ℕ → ℕ → Option Use → Bool
fits cap size None = false
fits cap size (Some u) = nat_le (u.used + size) cap

-- the current block is closed, and one of that number opened
abbrev pub with_block : ℕ → Packing → Packing
with_block number packing = record { closed = uses packing; current = Some (record { number = number; used = 0 }); places = packing.places }

-- len bytes are appended to the current block
abbrev pub with_place_in : ℕ → Packing → Option Use → Packing
with_place_in len packing None = packing
with_place_in len packing (Some u) =
    record {
      closed = packing.closed;
      current = Some (record { number = u.number; used = u.used + rounded len });
      places = packing.places ++ record { number = u.number; at = u.used; len = len } ∷ [];
    }

abbrev pub with_place : ℕ → Packing → Packing
with_place len packing = with_place_in len packing packing.current

-- a record of len bytes is appended to the current block if its rounded size fits, else to a new
-- block of that number
abbrev pub packed : ℕ → ℕ → ℕ → Packing → Packing
packed cap number len packing = with_place len (if fits cap (rounded len) packing.current then packing else with_block number packing)

-- the last element alone, if there is one
abbrev pub last_alone : {X : Type 0} → List X → List X
last_alone xs = drop (length xs - 1) xs

-- only the current block and the last place are kept
abbrev pub packing_of_last : Packing → Packing
packing_of_last packing = record { closed = []; current = packing.current; places = last_alone packing.places }

abbrev pub closed_numbers : Packing → List ℕ
closed_numbers packing = map (λ u. u.number) packing.closed
