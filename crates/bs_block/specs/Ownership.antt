-- What the parts of a block own and lend.
use Rattle.std.specs.Prelude.{ℕ, ◌+◌, ◌^◌, List, [], ◌∷◌, length, Option, Some, None}
use base.Fraction.{full_share}
use base.Fml.{Lft, Fml, ftrue, ffalse, fsep, flt, froom}
use mir.Syntax.{Ty, ty_int, ty_array, w8}
use denote.Builtin.{u8}
use denote.Memory.{part_at, shared_of}
use denote.Sharing.{nothing, said, beside}
use denote.RawPtr.{Ptr, block_ptr, null_ptr}

-- one place, o bytes into the block b
abbrev pub place : ℕ → ℕ → Option ℕ → Fml
place b o (Some x) = part_at u8 full_share x b o
place b o None = froom (ty_int w8) b o

-- places side by side
abbrev pub row : ℕ → ℕ → List (Option ℕ) → Fml
row b o [] = ftrue
row b o (c ∷ cs) = fsep (place b o c) (row b (o + 1) cs)

abbrev pub place_lent : ℕ → ℕ → Option ℕ → Lft → Fml
place_lent b o (Some x) = shared_of u8 x b o
place_lent b o None = nothing

abbrev pub row_lent : ℕ → ℕ → List (Option ℕ) → Lft → Fml
row_lent b o [] = nothing
row_lent b o (c ∷ cs) = beside (place_lent b o c) (row_lent b (o + 1) cs)

-- there are fewer than 2 ^ 63 places
abbrev pub fit : List (Option ℕ) → Fml
fit cs = flt (length cs) (2 ^ 63)

abbrev pub region_own : Ptr → List (Option ℕ) → Fml
region_own (block_ptr b o) cs = fsep (fit cs) (row b o cs)
region_own null_ptr cs = ffalse

abbrev pub region_lent : Ptr → List (Option ℕ) → Lft → Fml
region_lent (block_ptr b o) cs = beside (said (fit cs)) (row_lent b o cs)
region_lent null_ptr cs = said ffalse

-- the allocator's token for a block of n bytes
abbrev pub deed_owns : (Ty → Ptr → Fml) → Ptr → ℕ → Fml
deed_owns token p n = token (ty_array (ty_int w8) n) p
