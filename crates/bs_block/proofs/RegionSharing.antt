-- A `&` to the places is made of one to each byte. Assumes `Logic`.
use Rattle.std.specs.Prelude.{ℕ, ◌+◌, List, [], ◌∷◌, Option, Some, None}
use mathlib.Core.Path.{refl}
use seplogic.Ra.Ura.{Ura}
use base.Fml.{Lft, Incl, ftrue, ffalse}
use types.Logic.{Logic}
use denote.Builtin.{u8}
use denote.Param.Laws.{Laws, of_field}
use denote.Param.Shared.{copy_shared}
use denote.RawPtr.{Ptr, block_ptr, null_ptr}
use denote.Shares.{Shares-less}
use denote.Sharing.{ShrLaws, said}
use denote.SharingLaws.{beside_shr_laws, nothing_shr_laws, said_shr_laws}
use denote.Struct.Field.{u8-field}
use denote.Struct.Laws.{u8-laws, u8-copy}
use denote.Struct.Lending.{Lends, Lends-both, Lends-nothing, Lends-said, Lends-false}
use Rattle.bs_block.specs.Ownership.{place, row, place_lent, row_lent, fit, region_own, region_lent}

abbrev pub byte_laws : Laws u8
byte_laws = of_field u8-field u8-laws refl (copy_shared u8-field u8-copy)

place_lent_laws : (b o : ℕ) (c : Option ℕ) → ShrLaws (place_lent b o c)
place_lent_laws b o (Some x) = byte_laws.shr_laws x b o
place_lent_laws b o None = nothing_shr_laws

row_lent_laws : (b o : ℕ) (cs : List (Option ℕ)) → ShrLaws (row_lent b o cs)
row_lent_laws b o [] = nothing_shr_laws
row_lent_laws b o (c ∷ cs) = beside_shr_laws _ _ (place_lent_laws b o c) (row_lent_laws b (o + 1) cs)

pub region_lent_laws : (p : Ptr) (cs : List (Option ℕ)) → ShrLaws (region_lent p cs)
region_lent_laws (block_ptr b o) cs = beside_shr_laws _ _ (said_shr_laws (fit cs) tt) (row_lent_laws b o cs)
region_lent_laws null_ptr cs = said_shr_laws ffalse tt

module _ {M : Type 1} {𝓤 : Ura M} (𝓛 : Logic 𝓤) (l : Lft) (inc : Incl l u8.lives) where
  Lends-place : (b o : ℕ) (c : Option ℕ) → Lends 𝓛 (place b o c) (place_lent b o c) l
  Lends-place b o (Some x) = λ κ ts. Shares-less 𝓛 u8 u8.lives l inc (byte_laws.shares 𝓛) x κ ts b o
  Lends-place b o None = Lends-nothing 𝓛 (place b o None) l

  pub Lends-row : (b o : ℕ) (cs : List (Option ℕ)) → Lends 𝓛 (row b o cs) (row_lent b o cs) l
  Lends-row b o [] = Lends-nothing 𝓛 ftrue l
  Lends-row b o (c ∷ cs) = Lends-both 𝓛 (place b o c) (row b (o + 1) cs) (place_lent b o c) (row_lent b (o + 1) cs) l (Lends-place b o c) (Lends-row b (o + 1) cs)

  pub Lends-region : (p : Ptr) (cs : List (Option ℕ)) → Lends 𝓛 (region_own p cs) (region_lent p cs) l
  Lends-region (block_ptr b o) cs = Lends-both 𝓛 (fit cs) (row b o cs) (said (fit cs)) (row_lent b o cs) l (Lends-said 𝓛 (fit cs) tt l) (Lends-row b o cs)
  Lends-region null_ptr cs = Lends-false 𝓛 (said ffalse) l
