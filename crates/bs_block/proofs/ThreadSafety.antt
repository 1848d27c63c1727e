-- The places are bytes, so they may cross threads. The deed may where its allocator frees from any.
use Rattle.std.specs.Prelude.{ℕ, ◌+◌, List, [], ◌∷◌, Option, Some, None}
use base.Fraction.{full_share}
use base.Shift.{Keyless}
use denote.Builtin.{u8}
use denote.RattleType.{RattleType}
use denote.RawPtr.{Ptr, block_ptr, null_ptr}
use denote.Param.Send.{IsSend, IsSync, Common, AllSend, Frees, part_keyless, owning_send, struct_send, struct_sync, sendable}
use denote.Struct.Owning.{shape, fields, to}
use denote.Struct.Struct.{exits_of}
use Rattle.core.specs.declared.alloc.Allocator.{Ghosts}
use Rattle.std_alloc.proofs.SendSync.{quiet}
use Rattle.bs_block.specs.Ownership.{row, row_lent, region_own, region_lent}
use Rattle.bs_block.specs.contracts.raw.Region as Region
use Rattle.bs_block.specs.contracts.raw.Deed as Deed

byte_send : IsSend u8
byte_send = search sendable

byte_sync : IsSync u8
byte_sync = search sendable

row-Keyless : (b o : ℕ) (cs : List (Option ℕ)) → Keyless (row b o cs)
row-Keyless b o [] = tt
row-Keyless b o (Some x ∷ cs) = (part_keyless u8 byte_send full_share x b o, row-Keyless b (o + 1) cs)
row-Keyless b o (None ∷ cs) = (tt, row-Keyless b (o + 1) cs)

row_lent-Common : (b o : ℕ) (cs : List (Option ℕ)) → Common (row_lent b o cs)
row_lent-Common b o [] κ = tt
row_lent-Common b o (Some x ∷ cs) κ = (byte_sync.shared x b o κ, row_lent-Common b (o + 1) cs κ)
row_lent-Common b o (None ∷ cs) κ = (tt, row_lent-Common b (o + 1) cs κ)

region-Keyless : (p : Ptr) (cs : List (Option ℕ)) → Keyless (region_own p cs)
region-Keyless (block_ptr b o) cs = (tt, row-Keyless b o cs)
region-Keyless null_ptr cs = tt

region_lent-Common : (p : Ptr) (cs : List (Option ℕ)) → Common (region_lent p cs)
region_lent-Common (block_ptr b o) cs κ = (tt, row_lent-Common b o cs κ)
region_lent-Common null_ptr cs κ = tt

pub Region-send : IsSend Region.the_row
Region-send =
    let O = Region.the_type in let all : AllSend (fields O) = (search sendable, tt) in
    owning_send O all (λ p. region-Keyless p.at p.slots) (λ k. quiet (to O) (exits_of k (fields O)) ((struct_send (shape O) all).leaving k))

pub Region-sync : IsSync Region.the_row
Region-sync = let O = Region.the_type in record { shared = λ p b o κ. ((struct_sync (shape O) (search sendable, tt)).shared (to O p) b o κ, region_lent-Common p.at p.slots κ) }

module _ (A : RattleType) (g : Ghosts A.Denot) where
  pub Deed-send : Frees g g.dealloc_token → IsSend (Deed.the_row A g)
  Deed-send f =
      let O = Deed.the_type A g in let all : AllSend (fields O) = (search sendable, tt) in
      owning_send O all (λ d. f.frees d.alloc _ d.at) (λ k. quiet (to O) (exits_of k (fields O)) ((struct_send (shape O) all).leaving k))

  pub Deed-sync : IsSync (Deed.the_row A g)
  Deed-sync = let O = Deed.the_type A g in record { shared = λ d b o κ. ((struct_sync (shape O) (search sendable, tt)).shared (to O d) b o κ, tt) }
