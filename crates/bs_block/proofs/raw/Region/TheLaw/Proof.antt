-- A `&` to the places reaches each byte. Assumes `Logic`.
use denote.RawPtr.{RawPtr}
use denote.Param.Shared.{copy_shared}
use denote.Struct.Laws.{field_copy}
use denote.Struct.Lending.{of_Lends}
use Rattle.core.specs.contracts.marker.PhantomData as marker
use Rattle.bs_block.specs.contracts.raw.Region as P
use Rattle.bs_block.proofs.raw.Region.TheLaw.Statement.{statement}
use Rattle.bs_block.proofs.RegionSharing.{region_lent_laws, Lends-region}

pub shares : statement
shares = of_Lends P.struct (P.the_codes (marker.the_row RawPtr).coded) P.the_heap P.the_lent
    (λ d p. region_lent_laws d.at d.slots) (copy_shared (marker.the_field RawPtr) (field_copy (marker.the_type RawPtr) tt), tt)
    (λ M 𝓤 𝓛 d p. Lends-region 𝓛 P.the_row.lives (λ a m. m) d.at d.slots)
