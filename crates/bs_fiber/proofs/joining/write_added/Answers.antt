use Rattle.std.proofs.Common.{◌≡◌, [], ap, length, get_or, arith}
use Rattle.bs_block.specs.Rounding.{rounded}
use Rattle.bs_fiber.proofs.Blocks.{bytes_at, there}
use Rattle.bs_fiber.proofs.Written.{record_has_room}
use Rattle.bs_fiber.proofs.joining.write_added.Goals as goal

pub write_record-requires : goal.write_record-requires
write_record-requires g c =
    let all = c.requires.parts.0 in
    let few = c.requires.parts.1 in
    let first = get_or all 0 [] in
    let block = bytes_at c.args.frames.now.items all 0 c.index_mut.result.now first c.requires.parts.2 few.some c.index_mut.ensures.value (there all 0 [] first few.some) in
    let room =
    record_has_room c.args.quota c.args.charge c.args.effect.now c.in-Add.record c.index_mut.result.now.block first c.requires.fits c.in-Add.is (few.few 0 [] few.some) (few.fit 0 [] few.some) block in
    let size : rounded (length c.as_slice-bytes.result.now) ≡ rounded (length c.in-Add.record) = ap (λ l. rounded (length l)) c.as_slice-bytes.ensures.value in
    (omega arith, omega (arith, c.requires.wide))
