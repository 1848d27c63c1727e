use Rattle.std.proofs.Common.{◌≡◌, arith, length, refl, rules}
use Rattle.bs_json.proofs.Writing.{puts_first}
use Rattle.bs_json.proofs.written.write_first.Goals as goal

pub returns : goal.returns
returns c =
    let whole : 8 ≡ length c.args.piece.now = search rules in
    puts_first c.args.at _ c.args.count _ _ _ _ c.write.ensures refl (omega (arith, whole, c.requires.within)) (omega (arith, whole, c.requires.room))
