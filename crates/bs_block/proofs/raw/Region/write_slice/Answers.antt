use Rattle.std.proofs.Common.{◌≡◌, ◌+◌, ap, ◌∙◌, take, ◌++◌, ◌∷◌, [], get_or, sym, arith, length-take, take-suc, add-one}
use Rattle.bs_block.specs.inner.Region.{spliced}
use Rattle.bs_block.proofs.Runs.{spliced_at, spliced_more}
use Rattle.bs_block.proofs.raw.Region.write_slice.Goals as goal

pub loop-i-preserved : goal.loop-i-preserved
loop-i-preserved c =
    let inv = c.loop-i.invariant in let cs = c.args.self.now.slots in let at = c.args.at in let i = c.loop-i.i in let bytes = c.args.bytes.now in let lt = c.loop-i-test.true in
    let x = get_or bytes i 0 in let more : take (i + 1) bytes ≡ take i bytes ++ x ∷ [] = ap (λ k. take k bytes) (add-one i) ∙ take-suc bytes i 0 lt in
    record {
      place = c.write.ensures.0 ∙ inv.place;
      slots = spliced_at _ _ _ (at + i) 1 (x ∷ []) c.write.ensures.1 (omega arith) ∙ ap (λ l. spliced l (at + i) 1 (x ∷ [])) inv.slots
          ∙ spliced_more cs at i (take i bytes) (omega (arith, lt, length-take i bytes)) (omega (arith, c.requires.1)) 1 (x ∷ []) ∙ ap (spliced cs at (i + 1)) (sym more);
    }
