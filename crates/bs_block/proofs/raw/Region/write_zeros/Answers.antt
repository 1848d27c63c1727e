use Rattle.std.proofs.Common.{◌+◌, ap, ◌∙◌, replicate, ◌∷◌, [], arith}
use Rattle.std.proofs.lemmas.List.{length-replicate, replicate-append-replicate}
use Rattle.bs_block.specs.inner.Region.{spliced}
use Rattle.bs_block.proofs.Runs.{spliced_more}
use Rattle.bs_block.proofs.raw.Region.write_zeros.Goals as goal

pub loop-i-preserved : goal.loop-i-preserved
loop-i-preserved c =
    let inv = c.loop-i.invariant in let cs = c.args.self.now.slots in let at = c.args.at in let i = c.loop-i.i in
    record {
      place = c.write.ensures.0 ∙ inv.place;
      slots = c.write.ensures.1 ∙ ap (λ l. spliced l (at + i) 1 (0 ∷ [])) inv.slots
          ∙ spliced_more cs at i (replicate i 0) (length-replicate i 0) (omega (arith, c.requires.1)) 1 (0 ∷ []) ∙ ap (spliced cs at (i + 1)) (replicate-append-replicate i 1 0);
    }
