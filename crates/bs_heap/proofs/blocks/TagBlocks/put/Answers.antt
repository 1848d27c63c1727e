use Rattle.std.proofs.Common.{◌≡◌, length, sym, ap, subst₂, ◌∙◌}
use Rattle.bs_heap.specs.declared.blocks.Entry.{Entry}
use Rattle.bs_heap.specs.Blocks.{Blocks}
use Rattle.bs_heap.specs.inner.Entries.{PutsRecord}
use Rattle.bs_heap.specs.HeldBlocks.{next_number}
use Rattle.bs_heap.proofs.BlockSteps.{with_empty, written, next_entry}
use Rattle.bs_heap.proofs.PutRecord.{puts_here, puts_opened}
use Rattle.bs_heap.proofs.blocks.TagBlocks.put.Goals.{then-not-fits, else-not-fits}
use Rattle.bs_heap.proofs.blocks.TagBlocks.put.Goals as goal

pub returns-clause-put : goal.returns-clause-put
returns-clause-put g c =
    let old = c.args.self.now in let bytes = c.args.bytes.now in let number = next_number c.args.pool.now in
    let P : Blocks → Entry → Type 0 = λ b e. PutsRecord g.row.CAP number bytes old b e in
    elim c.if-not-fits.branch [
      | then-not-fits w ↦
          let mid : c.if-not-fits.self ≡ with_empty number old = w.self-is ∙ w.draw.ensures.blocks in
          subst₂ P (sym (c.write.ensures.blocks ∙ ap (written bytes) mid)) (sym (c.write.ensures.entry ∙ ap (next_entry (length bytes)) mid))
          (puts_opened g.row.CAP number bytes old (sym c.fits.ensures ∙ w.if-not-fits.true))
      | else-not-fits w ↦
          let mid : c.if-not-fits.self ≡ old = w.self-is in
          subst₂ P (sym (c.write.ensures.blocks ∙ ap (written bytes) mid)) (sym (c.write.ensures.entry ∙ ap (next_entry (length bytes)) mid))
          (puts_here g.row.CAP number bytes old (sym c.fits.ensures ∙ w.if-not-fits.false))
    ]
