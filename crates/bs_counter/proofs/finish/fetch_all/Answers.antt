use Rattle.std.proofs.Common.{rules, subst, sym}
use Rattle.bs_counter.specs.Outcomes.{AreOutcomes}
use Rattle.bs_counter.proofs.Rows.{one_more_outcome}
use Rattle.bs_counter.proofs.finish.fetch_all.Goals as goal

pub loop-part-preserved : goal.loop-part-preserved
loop-part-preserved g c =
    record {
      seat = search rules;
      last = c.fetch.ensures.last;
      outs = subst (AreOutcomes g.T.Parted.part_of _) (sym c.push.ensures.items)
          (one_more_outcome g.T.Parted.part_of c.loop-part.part c.loop-part.outs.items c.fetch.result c.loop-part.invariant.outs c.fetch.ensures.part);
    }
