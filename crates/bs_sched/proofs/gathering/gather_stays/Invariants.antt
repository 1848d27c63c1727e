-- What is gathered so far, and the stays that are left.
use Rattle.std.proofs.Common.{◌≡◌, ◌+◌, length}
use Rattle.bs_sched.specs.inner.LoneStays.{AreNextStays, gathered_stays, stays_in}
use Rattle.bs_sched.proofs.gathering.gather_stays.Given as goal

abbrev pub invariant-loop-stay : goal.invariant-loop-stay
invariant-loop-stay g l = record {
  count : l.row + length l.stay-iterator.rest.items ≡ length l.fn.stays.items;
  next : AreNextStays l.row l.stay-iterator.rest.items (stays_in l.gathered.list.items l.gathered.journals.items l.gathered.assembly);
  all : gathered_stays l.row l.stay-iterator.rest.items (stays_in l.gathered.list.items l.gathered.journals.items l.gathered.assembly)
      ≡ gathered_stays 0 l.fn.stays.items (stays_in l.fn.gathered.list.items l.fn.gathered.journals.items l.fn.gathered.assembly);
}
