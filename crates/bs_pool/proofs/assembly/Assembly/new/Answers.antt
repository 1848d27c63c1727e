use Rattle.std.proofs.Common.{ℕ, List, [], length, sym, subst}
use Rattle.bs_pool.specs.declared.reservation.Account.{Account}
use Rattle.bs_pool.specs.inner.AssemblyParts.{AreAssembled}
use Rattle.bs_pool.proofs.Assembled.{begins}
use Rattle.bs_pool.proofs.assembly.Assembly.new.Goals as goal

pub invariant_of-result : goal.invariant_of-result
invariant_of-result g c =
    let owners = c.in_ok-no_owners.field-0.items in let blocks = length c.args.blocks.items in
    subst (λ (xs : List Account). AreAssembled owners xs blocks c.new-2.result.items 0) (sym c.new.ensures.items)
    (subst (λ (ns : List ℕ). AreAssembled owners [] blocks ns 0) (sym c.new-2.ensures.items) (begins owners c.args.n blocks c.in_ok-no_owners.ensures c.requires).0)
