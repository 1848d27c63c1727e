use Rattle.std.proofs.Common.{◌≡◌, [], ◌∷◌, ◌++◌, List, subst, sym, ap, ◌∙◌}
use Rattle.bs_pool.specs.declared.owned.Owned.{Owned}
use Rattle.bs_heap.specs.HeldBlocks.{all_given}
use Rattle.bs_heap.specs.inner.Lent.{AreLent, owned_numbers}
use Rattle.bs_heap.proofs.GivenBlocks.{rest_lent, last_given}
use Rattle.bs_sched.proofs.parts.give_all.Goals as goal

pub loop-owned-preserved : goal.loop-owned-preserved
loop-owned-preserved g c =
    let rest = c.pop.new.self.items in let last = c.in-Some.owned in let pool = c.loop-owned.pool in
    let all : c.loop-owned.blocks.items ≡ rest ++ last ∷ [] = c.in-Some.ensures.items in
    let lent : AreLent (rest ++ last ∷ []) pool = subst (λ (blocks : List (Owned g.row.CAP)). AreLent blocks pool) all c.loop-owned.invariant.lent in
    record {
      lent = rw c.give.ensures (rest_lent rest last pool lent);
      given = ap (all_given (owned_numbers rest)) c.give.ensures ∙ sym (last_given rest last pool lent) ∙ ap (λ blocks. all_given (owned_numbers blocks) pool) (sym all) ∙ c.loop-owned.invariant.given;
    }
