use Rattle.std.proofs.Common.{◌≡◌, List, [], ℕ, Some, None, Option, IfSome, sym, ap, ◌∙◌, subst, arith}
use Rattle.std.specs.Prelude.{option_to_list, option_map}
use Rattle.bs_pool.specs.declared.owned.Owned.{Owned}
use Rattle.bs_heap.specs.Blocks.{Blocks, NumberedBlock}
use Rattle.bs_heap.specs.inner.Blocks.{block_numbers}
use Rattle.bs_heap.specs.HeldBlocks.{AreOwned, all_given}
use Rattle.bs_heap.specs.inner.OwnedBlocks.{numbered_block, blocks_in}
use Rattle.bs_heap.proofs.GivenBlocks.{all_numbers, all_given_in_turn, current_owned}
use Rattle.bs_heap.proofs.HeldBlocks.{owned_front, owned_rest}
use Rattle.bs_heap.proofs.blocks.TagBlocks.give_all.Goals.{in-Some, in_default}
use Rattle.bs_heap.proofs.blocks.TagBlocks.give_all.Goals as goal

pub give_closed-requires : goal.give_closed-requires
give_closed-requires g c =
    let b = c.args.self.now in
    let all = subst (λ (ns : List ℕ). AreOwned b.tag ns c.args.pool.now) (all_numbers b.closed b.current) c.requires in
    (omega arith, (omega arith, owned_front b.tag (block_numbers b.closed) (block_numbers (option_to_list b.current)) c.args.pool.now all))

pub give-requires : goal.give-requires
give-requires g c =
    let b = c.args.self.now in let owned = c.in-Some.owned in
    let value : Some owned ≡ c.self.inside.current = c.in-Some.ensures.value in
    let view : blocks_in c.self.inside ≡ record b { closed = [] } = c.self.view_is ∙ c.give_closed.ensures.blocks in
    let current : b.current ≡ Some (numbered_block owned) = sym (ap (option_map numbered_block) value ∙ ap (λ (v : Blocks). v.current) view) in
    let tagged : owned.tag ≡ c.self.inside.tag = subst (λ (o : Option (Owned g.row.CAP)). IfSome o (λ x. x.tag ≡ c.self.inside.tag)) (sym value) c.self.invariant.current in
    let all = subst (λ (ns : List ℕ). AreOwned b.tag ns c.args.pool.now) (all_numbers b.closed b.current) c.requires in
    let rest = owned_rest b.tag (block_numbers (option_to_list b.current)) (block_numbers b.closed) c.args.pool.now all in
    (omega arith, (omega arith, current_owned owned b.tag b.current c.give_closed.new.pool (tagged ∙ ap (λ (v : Blocks). v.tag) view) current (rw c.give_closed.ensures.pool rest)))

pub returns-clause-pool : goal.returns-clause-pool
returns-clause-pool g c =
    let b = c.args.self.now in let mid = c.give_closed.new.pool in
    let view : blocks_in c.self.inside ≡ record b { closed = [] } = c.self.view_is ∙ c.give_closed.ensures.blocks in
    let turn = all_given_in_turn b.closed b.current c.args.pool.now in
    let end : (o : Option NumberedBlock) → b.current ≡ o → all_given (block_numbers (option_to_list o)) mid ≡ all_given (block_numbers (option_to_list b.current)) (all_given (block_numbers b.closed) c.args.pool.now)
    = λ o e. (λ i. all_given (block_numbers (option_to_list (sym e i))) (c.give_closed.ensures.pool i)) in
    elim c.match-take.branch [
      | in-Some w ↦
          let current : b.current ≡ Some (numbered_block w.in-Some.owned) = sym (ap (option_map numbered_block) (w.in-Some.ensures.value) ∙ ap (λ (v : Blocks). v.current) view) in
          w.pool-is ∙ w.give.ensures ∙ end (Some (numbered_block w.in-Some.owned)) current ∙ sym turn
      | in_default w ↦
          let current : b.current ≡ None = sym (ap (option_map numbered_block) (w.in_default.ensures.value) ∙ ap (λ (v : Blocks). v.current) view) in
          w.pool-is ∙ end None current ∙ sym turn
    ]
