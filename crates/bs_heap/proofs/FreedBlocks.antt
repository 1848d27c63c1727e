-- The blocks of a heap are given back to its pool.
use Rattle.std.proofs.Common.{ℕ, List, [], ◌++◌, sym, subst, append-nil}
use Rattle.std.specs.Prelude.{option_to_list}
use Rattle.bs_pool.specs.Ledger.{Ledger}
use Rattle.bs_heap.specs.declared.heap.TagHeap.TheInside.{Inside}
use Rattle.bs_heap.specs.inner.Blocks.{all_blocks, block_numbers}
use Rattle.bs_heap.specs.HeldBlocks.{AreOwned, Holds, IsKeptIn, LeavesOthers, all_given}
use Rattle.bs_heap.specs.inner.HeapLayout.{heap_in}
use Rattle.bs_heap.proofs.GivenBlocks.{all_numbers}
use Rattle.bs_heap.proofs.HeldBlocks.{owned_front, holds_rest, leaves_rest}
use Rattle.bs_heap.proofs.PutRecord.{numbers_are}

module _ {most : ℕ} (h : Inside most) (pool : Ledger) (kept : IsKeptIn (heap_in h) pool) where
  abbrev numbers : List ℕ
  numbers = block_numbers (all_blocks h.blocks)

  abbrev closed : List ℕ
  closed = block_numbers h.blocks.closed

  abbrev current : List ℕ
  current = block_numbers (option_to_list h.blocks.current)

  holds_all : Holds h.blocks.tag numbers pool
  holds_all = subst (λ (ns : List ℕ). Holds h.blocks.tag ns pool) (numbers_are h.blocks h.index.items) kept

  pub owned_all : AreOwned h.blocks.tag numbers pool
  owned_all = holds_all.owned

  -- all blocks are given
  none_behind : Holds h.blocks.tag (numbers ++ []) pool
  none_behind = subst (λ (ns : List ℕ). Holds h.blocks.tag ns pool) (sym (append-nil numbers)) holds_all

  pub holds_none : Holds h.blocks.tag [] (all_given numbers pool)
  holds_none = holds_rest h.blocks.tag [] numbers pool none_behind

  pub others_of_all : LeavesOthers h.blocks.tag pool (all_given numbers pool)
  others_of_all = leaves_rest h.blocks.tag [] numbers pool none_behind.owned

  -- the closed blocks are given
  current_behind : Holds h.blocks.tag (closed ++ current) pool
  current_behind = subst (λ (ns : List ℕ). Holds h.blocks.tag ns pool) (all_numbers h.blocks.closed h.blocks.current) holds_all

  pub owned_closed : AreOwned h.blocks.tag closed pool
  owned_closed = owned_front h.blocks.tag closed current pool current_behind.owned

  pub holds_current : Holds h.blocks.tag current (all_given closed pool)
  holds_current = holds_rest h.blocks.tag current closed pool current_behind

  pub others_of_closed : LeavesOthers h.blocks.tag pool (all_given closed pool)
  others_of_closed = leaves_rest h.blocks.tag current closed pool current_behind.owned
