-- The pool of a single game.
use Rattle.std.proofs.Common.{◌≡◌, ℕ, List, [], ◌∷◌, Option, None, refl, ◌∙◌, arith, length-set}
use Rattle.std.proofs.lemmas.List.{length-replicate}
use Rattle.bs_pool.specs.Ledger.{Ledger, given, opened, size, unreserved, with_reservation}
use Rattle.bs_pool.proofs.Soundness.{held_opened}
use Rattle.bs_heap.specs.HeldBlocks.{Holds, all_given}

-- all blocks of a new pool can be reserved
pub all_unreserved : (blocks : ℕ) → unreserved (opened blocks) ≡ blocks
all_unreserved blocks = let many = length-replicate {A = Option ℕ} blocks None in omega (arith, many)

-- no tag has a block of it
pub nothing_held : (blocks tag n : ℕ) → Holds tag [] (with_reservation tag n (opened blocks))
nothing_held blocks tag n =
    record {
      owned = record { each = λ i d within. absurd (omega arith); once = λ i j d less within. absurd (omega arith) };
      all = held_opened tag blocks;
    }

-- a pool keeps its size

pub given_size : (numbers : List ℕ) (pool : Ledger) → size (all_given numbers pool) ≡ size pool
given_size [] pool = refl
given_size (number ∷ numbers) pool = given_size numbers (given number pool) ∙ length-set pool.owners number None
