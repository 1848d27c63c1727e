-- The bytes of a block once a `&mut` into it has ended.
use Rattle.std.specs.Prelude.{ℕ, List, Option}
use Rattle.std.specs.Borrow.{Fml, Bor, MutBor, RattleType, Array, Lends, follows_if, name_if_some, u8}
use Rattle.bs_block.specs.inner.Bytes.{with_range, extended}
use Rattle.bs_block.specs.contracts.block.Block.{the_row}

module _ (CAP : RattleType) (b : MutBor (List ℕ)) where
  -- the bytes outside the range are unchanged
  abbrev pub lends_range : ℕ → ℕ → MutBor (List ℕ) → Fml
  lends_range at n r = Lends (the_row CAP) (Array u8 0) b r (with_range b.now at n)

  -- the old bytes are unchanged, and those after the n new ones are zeros
  abbrev pub lends_fresh : ℕ → MutBor (List ℕ) → Fml
  lends_fresh n r = Lends (the_row CAP) (Array u8 0) b r (extended b.now n)

  -- `Some`: as after `fill`; `None`: unchanged
  abbrev pub lends_fresh_if : ℕ → Option (Bor (List ℕ) × MutBor (List ℕ)) → Fml
  lends_fresh_if n parts =
      follows_if (the_row CAP) (Array u8 0) b.ghost_name
      (name_if_some (λ lent. lent.1.ghost_name) parts) (extended b.now n) b.now
