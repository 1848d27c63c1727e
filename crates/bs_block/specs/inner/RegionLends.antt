-- The places once a `&mut` into them has ended.
use Rattle.std.specs.Prelude.{ℕ, List, take, drop, Option}
use Rattle.std.specs.Borrow.{Fml, MutBor, Array, Lends, u8}
use Rattle.std.specs.List.{refill}
use Rattle.bs_block.specs.inner.Region.{somes, spliced}
use Rattle.bs_block.specs.declared.raw.Region.{Region}
use Rattle.bs_block.specs.contracts.raw.Region.{the_row}

-- p, with those places
abbrev pub with_slots : Region → List (Option ℕ) → Region
with_slots p cs = record { mark = p.mark; at = p.at; slots = cs }

-- p, with ws in the n places from the place at on
abbrev pub written_over : Region → ℕ → ℕ → List ℕ → Region
written_over p at n ws = with_slots p (spliced p.slots at n (refill n (somes (take n (drop at p.slots))) ws))

-- all places except the n from `at` on are unchanged
abbrev pub lends_run : MutBor Region → ℕ → ℕ → MutBor (List ℕ) → Fml
lends_run p at n r = Lends the_row (Array u8 0) p r (written_over p.now at n)
