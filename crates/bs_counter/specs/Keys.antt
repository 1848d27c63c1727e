-- The keys of a tally.
use Rattle.std.specs.Prelude.{◌≡◌, ℕ, ◌<◌, List, length, Some, slice_get}
use Rattle.atomic_table.specs.Seated.{TableId}

-- which tally it is
abbrev pub TallyId : Type 0
TallyId = TableId

pub record Key : Type 0 where
  pub part : ℕ
  -- the number of parts of its tally
  pub parts : ℕ
  -- its tally, and its seat there
  pub tally : TableId
  pub seat : ℕ

-- the first `many` keys of a tally of n parts, in order
pub record AreFirstKeys (many n : ℕ) (tally : TableId) (keys : List Key) : Type 0 where
  pub all : length keys ≡ many
  pub each : (p : ℕ) → p < many → (key : Key) × (slice_get keys p ≡ Some key) × (key.part ≡ p) × (key.parts ≡ n) × (key.tally ≡ tally)

-- the keys of one tally of n parts, in order
abbrev pub AreKeys : ℕ → List Key → Type 0
AreKeys n keys = (tally : TableId) × AreFirstKeys n n tally keys
