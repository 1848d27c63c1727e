-- What the cache of a plane keeps.
use Rattle.std.specs.Prelude.{◌≡◌, ℕ, List, Option, None, Some}
use Rattle.bs_game.specs.declared.reply.Effect.{Effect}
use Rattle.bs_game.specs.declared.reply.Effect.TheVariants as effect

-- the record that the effect adds, if it adds one
abbrev pub IsKeyOf : Effect → Option (List ℕ) → Type 0
IsKeyOf effect.Keep key = key ≡ None
IsKeyOf (effect.Add bytes) key = key ≡ Some bytes
IsKeyOf effect.Trim key = key ≡ None
IsKeyOf effect.Drop key = key ≡ None
