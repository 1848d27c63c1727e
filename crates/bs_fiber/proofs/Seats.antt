-- The seats that a part moves.
use Rattle.std.proofs.Common.{◌≡◌, ℕ}
