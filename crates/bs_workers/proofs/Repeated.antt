-- A core that is opened again is the one that was opened before.
use Rattle.std.proofs.Common.{◌≡◌, ℕ, ◌∙◌}
