-- The steps by which cells are listed.
use Rattle.std.specs.Prelude.{◌≡◌, ℕ, List}
use Rattle.bs_board.specs.declared.boards.point.Point.{Point}
use Rattle.bs_batch.specs.declared.layout.Place.{Place}
use Rattle.bs_batch.specs.Listing.{IsListed}
use Rattle.bs_batch.specs.Numbers.{numbers_of}
use Rattle.bs_batch.specs.inner.Loading.{AreNear}

abbrev pub ListsCells : List ℕ → List Place → ℕ → Type 0
ListsCells numbers into result = (width height : ℕ) (cells : List Point) → AreNear width height cells → numbers ≡ numbers_of cells → IsListed cells into result
