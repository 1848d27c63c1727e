-- What private contracts add to specs/commands/Orders.
use Rattle.std.specs.Prelude.{◌≡◌, true}
use Rattle.bs_board.specs.declared.commands.orders.Move.TheInside.{Inside}
use Rattle.bs_board.specs.Texts.{IdsAreTexts}
use Rattle.bs_board.specs.commands.Orders.{Orders, AreFitWords, is_ascending}

abbrev pub orders_in : Inside → Orders
orders_in m = record { moves = m.moves; words = m.words; hazards = m.hazards; food = m.food }

-- the invariant of the type `Move`: its ids ascend, so they are distinct
pub record IsAscendingOrders (orders : Orders) : Type 0 where
  pub texts : IdsAreTexts orders.moves
  pub ascending : is_ascending orders.moves ≡ true
  pub words : AreFitWords orders.words
