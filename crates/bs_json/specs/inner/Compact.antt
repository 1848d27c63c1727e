-- The compact text of a line: no spaces, no escapes, its members in a fixed order, the ids of a
-- move in any order.
use Rattle.std.specs.Prelude.{◌≡◌, ◌≤◌, ℕ, codes, decimal, List, [], ◌∷◌, ◌++◌, Bool, true, false, not, ◌&&◌, ◌==◌, nat_le, nat_lt, None, ⊤}
use Rattle.std.specs.List.{list_all}
use Rattle.serde_json.specs.Written.{comma_if}
use Rattle.bs_board.specs.declared.boards.point.Direction.{Direction}
use Rattle.bs_board.specs.declared.boards.point.Direction.TheVariants.{Up, Down, Left, Right}
use Rattle.bs_board.specs.declared.commands.command.Command.{Command}
use Rattle.bs_board.specs.declared.commands.command.Command.TheVariants as command
use Rattle.bs_board.specs.commands.Orders.{AreFitWords, Orders}
use Rattle.bs_board.specs.declared.limits.TheConstants.{LAST_TURN}
use Rattle.bs_board.specs.declared.plans.version.Version.{Version}
use Rattle.bs_json.specs.inner.Maps.{IsMap, map_text}
use Rattle.bs_json.specs.inner.Sorted.{in_order}

-- a printable byte of ASCII that needs no escape in a string
abbrev pub is_plain : ℕ → Bool
is_plain byte = nat_le 32 byte && nat_lt byte 127 && not (byte == 34) && not (byte == 92)

abbrev pub are_plain : List ℕ → Bool
are_plain = list_all is_plain

abbrev pub direction_name : Direction → List ℕ
direction_name Up = codes "up"
direction_name Down = codes "down"
direction_name Left = codes "left"
direction_name Right = codes "right"

abbrev pub move_text : List ℕ × Direction → List ℕ
move_text move = codes "\"" ++ (move.0 ++ (codes "\":\"" ++ (direction_name move.1 ++ codes "\"")))

-- each move after a comma; the first one has a comma only if an entry was written before it
abbrev pub moves_text : Bool → List (List ℕ × Direction) → List ℕ
moves_text later [] = []
moves_text later (move ∷ moves) = comma_if later ++ (move_text move ++ moves_text true moves)

abbrev pub words_text : Bool → List ℕ → List ℕ
words_text later [] = []
words_text later (word ∷ words) = comma_if later ++ (decimal word ++ words_text true words)

-- the text after the moves: the words, if they are written, else the hazards and the food that the
-- move gives; and the end of the line
abbrev pub tail_text : Bool → Orders → List ℕ
tail_text false orders = map_text orders.hazards orders.food
tail_text true orders = codes ",\"words\":[" ++ (words_text false orders.words ++ codes "]}")

-- the text after the opening quotation mark of the value of `do`; `given` are the moves of a move
-- as they are written
abbrev pub order_text : Bool → List (List ℕ × Direction) → Command → List ℕ
order_text written given (command.New new) = []
order_text written given (command.Move orders) = codes "move\",\"moves\":{" ++ (moves_text false given ++ (codes "}" ++ tail_text written orders))
order_text written given (command.Turn at) = codes "turn\",\"at\":" ++ (decimal at ++ codes "}")
order_text written given command.Show = codes "show\"}"
order_text written given command.Free = codes "free\"}"
order_text written given command.End = codes "end\"}"
order_text written given command.Bad = []

-- a line whose text after the opening quotation mark of the value of `do` is this
abbrev pub line_text : List ℕ → List ℕ → List ℕ
line_text game order = codes "{\"game\":\"" ++ (game ++ (codes "\",\"do\":\"" ++ order))

-- `written` says whether a move's words are written
abbrev pub compact_text : Bool → List (List ℕ × Direction) → List ℕ → Command → List ℕ
compact_text written given game command = line_text game (order_text written given command)

abbrev pub are_plain_moves : List (List ℕ × Direction) → Bool
are_plain_moves = list_all (λ move. are_plain move.0)

-- these moves, in the order of their ids, are written before that text
pub record GivenMoves (line : List ℕ) (moves : List (List ℕ × Direction)) (left : List ℕ) : Type 0 where
  pub given : List (List ℕ × Direction)
  pub is : line ≡ moves_text false given ++ left
  pub plain : are_plain_moves given ≡ true
  pub order : moves ≡ in_order given

-- whether there are any
abbrev pub are_some : {A : Type 0} → List A → Bool
are_some [] = false
are_some (_ ∷ _) = true

-- what was read so far, and whether that is anything
abbrev pub ReadMoves : List ℕ → List (List ℕ × Direction) → List ℕ → Bool → Type 0
ReadMoves line moves left later = (g : GivenMoves line moves left) × (later ≡ are_some g.given)

-- words are left out if there are none, and written by a move that gives no hazards and no food
abbrev pub IsFitTail : Version → Bool → Orders → Type 0
IsFitTail version false orders = (orders.words ≡ []) × IsMap version orders.hazards orders.food
IsFitTail version true orders = AreFitWords orders.words × (orders.hazards ≡ None) × (orders.food ≡ None)

-- it has the given moves in the order of their ids
abbrev pub IsCompactMove : Version → Bool → List (List ℕ × Direction) → Orders → Type 0
IsCompactMove version written given orders =
    (are_plain_moves given ≡ true) × (orders.moves ≡ in_order given) × IsFitTail version written orders

-- the commands that have a compact text in a file of that version
abbrev pub IsCompact : Version → Bool → List (List ℕ × Direction) → Command → Type 0
IsCompact version written given (command.New new) = ⊥
IsCompact version written given (command.Move orders) = IsCompactMove version written given orders
IsCompact version written given (command.Turn at) = at ≤ LAST_TURN
IsCompact version written given command.Show = ⊤
IsCompact version written given command.Free = ⊤
IsCompact version written given command.End = ⊤
IsCompact version written given command.Bad = ⊥

-- the text from a move's first id on
pub record IsMoveText (version : Version) (text : List ℕ) (written : Bool) (orders : Orders) : Type 0 where
  pub given : List (List ℕ × Direction)
  pub is : text ≡ moves_text false given ++ (codes "}" ++ tail_text written orders)
  pub compact : IsCompactMove version written given orders

-- the text from a command's name on
pub record IsOrderText (version : Version) (text : List ℕ) (written : Bool) (c : Command) : Type 0 where
  pub given : List (List ℕ × Direction)
  pub is : text ≡ order_text written given c
  pub compact : IsCompact version written given c
