-- The bytes of a compact text are ASCII, so it is UTF-8.
use Rattle.std.proofs.Common.{◌≡◌, ◌<◌, ◌≤◌, ◌^◌, ◌==◌, ℕ, suc, ℤ, pos, negsuc, Option, Some, None, List, [], ◌∷◌, ◌++◌, All, Bool, true, false, not, nat_le, nat_lt, IsUtf8, codes, decimal, refl, arith}
use Rattle.std.proofs.lemmas.Bool.{and_from, lt-ltb, ltb-true}
use Rattle.std.proofs.lemmas.Fmt.{IsAscii-decimal}
use Rattle.std.proofs.lemmas.Str.{IsUtf8-append, IsUtf8-from_ascii, is_utf8-from_IsUtf8}
use Rattle.std.specs.List.{list_all}
use Rattle.std.specs.Str.{is_utf8}
use Rattle.json.proofs.Printed.Utf8.{are_ascii, IsUtf8-are_ascii}
use Rattle.serde_json.specs.Written.{comma_if}
use Rattle.bs_board.specs.declared.boards.point.Direction.{Direction}
use Rattle.bs_board.specs.declared.boards.point.Direction.TheVariants.{Up, Down, Left, Right}
use Rattle.bs_board.specs.declared.commands.command.Command.{Command}
use Rattle.bs_board.specs.declared.commands.command.Command.TheVariants as command
use Rattle.bs_board.specs.declared.limits.TheConstants.{LAST_TURN}
use Rattle.bs_board.specs.commands.Orders.{Orders}
use Rattle.bs_board.proofs.Chains.{and_both}
use Rattle.bs_board.specs.declared.boards.point.Point.{Point}
use Rattle.bs_board.specs.declared.limits.TheConstants.{LONGEST_SIDE, MOST_HAZARDS}
use Rattle.bs_board.specs.declared.plans.version.Version.{Version}
use Rattle.bs_json.specs.declared.limits.TheConstants.{MOST_FOOD}
use Rattle.bs_json.specs.inner.BoardText.{coordinate_text}
use Rattle.bs_json.specs.inner.Maps.{IsMap, MayGive, cells_text, given_text, is_near, is_near_cell, map_text, place_text}
use Rattle.bs_json.specs.inner.Compact.{IsCompact, IsFitTail, are_plain, are_plain_moves, compact_text, direction_name, is_plain, move_text, moves_text, order_text, tail_text, words_text}

-- what holds of each word holds of the first and of each of the others
pub all_parts : (limit word : ℕ) (words : List ℕ) → All (λ w. w < limit) (word ∷ words) → (word < limit) × All (λ w. w < limit) words
all_parts limit word words small = (small 0 word (omega arith), λ at none within. small (suc at) none (omega arith))

plain_is_below : (byte : ℕ) → is_plain byte ≡ true → byte < 127
plain_is_below byte plain =
    let outer = and_both _ (not (byte == 92)) plain in
    let inner = and_both _ (not (byte == 34)) outer.0 in
    ltb-true byte 127 (and_both (nat_le 32 byte) (nat_lt byte 127) inner.0).1

plain_is_ascii : (text : List ℕ) → are_plain text ≡ true → are_ascii text ≡ true
plain_is_ascii [] plain = refl
plain_is_ascii (byte ∷ text) plain =
    let parts = and_both (is_plain byte) (are_plain text) plain in
    and_from (nat_lt byte 128) (are_ascii text) (lt-ltb byte 128 (omega (arith, plain_is_below byte parts.0))) (plain_is_ascii text parts.1)

-- ASCII followed by UTF-8
ascii_then : (front rest : List ℕ) → are_ascii front ≡ true → IsUtf8 rest → IsUtf8 (front ++ rest)
ascii_then front rest ascii utf8 = IsUtf8-append front rest (IsUtf8-are_ascii front ascii) utf8

pub plain_text : (text : List ℕ) → are_plain text ≡ true → is_utf8 text ≡ true
plain_text text plain = is_utf8-from_IsUtf8 text (IsUtf8-are_ascii text (plain_is_ascii text plain))

plain_then : (front rest : List ℕ) → are_plain front ≡ true → IsUtf8 rest → IsUtf8 (front ++ rest)
plain_then front rest plain utf8 = ascii_then front rest (plain_is_ascii front plain) utf8

number_then : (number : ℕ) (rest : List ℕ) → number < 2 ^ 32 → IsUtf8 rest → IsUtf8 (decimal number ++ rest)
number_then number rest small utf8 = IsUtf8-append (decimal number) rest (IsUtf8-from_ascii _ (IsAscii-decimal number (omega arith))) utf8

comma_is_ascii : (later : Bool) → are_ascii (comma_if later) ≡ true
comma_is_ascii false = refl
comma_is_ascii true = refl

direction_is_ascii : (direction : Direction) → are_ascii (direction_name direction) ≡ true
direction_is_ascii Up = refl
direction_is_ascii Down = refl
direction_is_ascii Left = refl
direction_is_ascii Right = refl

move_is_utf8 : (move : List ℕ × Direction) → are_plain move.0 ≡ true → IsUtf8 (move_text move)
move_is_utf8 move plain =
    ascii_then (codes "\"") _ refl (plain_then move.0 _ plain
    (ascii_then (codes "\":\"") _ refl (ascii_then (direction_name move.1) _ (direction_is_ascii move.1) (IsUtf8-are_ascii (codes "\"") refl))))

moves_are_utf8 : (later : Bool) (moves : List (List ℕ × Direction)) → are_plain_moves moves ≡ true → IsUtf8 (moves_text later moves)
moves_are_utf8 later [] plain = IsUtf8-are_ascii [] refl
moves_are_utf8 later (move ∷ moves) plain =
    let parts = and_both (are_plain move.0) (are_plain_moves moves) plain in
    ascii_then (comma_if later) _ (comma_is_ascii later) (IsUtf8-append (move_text move) _ (move_is_utf8 move parts.0) (moves_are_utf8 true moves parts.1))

words_are_utf8 : (later : Bool) (words : List ℕ) → All (λ word. word < 2 ^ 32) words → IsUtf8 (words_text later words)
words_are_utf8 later [] small = IsUtf8-are_ascii [] refl
words_are_utf8 later (word ∷ words) small =
    let parts = all_parts (2 ^ 32) word words small in
    ascii_then (comma_if later) _ (comma_is_ascii later) (number_then word _ parts.0 (words_are_utf8 true words parts.1))

near_then : (z : ℤ) (rest : List ℕ) → is_near z ≡ true → IsUtf8 rest → IsUtf8 (coordinate_text z ++ rest)
near_then (pos n) rest near utf8 = let few = ltb-true n LONGEST_SIDE near in number_then n rest (omega arith) utf8
near_then (negsuc n) rest near utf8 = absurd (let wrong : false ≡ true = near in cc)

cell_is_utf8 : (cell : Point) → is_near_cell cell ≡ true → IsUtf8 (123 ∷ place_text cell)
cell_is_utf8 cell near =
    let own = and_both (is_near cell.x) (is_near cell.y) near in
    ascii_then (codes "{\"x\":") _ refl (near_then cell.x _ own.0 (ascii_then (codes ",\"y\":") _ refl (near_then cell.y _ own.1 (IsUtf8-are_ascii (codes "}") refl))))

cells_are_utf8 : (later : Bool) (cells : List Point) → list_all is_near_cell cells ≡ true → IsUtf8 (cells_text later cells)
cells_are_utf8 later [] near = IsUtf8-are_ascii [] refl
cells_are_utf8 later (cell ∷ cells) near =
    let parts = and_both (is_near_cell cell) (list_all is_near_cell cells) near in
    ascii_then (comma_if later) _ (comma_is_ascii later)
    (IsUtf8-append (123 ∷ place_text cell) _ (cell_is_utf8 cell parts.0) (cells_are_utf8 true cells parts.1))

hazards_are_utf8 : (version : Version) (hazards : Option (List Point)) (rest : List ℕ) → MayGive version MOST_HAZARDS hazards → IsUtf8 rest
    → IsUtf8 (given_text (codes ",\"hazards\":[") hazards ++ rest)
hazards_are_utf8 version None rest fit utf8 = utf8
hazards_are_utf8 version (Some cells) rest fit utf8 =
    IsUtf8-append (given_text (codes ",\"hazards\":[") (Some cells)) rest
    (ascii_then (codes ",\"hazards\":[") _ refl (IsUtf8-append (cells_text false cells) _ (cells_are_utf8 false cells fit.1) (IsUtf8-are_ascii (codes "]") refl))) utf8

food_is_utf8 : (version : Version) (food : Option (List Point)) (rest : List ℕ) → MayGive version MOST_FOOD food → IsUtf8 rest
    → IsUtf8 (given_text (codes ",\"food\":[") food ++ rest)
food_is_utf8 version None rest fit utf8 = utf8
food_is_utf8 version (Some cells) rest fit utf8 =
    IsUtf8-append (given_text (codes ",\"food\":[") (Some cells)) rest
    (ascii_then (codes ",\"food\":[") _ refl (IsUtf8-append (cells_text false cells) _ (cells_are_utf8 false cells fit.1) (IsUtf8-are_ascii (codes "]") refl))) utf8

map_is_utf8 : (version : Version) (hazards food : Option (List Point)) → IsMap version hazards food → IsUtf8 (map_text hazards food)
map_is_utf8 version hazards food fit =
    hazards_are_utf8 version hazards _ fit.0 (food_is_utf8 version food _ fit.1 (IsUtf8-are_ascii (codes "}") refl))

tail_is_utf8 : (version : Version) (written : Bool) (orders : Orders) → IsFitTail version written orders → IsUtf8 (tail_text written orders)
tail_is_utf8 version false orders fit = map_is_utf8 version orders.hazards orders.food fit.1
tail_is_utf8 version true orders fit =
    ascii_then (codes ",\"words\":[") _ refl (IsUtf8-append (words_text false orders.words) _ (words_are_utf8 false orders.words fit.0.small) (IsUtf8-are_ascii (codes "]}") refl))

order_is_utf8 : (version : Version) (written : Bool) (given : List (List ℕ × Direction)) (c : Command) → IsCompact version written given c → IsUtf8 (order_text written given c)
order_is_utf8 version written given (command.New new) compact = absurd compact
order_is_utf8 version written given (command.Move orders) compact =
    ascii_then (codes "move\",\"moves\":{") _ refl (IsUtf8-append (moves_text false given) _ (moves_are_utf8 false given compact.0)
    (ascii_then (codes "}") _ refl (tail_is_utf8 version written orders compact.2)))
order_is_utf8 version written given (command.Turn at) compact =
    let within : at ≤ LAST_TURN = compact in
    ascii_then (codes "turn\",\"at\":") _ refl (number_then at _ (omega arith) (IsUtf8-are_ascii (codes "}") refl))
order_is_utf8 version written given command.Show compact = IsUtf8-are_ascii (codes "show\"}") refl
order_is_utf8 version written given command.Free compact = IsUtf8-are_ascii (codes "free\"}") refl
order_is_utf8 version written given command.End compact = IsUtf8-are_ascii (codes "end\"}") refl
order_is_utf8 version written given command.Bad compact = absurd compact

pub compact_is_utf8 : (version : Version) (game : List ℕ) (written : Bool) (given : List (List ℕ × Direction)) (c : Command) → are_plain game ≡ true → IsCompact version written given c
    → IsUtf8 (compact_text written given game c)
compact_is_utf8 version game written given c plain compact =
    ascii_then (codes "{\"game\":\"") _ refl (plain_then game _ plain (ascii_then (codes "\",\"do\":\"") _ refl (order_is_utf8 version written given c compact)))
