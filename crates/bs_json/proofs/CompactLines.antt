-- The compact text of a command is parsed as that command again: the line of that text is the
-- command for its game.
use Rattle.std.proofs.Common.{◌≡◌, ◌≤◌, ◌<◌, ◌^◌, ◌==◌, ℕ, List, [], ◌∷◌, ◌++◌, All, Bool, true, false, not, nat_le, nat_lt, Some, None, Option, option_and_then, option_map, IsUtf8}
use Rattle.std.proofs.Common.{length, codes, refl, sym, ap, ap₂, ◌∙◌, subst, arith, append_assoc, append-nil, Less, Equal, Greater}
use Rattle.std.proofs.lemmas.Bool.{le-leb, le-ltb, leb-true}
use Rattle.std.specs.Cmp.Lexicographic.{slice_cmp}
use Rattle.std.specs.List.{list_all}
use Rattle.std.specs.Ordering.{match_ordering, nat_cmp}
use Rattle.std.specs.declared.cmp.Ordering.{Ordering}
use Rattle.json.specs.Json as json
use Rattle.json.specs.Lex.{tokens}
use Rattle.json.specs.Print.{escape, escape_byte}
use Rattle.json.specs.Tree as tree
use Rattle.json.proofs.Printed.Decimals.{IsNumber-decimal}
use Rattle.json.proofs.Printed.Strings.{escape_byte_plain}
use Rattle.json.proofs.Printed.Tokens.{tokens-print}
use Rattle.json.proofs.Printed.Trees.{ArePrintable-json_tokens, value-json_tokens}
use Rattle.serde_json.specs.Data.{Data, unsigned, number, string, array, object, Items, no_items, item, Members, no_members, member, put}
use Rattle.serde_json.specs.Find.{get}
use Rattle.serde_json.specs.Read.{of_json, of_items, of_members, max_depth, read}
use Rattle.serde_json.specs.Written as written_as
use Rattle.serde_json.proofs.Numbers.{number_of-decimal}
use Rattle.serde_json.proofs.Texts.{print-outline}
use Rattle.bs_board.specs.declared.boards.point.Direction.{Direction}
use Rattle.bs_board.specs.declared.boards.point.Point.{Point}
use Rattle.bs_board.specs.declared.boards.point.Direction.TheVariants.{Up, Down, Left, Right}
use Rattle.bs_board.specs.declared.commands.command.Command.{Command}
use Rattle.bs_board.specs.declared.commands.command.Command.TheVariants as command
use Rattle.bs_board.specs.declared.limits.TheConstants.{LAST_TURN, MOST_WORDS}
use Rattle.bs_board.specs.commands.Orders.{Orders, orders_of}
use Rattle.bs_board.proofs.Chains.{and_both}
use Rattle.bs_json.specs.declared.limits.TheConstants.{MAX_LINE, MOST_WORD}
use Rattle.bs_json.specs.declared.line.Line.TheVariants as line
use Rattle.bs_board.specs.declared.plans.version.Version.{Version}
use Rattle.bs_json.specs.Commands.{command_of}
use Rattle.bs_json.specs.inner.Compact.{IsCompact, IsOrderText, are_plain, compact_text, direction_name, is_plain, line_text, moves_text, words_text}
use Rattle.bs_json.specs.inner.Sorted.{in_order, put_move, put_moves}
use Rattle.bs_json.specs.Line.{is_space, line_from, line_of}
use Rattle.bs_json.specs.inner.Maps.{map_text}
use Rattle.bs_json.specs.Moves.{direction_named, directions_of, moves_of, orders_from}
use Rattle.bs_json.specs.Values.{each, value_of, whole_to}
use Rattle.bs_json.proofs.CompactBytes.{all_parts, compact_is_utf8}
use Rattle.bs_json.proofs.CompactMaps.{found_members, map_back, map_depth, map_has_numbers, map_is_written, map_members, map_read, no_map}
use Rattle.bs_json.proofs.Texts.{value_of_read}

-- ---- what is printed is parsed again

-- the JSON that has this compact text
pub read_printed : (d : Data) → tree.HasNumbers (written_as.outline d) → tree.depth (written_as.outline d) ≤ max_depth
    → read (written_as.compact_text d) ≡ of_json (written_as.outline d)
read_printed d numbers shallow =
    let ts = tree.json_tokens (written_as.outline d) in
    let same : tokens (written_as.compact_text d) ≡ ts ++ [] =
    ap tokens (sym (print-outline d)) ∙ tokens-print ts (ArePrintable-json_tokens (written_as.outline d) numbers) ∙ sym (append-nil ts) in
    ap (λ all. option_and_then of_json (option_and_then (λ p. json.if_last p.0 p.1) (json.value max_depth all))) same
    ∙ ap (λ found. option_and_then of_json (option_and_then (λ p. json.if_last p.0 p.1) found)) (value-json_tokens (written_as.outline d) max_depth [] shallow)

-- ---- a plain text needs no escape

-- a plain byte differs from each byte that is not plain
is_other_byte : (byte other : ℕ) → is_plain other ≡ false → is_plain byte ≡ true → byte ≡ other → ⊥
is_other_byte byte other marked plain same = let kept = subst (λ b. is_plain b ≡ true) same plain in cc

escape_plain_byte : (byte : ℕ) → is_plain byte ≡ true → escape_byte byte ≡ byte ∷ []
escape_plain_byte byte plain =
    let outer = and_both _ (not (byte == 92)) plain in
    let inner = and_both _ (not (byte == 34)) outer.0 in
    let ends = and_both (nat_le 32 byte) (nat_lt byte 127) inner.0 in
    escape_byte_plain byte (is_other_byte byte 34 refl plain) (is_other_byte byte 92 refl plain) (leb-true 32 byte ends.0)

pub escape_plain : (text : List ℕ) → are_plain text ≡ true → escape text ≡ text
escape_plain [] plain = refl
escape_plain (byte ∷ text) plain =
    let parts = and_both (is_plain byte) (are_plain text) plain in
    ap₂ (λ first rest. first ++ rest) (escape_plain_byte byte parts.0) (escape_plain text parts.1)

-- ---- the members of a move

-- in the order of the moves
abbrev moves_members : List (List ℕ × Direction) → Members
moves_members [] = no_members
moves_members (move ∷ moves) = member move.0 (string (direction_name move.1)) (moves_members moves)

escape_direction : (direction : Direction) → escape (direction_name direction) ≡ direction_name direction
unfolding escape_byte
escape_direction Up = refl
escape_direction Down = refl
escape_direction Left = refl
escape_direction Right = refl

-- the text of one member before that of the others, in the brackets of either definition
regroup_move : (comma mark id middle name rest end : List ℕ) → comma ++ (mark ++ ((id ++ mark) ++ (middle ++ ((name ++ mark) ++ (rest ++ end)))))
    ≡ (comma ++ ((mark ++ (id ++ ((mark ++ middle) ++ (name ++ mark)))) ++ rest)) ++ end
regroup_move comma mark id middle name rest end = simp append_assoc

-- the text of these members is that of the moves
moves_are_written : (later : Bool) (moves : List (List ℕ × Direction)) → list_all (λ move. are_plain move.0) moves ≡ true
    → written_as.members_text later (moves_members moves) ≡ moves_text later moves ++ codes "}"
moves_are_written later [] plain = refl
moves_are_written later (move ∷ moves) plain =
    let parts = and_both (are_plain move.0) (list_all (λ m. are_plain m.0) moves) plain in
    let id = escape_plain move.0 parts.0 in
    rw (id, escape_direction move.1, moves_are_written true moves parts.1)
    (regroup_move (written_as.comma_if later) (codes "\"") move.0 (codes ":\"") (direction_name move.1) (moves_text true moves) (codes "}"))

-- they hold no number and no array or object
has_numbers : (moves : List (List ℕ × Direction)) → tree.MembersHaveNumbers (written_as.members_outline (moves_members moves))
has_numbers [] = tt
has_numbers (move ∷ moves) = (tt, has_numbers moves)

no_depth : (moves : List (List ℕ × Direction)) → tree.members_depth (written_as.members_outline (moves_members moves)) ≡ 0
no_depth [] = refl
no_depth (move ∷ moves) = rw (no_depth moves) refl

members_by : (o : Ordering) (below equal above : List (List ℕ × Direction))
    → moves_members (match_ordering o below equal above) ≡ match_ordering o (moves_members below) (moves_members equal) (moves_members above)
members_by Less below equal above = refl
members_by Equal below equal above = refl
members_by Greater below equal above = refl

-- a member goes to the place of its move
put_is : (found : List (List ℕ × Direction)) (move : List ℕ × Direction)
    → put move.0 (string (direction_name move.1)) (moves_members found) ≡ moves_members (put_move found move)
put_is [] move = refl
put_is (first ∷ found) move =
    rw (put_is found move) (sym (members_by (slice_cmp nat_cmp move.0 first.0) (move ∷ first ∷ found) ((first.0, move.1) ∷ found) (first ∷ put_move found move)))

-- the members found so far, and those of the given moves
members_from : (found given : List (List ℕ × Direction))
    → of_members (written_as.members_outline (moves_members given)) (moves_members found) ≡ Some (moves_members (put_moves found given))
members_from found [] = refl
members_from found (move ∷ given) =
    ap (of_members (written_as.members_outline (moves_members given))) (put_is found move) ∙ members_from (put_move found move) given

direction_back : (direction : Direction) → direction_named (direction_name direction) ≡ Some direction
direction_back Up = refl
direction_back Down = refl
direction_back Left = refl
direction_back Right = refl

-- the reader turns the members into the moves
directions_back : (moves : List (List ℕ × Direction)) → directions_of (moves_members moves) ≡ moves
directions_back [] = refl
directions_back (move ∷ moves) = rw (direction_back move.1, directions_back moves) refl

-- ---- the data of a line

-- as it is written: the game, the word and the other members
abbrev line_data : List ℕ → List ℕ → Members → Data
line_data game word rest = object (member (codes "game") (string game) (member (codes "do") (string word) rest))

-- and its text
abbrev members_line : List ℕ → List ℕ → Members → List ℕ
members_line game word rest = line_text game (word ++ (codes "\"" ++ written_as.members_text true rest))

-- in the brackets of either definition
regroup_line : (start game mark middle word rest : List ℕ) → start ++ ((game ++ mark) ++ (middle ++ ((word ++ mark) ++ rest)))
    ≡ start ++ (game ++ ((mark ++ middle) ++ (word ++ (mark ++ rest))))
regroup_line start game mark middle word rest = simp append_assoc

line_data_text : (game word : List ℕ) (rest : Members) → are_plain game ≡ true → escape word ≡ word
    → written_as.compact_text (line_data game word rest) ≡ members_line game word rest
unfolding escape_byte
line_data_text game word rest plain same =
    let name = escape_plain game plain in
    rw (name, same) (regroup_line (codes "{\"game\":\"") game (codes "\"") (codes ",\"do\":\"") word (written_as.members_text true rest))

-- the data that is found in the text of the data sent
value_reads : (text : List ℕ) (sent found : Data) → text ≡ written_as.compact_text sent → tree.HasNumbers (written_as.outline sent)
    → tree.depth (written_as.outline sent) ≤ max_depth → of_json (written_as.outline sent) ≡ Some found → IsUtf8 text → value_of text ≡ Some found
value_reads text sent found is numbers shallow back utf8 = value_of_read text found utf8 (ap read is ∙ read_printed sent numbers shallow ∙ back)

-- a line that begins as an object
line_of_value : (version : Version) (text rest : List ℕ) (d : Data) → text ≡ 123 ∷ rest → length text ≤ MAX_LINE → value_of text ≡ Some d → line_of version text ≡ line_from version (Some d)
unfolding line_of
line_of_value version text rest d begins short value =
    let no_space : list_all is_space text ≡ false = ap (list_all is_space) begins in
    rw (le-ltb MAX_LINE (length text) short, no_space, value) refl

-- so a line of this text is what its data gives
line_is_from : (version : Version) (text game word : List ℕ) (rest : Members) (found : Data) → text ≡ members_line game word rest → are_plain game ≡ true → escape word ≡ word
    → tree.MembersHaveNumbers (written_as.members_outline rest) → tree.members_depth (written_as.members_outline rest) ≤ 3
    → of_json (written_as.outline (line_data game word rest)) ≡ Some found → IsUtf8 text → length text ≤ MAX_LINE → line_of version text ≡ line_from version (Some found)
line_is_from version text game word rest found is plain same numbers shallow back utf8 short =
    let sent = is ∙ sym (line_data_text game word rest plain same) in
    line_of_value version text _ found is short (value_reads text (line_data game word rest) found sent (tt, (tt, numbers)) (omega arith) back utf8)

-- ---- the commands of one word

-- what is found: the members in the order of their names
abbrev word_data : List ℕ → List ℕ → Data
word_data game word = object (member (codes "do") (string word) (member (codes "game") (string game) no_members))

show_line_is : (version : Version) (text game : List ℕ) (written : Bool) (given : List (List ℕ × Direction)) → text ≡ compact_text written given game command.Show → are_plain game ≡ true
    → IsUtf8 text → length text ≤ MAX_LINE → line_of version text ≡ line.Command game command.Show
unfolding command_of escape_byte
show_line_is version text game written given is plain utf8 short =
    line_is_from version text game (codes "show") no_members (word_data game (codes "show")) is plain refl tt (omega arith) refl utf8 short

free_line_is : (version : Version) (text game : List ℕ) (written : Bool) (given : List (List ℕ × Direction)) → text ≡ compact_text written given game command.Free → are_plain game ≡ true
    → IsUtf8 text → length text ≤ MAX_LINE → line_of version text ≡ line.Command game command.Free
unfolding command_of escape_byte
free_line_is version text game written given is plain utf8 short =
    line_is_from version text game (codes "free") no_members (word_data game (codes "free")) is plain refl tt (omega arith) refl utf8 short

end_line_is : (version : Version) (text game : List ℕ) (written : Bool) (given : List (List ℕ × Direction)) → text ≡ compact_text written given game command.End → are_plain game ≡ true
    → IsUtf8 text → length text ≤ MAX_LINE → line_of version text ≡ line.Command game command.End
unfolding command_of escape_byte
end_line_is version text game written given is plain utf8 short =
    line_is_from version text game (codes "end") no_members (word_data game (codes "end")) is plain refl tt (omega arith) refl utf8 short

-- ---- a `turn`

abbrev turn_members : ℕ → Members
turn_members at = member (codes "at") (number (unsigned at)) no_members

abbrev turn_data : List ℕ → ℕ → Data
turn_data game at =
    object (member (codes "at") (number (unsigned at)) (member (codes "do") (string (codes "turn")) (member (codes "game") (string game) no_members)))

turn_line_is : (version : Version) (text game : List ℕ) (written : Bool) (given : List (List ℕ × Direction)) (at : ℕ) → text ≡ compact_text written given game (command.Turn at) → are_plain game ≡ true → at ≤ LAST_TURN
    → IsUtf8 text → length text ≤ MAX_LINE → line_of version text ≡ line.Command game (command.Turn at)
unfolding command_of escape_byte
turn_line_is version text game written given at is plain within utf8 short =
    let small : at < 2 ^ 64 = omega arith in
    let back : of_json (written_as.outline (line_data game (codes "turn") (turn_members at))) ≡ Some (turn_data game at) =
    rw (number_of-decimal at small) refl in
    let asks : line_from version (Some (turn_data game at)) ≡ line.Command game (command.Turn at) = rw (le-leb at LAST_TURN within) refl in
    line_is_from version text game (codes "turn") (turn_members at) (turn_data game at) is plain refl (IsNumber-decimal at small, tt) (omega arith) back utf8 short
    ∙ asks

-- ---- the words of a move

-- as they are written: an array of numbers
abbrev words_items : List ℕ → Items
words_items [] = no_items
words_items (word ∷ words) = item (number (unsigned word)) (words_items words)

-- the text of these items is that of the words
words_are_written : (later : Bool) (words : List ℕ) → written_as.items_text later (words_items words) ≡ words_text later words ++ codes "]"
words_are_written later [] = refl
words_are_written later (word ∷ words) = rw (words_are_written true words) (simp append_assoc)

-- they are numbers, and hold no array or object
have_numbers : (words : List ℕ) → All (λ word. word < 2 ^ 32) words → tree.ItemsHaveNumbers (written_as.items_outline (words_items words))
have_numbers [] small = tt
have_numbers (word ∷ words) small =
    let parts = all_parts (2 ^ 32) word words small in
    (IsNumber-decimal word (omega arith), have_numbers words parts.1)

no_items_depth : (words : List ℕ) → tree.items_depth (written_as.items_outline (words_items words)) ≡ 0
no_items_depth [] = refl
no_items_depth (word ∷ words) = rw (no_items_depth words) refl

-- they are found as they were sent
items_back : (words : List ℕ) → All (λ word. word < 2 ^ 32) words → of_items (written_as.items_outline (words_items words)) ≡ Some (words_items words)
items_back [] small = refl
items_back (word ∷ words) small =
    let parts = all_parts (2 ^ 32) word words small in
    rw (number_of-decimal word (omega arith), items_back words parts.1) refl

-- the reader turns the items into the words
words_back : (words : List ℕ) → All (λ word. word < 2 ^ 32) words → each (whole_to MOST_WORD) (words_items words) ≡ Some words
words_back [] small = refl
words_back (word ∷ words) small =
    let parts = all_parts (2 ^ 32) word words small in
    rw (le-leb word MOST_WORD (omega arith), words_back words parts.1) refl

-- ---- a move

-- `more` are the members after the moves
abbrev move_members : List (List ℕ × Direction) → Members → Members
move_members moves more = member (codes "moves") (object (moves_members moves)) more

abbrev words_members : List ℕ → Members
words_members words = member (codes "words") (array (words_items words)) no_members

abbrev move_data : List ℕ → List (List ℕ × Direction) → Members → Data
move_data game moves more = object (member (codes "do") (string (codes "move")) (member (codes "game") (string game) (move_members moves more)))

-- what is found in a line of these moves, hazards and food
abbrev map_data : List ℕ → List (List ℕ × Direction) → Orders → Data
map_data game moves orders = object (found_members (string (codes "move")) (string game) (object (moves_members moves)) orders.hazards orders.food)

no_words : (word game moves : Data) (hazards food : Option (List Point)) → get (codes "words") (object (found_members word game moves hazards food)) ≡ None
no_words word game moves None None = refl
no_words word game moves None (Some food) = refl
no_words word game moves (Some hazards) None = refl
no_words word game moves (Some hazards) (Some food) = refl

moves_found : (word game : Data) (moves : Members) (hazards food : Option (List Point))
    → moves_of (object (found_members word game (object moves) hazards food)) ≡ Some moves
moves_found word game moves None None = refl
moves_found word game moves None (Some food) = refl
moves_found word game moves (Some hazards) None = refl
moves_found word game moves (Some hazards) (Some food) = refl

named_line : (version : Version) (game : List ℕ) (moves : Data) (hazards food : Option (List Point)) (c : Command)
    → option_map command.Move (orders_from version (object (found_members (string (codes "move")) (string game) moves hazards food))) ≡ Some c
    → line_from version (Some (object (found_members (string (codes "move")) (string game) moves hazards food))) ≡ line.Command game c
unfolding command_of
named_line version game moves None None c is = rw is refl
named_line version game moves None (Some food) c is = rw is refl
named_line version game moves (Some hazards) None c is = rw is refl
named_line version game moves (Some hazards) (Some food) c is = rw is refl

-- a move whose words are left out, since there are none
bare_move_line_is : (version : Version) (text game : List ℕ) (given : List (List ℕ × Direction)) (orders : Orders) → text ≡ compact_text false given game (command.Move orders)
    → are_plain game ≡ true → IsCompact version false given (command.Move orders) → IsUtf8 text → length text ≤ MAX_LINE → line_of version text ≡ line.Command game (command.Move orders)
unfolding orders_from escape_byte
bare_move_line_is version text game given orders is plain compact utf8 short =
    let more = map_members orders.hazards orders.food in
    let rest = move_members given more in
    let moves = in_order given in
    let fit = compact.2.1 in
    let all : moves_text false given ++ (codes "}" ++ map_text orders.hazards orders.food) ≡ written_as.members_text false (moves_members given) ++ written_as.members_text true more =
    sym (append_assoc (moves_text false given) (codes "}") (map_text orders.hazards orders.food))
    ∙ ap₂ (λ front back. front ++ back) (sym (moves_are_written false given compact.0)) (sym (map_is_written orders.hazards orders.food)) in
    let sent : text ≡ members_line game (codes "move") rest =
    is ∙ ap (λ some. codes "{\"game\":\"" ++ (game ++ (codes "\",\"do\":\"move\",\"moves\":{" ++ some))) all in
    let placed = map_back version (string (codes "move")) (string game) (object (moves_members moves)) orders.hazards orders.food fit in
    let back : of_json (written_as.outline (line_data game (codes "move") rest)) ≡ Some (map_data game moves orders) =
    rw (members_from [] given) (ap (option_map object) placed) in
    let asks : orders_from version (map_data game moves orders) ≡ Some orders =
    rw (
      no_words (string (codes "move")) (string game) (object (moves_members moves)) orders.hazards orders.food,
      map_read version (string (codes "move")) (string game) (object (moves_members moves)) orders.hazards orders.food fit,
      moves_found (string (codes "move")) (string game) (moves_members moves) orders.hazards orders.food,
    )
    (ap₂ (λ found words. Some (record (orders_of found words) { hazards = orders.hazards; food = orders.food })) (directions_back moves ∙ sym compact.1) (sym compact.2.0)) in
    let shallow = no_depth given in
    let shallow_map = map_depth orders.hazards orders.food in
    line_is_from version text game (codes "move") rest (map_data game moves orders) sent plain refl
    (has_numbers given, map_has_numbers version orders.hazards orders.food fit) (omega arith) back utf8 short
    ∙ named_line version game (object (moves_members moves)) orders.hazards orders.food (command.Move orders) (ap (option_map command.Move) asks)

-- the text after the opening brace of the moves, in the grouping of either definition
regroup_words : (moves mark middle words close end : List ℕ) → moves ++ (mark ++ (middle ++ (words ++ (close ++ end))))
    ≡ (moves ++ mark) ++ (middle ++ ((words ++ close) ++ end))
regroup_words moves mark middle words close end = simp append_assoc

-- a move whose words are written
full_move_line_is : (version : Version) (text game : List ℕ) (given : List (List ℕ × Direction)) (orders : Orders) → text ≡ compact_text true given game (command.Move orders)
    → are_plain game ≡ true → IsCompact version true given (command.Move orders) → IsUtf8 text → length text ≤ MAX_LINE → line_of version text ≡ line.Command game (command.Move orders)
unfolding command_of orders_from escape_byte
full_move_line_is version text game given orders is plain compact utf8 short =
    let words = orders.words in
    let moves = in_order given in
    let fit = compact.2.0 in
    let more = words_members words in
    let rest = move_members given more in
    let all : moves_text false given ++ (codes "}" ++ (codes ",\"words\":[" ++ (words_text false words ++ codes "]}")))
    ≡ written_as.members_text false (moves_members given) ++ (codes ",\"words\":[" ++ (written_as.items_text false (words_items words) ++ codes "}")) =
    rw (moves_are_written false given compact.0, words_are_written false words)
    (regroup_words (moves_text false given) (codes "}") (codes ",\"words\":[") (words_text false words) (codes "]") (codes "}")) in
    let sent : text ≡ members_line game (codes "move") rest =
    is ∙ ap (λ some. codes "{\"game\":\"" ++ (game ++ (codes "\",\"do\":\"move\",\"moves\":{" ++ some))) all in
    let back : of_json (written_as.outline (line_data game (codes "move") rest)) ≡ Some (move_data game moves more) =
    rw (members_from [] given, items_back words fit.small) refl in
    let asks : line_from version (Some (move_data game moves more)) ≡ line.Command game (command.Move orders) =
    rw (no_map version (move_data game moves more) refl refl, words_back words fit.small, le-leb (length words) MOST_WORDS fit.few, directions_back moves, ← compact.1)
    (ap₂ (λ hazards food. line.Command game (command.Move (record orders { hazards = hazards; food = food }))) (sym compact.2.1) (sym compact.2.2)) in
    let shallow = no_depth given in
    let shallow_words = no_items_depth words in
    let numbers : tree.MembersHaveNumbers (written_as.members_outline rest) = (has_numbers given, (have_numbers words fit.small, tt)) in
    line_is_from version text game (codes "move") rest (move_data game moves more) sent plain refl numbers (omega arith) back utf8 short
    ∙ asks

move_line_is : (version : Version) (text game : List ℕ) (written : Bool) (given : List (List ℕ × Direction)) (orders : Orders) → text ≡ compact_text written given game (command.Move orders)
    → are_plain game ≡ true → IsCompact version written given (command.Move orders) → IsUtf8 text → length text ≤ MAX_LINE → line_of version text ≡ line.Command game (command.Move orders)
move_line_is version text game false given orders is plain compact utf8 short = bare_move_line_is version text game given orders is plain compact utf8 short
move_line_is version text game true given orders is plain compact utf8 short = full_move_line_is version text game given orders is plain compact utf8 short

-- ---- every command

line_of_text : (version : Version) (text game : List ℕ) (written : Bool) (given : List (List ℕ × Direction)) (c : Command) → text ≡ compact_text written given game c
    → are_plain game ≡ true → IsCompact version written given c → IsUtf8 text → length text ≤ MAX_LINE → line_of version text ≡ line.Command game c
line_of_text version text game written given (command.New new) is plain compact utf8 short = absurd compact
line_of_text version text game written given (command.Move orders) is plain compact utf8 short = move_line_is version text game written given orders is plain compact utf8 short
line_of_text version text game written given (command.Turn at) is plain compact utf8 short = turn_line_is version text game written given at is plain compact utf8 short
line_of_text version text game written given command.Show is plain compact utf8 short = show_line_is version text game written given is plain utf8 short
line_of_text version text game written given command.Free is plain compact utf8 short = free_line_is version text game written given is plain utf8 short
line_of_text version text game written given command.End is plain compact utf8 short = end_line_is version text game written given is plain utf8 short
line_of_text version text game written given command.Bad is plain compact utf8 short = absurd compact

-- the compact text of a command for a game is read as that command for that game
pub line_of_compact : (version : Version) (text game order : List ℕ) (written : Bool) (c : Command) → text ≡ line_text game order → are_plain game ≡ true
    → IsOrderText version order written c → length text ≤ MAX_LINE → line_of version text ≡ line.Command game c
line_of_compact version text game order written c begins plain follows short =
    let is : text ≡ compact_text written follows.given game c = begins ∙ ap (line_text game) follows.is in
    line_of_text version text game written follows.given c is plain follows.compact (subst IsUtf8 (sym is) (compact_is_utf8 version game written follows.given c plain follows.compact)) short

-- and so is one without moves, in a file of any version
pub line_of_short : (text game order : List ℕ) (c : Command) → text ≡ line_text game order → are_plain game ≡ true
    → ((version : Version) → IsOrderText version order false c) → length text ≤ MAX_LINE → (version : Version) → line_of version text ≡ line.Command game c
line_of_short text game order c begins plain follows short version = line_of_compact version text game order false c begins plain (follows version) short
