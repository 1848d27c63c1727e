-- The parts at the start of a line.
use Rattle.std.proofs.Common.{◌≡◌, ℕ, suc, ◌+◌, inl, inr, Bool, true, false, not, cond, List, [], ◌∷◌, ◌++◌, length, take, drop, decimal, Some, None, refl, sym, ap, ap₂, subst, ◌∙◌, arith, append_assoc, take-append-drop}
use Rattle.std.specs.List.{list_all, position, position_or_len}
use Rattle.std.specs.Str.{bytes_eq}
use Rattle.std.proofs.lemmas.Bool.{and_from, cases_Bool}
use Rattle.std.proofs.lemmas.List.Folds.{list_all-append}
use Rattle.std.proofs.lemmas.Slice.Eq.{bytes_eq-Decides}
use Rattle.serde_json.specs.Written.{comma_if}
use Rattle.bs_board.specs.declared.boards.point.Direction.{Direction}
use Rattle.bs_board.specs.declared.boards.point.Point.{Point}
use Rattle.bs_json.specs.inner.Maps.{cells_text, is_near_cell, place_text}
use Rattle.bs_board.specs.declared.commands.command.Command.{Command}
use Rattle.bs_board.specs.declared.plans.version.Version.{Version}
use Rattle.bs_json.specs.inner.Compact.{IsCompact, IsOrderText, is_plain, are_plain, are_plain_moves, are_some, direction_name, move_text, moves_text, order_text, words_text}

pub behind_prefix : (line text rest : List ℕ) → bytes_eq (take (length text) line) text ≡ true → rest ≡ drop (length text) line → line ≡ text ++ rest
behind_prefix line text rest same is =
    sym (take-append-drop (length text) line) ∙ ap₂ ◌++◌ ((bytes_eq-Decides (take (length text) line) text).0 same) (sym is)

plain_step : (byte count : ℕ) (line : List ℕ) → is_plain byte ≡ true → are_plain (take count line) ≡ true → are_plain (take (1 + count) (byte ∷ line)) ≡ true
plain_step byte count line first rest =
    let next : suc count ≡ 1 + count = omega arith in
    subst (λ n. are_plain (take n (byte ∷ line)) ≡ true) next (and_from (is_plain byte) (are_plain (take count line)) first rest)

-- the bytes up to the first that is not plain
plain_prefix : (line : List ℕ) → are_plain (take (position_or_len (λ byte. not (is_plain byte)) line) line) ≡ true
plain_prefix [] = refl
plain_prefix (byte ∷ line) = elim (cases_Bool (is_plain byte)) [
  | inl plain ↦ rw plain (plain_step byte _ line plain (plain_prefix line))
  | inr other ↦ rw other refl
]

place_found : (b : Bool) (place end : ℕ) → cond b (Some place) None ≡ Some end → place ≡ end
place_found true place end is = cc
place_found false place end is = absurd (cc)

pub plain_front : (line : List ℕ) (end : ℕ) → position (λ byte. not (is_plain byte)) line ≡ Some end → are_plain (take end line) ≡ true
plain_front line end is = subst (λ n. are_plain (take n line) ≡ true) (place_found _ _ end is) (plain_prefix line)

-- a move by its parts, in order
pub move_parts : (line first id second rest : List ℕ) (d : Direction) → line ≡ 34 ∷ first → first ≡ id ++ 34 ∷ second → second ≡ 58 ∷ 34 ∷ (direction_name d ++ 34 ∷ rest)
    → line ≡ move_text (id, d) ++ rest
move_parts line first id second rest d opens closes next = rw (opens, closes, next) (simp append_assoc)

longer : (later : Bool) (first : List ℕ × Direction) (xs ys front back : List ℕ) → xs ++ front ≡ ys ++ back
    → (comma_if later ++ (move_text first ++ xs)) ++ front ≡ (comma_if later ++ (move_text first ++ ys)) ++ back
longer later first xs ys front back same =
    append_assoc (comma_if later) (move_text first ++ xs) front
    ∙ ap (λ t. comma_if later ++ t) (append_assoc (move_text first) xs front ∙ ap (λ t. move_text first ++ t) same ∙ sym (append_assoc (move_text first) ys back))
    ∙ sym (append_assoc (comma_if later) (move_text first ++ ys) back)

more_text : (later : Bool) (moves : List (List ℕ × Direction)) (move : List ℕ × Direction) (rest : List ℕ)
    → moves_text later moves ++ (comma_if (cond later true (are_some moves)) ++ (move_text move ++ rest)) ≡ moves_text later (moves ++ move ∷ []) ++ rest
more_text true [] move rest = simp append_assoc
more_text false [] move rest = simp append_assoc
more_text true (first ∷ moves) move rest = longer true first (moves_text true moves) (moves_text true (moves ++ move ∷ [])) _ rest (more_text true moves move rest)
more_text false (first ∷ moves) move rest = longer false first (moves_text true moves) (moves_text true (moves ++ move ∷ [])) _ rest (more_text true moves move rest)

-- one more move
pub one_move_more : (line left rest : List ℕ) (moves : List (List ℕ × Direction)) (move : List ℕ × Direction) → line ≡ moves_text false moves ++ left
    → left ≡ comma_if (are_some moves) ++ (move_text move ++ rest) → line ≡ moves_text false (moves ++ move ∷ []) ++ rest
one_move_more line left rest moves move begins next = begins ∙ ap (λ t. moves_text false moves ++ t) next ∙ more_text false moves move rest

longer_words : (later : Bool) (first : ℕ) (xs ys front back : List ℕ) → xs ++ front ≡ ys ++ back
    → (comma_if later ++ (decimal first ++ xs)) ++ front ≡ (comma_if later ++ (decimal first ++ ys)) ++ back
longer_words later first xs ys front back same =
    append_assoc (comma_if later) (decimal first ++ xs) front
    ∙ ap (λ t. comma_if later ++ t) (append_assoc (decimal first) xs front ∙ ap (λ t. decimal first ++ t) same ∙ sym (append_assoc (decimal first) ys back))
    ∙ sym (append_assoc (comma_if later) (decimal first ++ ys) back)

more_words : (later : Bool) (words : List ℕ) (word : ℕ) (rest : List ℕ)
    → words_text later words ++ (comma_if (cond later true (are_some words)) ++ (decimal word ++ rest)) ≡ words_text later (words ++ word ∷ []) ++ rest
more_words true [] word rest = simp append_assoc
more_words false [] word rest = simp append_assoc
more_words true (first ∷ words) word rest =
    longer_words true first (words_text true words) (words_text true (words ++ word ∷ [])) _ rest (more_words true words word rest)
more_words false (first ∷ words) word rest =
    longer_words false first (words_text true words) (words_text true (words ++ word ∷ [])) _ rest (more_words true words word rest)

-- one more word
pub one_word_more : (line left rest words : List ℕ) (word : ℕ) → line ≡ words_text false words ++ left → left ≡ comma_if (are_some words) ++ (decimal word ++ rest)
    → line ≡ words_text false (words ++ word ∷ []) ++ rest
one_word_more line left rest words word begins next = begins ∙ ap (λ t. words_text false words ++ t) next ∙ more_words false words word rest

longer_cells : (later : Bool) (first : Point) (xs ys front back : List ℕ) → xs ++ front ≡ ys ++ back
    → (comma_if later ++ ((123 ∷ place_text first) ++ xs)) ++ front ≡ (comma_if later ++ ((123 ∷ place_text first) ++ ys)) ++ back
longer_cells later first xs ys front back same =
    append_assoc (comma_if later) ((123 ∷ place_text first) ++ xs) front
    ∙ ap (λ t. comma_if later ++ t) (append_assoc (123 ∷ place_text first) xs front ∙ ap (λ t. (123 ∷ place_text first) ++ t) same ∙ sym (append_assoc (123 ∷ place_text first) ys back))
    ∙ sym (append_assoc (comma_if later) ((123 ∷ place_text first) ++ ys) back)

regroup_last : (comma cell rest : List ℕ) → comma ++ (cell ++ rest) ≡ (comma ++ (cell ++ [])) ++ rest
regroup_last comma cell rest = simp append_assoc

more_cells : (later : Bool) (cells : List Point) (cell : Point) (rest : List ℕ)
    → cells_text later cells ++ (comma_if (cond later true (are_some cells)) ++ ((123 ∷ place_text cell) ++ rest)) ≡ cells_text later (cells ++ cell ∷ []) ++ rest
more_cells true [] cell rest = regroup_last (comma_if true) (123 ∷ place_text cell) rest
more_cells false [] cell rest = regroup_last (comma_if false) (123 ∷ place_text cell) rest
more_cells true (first ∷ cells) cell rest = longer_cells true first (cells_text true cells) (cells_text true (cells ++ cell ∷ [])) _ rest (more_cells true cells cell rest)
more_cells false (first ∷ cells) cell rest = longer_cells false first (cells_text true cells) (cells_text true (cells ++ cell ∷ [])) _ rest (more_cells true cells cell rest)

-- one more cell
pub one_cell_more : (line left rest : List ℕ) (cells : List Point) (cell : Point) → line ≡ cells_text false cells ++ left
    → left ≡ comma_if (are_some cells) ++ ((123 ∷ place_text cell) ++ rest) → line ≡ cells_text false (cells ++ cell ∷ []) ++ rest
one_cell_more line left rest cells cell begins next = begins ∙ ap (λ t. cells_text false cells ++ t) next ∙ more_cells false cells cell rest

pub near_with_one : (cells : List Point) (cell : Point) → list_all is_near_cell cells ≡ true → is_near_cell cell ≡ true → list_all is_near_cell (cells ++ cell ∷ []) ≡ true
near_with_one cells cell near one = list_all-append is_near_cell cells (cell ∷ []) ∙ rw (near, one) refl

pub some_with_one : {A : Type 0} (xs : List A) (x : A) → true ≡ are_some (xs ++ x ∷ [])
some_with_one [] x = refl
some_with_one (y ∷ xs) x = refl

pub plain_with_one : (moves : List (List ℕ × Direction)) (move : List ℕ × Direction) → are_plain_moves moves ≡ true → are_plain move.0 ≡ true
    → are_plain_moves (moves ++ move ∷ []) ≡ true
plain_with_one moves move plain one = list_all-append (λ m. are_plain m.0) moves (move ∷ []) ∙ rw (plain, one) refl

-- a command without moves, in a file of any version
pub order_follows : (version : Version) (order : List ℕ) (c : Command) → order ≡ order_text false [] c → ((v : Version) → IsCompact v false [] c) → IsOrderText version order false c
order_follows version order c is compact = record { given = []; is = is; compact = compact version }
