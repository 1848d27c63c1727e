-- What is packed is unpacked again.
use Rattle.std.proofs.Common.{◌≡◌, ℕ, Bor, zero, suc, ◌+◌, ◌≤◌, List, [], ◌∷◌, ◌++◌, length, drop, true, false, Some, None, Result, Ok, Err, cond, refl, subst, sym, ap, ◌∙◌, append_assoc, arith, length-append}
use Rattle.std.specs.Prelude.{is_ok, OnOk}
use Rattle.std.specs.Str.{is_utf8}
use Rattle.std.proofs.lemmas.Grind.{flat_map-append}
use Rattle.std.proofs.lemmas.List.{append-nil, drop_all, drop_at, take_at}
use Rattle.std.proofs.lemmas.List.Elements.{All-drop, All-head, All-nil, All-push}
use Rattle.bs_board.specs.declared.boards.point.Direction.{Direction}
use Rattle.bs_board.specs.declared.boards.point.Direction.TheVariants.{Up, Down, Left, Right}
use Rattle.bs_board.specs.Texts.{IdsAreTexts, is_same_text, is_text_below}
use Rattle.bs_board.specs.commands.Orders.{given_to, is_ascending, moves_in}
use Rattle.bs_board.specs.inner.Packed.{ArePacked, direction_byte, direction_of, packed, packed_move, unpack, unpacked}
use Rattle.bs_board.proofs.records.Fields.{number_again}

direction_again : (d : Direction) → direction_of (direction_byte d) ≡ d
direction_again Up = refl
direction_again Down = refl
direction_again Left = refl
direction_again Right = refl

unpack_again : (count : ℕ) (moves : List (List ℕ × Direction)) → length moves ≤ count → unpack count (packed moves) ≡ moves
unpack_again zero [] few = refl
unpack_again zero (move ∷ moves) few = absurd (omega arith)
unpack_again (suc count) [] few = refl
unpack_again (suc count) (move ∷ moves) few =
    rw (number_again (length move.0), take_at move.0 (packed moves) (length move.0) refl, drop_at move.0 (packed moves) (length move.0) refl, direction_again move.1, unpack_again count moves (omega arith)) refl

-- each entry has some bytes
pub few_entries : (moves : List (List ℕ × Direction)) → length moves ≤ length (packed moves)
few_entries [] = omega arith
few_entries (move ∷ moves) = let rest = few_entries moves in omega (arith, length-append (packed_move move) (packed moves))

pub unpacked_again : (moves : List (List ℕ × Direction)) → unpacked (packed moves) ≡ moves
unfolding unpacked
unpacked_again moves = unpack_again (length (packed moves)) moves (few_entries moves)

-- bytes too few for an entry have none
pub no_entry : (moves : List (List ℕ × Direction)) (bytes : List ℕ) → bytes ≡ packed moves → length bytes + 1 ≤ 3 → moves ≡ []
no_entry [] bytes is few = refl
no_entry (move ∷ moves) bytes is few = absurd (let long = ap length is in omega (arith, length-append (packed_move move) (packed moves)))

pub none_unpacked : (bytes : List ℕ) → bytes ≡ [] → unpacked bytes ≡ []
unfolding unpacked
none_unpacked bytes none = rw none refl

pub none_packed : (bytes : List ℕ) → bytes ≡ [] → ArePacked (unpacked bytes) bytes
none_packed bytes none = rw (none_unpacked bytes none, none) record { whole = refl; texts = All-nil (λ move. is_utf8 move.0 ≡ true) }

with_one : (moves : List (List ℕ × Direction)) (move : List ℕ × Direction) → packed moves ++ packed_move move ≡ packed (moves ++ move ∷ [])
with_one moves move = ap (λ last. packed moves ++ last) (sym (append-nil (packed_move move))) ∙ sym (flat_map-append packed_move moves (move ∷ []))

-- an entry behind the others
one_pushed : (bytes next id : List ℕ) (d : Direction) → ArePacked (unpacked bytes) bytes → is_utf8 id ≡ true → next ≡ bytes ++ packed_move (id, d)
    → (unpacked next ≡ unpacked bytes ++ (id, d) ∷ []) × ArePacked (unpacked next) next
one_pushed bytes next id d kept text is =
    let all : next ≡ packed (unpacked bytes ++ (id, d) ∷ []) = is ∙ ap (λ b. b ++ packed_move (id, d)) kept.whole ∙ with_one (unpacked bytes) (id, d) in
    let back : unpacked next ≡ unpacked bytes ++ (id, d) ∷ [] = ap unpacked all ∙ unpacked_again (unpacked bytes ++ (id, d) ∷ []) in
    (back, rw back record { whole = all; texts = All-push (λ move. is_utf8 move.0 ≡ true) (unpacked bytes) (id, d) kept.texts text })

pub pushed : {A E : Type 0} (r : Result A E) (bytes next id : List ℕ) (d : Direction) (moves : List (List ℕ × Direction)) → ArePacked (unpacked bytes) bytes → unpacked bytes ≡ moves
    → is_utf8 id ≡ true → next ≡ cond (is_ok r) (bytes ++ packed_move (id, d)) bytes → ArePacked (unpacked next) next × OnOk r (unpacked next ≡ moves ++ (id, d) ∷ [])
pushed (Ok x) bytes next id d moves kept was text is =
    let one = one_pushed bytes next id d kept text is in (one.1, one.0 ∙ ap (λ m. m ++ (id, d) ∷ []) was)
pushed (Err e) bytes next id d moves kept was text is = (subst (λ b. ArePacked (unpacked b) b) (sym is) kept, tt)

-- ---- the first entry decides, or the later ones do

pub given_here : (moves later : List (List ℕ × Direction)) (own id : List ℕ) (d : Direction) → moves ≡ (own, d) ∷ later → is_same_text own id ≡ true
    → given_to moves id ≡ Some d
given_here moves later own id d is same = rw (is, same) refl

pub given_later : (moves later : List (List ℕ × Direction)) (own id : List ℕ) (d : Direction) → moves ≡ (own, d) ∷ later → is_same_text own id ≡ false
    → given_to moves id ≡ given_to later id
given_later moves later own id d is other = rw (is, other) refl

-- no entry is left behind as many as there are bytes
pub none_left : (moves : List (List ℕ × Direction)) (bytes : List ℕ) (count : ℕ) → bytes ≡ packed moves → length bytes ≤ count → drop count moves ≡ []
none_left moves bytes count is over = drop_all count moves (let long = ap length is in omega (arith, few_entries moves))

pub none_given : (moves all : List (List ℕ × Direction)) (id : List ℕ) → moves ≡ [] → given_to moves id ≡ given_to all id → None ≡ given_to all id
none_given moves all id none same = ap (λ m. given_to m id) (sym none) ∙ same

-- only the ids are compared
pub by_ids : (id : List ℕ) (d e : Direction) (moves : List (List ℕ × Direction)) → is_ascending ((id, d) ∷ moves) ≡ is_ascending ((id, e) ∷ moves)
by_ids id d e [] = refl
by_ids id d e (move ∷ moves) = refl

pub not_above : (before id : List ℕ) (d : Direction) (left later all : List (List ℕ × Direction)) → left ≡ (id, d) ∷ later → is_text_below before id ≡ false
    → is_ascending ((before, Up) ∷ left) ≡ is_ascending all → false ≡ is_ascending all
not_above before id d left later all is below same =
    let step : is_ascending ((before, Up) ∷ left) ≡ false = rw (is, below) refl in sym step ∙ same

pub next_above : (before id : List ℕ) (d : Direction) (left later all : List (List ℕ × Direction)) → left ≡ (id, d) ∷ later → is_text_below before id ≡ true
    → is_ascending ((before, Up) ∷ left) ≡ is_ascending all → is_ascending ((id, Up) ∷ later) ≡ is_ascending all
next_above before id d left later all is below same =
    let step : is_ascending ((before, Up) ∷ left) ≡ is_ascending ((id, d) ∷ later) = rw (is, below) refl in by_ids id Up d later ∙ sym step ∙ same

pub last_above : (before : List ℕ) (left all : List (List ℕ × Direction)) → left ≡ [] → is_ascending ((before, Up) ∷ left) ≡ is_ascending all → true ≡ is_ascending all
last_above before left all none same = ap (λ m. is_ascending ((before, Up) ∷ m)) (sym none) ∙ same

-- ---- one entry is taken out

pub one_out : (all left found next : List (List ℕ × Direction)) (move : List ℕ × Direction) → left ≡ move ∷ drop 1 left → found ++ left ≡ all → next ≡ found ++ move ∷ []
    → next ++ drop 1 left ≡ all
one_out all left found next move is whole more = rw more (append_assoc found (move ∷ []) (drop 1 left) ∙ ap (λ m. found ++ m) (sym is) ∙ whole)

pub one_lent : (entries : List (Bor (List ℕ) × Direction)) (entry : Bor (List ℕ) × Direction)
    → moves_in (entries ++ entry ∷ []) ≡ moves_in entries ++ (entry.0.now, entry.1) ∷ []
one_lent [] entry = refl
one_lent (first ∷ entries) entry = rw (one_lent entries entry) refl

pub text_here : (all : List (List ℕ × Direction)) (count : ℕ) (move : List ℕ × Direction) (later : List (List ℕ × Direction)) → IdsAreTexts all → drop count all ≡ move ∷ later
    → is_utf8 move.0 ≡ true
text_here all count move later texts is = All-head (λ m. is_utf8 m.0 ≡ true) move later (subst IdsAreTexts is (All-drop (λ m. is_utf8 m.0 ≡ true) count all texts))
