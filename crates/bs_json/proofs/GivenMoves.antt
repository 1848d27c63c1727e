-- Moves that were read one after the other, in the order of their ids.
use Rattle.std.proofs.Common.{◌≡◌, ◌<◌, ℕ, suc, Bor, length, drop, drop-cons, get_or, List, [], ◌∷◌, ◌++◌, Bool, true, false, refl, sym, ap, subst, ◌∙◌, Less, Equal, Greater}
use Rattle.std.specs.Cmp.Lexicographic.{slice_cmp}
use Rattle.std.specs.Ordering.{match_ordering, nat_cmp}
use Rattle.std.specs.Str.{is_utf8}
use Rattle.std.specs.declared.cmp.Ordering.{Ordering}
use Rattle.serde_json.specs.Written.{comma_if}
use Rattle.bs_board.specs.declared.boards.point.Direction.{Direction}
use Rattle.bs_board.specs.commands.Orders.{is_ascending, moves_in}
use Rattle.bs_board.proofs.Chains.{and_both}
use Rattle.bs_json.specs.inner.Compact.{GivenMoves, ReadMoves, are_plain, are_plain_moves, move_text}
use Rattle.bs_json.specs.inner.Sorted.{put_move, put_moves}
use Rattle.bs_json.proofs.Ascending.{Given}
use Rattle.bs_json.proofs.CompactBytes.{plain_text}
use Rattle.bs_json.proofs.CutTexts.{one_move_more, plain_with_one, some_with_one}
use Rattle.bs_json.proofs.OrderedMoves.{Entries, in_order_ascends}

pub plain_at : (entries : Entries) (at : ℕ) (none : Bor (List ℕ) × Direction) → are_plain_moves (moves_in (drop at entries)) ≡ true → at < length entries
    → is_utf8 (get_or entries at none).0.now ≡ true
plain_at entries at none plain within =
    let here : drop at entries ≡ get_or entries at none ∷ drop (suc at) entries = drop-cons entries at none within in
    let all : are_plain_moves (moves_in (get_or entries at none ∷ drop (suc at) entries)) ≡ true = ap (λ es. are_plain_moves (moves_in es)) (sym here) ∙ plain in
    plain_text (get_or entries at none).0.now (and_both (are_plain (get_or entries at none).0.now) (are_plain_moves (moves_in (drop (suc at) entries))) all).0

put_after : (found given : Given) (move : List ℕ × Direction) → put_moves found (given ++ move ∷ []) ≡ put_move (put_moves found given) move
put_after found [] move = refl
put_after found (first ∷ given) move = put_after (put_move found first) given move

plain_by : (o : Ordering) (first move : List ℕ × Direction) (rest later : Given) → are_plain move.0 ≡ true → are_plain first.0 ≡ true → are_plain_moves rest ≡ true
    → are_plain_moves later ≡ true → are_plain_moves (match_ordering o (move ∷ first ∷ rest) ((first.0, move.1) ∷ rest) (first ∷ later)) ≡ true
plain_by Less first move rest later it one all more = rw (it, one, all) refl
plain_by Equal first move rest later it one all more = rw (one, all) refl
plain_by Greater first move rest later it one all more = rw (one, more) refl

plain_put : (found : Given) (move : List ℕ × Direction) → are_plain_moves found ≡ true → are_plain move.0 ≡ true → are_plain_moves (put_move found move) ≡ true
plain_put [] move all it = rw it refl
plain_put (first ∷ rest) move all it =
    let parts = and_both (are_plain first.0) (are_plain_moves rest) all in
    plain_by (slice_cmp nat_cmp move.0 first.0) first move rest (put_move rest move) it parts.0 parts.1 (plain_put rest move parts.1 it)

plain_all : (found given : Given) → are_plain_moves found ≡ true → are_plain_moves given ≡ true → are_plain_moves (put_moves found given) ≡ true
plain_all found [] all more = all
plain_all found (move ∷ given) all more =
    let parts = and_both (are_plain move.0) (are_plain_moves given) more in
    plain_all (put_move found move) given (plain_put found move all parts.0) parts.1

pub are_plain_in_order : (line : List ℕ) (moves : Given) (left : List ℕ) → GivenMoves line moves left → are_plain_moves moves ≡ true
are_plain_in_order line moves left g = subst (λ ms. are_plain_moves ms ≡ true) (sym g.order) (plain_all [] g.given refl g.plain)

pub ascend_in_order : (line : List ℕ) (moves : Given) (left : List ℕ) → GivenMoves line moves left → is_ascending moves ≡ true
ascend_in_order line moves left g = subst (λ ms. is_ascending ms ≡ true) (sym g.order) (in_order_ascends g.given)

pub no_moves : (line : List ℕ) → ReadMoves line [] line false
no_moves line = (record { given = []; is = refl; plain = refl; order = refl }, refl)

pub one_more : (line left rest : List ℕ) (moves next : Given) (later : Bool) (move : List ℕ × Direction) → ReadMoves line moves left later
    → left ≡ comma_if later ++ (move_text move ++ rest) → are_plain move.0 ≡ true → next ≡ put_move moves move → ReadMoves line next rest true
one_more line left rest moves next later move read begins plain put =
    let g = read.0 in
    let begins_so = subst (λ b. left ≡ comma_if b ++ (move_text move ++ rest)) read.1 begins in (
      record {
        given = g.given ++ move ∷ [];
        is = one_move_more line left rest g.given move g.is begins_so;
        plain = plain_with_one g.given move g.plain plain;
        order = put ∙ ap (λ ms. put_move ms move) g.order ∙ sym (put_after [] g.given move);
      },
      some_with_one g.given move,
    )
