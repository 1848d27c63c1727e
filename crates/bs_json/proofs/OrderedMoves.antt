-- Moves in the order of their ids.
use Rattle.std.proofs.Common.{◌≡◌, ℕ, suc, ◌+◌, ◌-◌, ◌<◌, ◌≤◌, List, [], ◌∷◌, ◌++◌, Bool, true, false, not, cond, Some, None, Bor, length, get_or, slice_set, refl, sym, ap, subst, ◌∙◌, arith, Less, Equal, Greater}
use Rattle.std.proofs.lemmas.Cmp.{nat_list_cmp_total}
use Rattle.std.proofs.lemmas.Bool.{and_from, ltb-false, ltb-true}
use Rattle.std.specs.List.{insert, position, position_or_len}
use Rattle.std.specs.Cmp.Lexicographic.{slice_cmp}
use Rattle.std.specs.Ordering.{is_gt, is_lt, match_ordering, nat_cmp, ordering_reverse}
use Rattle.std.specs.declared.cmp.Ordering.{Ordering}
use Rattle.bs_board.specs.declared.boards.point.Direction.{Direction}
use Rattle.bs_board.specs.commands.Orders.{is_ascending, moves_in}
use Rattle.bs_board.specs.Texts.{is_text_below}
use Rattle.bs_board.proofs.Chains.{and_both}
use Rattle.bs_board.proofs.commands.PackedMoves.{one_lent}
use Rattle.bs_json.specs.inner.Sorted.{in_order, is_last, put_move, put_moves}
use Rattle.bs_json.proofs.Ascending.{FirstIsAbove, Given, ascends_after}

abbrev pub Entries : Type 0
Entries = List (Bor (List ℕ) × Direction)

less_is : (o : Ordering) → is_lt o ≡ true → o ≡ Less
less_is Less h = refl
less_is Equal h = let wrong : false ≡ true = h in cc
less_is Greater h = let wrong : false ≡ true = h in cc

-- ---- what ascends is in order already

tail_ascends : (first : List ℕ × Direction) (rest : Given) → is_ascending (first ∷ rest) ≡ true → is_ascending rest ≡ true
tail_ascends first [] up = refl
tail_ascends first (second ∷ rest) up = (and_both (is_text_below first.0 second.0) (is_ascending (second ∷ rest)) up).1

-- an id that comes anywhere after another is above it
is_above : (first : List ℕ × Direction) (between : Given) (move : List ℕ × Direction) (rest : Given) → is_ascending (first ∷ (between ++ move ∷ rest)) ≡ true
    → slice_cmp nat_cmp first.0 move.0 ≡ Less
is_above first [] move rest up = less_is _ (and_both (is_text_below first.0 move.0) (is_ascending (move ∷ rest)) up).0
is_above first (second ∷ between) move rest up =
    let parts = and_both (is_text_below first.0 second.0) (is_ascending (second ∷ (between ++ move ∷ rest))) up in
    nat_list_cmp_total.trans first.0 second.0 move.0 (less_is _ parts.0) (is_above second between move rest parts.1)

-- so it goes behind those before it
goes_last : (found : Given) (move : List ℕ × Direction) (rest : Given) → is_ascending (found ++ move ∷ rest) ≡ true → put_move found move ≡ found ++ move ∷ []
goes_last [] move rest up = refl
goes_last (first ∷ found) move rest up =
    let above = nat_list_cmp_total.antisymm move.0 first.0 ∙ ap ordering_reverse (is_above first found move rest up) in
    rw (above, goes_last found move rest (tail_ascends first (found ++ move ∷ rest) up)) refl

-- ---- what is in order ascends

first_above : (first : List ℕ × Direction) (rest : Given) → is_ascending (first ∷ rest) ≡ true → FirstIsAbove first.0 rest
first_above first [] up = tt
first_above first (second ∷ rest) up = (and_both (is_text_below first.0 second.0) (is_ascending (second ∷ rest)) up).0

one_above : (id : List ℕ) (o : Ordering) (move second : List ℕ × Direction) (below equal above : Given) → is_text_below id move.0 ≡ true → is_text_below id second.0 ≡ true
    → FirstIsAbove id (match_ordering o (move ∷ below) ((second.0, move.1) ∷ equal) (second ∷ above))
one_above id Less move second below equal above it next = it
one_above id Equal move second below equal above it next = next
one_above id Greater move second below equal above it next = next

still_above : (id : List ℕ) (rest : Given) (move : List ℕ × Direction) → FirstIsAbove id rest → is_text_below id move.0 ≡ true → FirstIsAbove id (put_move rest move)
still_above id [] move next it = it
still_above id (second ∷ rest) move next it = one_above id (slice_cmp nat_cmp move.0 second.0) move second (second ∷ rest) rest (put_move rest move) it next

put_by : (o : Ordering) (first move : List ℕ × Direction) (rest : Given) → slice_cmp nat_cmp move.0 first.0 ≡ o → is_ascending (first ∷ rest) ≡ true
    → is_ascending (put_move rest move) ≡ true → is_ascending (match_ordering o (move ∷ first ∷ rest) ((first.0, move.1) ∷ rest) (first ∷ put_move rest move)) ≡ true
put_by Less first move rest is up later = ascends_after move.0 move.1 (first ∷ rest) (ap is_lt is) up
put_by Equal first move rest is up later = ascends_after first.0 move.1 rest (first_above first rest up) (tail_ascends first rest up)
put_by Greater first move rest is up later =
    let below = ap is_lt (nat_list_cmp_total.antisymm first.0 move.0 ∙ ap ordering_reverse is) in
    ascends_after first.0 first.1 (put_move rest move) (still_above first.0 rest move (first_above first rest up) below) later

put_ascends : (found : Given) (move : List ℕ × Direction) → is_ascending found ≡ true → is_ascending (put_move found move) ≡ true
put_ascends [] move up = refl
put_ascends (first ∷ rest) move up =
    put_by (slice_cmp nat_cmp move.0 first.0) first move rest refl up (put_ascends rest move (tail_ascends first rest up))

all_ascend : (found given : Given) → is_ascending found ≡ true → is_ascending (put_moves found given) ≡ true
all_ascend found [] up = up
all_ascend found (move ∷ given) up = all_ascend (put_move found move) given (put_ascends found move up)

pub in_order_ascends : (given : Given) → is_ascending (in_order given) ≡ true
in_order_ascends given = all_ascend [] given refl

-- ---- an entry goes to its place

-- behind those below it
append_ascends : (found : Given) (move : List ℕ × Direction) → is_ascending found ≡ true → is_last move.0 found ≡ true → is_ascending (found ++ move ∷ []) ≡ true
append_ascends [] move up last = refl
append_ascends (first ∷ []) move up last = rw last refl
append_ascends (first ∷ second ∷ rest) move up last =
    let parts = and_both (is_text_below first.0 second.0) (is_ascending (second ∷ rest)) up in
    and_from (is_text_below first.0 second.0) (is_ascending ((second ∷ rest) ++ move ∷ [])) parts.0 (append_ascends (second ∷ rest) move parts.1 last)

pub last_is_put : (moves : Given) (move : List ℕ × Direction) → is_ascending moves ≡ true → is_last move.0 moves ≡ true → moves ++ move ∷ [] ≡ put_move moves move
last_is_put moves move up last = sym (goes_last moves move [] (append_ascends moves move up last))

-- an id above the one that came last is above all
pub above_all : (moves : Given) (move : List ℕ × Direction) (id : List ℕ) → is_text_below move.0 id ≡ true → is_last id (moves ++ move ∷ []) ≡ true
above_all [] move id above = above
above_all (first ∷ []) move id above = above
above_all (first ∷ second ∷ rest) move id above = above_all (second ∷ rest) move id above

pub put_last : (entries : Entries) (id : Bor (List ℕ)) (direction : Direction) → is_ascending (moves_in entries) ≡ true → is_last id.now (moves_in entries) ≡ true
    → moves_in (entries ++ (id, direction) ∷ []) ≡ put_move (moves_in entries) (id.now, direction)
put_last entries id direction up last =
    one_lent entries (id, direction) ∙ last_is_put (moves_in entries) (id.now, direction) up last

pub last_below : (entries : Entries) (id : List ℕ) (none : Bor (List ℕ) × Direction) → 0 < length entries
    → is_lt (slice_cmp nat_cmp (get_or entries (length entries - 1) none).0.now id) ≡ true → is_last id (moves_in entries) ≡ true
last_below [] id none some below = refl
last_below (first ∷ []) id none some below = below
last_below (first ∷ second ∷ rest) id none some below =
    let behind : length (first ∷ second ∷ rest) - 1 ≡ suc (length (second ∷ rest) - 1) = omega arith in
    last_below (second ∷ rest) id none (omega arith) (subst (λ n. is_lt (slice_cmp nat_cmp (get_or (first ∷ second ∷ rest) n none).0.now id) ≡ true) behind below)

-- before the first that is not below it
abbrev pub stops_at : List ℕ → Bor (List ℕ) × Direction → Bool
stops_at id entry = not (is_gt (slice_cmp nat_cmp id entry.0.now))

-- that it is put at this place
abbrev Lands : Entries → Bor (List ℕ) → Direction → Bor (List ℕ) × Direction → Type 0
Lands entries id direction none =
    position_or_len (stops_at id.now) entries < length entries
    → (is_lt (slice_cmp nat_cmp id.now (get_or entries (position_or_len (stops_at id.now) entries) none).0.now) ≡ true
    → moves_in (insert entries (position_or_len (stops_at id.now) entries) (id, direction)) ≡ put_move (moves_in entries) (id.now, direction))

lands_by : (o : Ordering) (first : Bor (List ℕ) × Direction) (rest : Entries) (id : Bor (List ℕ)) (direction : Direction) (none : Bor (List ℕ) × Direction)
    → slice_cmp nat_cmp id.now first.0.now ≡ o → Lands rest id direction none → Lands (first ∷ rest) id direction none
lands_by Less first rest id direction none is later = λ within below. rw is refl
lands_by Equal first rest id direction none is later = λ within below.
    let own : is_lt (slice_cmp nat_cmp id.now first.0.now) ≡ true = rw is at below in
    let wrong : false ≡ true = sym (ap is_lt is) ∙ own in cc
lands_by Greater first rest id direction none is later = λ within below.
    let behind : 1 + position_or_len (stops_at id.now) rest ≡ suc (position_or_len (stops_at id.now) rest) = omega arith in
    let left = rw is at within in
    let lower = subst (λ n. is_lt (slice_cmp nat_cmp id.now (get_or (first ∷ rest) n none).0.now) ≡ true) behind (rw is at below) in
    rw is (subst (λ n. moves_in (insert (first ∷ rest) n (id, direction)) ≡ (first.0.now, first.1) ∷ put_move (moves_in rest) (id.now, direction)) (sym behind)
    (ap (λ moves. (first.0.now, first.1) ∷ moves) (later (omega arith) lower)))

lands : (entries : Entries) (id : Bor (List ℕ)) (direction : Direction) (none : Bor (List ℕ) × Direction) → Lands entries id direction none
lands [] id direction none = λ within below. refl
lands (first ∷ rest) id direction none = lands_by (slice_cmp nat_cmp id.now first.0.now) first rest id direction none refl (lands rest id direction none)

-- that it takes the place of an equal one
abbrev Replaces : Entries → Bor (List ℕ) → Direction → Bor (List ℕ) × Direction → Type 0
Replaces entries id direction none =
    position_or_len (stops_at id.now) entries < length entries
    → (is_lt (slice_cmp nat_cmp id.now (get_or entries (position_or_len (stops_at id.now) entries) none).0.now) ≡ false
    → moves_in (slice_set entries (position_or_len (stops_at id.now) entries) ((get_or entries (position_or_len (stops_at id.now) entries) none).0, direction))
    ≡ put_move (moves_in entries) (id.now, direction))

replaces_by : (o : Ordering) (first : Bor (List ℕ) × Direction) (rest : Entries) (id : Bor (List ℕ)) (direction : Direction) (none : Bor (List ℕ) × Direction)
    → slice_cmp nat_cmp id.now first.0.now ≡ o → Replaces rest id direction none → Replaces (first ∷ rest) id direction none
replaces_by Less first rest id direction none is later = λ within below.
    let own : is_lt (slice_cmp nat_cmp id.now first.0.now) ≡ false = rw is at below in
    let wrong : true ≡ false = sym (ap is_lt is) ∙ own in cc
replaces_by Equal first rest id direction none is later = λ within below. rw is refl
replaces_by Greater first rest id direction none is later = λ within below.
    let behind : 1 + position_or_len (stops_at id.now) rest ≡ suc (position_or_len (stops_at id.now) rest) = omega arith in
    let left = rw is at within in
    let lower = subst (λ n. is_lt (slice_cmp nat_cmp id.now (get_or (first ∷ rest) n none).0.now) ≡ false) behind (rw is at below) in
    rw is (subst (λ n. moves_in (slice_set (first ∷ rest) n ((get_or (first ∷ rest) n none).0, direction)) ≡ (first.0.now, first.1) ∷ put_move (moves_in rest) (id.now, direction)) (sym behind)
    (ap (λ moves. (first.0.now, first.1) ∷ moves) (later (omega arith) lower)))

replaces : (entries : Entries) (id : Bor (List ℕ)) (direction : Direction) (none : Bor (List ℕ) × Direction) → Replaces entries id direction none
replaces [] id direction none = λ within below. absurd (omega arith)
replaces (first ∷ rest) id direction none = replaces_by (slice_cmp nat_cmp id.now first.0.now) first rest id direction none refl (replaces rest id direction none)

-- behind all, if all are below it
goes_behind_by : (o : Ordering) (first : Bor (List ℕ) × Direction) (rest : Entries) (id : Bor (List ℕ)) (direction : Direction)
    → slice_cmp nat_cmp id.now first.0.now ≡ o
    → (length rest ≤ position_or_len (stops_at id.now) rest → moves_in (rest ++ (id, direction) ∷ []) ≡ put_move (moves_in rest) (id.now, direction))
    → length (first ∷ rest) ≤ position_or_len (stops_at id.now) (first ∷ rest) → moves_in ((first ∷ rest) ++ (id, direction) ∷ []) ≡ put_move (moves_in (first ∷ rest)) (id.now, direction)
goes_behind_by Less first rest id direction is later all = let wrong = rw is at all in absurd (omega arith)
goes_behind_by Equal first rest id direction is later all = let wrong = rw is at all in absurd (omega arith)
goes_behind_by Greater first rest id direction is later all = let left = rw is at all in rw is (ap (λ moves. (first.0.now, first.1) ∷ moves) (later (omega arith)))

goes_behind : (entries : Entries) (id : Bor (List ℕ)) (direction : Direction) → length entries ≤ position_or_len (stops_at id.now) entries
    → moves_in (entries ++ (id, direction) ∷ []) ≡ put_move (moves_in entries) (id.now, direction)
goes_behind [] id direction all = refl
goes_behind (first ∷ rest) id direction all = goes_behind_by (slice_cmp nat_cmp id.now first.0.now) first rest id direction refl (goes_behind rest id direction) all

-- ---- as `place_of` says it

found_by : (b : Bool) (place end : ℕ) → cond b (Some place) None ≡ Some end → (place ≡ end) × (b ≡ true)
found_by true place end is = (cc, refl)
found_by false place end is = absurd (cc)

none_by : (b : Bool) (place : ℕ) → cond b (Some place) None ≡ None → b ≡ false
none_by true place is = absurd (cc)
none_by false place is = refl

pub lands_at : (entries : Entries) (id : Bor (List ℕ)) (direction : Direction) (at : ℕ) (none : Bor (List ℕ) × Direction) → Some at ≡ position (stops_at id.now) entries
    → is_lt (slice_cmp nat_cmp id.now (get_or entries at none).0.now) ≡ true → moves_in (insert entries at (id, direction)) ≡ put_move (moves_in entries) (id.now, direction)
lands_at entries id direction at none is below =
    let found = found_by _ _ at (sym is) in
    subst (λ n. is_lt (slice_cmp nat_cmp id.now (get_or entries n none).0.now) ≡ true → moves_in (insert entries n (id, direction)) ≡ put_move (moves_in entries) (id.now, direction))
    found.0 (lands entries id direction none (ltb-true _ _ found.1)) below

pub replaces_at : (entries : Entries) (id : Bor (List ℕ)) (direction : Direction) (at : ℕ) (none : Bor (List ℕ) × Direction) → Some at ≡ position (stops_at id.now) entries
    → is_lt (slice_cmp nat_cmp id.now (get_or entries at none).0.now) ≡ false
    → moves_in (slice_set entries at ((get_or entries at none).0, direction)) ≡ put_move (moves_in entries) (id.now, direction)
replaces_at entries id direction at none is above =
    let found = found_by _ _ at (sym is) in
    subst (λ n. is_lt (slice_cmp nat_cmp id.now (get_or entries n none).0.now) ≡ false
    → moves_in (slice_set entries n ((get_or entries n none).0, direction)) ≡ put_move (moves_in entries) (id.now, direction))
    found.0 (replaces entries id direction none (ltb-true _ _ found.1)) above

pub behind_all : (entries : Entries) (id : Bor (List ℕ)) (direction : Direction) → None ≡ position (stops_at id.now) entries
    → moves_in (entries ++ (id, direction) ∷ []) ≡ put_move (moves_in entries) (id.now, direction)
behind_all entries id direction is = goes_behind entries id direction (ltb-false _ _ (none_by _ _ (sym is)))

pub is_inside : (entries : Entries) (id : List ℕ) (at : ℕ) → Some at ≡ position (stops_at id) entries → at < length entries
is_inside entries id at is =
    let found = found_by _ _ at (sym is) in
    subst (λ n. n < length entries) found.0 (ltb-true _ _ found.1)
