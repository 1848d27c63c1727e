-- Reading a record that is known to be a legal board's.
use Rattle.std.proofs.Common.{◌≡◌, ℕ, zero, suc, ◌-◌, ◌≤◌, true, List, [], ◌∷◌, ◌++◌, length, take, drop, min, Option, Some, Result, Ok, Err, refl, sym, ap, ap₂, subst, ◌∙◌, arith}
use Rattle.std.specs.Prelude.{IfOk, IfErr, MatchResult, unwrap_or}
use Rattle.std.specs.List.{flat_map, AllByRecursion}
use Rattle.std.specs.Str.{is_utf8}
use Rattle.std.proofs.lemmas.List.{length-drop}
use Rattle.std.proofs.Math.Nat.{zero-min, min-zero}
use Rattle.std.proofs.lemmas.List.Elements.{recursion_from_All, All-from_recursion, All-drop}
use Rattle.bs_board.specs.declared.boards.board.Board.{Board}
use Rattle.bs_board.specs.declared.records.layout.BoardBytes.{BoardBytes}
use Rattle.bs_board.specs.declared.boards.snake.Snake.{Snake}
use Rattle.bs_board.specs.declared.records.decode_error.Decode.{Decode}
use Rattle.bs_board.specs.declared.records.decode_error.Decode.TheVariants.{NotARecord, Memory}
use Rattle.bs_board.specs.boards.Legal.{IsLegal}
use Rattle.bs_board.specs.inner.Decoder.{Fails, Gives, read_cell, read_many, read_snake, read_board, read_without_snakes}
use Rattle.bs_board.specs.records.Layout.{IsBoardBytes}
use Rattle.bs_board.specs.records.Kept.{IsLegalRecord}
use Rattle.bs_board.specs.inner.Kept.{board_in}
use Rattle.bs_board.specs.records.Record.{cell_bytes, snake_record, hazard_bytes, record_of}
use Rattle.bs_board.specs.records.Writing.{IsByteCell, IsWritable}
use Rattle.bs_board.specs.inner.Writing.{IsWritableBoard}
use Rattle.bs_board.proofs.records.BoardRecord.{head_again, legal_texts, both_by_recursion, record_is_read}
use Rattle.bs_board.proofs.records.Fields.{cell_again}
use Rattle.bs_board.proofs.records.HazardRecord.{hazards_again, regrouped}
use Rattle.bs_board.proofs.records.Repeats.{many_again, some_again}
use Rattle.bs_board.proofs.records.SnakeRecord.{snake_again}
use Rattle.bs_board.proofs.records.Writable.{legal_is_writable}

-- if there is a value, reading can fail only for memory
fails_for_memory : {X : Type 0} (read : Result X Decode) (stands : Option X) (x : X) → stands ≡ Some x → Gives (λ x. x) read stands → IfErr read (λ error. error ≡ Memory)
fails_for_memory (Ok y) stands x is given = tt
fails_for_memory (Err NotARecord) stands x is given = absurd cc
fails_for_memory (Err Memory) stands x is given = refl

-- and what is found is that value
finds_value : {X E : Type 0} (read : Result X Decode) (result : Result X E) (stands : Option X) (x : X) → stands ≡ Some x → Gives (λ x. x) read stands
    → IfOk result (λ y. read ≡ Ok y) → IfOk result (λ y. y ≡ x)
finds_value read (Err error) stands x is given found = tt
finds_value (Ok z) (Ok y) stands x is given found = cc
finds_value (Err error) (Ok y) stands x is given found = absurd cc

-- ---- the board

pub board_fails_for_memory : (bytes : List ℕ) (read : Result Board Decode) → IsLegalRecord bytes → Gives (λ board. board) read (read_board is_utf8 bytes)
    → IfErr read (λ error. error ≡ Memory)
board_fails_for_memory bytes read kept =
    fails_for_memory read (read_board is_utf8 bytes) kept.board (record_is_read bytes kept.board kept.legal kept.is)

pub board_is_found : {E : Type 0} (bytes : List ℕ) (b : Board) (read : Result Board Decode) (result : Result Board E) → IsLegal b → bytes ≡ record_of b
    → Gives (λ board. board) read (read_board is_utf8 bytes) → IfOk result (λ board. read ≡ Ok board) → IfOk result (λ board. board ≡ b)
board_is_found bytes b read result legal is = finds_value read result (read_board is_utf8 bytes) b (record_is_read bytes b legal is)

-- what holds of the one value that can be found
held : {X E : Type 0} (Q : X → Type 0) (result : Result X E) (x : X) → Q x → IfOk result (λ y. y ≡ x) → IfOk result Q
held Q (Ok y) x here same = subst Q (sym same) here
held Q (Err error) x here same = tt

pub board_is_legal : {E : Type 0} (bytes : List ℕ) (read : Result Board Decode) (result : Result Board E) → IsLegalRecord bytes
    → Gives (λ board. board) read (read_board is_utf8 bytes) → IfOk result (λ board. read ≡ Ok board) → IfOk result IsLegal
board_is_legal bytes read result kept given found =
    held IsLegal result kept.board kept.legal (board_is_found bytes kept.board read result kept.legal kept.is given found)

pub board_is_of_record : {E : Type 0} (bytes : List ℕ) (read : Result Board Decode) (result : Result Board E) → IsLegalRecord bytes
    → Gives (λ board. board) read (read_board is_utf8 bytes) → IfOk result (λ board. read ≡ Ok board) → IfOk result (λ board. bytes ≡ record_of board)
board_is_of_record bytes read result kept given found =
    held (λ board. bytes ≡ record_of board) result kept.board kept.is (board_is_found bytes kept.board read result kept.legal kept.is given found)

-- it is the board that clauses see of the bytes
pub only_board_in : (bytes : List ℕ) (b : Board) → IsLegal b → bytes ≡ record_of b → board_in bytes ≡ b
unfolding board_in
only_board_in bytes b legal is = rw (record_is_read bytes b legal is) refl

pub legal_board_in : (bytes : List ℕ) → IsLegalRecord bytes → IsLegal (board_in bytes)
legal_board_in bytes kept = rw (only_board_in bytes kept.board kept.legal kept.is) kept.legal

pub record_of_board_in : (bytes : List ℕ) → IsLegalRecord bytes → bytes ≡ record_of (board_in bytes)
record_of_board_in bytes kept = kept.is ∙ ap record_of (sym (only_board_in bytes kept.board kept.legal kept.is))

-- ---- the board without its snakes

ground_again : (b : Board) → IsWritableBoard b → read_without_snakes (record_of b) ≡ Some (record b { snakes = [] })
unfolding read_without_snakes
ground_again b fits =
    let seats = flat_map snake_record b.snakes in
    let food = many_again (read_cell 0) (cell_bytes 0) (IsByteCell 0) (cell_again 0) b.food (hazard_bytes b.hazards ++ seats)
    (recursion_from_All (IsByteCell 0) b.food fits.cells) in
    let hazards = hazards_again b.hazards seats fits.hazards in
    ap read_without_snakes (regrouped b) ∙ rw (head_again b (flat_map (cell_bytes 0) b.food ++ (hazard_bytes b.hazards ++ seats)), food, hazards) refl

ground_stands : (bytes : List ℕ) (b : Board) → IsLegal b → bytes ≡ record_of b → read_without_snakes bytes ≡ Some (record b { snakes = [] })
ground_stands bytes b legal is = ap read_without_snakes is ∙ ground_again b (legal_is_writable b legal)

pub ground_fails_for_memory : (bytes : List ℕ) (read : Result Board Decode) → IsLegalRecord bytes → Gives (λ board. board) read (read_without_snakes bytes)
    → IfErr read (λ error. error ≡ Memory)
ground_fails_for_memory bytes read kept =
    fails_for_memory read (read_without_snakes bytes) (record kept.board { snakes = [] }) (ground_stands bytes kept.board kept.legal kept.is)

pub ground_is_found : {E : Type 0} (bytes : List ℕ) (b : Board) (read : Result Board Decode) (result : Result Board E) → IsLegal b → bytes ≡ record_of b
    → Gives (λ board. board) read (read_without_snakes bytes) → IfOk result (λ board. read ≡ Ok board) → IfOk result (λ board. board ≡ record b { snakes = [] })
ground_is_found bytes b read result legal is = finds_value read result (read_without_snakes bytes) (record b { snakes = [] }) (ground_stands bytes b legal is)

-- ---- some of the snakes

drop_to_end : {X : Type 0} (count : ℕ) (xs : List X) → drop (min count (length xs)) xs ≡ drop count xs
drop_to_end zero xs = rw (zero-min (length xs)) refl
drop_to_end (suc count) [] = rw (min-zero (suc count)) refl
drop_to_end (suc count) (x ∷ xs) =
    let more : min (suc count) (suc (length xs)) ≡ suc (min count (length xs)) = omega arith in
    rw more (drop_to_end count xs)

-- what skips snakes leaves the others
abbrev pub Skips : ℕ → List ℕ → List ℕ → Type 0
Skips count bytes rest = (snakes : List Snake) → bytes ≡ flat_map snake_record snakes → count ≤ length snakes → rest ≡ flat_map snake_record (drop count snakes)

pub seats_stand : (b : Board) (board : BoardBytes) (from count skipped most : ℕ) (rest : List ℕ) → IsLegal b → IsBoardBytes b board
    → skipped ≡ min from board.seats → most ≡ min count (board.seats - skipped) → Skips skipped board.snakes.now rest
    → read_many (read_snake is_utf8) most rest ≡ Some (take count (drop from b.snakes), flat_map snake_record (drop count (drop from b.snakes)))
seats_stand b board from count skipped most rest legal shows skips takes lies =
    let P : Snake → Type 0 = λ s. IsWritable s × (is_utf8 s.id ≡ true) in
    let fits = legal_is_writable b legal in
    let left = drop from b.snakes in
    let left_fits : AllByRecursion P left =
    recursion_from_All P left (All-drop P from b.snakes (All-from_recursion P b.snakes (both_by_recursion is_utf8 b.snakes (recursion_from_All IsWritable b.snakes fits.snakes) (legal_texts b legal)))) in
    let skip : skipped ≡ min from (length b.snakes) = skips ∙ ap (min from) shows.seats in
    let few : skipped ≤ length b.snakes = omega arith in
    let place : rest ≡ flat_map snake_record left =
    lies b.snakes shows.snakes few ∙ ap (flat_map snake_record) (ap (λ n. drop n b.snakes) skip ∙ drop_to_end from b.snakes) in
    let seats = shows.seats in
    let many : most ≡ min count (length left) = omega (arith, length-drop from b.snakes) in
    ap₂ (read_many (read_snake is_utf8)) many place ∙ some_again (read_snake is_utf8) snake_record P (snake_again is_utf8) count left left_fits

-- where there is a value, the only fault is want of memory
pub only_memory : {Y : Type 0} (error : Decode) (read : Option Y) (x : Y) → read ≡ Some x → Fails error read → error ≡ Memory
only_memory NotARecord read x is fails = absurd cc
only_memory Memory read x is fails = refl

pub same_first : {A B : Type 0} (read : Option (A × B)) (x y : A) (p q : B) → read ≡ Some (x, p) → read ≡ Some (y, q) → x ≡ y
same_first {A} {B} read x y p q one other = ap (λ (o : Option (A × B)). (unwrap_or o (x, p)).0) (sym one ∙ other)

pub fault_of : {X E : Type 0} (result : Result X E) (P : X → Type 0) (Q : E → Type 0) → MatchResult result P Q → IfErr result Q
fault_of (Ok x) P Q is = tt
fault_of (Err error) P Q is = is

pub value_of : {X E F : Type 0} (read : Result X E) (result : Result X F) (P : X → Type 0) (Q : E → Type 0) → MatchResult read P Q
    → IfOk result (λ x. read ≡ Ok x) → IfOk result P
value_of read (Err error) P Q is found = tt
value_of (Ok y) (Ok x) P Q is found = let same : y ≡ x = cc in subst P same is
value_of (Err error) (Ok x) P Q is found = absurd cc
