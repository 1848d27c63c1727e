-- Moved snakes in a frame block: one more of them, and each one's piece.
use Rattle.std.proofs.Common.{◌≡◌, ℕ, zero, suc, ◌+◌, ◌-◌, ◌*◌, ◌<◌, ◌≤◌, List, [], ◌∷◌, ◌++◌, length, take, drop, replicate, get_or, All, refl, sym, ap, subst, ◌∙◌, append_assoc, arith, length-append, length-take, take_at, drop_at}
use Rattle.std.proofs.lemmas.List.{append-nil, take_more, take_all}
use Rattle.std.proofs.lemmas.List.Elements.{All-head, All-tail, All-take, All-get_or}
use Rattle.bs_block.specs.Bytes.{padded, range}
use Rattle.bs_block.specs.inner.Bytes.{extended}
use Rattle.bs_block.specs.Rounding.{rounded}
use Rattle.bs_block.proofs.Runs.{length-padded}
use Rattle.bs_board.specs.declared.boards.snake.Snake.{Snake}
use Rattle.bs_board.specs.records.FitSnake.{IsFitSnake}
use Rattle.bs_board.specs.records.Record.{snake_record}
use Rattle.bs_board.proofs.Utf8.{short_text}
use Rattle.bs_board.proofs.records.Lengths.{length_of_snake}
use Rattle.bs_pool.specs.declared.owned.Owned.{Owned}
use Rattle.bs_fiber.specs.declared.piece.Piece.{Piece}
use Rattle.bs_fiber.specs.Frames.{frame_of, pieces_from}
use Rattle.bs_fiber.specs.inner.Frames.{IsPieceOf}

-- ---- sizes

pub fit_size : (s : Snake) → IsFitSnake s → length (snake_record s) ≤ 20078
fit_size s fit =
    let name : length s.id ≤ 64 = short_text s.id fit.id in
    let short = fit.short in
    omega (arith, length_of_snake s)

pub rounded_fit : (s : Snake) → IsFitSnake s → rounded (length (snake_record s)) ≤ 20080
unfolding rounded
rounded_fit s fit = let size = fit_size s fit in omega arith

pub frame_small : (snakes : List Snake) → All IsFitSnake snakes → length (frame_of snakes) ≤ 20080 * length snakes
unfolding frame_of
frame_small [] fit = omega arith
frame_small (s ∷ snakes) fit =
    let here = rounded_fit s (All-head IsFitSnake s snakes fit) in
    let rest = frame_small snakes (All-tail IsFitSnake s snakes fit) in
    omega (arith, length-append (padded (snake_record s)) (frame_of snakes), length-padded (snake_record s))

-- ---- one more snake

pub frame_none : frame_of [] ≡ []
unfolding frame_of
frame_none = refl

frame_append : (xs ys : List Snake) → frame_of (xs ++ ys) ≡ frame_of xs ++ frame_of ys
unfolding frame_of
frame_append [] ys = refl
frame_append (s ∷ xs) ys =
    ap (λ (l : List ℕ). padded (snake_record s) ++ l) (frame_append xs ys) ∙ sym (append_assoc (padded (snake_record s)) (frame_of xs) (frame_of ys))

frame_one : (s : Snake) → frame_of (s ∷ []) ≡ padded (snake_record s)
unfolding frame_of
frame_one s = append-nil (padded (snake_record s))

pub frame_more : (snakes : List Snake) (i : ℕ) (s : Snake) → i < length snakes → s ≡ get_or snakes i s
    → frame_of (take (i + 1) snakes) ≡ frame_of (take i snakes) ++ padded (snake_record s)
frame_more snakes i s within is =
    ap frame_of (take_more snakes i s within) ∙ frame_append (take i snakes) (get_or snakes i s ∷ [])
    ∙ ap (λ (l : List ℕ). frame_of (take i snakes) ++ l) (frame_one (get_or snakes i s) ∙ ap (λ (t : Snake). padded (snake_record t)) (sym is))

pub frame_length_more : (snakes : List Snake) (i : ℕ) (s : Snake) → i < length snakes → s ≡ get_or snakes i s
    → length (frame_of (take (i + 1) snakes)) ≡ length (frame_of (take i snakes)) + rounded (length (snake_record s))
frame_length_more snakes i s within is =
    omega (arith, ap length (frame_more snakes i s within is), length-append (frame_of (take i snakes)) (padded (snake_record s)), length-padded (snake_record s))

-- the length of the bytes of the snakes up to that one
pub next_fits : (snakes : List Snake) (i : ℕ) (s : Snake) → length snakes ≤ 2 → All IsFitSnake snakes → i < length snakes → s ≡ get_or snakes i s
    → length (frame_of (take i snakes)) + rounded (length (snake_record s)) ≤ 40160
next_fits snakes i s few fit within is =
    let small = frame_small (take (i + 1) snakes) (All-take IsFitSnake (i + 1) snakes fit) in
    omega (arith, frame_length_more snakes i s within is, length-take (i + 1) snakes)

pub fit_at : (snakes : List Snake) (i : ℕ) (s : Snake) → All IsFitSnake snakes → i < length snakes → s ≡ get_or snakes i s → IsFitSnake s
fit_at snakes i s fit within is = rw is (All-get_or IsFitSnake snakes i s within fit)

pieces_append : (at : ℕ) (xs ys : List Snake) → pieces_from at (xs ++ ys) ≡ pieces_from at xs ++ pieces_from (at + length (frame_of xs)) ys
unfolding pieces_from frame_of
pieces_append at [] ys = let same : at ≡ at + 0 = omega arith in ap (λ n. pieces_from n ys) same
pieces_append at (s ∷ xs) ys =
    let next = at + rounded (length (snake_record s)) in
    let same : next + length (frame_of xs) ≡ at + length (padded (snake_record s) ++ frame_of xs) =
    omega (arith, length-append (padded (snake_record s)) (frame_of xs), length-padded (snake_record s)) in
    ap (λ (ps : List Piece). record { at = at; len = length (snake_record s) } ∷ ps)
    (pieces_append next xs ys ∙ ap (λ n. pieces_from next xs ++ pieces_from n ys) same)

pieces_one : (at : ℕ) (s : Snake) → pieces_from at (s ∷ []) ≡ record { at = at; len = length (snake_record s) } ∷ []
unfolding pieces_from
pieces_one at s = refl

pub pieces_none : pieces_from 0 [] ≡ []
unfolding pieces_from
pieces_none = refl

-- one more piece
pub piece_added : (snakes : List Snake) (i at : ℕ) (s : Snake) → i < length snakes → s ≡ get_or snakes i s → at ≡ length (frame_of (take i snakes))
    → pieces_from 0 (take (i + 1) snakes) ≡ pieces_from 0 (take i snakes) ++ record { at = at; len = length (snake_record s) } ∷ []
piece_added snakes i at s within is at_is =
    let start : 0 + length (frame_of (take i snakes)) ≡ at = omega (arith, at_is) in
    ap (pieces_from 0) (take_more snakes i s within) ∙ pieces_append 0 (take i snakes) (get_or snakes i s ∷ [])
    ∙ ap (λ (ps : List Piece). pieces_from 0 (take i snakes) ++ ps)
    (ap (λ n. pieces_from n (get_or snakes i s ∷ [])) start ∙ ap (λ (t : Snake). pieces_from at (t ∷ [])) (sym is) ∙ pieces_one at s)

pub piece_pushed : (snakes : List Snake) (i at len : ℕ) (s : Snake) (before after : List Piece) → i < length snakes → s ≡ get_or snakes i s
    → before ≡ pieces_from 0 (take i snakes) → at ≡ length (frame_of (take i snakes)) → len ≡ length (snake_record s)
    → after ≡ before ++ record { at = at; len = len } ∷ [] → after ≡ pieces_from 0 (take (i + 1) snakes)
piece_pushed snakes i at len s before after within is so_far start size pushed =
    let more = piece_added snakes i at s within is start in
    rw (pushed, so_far, size, more) refl

pub length_pieces : (at : ℕ) (snakes : List Snake) → length (pieces_from at snakes) ≡ length snakes
unfolding pieces_from
length_pieces at [] = refl
length_pieces at (s ∷ snakes) = ap suc (length_pieces (at + rounded (length (snake_record s))) snakes)

-- ---- each one's piece

first_piece : (before bytes rest : List ℕ) → range (length before) (length bytes) (before ++ (padded bytes ++ rest)) ≡ bytes
first_piece before bytes rest =
    let zeros = replicate (rounded (length bytes) - length bytes) 0 in
    ap (take (length bytes)) (drop_at before (padded bytes ++ rest) (length before) refl ∙ append_assoc bytes zeros rest)
    ∙ take_at bytes (zeros ++ rest) (length bytes) refl

piece_from : (before : List ℕ) (at : ℕ) (snakes : List Snake) (i : ℕ) (p : Piece) (s : Snake) → at ≡ length before → i < length snakes
    → IsPieceOf (before ++ frame_of snakes) (get_or (pieces_from at snakes) i p) (get_or snakes i s)
unfolding frame_of pieces_from
piece_from before at [] i p s start within = absurd (omega arith)
piece_from before at (t ∷ snakes) zero p s start within =
    let bytes = snake_record t in
    record {
      there = omega (arith, start, length-append before (padded bytes ++ frame_of snakes), length-append (padded bytes) (frame_of snakes), length-append bytes (replicate (rounded (length bytes) - length bytes) 0));
      is = rw start (first_piece before bytes (frame_of snakes));
    }
piece_from before at (t ∷ snakes) (suc i) p s start within =
    let bytes = padded (snake_record t) in
    let next : at + rounded (length (snake_record t)) ≡ length (before ++ bytes) = omega (arith, start, length-append before bytes, length-padded (snake_record t)) in
    subst (λ (l : List ℕ). IsPieceOf l (get_or (pieces_from (at + rounded (length (snake_record t))) snakes) i p) (get_or snakes i s)) (append_assoc before bytes (frame_of snakes))
    (piece_from (before ++ bytes) (at + rounded (length (snake_record t))) snakes i p s next (omega arith))

pub piece_holds : (snakes : List Snake) (i : ℕ) (p : Piece) (s : Snake) → i < length snakes
    → IsPieceOf (frame_of snakes) (get_or (pieces_from 0 snakes) i p) (get_or snakes i s)
piece_holds snakes i p s within = piece_from [] 0 snakes i p s refl within

-- ---- the block after a loan

pub filled : (xs bytes : List ℕ) (n : ℕ) → n ≡ length bytes → extended xs n bytes ≡ xs ++ padded bytes
filled xs bytes n is = ap (λ (l : List ℕ). xs ++ padded l) (take_at bytes (drop (length bytes) (replicate n 0)) n (sym is))

-- ---- a block of a pool that is written

pub same_block : {most : ℕ} (owned : Owned most) (bytes : List ℕ) → owned.block ≡ bytes → owned ≡ record owned { block = bytes }
same_block owned bytes is = ap (λ (b : List ℕ). record owned { block = b }) is

pub block_more : {most : ℕ} (first before after : Owned most) (snakes : List Snake) (i : ℕ) (s : Snake) → i < length snakes → s ≡ get_or snakes i s
    → before ≡ record first { block = frame_of (take i snakes) } → after ≡ record before { block = before.block ++ padded (snake_record s) }
    → after ≡ record first { block = frame_of (take (i + 1) snakes) }
block_more {most} first before after snakes i s within is so_far written =
    written ∙ ap (λ (b : Owned most). record b { block = b.block ++ padded (snake_record s) }) so_far
    ∙ ap (λ (l : List ℕ). record first { block = l }) (sym (frame_more snakes i s within is))

-- ---- a block that is read

one_there : {X : Type 0} (xs : List X) (i : ℕ) → i < length xs → (x : X) × ((d : X) → x ≡ get_or xs i d)
one_there [] i within = absurd (omega arith)
one_there (x ∷ xs) zero within = (x, λ d. refl)
one_there (x ∷ xs) (suc i) within = one_there xs i (omega arith)

same_piece : (bytes frame : List ℕ) (p q : Piece) (s t : Snake) → bytes ≡ frame → p ≡ q → s ≡ t → IsPieceOf frame q t → IsPieceOf bytes p s
same_piece bytes frame p q s t bytes_are p_is s_is own = rw (bytes_are, p_is, s_is) own

-- the snake of a piece
pub piece_there : (snakes : List Snake) (bytes : List ℕ) (pieces : List Piece) (i : ℕ) (p d : Piece) → All IsFitSnake snakes → bytes ≡ frame_of snakes
    → pieces ≡ pieces_from 0 snakes → i < length pieces → p ≡ get_or pieces i d
    → (s : Snake) × IsFitSnake s × IsPieceOf bytes p s × (s ≡ get_or snakes i s) × (i < length snakes)
piece_there snakes bytes pieces i p d fit bytes_are pieces_are within is =
    let inside : i < length snakes = omega (arith, ap length pieces_are, length_pieces 0 snakes) in
    let one = one_there snakes i inside in
    let own =
    same_piece bytes (frame_of snakes) p (get_or (pieces_from 0 snakes) i d) one.0 (get_or snakes i one.0) bytes_are (is ∙ ap (λ (ps : List Piece). get_or ps i d) pieces_are) (one.1 one.0)
    (piece_holds snakes i d one.0 inside) in
    (one.0, fit_at snakes i one.0 fit inside (one.1 one.0), own, one.1 one.0, inside)

pub read_more : (start before after : List Snake) (snakes : List Snake) (i : ℕ) (s : Snake) → i < length snakes → s ≡ get_or snakes i s
    → before ≡ start ++ take i snakes → after ≡ before ++ s ∷ [] → after ≡ start ++ take (i + 1) snakes
read_more start before after snakes i s within is so_far pushed =
    let more : take (i + 1) snakes ≡ take i snakes ++ s ∷ [] = take_more snakes i s within ∙ ap (λ (t : Snake). take i snakes ++ t ∷ []) (sym is) in
    pushed ∙ ap (λ (l : List Snake). l ++ s ∷ []) so_far ∙ append_assoc start (take i snakes) (s ∷ []) ∙ ap (λ (l : List Snake). start ++ l) (sym more)

pub read_whole : (start after snakes : List Snake) (pieces : List Piece) (i : ℕ) → pieces ≡ pieces_from 0 snakes → length pieces ≤ i
    → after ≡ start ++ take i snakes → after ≡ start ++ snakes
read_whole start after snakes pieces i pieces_are over so_far =
    let whole : length snakes ≤ i = omega (arith, ap length pieces_are, length_pieces 0 snakes) in
    so_far ∙ ap (λ (l : List Snake). start ++ l) (take_all i snakes whole)
