-- The frame blocks of a ticket, by their places.
use Rattle.std.proofs.Common.{◌≡◌, ℕ, zero, suc, ◌<◌, List, [], ◌∷◌, length, map, get_or, refl, sym, ap, ◌∙◌, arith}
use Rattle.std.proofs.lemmas.List.{get_or-map, length-map}
use Rattle.bs_board.specs.declared.boards.snake.Snake.{Snake}
use Rattle.bs_pool.specs.declared.owned.Owned.{Owned}
use Rattle.bs_fiber.specs.declared.piece.Piece.{Piece}
use Rattle.bs_fiber.specs.Frames.{frame_of, pieces_from}
use Rattle.bs_fiber.specs.Tickets.{Frame, frames_in, frame_in, bytes_of}
use Rattle.bs_fiber.specs.inner.Frames.{HoldAll, HoldsSnakes}

-- the block at a place holds what its part wrote
pub bytes_at : {most : ℕ} (frames : List (Owned most)) (parts : List (List Snake)) (i : ℕ) (f : Owned most) (p : List Snake)
    → bytes_of (frames_in frames) ≡ map frame_of parts → i < length parts → f ≡ get_or frames i f → p ≡ get_or parts i p → f.block ≡ frame_of p
bytes_at [] [] i f p same within f_is p_is = absurd (omega arith)
bytes_at [] (q ∷ parts) i f p same within f_is p_is = absurd cc
bytes_at (g ∷ frames) [] i f p same within f_is p_is = absurd (omega arith)
bytes_at {most} (g ∷ frames) (q ∷ parts) zero f p same within f_is p_is =
    let head : g.block ≡ frame_of q = cc in
    ap (λ (o : Owned most). o.block) f_is ∙ head ∙ ap frame_of (sym p_is)
bytes_at (g ∷ frames) (q ∷ parts) (suc i) f p same within f_is p_is =
    let tail : bytes_of (frames_in frames) ≡ map frame_of parts = cc in
    bytes_at frames parts i f p tail (omega arith) f_is p_is

-- inside a list the other value does not matter
pub there : {X : Type 0} (xs : List X) (i : ℕ) (d e : X) → i < length xs → get_or xs i d ≡ get_or xs i e
there [] i d e within = absurd (omega arith)
there (x ∷ xs) zero d e within = refl
there (x ∷ xs) (suc i) d e within = there xs i d e (omega arith)

-- as many parts as places and blocks
pub as_many : {most : ℕ} (frames : List (Owned most)) (places : List (List Piece)) (all : List (List Snake))
    → HoldAll all places (bytes_of (frames_in frames)) → (length places ≡ length all) × (length frames ≡ length all)
as_many frames places all held =
    let places_are = ap length held.places_are ∙ length-map all (pieces_from 0) in
    let blocks = ap length held.blocks_are ∙ length-map all frame_of in
    let frames_are = sym (length-map frames frame_in) ∙ sym (length-map (frames_in frames) (λ (f : Frame). f.bytes)) ∙ blocks in
    (places_are, frames_are)

-- the block at a place holds its part's snakes
pub held_at : {most : ℕ} (frames : List (Owned most)) (places : List (List Piece)) (all : List (List Snake)) (i : ℕ) (f : Owned most) (p : List Piece)
    → HoldAll all places (bytes_of (frames_in frames)) → i < length places → f ≡ get_or frames i f → p ≡ get_or places i p → HoldsSnakes (get_or all i []) p f.block
held_at frames places all i f p held within f_is p_is =
    let many = (as_many frames places all held).0 in
    let inside : i < length all = omega arith in
    let snakes = get_or all i [] in
    record {
      fit = held.fit i [] inside;
      pieces_are = p_is ∙ ap (λ (ps : List (List Piece)). get_or ps i p) held.places_are ∙ get_or-map (pieces_from 0) all i [] p inside;
      block_is = bytes_at frames all i f snakes held.blocks_are inside f_is (there all i [] snakes inside);
    }
