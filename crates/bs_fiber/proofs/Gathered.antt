-- The moved snakes of all parts together.
use Rattle.std.proofs.Common.{◌≡◌, ℕ, ◌*◌, ◌<◌, suc, Bool, true, false, ◌&&◌, List, [], ◌∷◌, length, take, drop, map, get_or, Option, Some, None, slice_get, refl, ap, ◌∙◌, arith}
use Rattle.std.specs.Prelude.{flat_map, is_none, option_map}
use Rattle.std.specs.List.{range_with_len}
use Rattle.std.proofs.lemmas.List.FromFn.{length-map-range_with_len, get_or-map-range_with_len}
use Rattle.std.proofs.lemmas.Option.{slice_get-get_or}
use Rattle.bs_board.specs.declared.boards.board.Board.{Board}
use Rattle.bs_board.specs.declared.commands.command.Command.TheVariants as command
use Rattle.bs_board.specs.declared.boards.snake.Snake.{Snake}
use Rattle.bs_board.specs.boards.Wrap.{wrap_of}
use Rattle.bs_board.specs.commands.Orders.{Orders}
use Rattle.bs_rules.specs.Motion.{moved, given_to, moved_board}
use Rattle.bs_game.specs.declared.view.View.{View}
use Rattle.bs_fiber.specs.Work.{moved_parts, parts_of}

gathered : (f : Snake → Snake) (snakes : List Snake) (parts : List (List Snake)) → length parts ≡ parts_of (length snakes)
    → ((part : ℕ) → part < length parts → slice_get parts part ≡ Some (map f (take 2 (drop (2 * part) snakes))))
    → flat_map (λ part. part) parts ≡ map f snakes
gathered f [] [] all each = refl
gathered f [] (p ∷ ps) all each = absurd (omega arith)
gathered f (s ∷ []) [] all each = absurd (omega arith)
gathered f (s ∷ []) (p ∷ []) all each =
    let first : Some p ≡ Some (f s ∷ []) = each 0 (omega arith) in
    let here : p ≡ f s ∷ [] = cc in
    rw here refl
gathered f (s ∷ []) (p ∷ q ∷ ps) all each = absurd (omega arith)
gathered f (s ∷ t ∷ snakes) [] all each = absurd (omega arith)
gathered f (s ∷ t ∷ snakes) (p ∷ ps) all each =
    let first : Some p ≡ Some (f s ∷ f t ∷ []) = each 0 (omega arith) in
    let here : p ≡ f s ∷ f t ∷ [] = cc in
    let rest =
    gathered f snakes ps (omega arith)
    (λ part within. let twice : 2 * suc part ≡ suc (suc (2 * part)) = omega arith in rw twice at (each (suc part) (omega arith))) in
    rw (here, rest) refl

pub part_at : {X : Type 0} (f : ℕ → X) (many part : ℕ) → part < many → slice_get (map f (range_with_len 0 many)) part ≡ Some (f part)
part_at f many part within =
    let long : length (map f (range_with_len 0 many)) ≡ many = length-map-range_with_len f 0 many in
    let here : get_or (map f (range_with_len 0 many)) part (f part) ≡ f part = get_or-map-range_with_len f 0 many part part (f part) within (omega arith) in
    slice_get-get_or (map f (range_with_len 0 many)) part (f part) (omega arith) ∙ ap Some here

all_gathered : (f : Snake → Snake) (snakes : List Snake)
    → flat_map (λ part. part) (map (λ part. map f (take 2 (drop (2 * part) snakes))) (range_with_len 0 (parts_of (length snakes)))) ≡ map f snakes
all_gathered f snakes =
    let many = parts_of (length snakes) in
    let one : ℕ → List Snake = λ part. map f (take 2 (drop (2 * part) snakes)) in
    let long : length (map one (range_with_len 0 many)) ≡ many = length-map-range_with_len one 0 many in
    gathered f snakes (map one (range_with_len 0 many)) long (λ part within. part_at one many part (omega arith))

-- the snakes of all parts are those of the board, all moved
pub joined_board : (view : View) (orders : Orders) (board : Board) → view.last ≡ Some board
    → option_map (moved_board orders.moves) view.last ≡ Some (record board { snakes = flat_map (λ part. part) (moved_parts view (command.Move orders)) })
joined_board view orders board is =
    let whole = all_gathered (λ s. moved (wrap_of board) (given_to orders.moves s.id) s) board.snakes in
    rw (is, whole) refl

-- no reason refuses an accepted move
pub nothing_speaks : {X : Type 0} (is_it : Bool) (reason : Option X) → (is_it && is_none reason) ≡ true → reason ≡ None
nothing_speaks true None goes = refl
nothing_speaks true (Some reason) goes = let wrong : false ≡ true = goes in cc
nothing_speaks false reason goes = let wrong : false ≡ true = goes in cc
