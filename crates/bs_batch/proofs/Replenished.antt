-- Growth in constrictor, and new food in the other modes.
use Rattle.std.proofs.Common.{◌≡◌, ℕ, List, None, refl, sym, ◌∙◌, arith}
use Rattle.bs_board.specs.declared.boards.board.Board.{Board}
use Rattle.bs_board.specs.declared.boards.board.Mode.{Mode}
use Rattle.bs_board.specs.declared.boards.board.Mode.TheVariants.{Standard, Solo, Constrictor, Wrapped}
use Rattle.bs_board.specs.commands.Orders.{Orders}
use Rattle.bs_board.specs.records.Record.{mode_byte}
use Rattle.bs_food.specs.Given.{given}
use Rattle.bs_food.specs.Spawning.{spawned}
use Rattle.bs_modes.specs.Growth.{grown}
use Rattle.bs_rules.specs.Turn.{replenished}
use Rattle.bs_batch.specs.declared.layout.Head.{Head}
use Rattle.bs_batch.specs.Food.{HasSpawned}
use Rattle.bs_batch.specs.Shown.{ShowsFood}
use Rattle.bs_batch.specs.inner.Seats.{AreGrown}
use Rattle.bs_batch.specs.inner.Turns.{ShowsBoard}

-- the byte 2 is constrictor
grows_by : (mode : Mode) (orders : Orders) (b : Board) → mode_byte mode ≡ 2 → replenished mode orders b ≡ grown b
grows_by Standard orders b e = absurd (omega arith)
grows_by Solo orders b e = absurd (omega arith)
grows_by Constrictor orders b e = refl
grows_by Wrapped orders b e = absurd (omega arith)

nothing_given : (orders : Orders) (words : List ℕ) (b : Board) → orders.words ≡ words → orders.food ≡ None → given orders.food (spawned orders.words b) ≡ spawned words b
nothing_given orders words b w f = rw (f, w) refl

fed_by : (mode : Mode) (orders : Orders) (words : List ℕ) (b : Board) → (mode_byte mode ≡ 2 → ⊥) → orders.words ≡ words → orders.food ≡ None
    → replenished mode orders b ≡ spawned words b
fed_by Standard orders words b other w f = nothing_given orders words b w f
fed_by Solo orders words b other w f = nothing_given orders words b w f
fed_by Constrictor orders words b other w f = absurd (other refl)
fed_by Wrapped orders words b other w f = nothing_given orders words b w f

pub has_grown : (orders : Orders) (b : Board) (mode : ℕ) (head' : Head) (food bodies plane' bodies' : List ℕ) → mode ≡ mode_byte b.mode → mode ≡ 2
    → AreGrown b head' bodies bodies' plane' → ShowsFood head'.foods food b.food → ShowsBoard head' food plane' bodies' (replenished b.mode orders b)
has_grown orders b mode head' food bodies plane' bodies' byte two are list =
    rw (grows_by b.mode orders b (sym byte ∙ two)) (record { seats = are.shows; food = list })

pub has_food : (orders : Orders) (words : List ℕ) (b : Board) (mode : ℕ) (head' : Head) (food food' plane' bodies : List ℕ) → mode ≡ mode_byte b.mode
    → (mode ≡ 2 → ⊥) → orders.words ≡ words → orders.food ≡ None → HasSpawned (spawned words b) food head' food' plane' bodies
    → ShowsBoard head' food' plane' bodies (replenished b.mode orders b)
has_food orders words b mode head' food food' plane' bodies byte other w f has =
    rw (fed_by b.mode orders words b (λ two. other (byte ∙ two)) w f) (record { seats = has.seats; food = has.list })
