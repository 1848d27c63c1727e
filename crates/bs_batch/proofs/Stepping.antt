-- The turn of one game of many.
use Rattle.std.proofs.Common.{◌≡◌, ℕ, ◌+◌, ◌*◌, ◌/◌, ◌<◌, ◌≤◌, false, cond, List, length, take, min, sym, ap, ◌∙◌, arith, inl, inr}
use Rattle.std.proofs.lemmas.Bool.{cases_lt}
use Rattle.std.proofs.lemmas.List.{take_all}
use Rattle.bs_board.specs.declared.boards.board.Board.{Board}
use Rattle.bs_board.specs.declared.boards.board.Mode.{Mode}
use Rattle.bs_board.specs.declared.boards.board.Mode.TheVariants.{Standard, Solo, Constrictor, Wrapped}
use Rattle.bs_board.specs.boards.Over.{is_over}
use Rattle.bs_board.specs.records.Record.{mode_byte}
use Rattle.bs_batch.specs.declared.layout.Head.{Head}
use Rattle.bs_batch.specs.Games.{MayStep, PlaysGame}
use Rattle.bs_batch.specs.Lasting.{IsLasting}
use Rattle.bs_batch.specs.Shown.{ShowsGame}
use Rattle.bs_batch.specs.Turn.{PlaysTurn}
use Rattle.bs_batch.proofs.LastingBoards.{sides}

known_mode : (mode : Mode) → mode_byte mode ≤ 3
known_mode Standard = omega arith
known_mode Solo = omega arith
known_mode Constrictor = omega arith
known_mode Wrapped = omega arith

-- the game of a lasting board that is not over may be stepped
pub may_be_stepped : (longest : ℕ) (head : Head) (food plane bodies : List ℕ) (b : Board) → ShowsGame head food plane bodies b → IsLasting b → b.turn < 10000
    → is_over b ≡ false → b.width ≤ longest → b.height ≤ longest → MayStep longest head
may_be_stepped longest head food plane bodies b shows lasting early on wide high =
    let s = shows.seats.settings in
    let limits = lasting.legal.limits in
    let w = sides b.width limits.width in
    let h = sides b.height limits.height in
    let narrow = w.0 in
    let low = h.0 in
    let same_w = s.width in
    let same_h = s.height in
    let same_seats = s.seats in
    let some = limits.some in
    let few = limits.few in
    let same_chance = s.chance in
    let chance = limits.chance in
    let known = known_mode b.mode in
    let same_mode = s.mode in
    let turn = shows.seats.turn in
    record {
      open_game = shows.over ∙ ap (λ o. cond {A = ℕ} o 1 0) on;
      early = omega arith;
      settings = record {
        mode = omega arith;
        wide = omega arith;
        narrow = omega arith;
        high = omega arith;
        low = omega arith;
        some = omega arith;
        few = omega arith;
        chance = omega arith;
      };
    }

area : (w h longest : ℕ) → w ≤ longest → h ≤ longest → w * h ≤ longest * longest
area w h longest wide high = grind arith

-- a game whose lists have room for the largest board
pub plays_game : (longest : ℕ) (moves words counts : List ℕ) (damage : ℕ) (head : Head) (food plane bodies : List ℕ) (head' : Head) (food' plane' bodies' : List ℕ)
    → longest * longest ≤ length food → length food ≤ 1024 → longest * longest + 4 ≤ length bodies / 8 → length bodies < 65536
    → PlaysTurn moves words counts damage head food plane bodies head' food' plane' bodies' → PlaysGame longest moves words counts damage head food plane bodies head' food' plane' bodies'
plays_game longest moves words counts damage head food plane bodies head' food' plane' bodies' cells few long small plays b orders shows lasting early on wide high beside given =
    let most = area b.width b.height longest wide high in
    plays b orders shows lasting early (record { cells = omega arith; few = few; long = omega arith; small = small }) beside given

-- a game that may not be stepped shows no such board
pub plays_none : (longest : ℕ) (moves words counts : List ℕ) (damage : ℕ) (head : Head) (food plane bodies : List ℕ) → (MayStep longest head → ⊥)
    → PlaysGame longest moves words counts damage head food plane bodies head food plane bodies
plays_none longest moves words counts damage head food plane bodies closed b orders shows lasting early on wide high beside given =
    absurd (closed (may_be_stepped longest head food plane bodies b shows lasting early on wide high))

-- as many as there are, up to a number
pub few_taken : (n k : ℕ) (list piece : List ℕ) → k ≡ min (length list) n → list ≡ piece → take k list ≡ take n piece
few_taken n k list piece is same =
    rw (← same)
    (elim (cases_lt n (length list)) [
      | inl less ↦ let e : k ≡ n = omega arith in ap (λ i. take i list) e
      | inr all ↦
          let e : k ≡ length list = omega arith in
          ap (λ i. take i list) e ∙ take_all (length list) list (omega arith) ∙ sym (take_all n list all)
    ])
