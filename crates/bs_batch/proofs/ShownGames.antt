-- The planes of many games, each in its piece of a list.
use Rattle.std.proofs.Common.{◌≡◌, ◌≢◌, ℕ, ◌+◌, ◌*◌, ◌<◌, ◌≤◌, true, false, List, [], length, take, drop, get_or, refl, subst, sym, ap, ◌∙◌, arith, inl, inr, length-drop, length-take-le, leb}
use Rattle.std.specs.Prelude.{slice_index_or}
use Rattle.std.proofs.lemmas.Bool.{cases_eq, cases_lt}
use Rattle.std.proofs.lemmas.List.{ext_get_or, get_or-drop, get_or-take}
use borrow.Rule.Slice.PartMut.{mid_of, put_mid}
use Rattle.bs_board.specs.declared.boards.board.Board.{Board}
use Rattle.bs_batch.specs.Showing.{ShowsEach, ShowsPlanes}
use Rattle.bs_batch.specs.Starting.{piece_of}
use Rattle.bs_batch.specs.inner.Showing.{PieceShown}
use Rattle.bs_batch.proofs.ShownPlanes.{after, before, inside, long_piece, same_length}

rows_below : (k seat row : ℕ) → k < seat → k * row + row ≤ seat * row
rows_below k seat row below = grind arith

-- the piece, where the list is long enough
there : (list : List ℕ) (number each : ℕ) → number * each + each ≤ length list → piece_of list number each ≡ take each (drop (number * each) list)
there list number each fits = let t : leb (number * each + each) (length list) ≡ true = search arith in rw t refl

not_there : (list : List ℕ) (number each : ℕ) → length list < number * each + each → piece_of list number each ≡ []
not_there list number each short = let f : leb (number * each + each) (length list) ≡ false = search arith in rw f refl

module _ (number each from k : ℕ) (into piece : List ℕ) (at : from ≡ number * each) (row : k ≡ each) (fits : from + each ≤ length into) (kept : length piece ≡ length (mid_of from k into)) where
  abbrev new : List ℕ
  new = put_mid from k into piece

  long : length new ≡ length into
  long = same_length from k each into piece row fits kept

  own_piece : piece_of new number each ≡ piece
  own_piece =
      let l = long in
      let p = long_piece from k each into piece row fits kept in
      let rest = length-drop (number * each) new in
      let cut = length-take-le each (drop (number * each) new) (omega arith) in
      there new number each (omega arith)
      ∙ ext_get_or 0 (take each (drop (number * each) new)) piece (omega arith) (λ i low.
      let small : i < each = omega arith in
      get_or-take each (drop (number * each) new) i 0 small ∙ get_or-drop (number * each) new i 0 ∙ ap (λ n. get_or new (n + i) 0) (sym at)
      ∙ inside from k each into piece row fits kept i small)

  other_piece : (j : ℕ) → j ≢ number → piece_of new j each ≡ piece_of into j each
  other_piece j apart = elim (cases_lt (length into) (j * each + each)) [
    | inl short ↦ let l = long in not_there new j each (omega arith) ∙ sym (not_there into j each short)
    | inr enough ↦
        let l = long in
        let a = length-drop (j * each) new in
        let b = length-drop (j * each) into in
        let c = length-take-le each (drop (j * each) new) (omega arith) in
        let d = length-take-le each (drop (j * each) into) (omega arith) in
        there new j each (omega arith)
        ∙ ext_get_or 0 (take each (drop (j * each) new)) (take each (drop (j * each) into)) (omega arith) (λ i low.
        let small : i < each = omega arith in
        let same : get_or new (j * each + i) 0 ≡ get_or into (j * each + i) 0 = elim (cases_lt j number) [
          | inl less ↦ let rows = rows_below j number each less in before from k each into piece row fits kept (j * each + i) (omega arith)
          | inr more ↦
              let above : number < j = omega arith in
              let rows = rows_below number j each above in
              after from k each into piece row fits kept (j * each + i) (omega arith)
        ] in
        get_or-take each (drop (j * each) new) i 0 small ∙ get_or-drop (j * each) new i 0 ∙ same
        ∙ sym (get_or-take each (drop (j * each) into) i 0 small ∙ get_or-drop (j * each) into i 0))
        ∙ sym (there into j each (omega arith))
  ]

  pub one_shown : (shows : Board → Type 0) → ((b : Board) → shows b → ShowsPlanes b piece) → PieceShown shows number each into new
  one_shown shows planes = record {
    long = long;
    own = λ b is room. subst (λ (l : List ℕ). ShowsPlanes b l) (sym own_piece) (planes b is);
    others = other_piece;
  }

-- the planes of the first i games
abbrev pub GamesSoFar : {G : Type 0} → (G → Board → Type 0) → List G → ℕ → ℕ → List ℕ → Type 0
GamesSoFar {G} Shows games each i into =
    (k : ℕ) (d : G) (b : Board) → k < i → k < length games → Shows (slice_index_or games k d) b → k * each + each ≤ length into → ShowsPlanes b (piece_of into k each)

pub no_games : {G : Type 0} (Shows : G → Board → Type 0) (games : List G) (each : ℕ) (into : List ℕ) → GamesSoFar Shows games each 0 into
no_games Shows games each into k d b none within is room = absurd (omega arith)

pub one_game : {G : Type 0} (Shows : G → Board → Type 0) (games : List G) (each i : ℕ) (old into : List ℕ) (game : G) → ((d : G) → i < length games → get_or games i d ≡ game)
    → PieceShown (Shows game) i each old into → GamesSoFar Shows games each i old → GamesSoFar Shows games each (i + 1) into
one_game {G} Shows games each i old into game is_game step so_far k d b before_next within is room = elim (cases_eq k i) [
  | inl same ↦
      let at_i : i < length games = omega arith in
      let here : get_or games k d ≡ game = ap (λ n. get_or games n d) same ∙ is_game d at_i in
      let shown = subst (λ (g : G). Shows g b) here is in
      subst (λ (n : ℕ). ShowsPlanes b (piece_of into n each)) (sym same) (step.own b shown (subst (λ (n : ℕ). n * each + each ≤ length into) same room))
  | inr other ↦
      let long = step.long in
      subst (λ (l : List ℕ). ShowsPlanes b l) (sym (step.others k other)) (so_far k d b (omega arith) within is (omega arith))
]

pub all_games : {G : Type 0} (Shows : G → Board → Type 0) (games : List G) (each i : ℕ) (into : List ℕ) → length games ≤ i → GamesSoFar Shows games each i into
    → ShowsEach Shows games each into
all_games Shows games each i into end so_far k d b within is room = so_far k d b (omega arith) within is room
