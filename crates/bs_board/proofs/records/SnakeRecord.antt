-- A snake: what is read is what is written so, and what is written is read again.
use Rattle.std.proofs.Common.{◌≡◌, ℕ, suc, ◌≤◌, Bool, true, false, cond, ltb, List, [], ◌∷◌, ◌++◌, length, take, drop, Some, None, refl, sym, ap, subst, ◌∙◌, append_assoc, arith, length-append}
use Rattle.std.specs.Prelude.{unwrap_or}
use Rattle.std.specs.List.{flat_map}
use Rattle.std.proofs.lemmas.Bool.{ltb-false, le-ltb}
use Rattle.std.proofs.lemmas.List.{take_at, drop_at, take-append-drop, length-take}
use Rattle.std.proofs.lemmas.List.Elements.{recursion_from_All}
use Rattle.std.proofs.lemmas.Option.{cond_some}
use Rattle.bs_board.specs.declared.records.decoding.State.{State}
use Rattle.bs_board.specs.declared.boards.point.Point.{Point}
use Rattle.bs_board.specs.declared.boards.snake.Snake.{Snake}
use Rattle.bs_board.specs.inner.Decoder.{◌>>=◌, cause_from_byte, killer_from_byte, out_from_number, from_two_bytes, read_cell, read_many, read_piece, read_id, read_state, read_snake}
use Rattle.bs_board.specs.records.Record.{two_bytes, cause_byte, killer_byte, cell_bytes, state_bytes, snake_record}
use Rattle.bs_board.specs.records.Writing.{IsByteCell, IsWritable}
use Rattle.bs_board.proofs.records.Fields.{AreBytes, AreBytes-rest, AreBytes-drop, bind_some, carried, Takes, takes_both, high_back, low_back, number_again, cause_back, cause_again, killer_back, killer_again, out_back, out_again, cell_takes, cell_again}
use Rattle.bs_board.proofs.records.Repeats.{many_takes, many_again}

-- ---- the id

guard_some : {A : Type 0} (b : Bool) (x y : A) → cond b None (Some x) ≡ Some y → (b ≡ false) × (x ≡ y)
guard_some true x y e = absurd cc
guard_some false x y e = (refl, cc)

piece_takes : (bytes piece rest : List ℕ) → AreBytes bytes → read_piece bytes ≡ Some (piece, rest) → Takes bytes (length piece ∷ piece) rest
unfolding read_piece
piece_takes [] piece rest fits e = absurd cc
piece_takes (len ∷ after) piece rest fits e =
    let g = guard_some (ltb (length after) len) (take len after, drop len after) (piece, rest) e in
    let long : len ≤ length after = ltb-false _ _ g.0 in
    let same : length (take len after) ≡ len = omega (arith, length-take len after) in
    let here : Takes (len ∷ after) (length (take len after) ∷ take len after) (drop len after) = record {
      parts = rw same (ap (λ (t : List ℕ). len ∷ t) (sym (take-append-drop len after)));
      rest_fits = AreBytes-drop len after (AreBytes-rest len after fits);
    } in
    subst (λ (r : List ℕ × List ℕ). Takes (len ∷ after) (length r.0 ∷ r.0) r.1) g.1 here

pub piece_again : (piece rest : List ℕ) → read_piece ((length piece ∷ piece) ++ rest) ≡ Some (piece, rest)
unfolding read_piece
piece_again piece rest =
    let long : ltb (length (piece ++ rest)) (length piece) ≡ false = le-ltb _ _ (omega (arith, length-append piece rest)) in
    rw (long, take_at piece rest (length piece) refl, drop_at piece rest (length piece) refl) refl

id_takes : (is_text : List ℕ → Bool) (bytes id rest : List ℕ) → AreBytes bytes → read_id is_text bytes ≡ Some (id, rest)
    → Takes bytes (length id ∷ id) rest × (is_text id ≡ true)
unfolding read_id
id_takes is_text bytes id rest fits e =
    let a = bind_some (read_piece bytes) (λ piece. cond (is_text piece.0) (Some piece) None) (id, rest) e in
    let g = cond_some (is_text a.0.0) a.0 (id, rest) a.2 in
    let here : Takes bytes (length a.0.0 ∷ a.0.0) a.0.1 = piece_takes bytes a.0.0 a.0.1 fits a.1 in
    subst (λ (r : List ℕ × List ℕ). Takes bytes (length r.0 ∷ r.0) r.1 × (is_text r.0 ≡ true)) g.1 (here, g.0)

id_again : (is_text : List ℕ → Bool) (id rest : List ℕ) → is_text id ≡ true → read_id is_text ((length id ∷ id) ++ rest) ≡ Some (id, rest)
unfolding read_id
id_again is_text id rest text = rw (piece_again id rest, text) refl

-- ---- the bytes between the id and the parts

abbrev state_text : State → List ℕ
state_text s = (s.health ∷ cause_byte s.cause ∷ killer_byte s.killer ∷ two_bytes (unwrap_or s.out 0)) ++ two_bytes s.parts

state_takes : (bytes : List ℕ) (state : State) (rest : List ℕ) → AreBytes bytes → read_state bytes ≡ Some (state, rest) → Takes bytes (state_text state) rest
unfolding read_state
state_takes [] state rest fits e = absurd cc
state_takes (a ∷ []) state rest fits e = absurd cc
state_takes (a ∷ b ∷ []) state rest fits e = absurd cc
state_takes (a ∷ b ∷ c ∷ []) state rest fits e = absurd cc
state_takes (a ∷ b ∷ c ∷ d ∷ []) state rest fits e = absurd cc
state_takes (a ∷ b ∷ c ∷ d ∷ f ∷ []) state rest fits e = absurd cc
state_takes (a ∷ b ∷ c ∷ d ∷ f ∷ g ∷ []) state rest fits e = absurd cc
state_takes (health ∷ cause ∷ killer ∷ oh ∷ ol ∷ ph ∷ pl ∷ after) state rest fits e =
    let b = bind_some (cause_from_byte cause) (λ c. Some (record { health = health; cause = c; killer = killer_from_byte killer; out = out_from_number (from_two_bytes oh ol); parts = from_two_bytes ph pl }, after)) (state, rest) e in
    let made : State × List ℕ = (record { health = health; cause = b.0; killer = killer_from_byte killer; out = out_from_number (from_two_bytes oh ol); parts = from_two_bytes ph pl }, after) in
    let here : Takes (health ∷ cause ∷ killer ∷ oh ∷ ol ∷ ph ∷ pl ∷ after) (state_text made.0) made.1 = record {
      parts = rw (cause_back cause b.0 b.1, killer_back killer, out_back (from_two_bytes oh ol), high_back oh ol (fits 4), low_back oh ol (fits 4), high_back ph pl (fits 6), low_back ph pl (fits 6)) refl;
      rest_fits = λ i. fits (suc (suc (suc (suc (suc (suc (suc i)))))));
    } in
    carried (λ (r : State × List ℕ). Takes (health ∷ cause ∷ killer ∷ oh ∷ ol ∷ ph ∷ pl ∷ after) (state_text r.0) r.1) made (state, rest) b.2 here

abbrev state_of : Snake → State
state_of s = record { health = s.health; cause = s.cause; killer = s.killer; out = s.out; parts = length s.body }

state_again : (s : Snake) (rest : List ℕ) → IsWritable s → read_state (state_bytes s ++ rest) ≡ Some (state_of s, rest)
unfolding read_state
state_again s rest fits =
    rw (cause_again s.cause, killer_again s.killer, number_again (unwrap_or s.out 0), out_again s.out fits.out, number_again (length s.body)) refl

-- ---- the snake

abbrev snake_of : List ℕ → State → List Point → Snake
snake_of id state body = record { id = id; body = body; health = state.health; cause = state.cause; killer = state.killer; out = state.out }

-- what was taken, with its count, is all of the snake
whole_snake : (bytes id after_id : List ℕ) (state : State) (after_state : List ℕ) (body : List Point) (rest : List ℕ)
    → Takes bytes (length id ∷ id) after_id → Takes after_id (state_text state) after_state → Takes after_state (flat_map (cell_bytes 1) body) rest
    → length body ≡ state.parts → Takes bytes (snake_record (snake_of id state body)) rest
unfolding snake_record
whole_snake bytes id after_id state after_state body rest p q r count =
    let front = takes_both bytes (length id ∷ id) after_id (state_text state) after_state p q in
    let all = takes_both bytes ((length id ∷ id) ++ state_text state) after_state (flat_map (cell_bytes 1) body) rest front r in
    rw count all

pub snake_takes : (is_text : List ℕ → Bool) (bytes : List ℕ) (s : Snake) (rest : List ℕ) → AreBytes bytes → read_snake is_text bytes ≡ Some (s, rest)
    → Takes bytes (snake_record s) rest × (is_text s.id ≡ true)
unfolding read_snake
snake_takes is_text bytes s rest fits e =
    let a =
    bind_some (read_id is_text bytes)
    (λ id. read_state id.1 >>= λ state. read_many (read_cell 1) state.0.parts state.1 >>= λ body. Some (snake_of id.0 state.0 body.0, body.1)) (s, rest) e in
    let b = bind_some (read_state a.0.1) (λ state. read_many (read_cell 1) state.0.parts state.1 >>= λ body. Some (snake_of a.0.0 state.0 body.0, body.1)) (s, rest) a.2 in
    let c = bind_some (read_many (read_cell 1) b.0.0.parts b.0.1) (λ body. Some (snake_of a.0.0 b.0.0 body.0, body.1)) (s, rest) b.2 in
    let id = id_takes is_text bytes a.0.0 a.0.1 fits a.1 in
    let state = state_takes a.0.1 b.0.0 b.0.1 id.0.rest_fits b.1 in
    let body =
    many_takes (read_cell 1) (cell_bytes 1) (λ p. true) (λ bytes p rest fits e. (cell_takes 1 bytes p rest fits e, refl)) b.0.0.parts b.0.1 c.0.0 c.0.1
    state.rest_fits c.1 in
    let whole = whole_snake bytes a.0.0 a.0.1 b.0.0 b.0.1 c.0.0 c.0.1 id.0 state body.0 body.1 in
    carried (λ (r : Snake × List ℕ). Takes bytes (snake_record r.0) r.1 × (is_text r.0.id ≡ true)) (snake_of a.0.0 b.0.0 c.0.0, c.0.1) (s, rest) c.2 (whole, id.1)

pub snake_again : (is_text : List ℕ → Bool) (s : Snake) (rest : List ℕ) → IsWritable s × (is_text s.id ≡ true) → read_snake is_text (snake_record s ++ rest) ≡ Some (s, rest)
unfolding read_snake snake_record
snake_again is_text s rest fits =
    let cells = flat_map (cell_bytes 1) s.body ++ rest in
    let regrouped : snake_record s ++ rest ≡ (length s.id ∷ s.id) ++ (state_bytes s ++ cells) =
    append_assoc ((length s.id ∷ s.id) ++ state_bytes s) (flat_map (cell_bytes 1) s.body) rest ∙ append_assoc (length s.id ∷ s.id) (state_bytes s) cells in
    let body = many_again (read_cell 1) (cell_bytes 1) (IsByteCell 1) (cell_again 1) s.body rest (recursion_from_All (IsByteCell 1) s.body fits.0.cells) in
    ap (read_snake is_text) regrouped ∙ rw (id_again is_text s.id (state_bytes s ++ cells) fits.1, state_again s cells fits.0, body) refl
