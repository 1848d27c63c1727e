-- The room of a seat in the list of all bodies.
use Rattle.std.proofs.Common.{◌≡◌, ℕ, ◌+◌, ◌-◌, ◌*◌, ◌/◌, ◌<◌, ◌≤◌, List, ◌++◌, length, take, drop, get_or, sym, ap, ◌∙◌, arith, inl, inr, length-append, length-drop, length-take, length-take-le}
use Rattle.std.proofs.lemmas.Bool.{cases_lt}
use Rattle.std.proofs.lemmas.List.{drop-drop, drop_at, ext_get_or, get_or-append_right, get_or-drop, get_or-take, get_or_append_left, take_at}
use borrow.Rule.Slice.PartMut.{mid_of, put_mid}
use Rattle.bs_batch.specs.Shown.{room_of}

rows_below : (k seat row : ℕ) → k < seat → k * row + row ≤ seat * row
rows_below k seat row below = grind arith

-- all eight rooms fit
pub room_fits : (seat long : ℕ) → seat < 8 → seat * (long / 8) + long / 8 ≤ long
room_fits seat long within =
    let rows = rows_below seat 8 (long / 8) within in
    omega arith

module _ (bodies room : List ℕ) (seat : ℕ) (within : seat < 8) (long : length room ≡ length bodies / 8) where
  abbrev row : ℕ
  row = length bodies / 8

  abbrev start : ℕ
  start = seat * row

  abbrev pub written : List ℕ
  written = take start bodies ++ (room ++ drop (start + row) bodies)

  fits : start + row ≤ length bodies
  fits = room_fits seat (length bodies) within

  length_front : length (take start bodies) ≡ start
  length_front = let f = fits in length-take-le start bodies (omega arith)

  pub length_written : length written ≡ length bodies
  length_written =
      let f = fits in
      let a = length_front in
      let b = length-append room (drop (start + row) bodies) in
      let c = length-drop (start + row) bodies in
      let d = length-append (take start bodies) (room ++ drop (start + row) bodies) in
      omega arith

  pub own_room : room_of written seat ≡ room
  own_room =
      rw length_written (ap (take row) (drop_at (take start bodies) (room ++ drop (start + row) bodies) start length_front) ∙ take_at room (drop (start + row) bodies) row long)

  other_at : (k i : ℕ) → (k ≡ seat → ⊥) → i < row → get_or written (k * row + i) 0 ≡ get_or bodies (k * row + i) 0
  other_at k i apart low = elim (cases_lt k seat) [
    | inl below ↦
        let rows = rows_below k seat row below in
        let f = length_front in
        get_or_append_left (take start bodies) (room ++ drop (start + row) bodies) 0 (k * row + i) (omega arith) ∙ get_or-take start bodies (k * row + i) 0 (omega arith)
    | inr above ↦
        let more : seat < k = omega arith in
        let rows = rows_below seat k row more in
        let f = length_front in
        let rest : start + row + (k * row + i - start - row) ≡ k * row + i = omega arith in
        get_or-append_right (take start bodies) (room ++ drop (start + row) bodies) start (k * row + i) 0 f (omega arith)
        ∙ get_or-append_right room (drop (start + row) bodies) row (k * row + i - start) 0 long (omega arith)
        ∙ get_or-drop (start + row) bodies (k * row + i - start - row) 0 ∙ ap (λ n. get_or bodies n 0) rest
  ]

  pub other_room : (k : ℕ) → (k ≡ seat → ⊥) → room_of written k ≡ room_of bodies k
  other_room k apart =
      rw length_written
      (let n = length_written in
      let a = length-take row (drop (k * row) written) in
      let b = length-take row (drop (k * row) bodies) in
      let c = length-drop (k * row) written in
      let d = length-drop (k * row) bodies in
      ext_get_or 0 (take row (drop (k * row) written)) (take row (drop (k * row) bodies)) (omega arith)
      (λ i low.
      let small : i < row = omega arith in
      get_or-take row (drop (k * row) written) i 0 small ∙ get_or-drop (k * row) written i 0 ∙ other_at k i apart small
      ∙ sym (get_or-take row (drop (k * row) bodies) i 0 small ∙ get_or-drop (k * row) bodies i 0)))

  -- a write to the part of the list that is the room
  pub put_is : (k : ℕ) → k ≡ row → put_mid start k bodies room ≡ written
  put_is k e = ap (λ rest. take start bodies ++ (room ++ rest)) (drop-drop k start bodies ∙ ap (λ n. drop (start + n) bodies) e)

pub mid_is : (bodies : List ℕ) (seat k : ℕ) → k ≡ length bodies / 8 → mid_of (seat * (length bodies / 8)) k bodies ≡ room_of bodies seat
mid_is bodies seat k e = ap (λ n. take n (drop (seat * (length bodies / 8)) bodies)) e

pub length_room : (bodies : List ℕ) (seat : ℕ) → seat < 8 → length (room_of bodies seat) ≡ length bodies / 8
length_room bodies seat within =
    let fits = room_fits seat (length bodies) within in
    let rest = length-drop (seat * (length bodies / 8)) bodies in
    length-take-le (length bodies / 8) (drop (seat * (length bodies / 8)) bodies) (omega arith)
