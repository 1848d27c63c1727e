-- Numbers and cells: what is read is what is written so, and what is written is read again.
use Rattle.std.proofs.Common.{◌≡◌, ℕ, suc, ◌+◌, ◌-◌, ◌/◌, ◌%◌, ◌<◌, ◌≤◌, Bool, true, false, ◌&&◌, cond, List, [], ◌∷◌, ◌++◌, get_or, drop, Option, Some, None, ℤ, pos, negsuc, nat_abs, ◌+ℤ◌, ◌-ℤ◌, ◌≤ℤ◌, refl, sym, ap, subst, ◌∙◌, append_assoc, arith, inl, inr}
use Rattle.std.specs.Prelude.{nat_eq, unwrap_or, MatchOption}
use Rattle.std.specs.List.{find}
use Rattle.std.proofs.lemmas.Bool.{cases_Bool, eqb-true, eqb-false}
use Rattle.std.proofs.lemmas.Int.{ints}
use Rattle.std.proofs.lemmas.List.{get_or-drop}
use Rattle.bs_board.specs.declared.boards.board.Mode.{Mode}
use Rattle.bs_board.specs.declared.boards.board.Mode.TheVariants.{Standard, Solo, Constrictor, Wrapped}
use Rattle.bs_board.specs.declared.boards.point.Point.{Point}
use Rattle.bs_board.specs.declared.boards.snake.Cause.{Cause}
use Rattle.bs_board.specs.declared.boards.snake.Cause.TheVariants.{OutOfHealth, WallCollision, SelfCollision, BodyCollision, HeadCollision, Hazard}
use Rattle.bs_board.specs.inner.Decoder.{◌>>=◌, all_kinds, kind_from_bytes, cause_from_byte, killer_from_byte, out_from_number, from_two_bytes, read_cell}
use Rattle.bs_board.specs.records.Record.{mode_byte, version_byte, cause_byte, killer_byte, cell_bytes}
use Rattle.bs_board.specs.records.Writing.{IsByteCell}
use Rattle.bs_board.proofs.Chains.{and_both}

abbrev pub AreBytes : List ℕ → Type 0
AreBytes bytes = (i : ℕ) → get_or bytes i 0 < 256

pub AreBytes-rest : (byte : ℕ) (bytes : List ℕ) → AreBytes (byte ∷ bytes) → AreBytes bytes
AreBytes-rest byte bytes fits i = fits (suc i)

pub AreBytes-drop : (n : ℕ) (bytes : List ℕ) → AreBytes bytes → AreBytes (drop n bytes)
AreBytes-drop n bytes fits i = rw get_or-drop (fits (n + i))

-- the value of a step that did not fail
pub bind_some : {A B : Type 0} (read : Option A) (f : A → Option B) (y : B) → (read >>= f) ≡ Some y → (x : A) × (read ≡ Some x) × (f x ≡ Some y)
bind_some (Some x) f y e = (x, refl, e)
bind_some None f y e = absurd cc

pub some_is : {A : Type 0} (x y : A) → Some x ≡ Some y → x ≡ y
some_is x y e = cc

pub along : {A : Type 0} (Q : A → Type 0) (x y : A) → x ≡ y → Q x → Q y
along Q x y same here = subst Q same here

-- what holds of the value made holds of the value read
pub carried : {A : Type 0} (Q : A → Type 0) (made read : A) → Some made ≡ Some read → Q made → Q read
carried Q made read e here = subst Q (some_is made read e) here

-- what a reader took from the front
pub record Takes (bytes text rest : List ℕ) : Type 0 where
  pub parts : bytes ≡ text ++ rest
  pub rest_fits : AreBytes rest

pub takes_both : (bytes x middle y rest : List ℕ) → Takes bytes x middle → Takes middle y rest → Takes bytes (x ++ y) rest
takes_both bytes x middle y rest p q = record { parts = p.parts ∙ ap (λ (t : List ℕ). x ++ t) q.parts ∙ sym (append_assoc x y rest); rest_fits = q.rest_fits }

-- ---- numbers

pub high_back : (high low : ℕ) → low < 256 → from_two_bytes high low / 256 ≡ high
high_back high low fits = omega arith

pub low_back : (high low : ℕ) → low < 256 → from_two_bytes high low % 256 ≡ low
low_back high low fits = omega arith

pub number_again : (n : ℕ) → from_two_bytes (n / 256) (n % 256) ≡ n
number_again n = omega arith

find_passes : {X : Type 0} (test : X → Bool) (xs : List X) (x : X) → find test xs ≡ Some x → test x ≡ true
find_passes test [] x found = absurd cc
find_passes {X = X} test (y ∷ xs) x found =
    elim (cases_Bool (test y)) [
      | inl on ↦
          let here : cond (test y) (Some y) (find test xs) ≡ Some y = rw on refl in
          let same : y ≡ x = some_is y x (sym here ∙ found) in
          rw (← same) on
      | inr off ↦
          let here : cond (test y) (Some y) (find test xs) ≡ find test xs = rw off refl in
          find_passes test xs x (sym here ∙ found)
    ]

pub kind_back : (version byte : ℕ) (kind : Bool × Mode) → kind_from_bytes version byte ≡ Some kind
    → (version_byte kind.0 kind.1 ≡ version) × (mode_byte kind.1 ≡ byte)
kind_back version byte kind found =
    let both =
    and_both (nat_eq (version_byte kind.0 kind.1) version) (nat_eq (mode_byte kind.1) byte)
    (find_passes (λ k. nat_eq (version_byte k.0 k.1) version && nat_eq (mode_byte k.1) byte) all_kinds kind found) in
    (eqb-true (version_byte kind.0 kind.1) version both.0, eqb-true (mode_byte kind.1) byte both.1)

pub kind_again : (hazardous : Bool) (mode : Mode) → kind_from_bytes (version_byte hazardous mode) (mode_byte mode) ≡ Some (hazardous, mode)
kind_again false Standard = refl
kind_again false Solo = refl
kind_again false Constrictor = refl
kind_again false Wrapped = refl
kind_again true Standard = refl
kind_again true Solo = refl
kind_again true Constrictor = refl
kind_again true Wrapped = refl

pub cause_back : (byte : ℕ) (cause : Option Cause) → cause_from_byte byte ≡ Some cause → cause_byte cause ≡ byte
cause_back byte cause found =
    eqb-true (cause_byte cause) byte
    (find_passes (λ c. nat_eq (cause_byte c) byte)
    (None ∷ Some OutOfHealth ∷ Some WallCollision ∷ Some SelfCollision ∷ Some BodyCollision ∷ Some HeadCollision ∷ Some Hazard ∷ []) cause found)

pub cause_again : (cause : Option Cause) → cause_from_byte (cause_byte cause) ≡ Some cause
cause_again None = refl
cause_again (Some OutOfHealth) = refl
cause_again (Some WallCollision) = refl
cause_again (Some SelfCollision) = refl
cause_again (Some BodyCollision) = refl
cause_again (Some HeadCollision) = refl
cause_again (Some Hazard) = refl

pub killer_back : (byte : ℕ) → killer_byte (killer_from_byte byte) ≡ byte
killer_back byte =
    elim (cases_Bool (nat_eq byte 0)) [
      | inl none ↦ rw none (sym (eqb-true byte 0 none))
      | inr some ↦ rw some (let other = eqb-false byte 0 some in omega arith)
    ]

not_zero : (n : ℕ) → 1 ≤ n → nat_eq n 0 ≡ false
not_zero n some =
    elim (cases_Bool (nat_eq n 0)) [
      | inl on ↦ absurd (let none = eqb-true n 0 on in omega arith)
      | inr off ↦ off
    ]

pub killer_again : (killer : Option ℕ) → killer_from_byte (killer_byte killer) ≡ killer
killer_again None = refl
killer_again (Some seat) =
    let less : seat + 1 - 1 ≡ seat = omega arith in
    rw (not_zero (seat + 1) (omega arith), less) refl

pub out_back : (number : ℕ) → unwrap_or (out_from_number number) 0 ≡ number
out_back number =
    elim (cases_Bool (nat_eq number 0)) [
      | inl none ↦ rw none (sym (eqb-true number 0 none))
      | inr some ↦ rw some refl
    ]

pub out_again : (out : Option ℕ) → MatchOption out (Unit {0}) (λ turn. 1 ≤ turn) → out_from_number (unwrap_or out 0) ≡ out
out_again None some = refl
out_again (Some turn) some = rw (not_zero turn some) refl

-- ---- cells

lowered : (byte raised : ℕ) → nat_abs ((pos byte -ℤ pos raised) +ℤ pos raised) ≡ byte
lowered byte raised = let same : (pos byte -ℤ pos raised) +ℤ pos raised ≡ pos byte = omega (arith, ints) in ap nat_abs same

not_negative : (z : ℤ) → pos 0 ≤ℤ z → pos (nat_abs z) ≡ z
not_negative (pos n) low = refl
not_negative (negsuc n) low = absurd (omega (arith, ints))

pub raised_again : (z : ℤ) (raised : ℕ) → pos 0 ≤ℤ (z +ℤ pos raised) → pos (nat_abs (z +ℤ pos raised)) -ℤ pos raised ≡ z
raised_again z raised low = rw (not_negative (z +ℤ pos raised) low) (omega (arith, ints))

pub cell_takes : (raised : ℕ) (bytes : List ℕ) (p : Point) (rest : List ℕ) → AreBytes bytes → read_cell raised bytes ≡ Some (p, rest) → Takes bytes (cell_bytes raised p) rest
unfolding read_cell
cell_takes raised [] p rest fits e = absurd cc
cell_takes raised (x ∷ []) p rest fits e = absurd cc
cell_takes raised (x ∷ y ∷ after) p rest fits e =
    let made : Point × List ℕ = (record { x = pos x -ℤ pos raised; y = pos y -ℤ pos raised }, after) in
    let here : Takes (x ∷ y ∷ after) (cell_bytes raised made.0) made.1 = record { parts = rw (lowered x raised, lowered y raised) refl; rest_fits = λ i. fits (suc (suc i)) } in
    carried (λ (r : Point × List ℕ). Takes (x ∷ y ∷ after) (cell_bytes raised r.0) r.1) made (p, rest) e here

pub cell_again : (raised : ℕ) (p : Point) (rest : List ℕ) → IsByteCell raised p → read_cell raised (cell_bytes raised p ++ rest) ≡ Some (p, rest)
unfolding read_cell
cell_again raised p rest fits = rw (raised_again p.x raised fits.x.0, raised_again p.y raised fits.y.0) refl
