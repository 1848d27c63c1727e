-- The invariant of a fiber implies that its lane is right.
use Rattle.std.proofs.Common.{◌≡◌, ℕ, zero, suc, [], ◌∷◌, ◌-◌, ◌≤◌, true, false, List, length, take, refl, ap, arith, inl, inr}
use Rattle.std.specs.Prelude.{All, drop, is_some, nat_eq}
use Rattle.std.proofs.lemmas.Bool.{and_from, cases_Bool, eq-eqb, not-false}
use Rattle.std.proofs.lemmas.List.{length-drop, length-take-le}
use Rattle.std.proofs.lemmas.List.Elements.{All-take, All-drop}
use Rattle.bs_game.specs.Answer.{Fits}
use Rattle.bs_game.proofs.Courses.{course_is_game}
use Rattle.bs_sched.specs.declared.fiber.Fiber.TheInside.{Inside}
use Rattle.bs_sched.specs.Courses.{answered_commands}
use Rattle.bs_sched.specs.inner.Insides.{lane_in, answered_count, IsFiber, IsRightWithParts}
use Rattle.bs_sched.specs.Lane.{is_idle, is_quiet}

take_less : {X : Type 0} (n m : ℕ) (xs : List X) → n ≤ m → take n (take m xs) ≡ take n xs
take_less zero m xs less = refl
take_less (suc n) zero xs less = absurd (omega arith)
take_less (suc n) (suc m) [] less = refl
take_less (suc n) (suc m) (x ∷ xs) less = ap (λ rest. x ∷ rest) (take_less n m xs (omega arith))

-- the answered commands, as the fiber counts them
answered_in : (f : Inside) → f.begun ≤ length f.commands.items
    → answered_commands (lane_in f) ≡ take (answered_count f.stage f.begun) f.commands.items
answered_in f within =
    elim (cases_Bool (is_idle f.stage)) [
      | inl idle ↦ rw idle refl
      | inr busy ↦
          let many : length (take f.begun f.commands.items) ≡ f.begun = length-take-le f.begun f.commands.items within in
          rw (busy, many) (take_less (f.begun - 1) f.begun f.commands.items (omega arith))
    ]

-- the lane of a fiber, with any parts that its move may have
pub right_lane : (f : Inside) → IsFiber f → IsRightWithParts (lane_in f)
right_lane f kept parts many =
    let answered = answered_in f kept.begun in
    let fits : All Fits (take (answered_count f.stage f.begun) f.commands.items) = All-take Fits (answered_count f.stage f.begun) f.commands.items kept.fits in
    let game = course_is_game f.row.quota (take (answered_count f.stage f.begun) f.commands.items) fits in
    record {
      small = kept.small;
      taken = All-take Fits f.begun f.commands.items kept.fits;
      waiting = All-drop Fits f.begun f.commands.items kept.fits;
      some = λ busy. let some = kept.at busy in let many = length-take-le f.begun f.commands.items kept.begun in omega (arith, some, many);
      course = record { replies = rw answered kept.replies; game = rw answered refl };
      right = game.0;
      within = game.1;
      moves = λ plays. record { goes = kept.goes plays; parts = many plays };
    }

-- a stay that has left is idle
pub quiet_lane : (f : Inside) → IsFiber f → (lane_in f).is_open ≡ false → is_quiet (lane_in f) ≡ true
quiet_lane f kept shut =
    let closed = kept.closed (not-false (is_some f.left) shut) in
    let none : length (drop f.begun f.commands.items) ≡ 0 = let long = length-drop f.begun f.commands.items in let all = closed.1 in omega (arith, long, all) in
    and_from (is_idle f.stage) (nat_eq (length (drop f.begun f.commands.items)) 0) closed.0 (eq-eqb _ _ none)
