use Rattle.std.proofs.Common.{◌≡◌, ℕ, ◌<◌, length, Some, None, false, true, sym, ap, ◌∙◌, subst, arith, slice_get, slice_index_or}
use Rattle.std.specs.Option.{option_copied}
use Rattle.std.proofs.lemmas.Option.{slice_get_within}
use Rattle.bs_fiber.specs.declared.job.JobName.{JobName}
use Rattle.bs_sched.specs.Lane.{Lane}
use Rattle.bs_sched.specs.Parts.{IsOwnPart}
use Rattle.bs_sched.proofs.OwnParts.{first_part}
use Rattle.bs_sched.proofs.games.Games.are_own_parts.Goals as goal

pub returns-then-game-count_rows : goal.returns-then-game-count_rows
returns-then-game-count_rows g c =
    let first : slice_get c.args.completed.now 0 ≡ Some (Some c.in-Some-Some.first)
    = sym c.first.ensures.value ∙ ap option_copied c.in-Some-Some.is ∙ ap Some c.in-Some-Some.field-0-is in
    let game : c.job-game.result.game ≡ c.in-Some-Some.first.input.job.game = ap (λ (j : JobName). j.game) c.job-game.ensures ∙ ap (λ i. i.input.job.game) c.ticket.ensures in
    (λ wrong. let w : false ≡ true = wrong in absurd cc, λ are. let there = (first_part _ _ _ first are).1 in let rows = c.count_rows.ensures.value in absurd (omega arith))

pub returns : goal.returns
returns g c =
    let first : slice_get c.args.completed.now 0 ≡ Some (Some c.in-Some-Some.first)
    = sym c.first.ensures.value ∙ ap option_copied c.in-Some-Some.is ∙ ap Some c.in-Some-Some.field-0-is in
    let game : c.job-game.result.game ≡ c.in-Some-Some.first.input.job.game = ap (λ (j : JobName). j.game) c.job-game.ensures ∙ ap (λ i. i.input.job.game) c.ticket.ensures in (
      (λ yes. record {
        game = c.job-game.result.game;
        some = slice_get_within c.args.completed.now 0 (Some c.in-Some-Some.first) first;
        all = sym c.if-count_parts-completed.false ∙ c.count_parts.ensures ∙ ap (λ (x : Lane). length x.parts) (sym c.game.ensures);
        each = c.are_own_parts_of.ensures.0 yes;
      }),
      (λ are.
          let same : are.game ≡ c.job-game.result.game = (first_part _ _ _ first are).0 ∙ sym game in
          c.are_own_parts_of.ensures.1
          (subst (λ (k : ℕ). (p : ℕ) → p < length c.args.completed.now → IsOwnPart c.args.self.now k p (slice_index_or c.args.completed.now p None)) same are.each)),
    )
