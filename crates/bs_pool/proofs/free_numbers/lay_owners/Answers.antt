use Rattle.std.proofs.Common.{◌≡◌, ◌+◌, ℕ, Option, Some, None, suc, length, slice_index_or, slice_set, sym, ap, ◌∙◌, arith}
use Rattle.bs_pool.specs.Woven.{woven}
use Rattle.bs_pool.proofs.FreeNumbers.{laid_below, none_laid, all_laid, next_laid, none_next, laid_long}
use Rattle.bs_pool.proofs.Woven.{fresh_woven, sets_woven, place_within}
use Rattle.bs_pool.proofs.free_numbers.lay_owners.Goals.{in-Some, in_default}
use Rattle.bs_pool.proofs.free_numbers.lay_owners.Goals as goal

abbrev raise : ℕ → ℕ → ℕ
raise offset tag = tag + offset

pub loop-at-init : goal.loop-at-init
loop-at-init g c =
    let slots = c.args.slots.now in let f = raise c.args.offset in
    sym (ap (woven f c.args.owners.now.items) (none_laid slots) ∙ fresh_woven f c.args.owners.now.items (length slots) c.requires.room)

pub index_mut-requires : goal.index_mut-requires
index_mut-requires g c =
    let slots = c.args.slots.now in let f = raise c.args.offset in let owners = c.args.owners.now.items in let at = c.loop-at.at in
    let long = laid_long slots at in
    let below = place_within f owners (laid_below at slots) at (omega (arith, long, c.loop-at-test.true)) in
    let is = c.requires.free.each at 0 (omega (arith, c.loop-at-test.true, c.requires.free.enough)) in
    let size = ap length c.loop-at.invariant in
    omega (arith, below, is, size, c.loop-at.owners.ok.0)

pub loop-at-preserved : goal.loop-at-preserved
loop-at-preserved g c =
    let slots = c.args.slots.now in let f = raise c.args.offset in let owners = c.args.owners.now.items in let at = c.loop-at.at in
    let more : suc at ≡ at + 1 = omega arith in
    let end = ap (λ k. woven f owners (laid_below k slots)) more in
    elim c.match-owner.branch [
      | in-Some w ↦
          let o : Option ℕ = Some w.in-Some.tag in
          let here : o ≡ slice_index_or slots at o = w.in-Some.ensures ∙ c.index-slots-at.is ∙ ap (λ x. slice_index_or slots at x) (sym w.in-Some.ensures) in
          let long = laid_long slots at in
          let place = c.requires.free.each at 0 (omega (arith, c.loop-at-test.true, c.requires.free.enough)) in
          ap (λ v. v.items) w.owners-is ∙ (λ i. slice_set (c.loop-at.invariant i) (place i) (Some (w.in-Some.tag + c.args.offset)))
          ∙ sets_woven f owners (laid_below at slots) at o (omega (arith, long, c.loop-at-test.true))
          ∙ ap (λ x. woven f owners (slice_set (laid_below at slots) at x)) here
          ∙ ap (woven f owners) (next_laid slots at o c.loop-at-test.true) ∙ end
      | in_default w ↦
          let none : slice_index_or slots at None ≡ None = sym (w.in_default.ensures ∙ c.index-slots-at.is ∙ ap (λ x. slice_index_or slots at x) (sym w.in_default.ensures)) in
          ap (λ v. v.items) w.owners-is ∙ c.loop-at.invariant ∙ ap (woven f owners) (sym (none_next slots at None c.loop-at-test.true none)) ∙ end
    ]

pub returns : goal.returns
returns g c =
    let slots = c.args.slots.now in let f = raise c.args.offset in let owners = c.args.owners.now.items in
    let at : c.loop-at.at ≡ length slots = omega (arith, c.loop-at-test.false, c.loop-at.auto.at-end) in
    c.loop-at.invariant ∙ ap (λ k. woven f owners (laid_below k slots)) at ∙ ap (woven f owners) (all_laid slots)
