-- The stay's game is placed, and its jobs and its blocks are those of its row.
use Rattle.std.proofs.Common.{◌≡◌, List, ◌++◌, ◌∷◌, [], map, sym, ap, subst, ◌∙◌, arith}
use Rattle.std.proofs.lemmas.List.{map_push}
use Rattle.bs_sched.specs.declared.event.Event.{Event}
use Rattle.bs_sched.specs.Game.{GameView}
use Rattle.bs_sched.specs.Lane.{is_idle}
use Rattle.bs_sched.specs.LoneStay.{LoneView}
use Rattle.bs_sched.specs.inner.Assembling.{gathered_of}
use Rattle.bs_sched.specs.inner.LoneStays.{AreNumbersOf, LieInPool, laid_if, placed_stay, without_tally}
use Rattle.bs_sched.proofs.GatheredStays.{numbers_once, numbers_within, stay_placed}
use Rattle.bs_sched.proofs.gathering.GatheredStays.with_stay.Goals as goal

pub rename-requires : goal.rename-requires
rename-requires g c =
    let inside = c.stay.inside in
    let owners = c.args.self.assembly.ledger.owners in
    let numbers = c.as_slice.result.now in
    let idle = ap (λ (v : LoneView). is_idle v.lane.stage) c.stay.view_is ∙ c.requires.idle in
    let lie : LieInPool inside.game.packing inside.pool = subst (λ (v : LoneView). LieInPool v.packing v.pool) (sym c.stay.view_is) c.requires.lie in
    let are : AreNumbersOf inside.pool owners numbers = subst (AreNumbersOf inside.pool owners) (sym c.as_slice.ensures.value) c.in_ok-assembly.ensures.numbers in
    (omega arith, (c.requires.few, (idle, (numbers_within inside.game.packing inside.pool owners numbers lie are, numbers_once inside.pool owners numbers are))))

pub returns : goal.returns
returns g c =
    let inside = c.stay.inside in
    let stay = c.args.stay in
    let row = c.args.row in
    let owners = c.args.self.assembly.ledger.owners in
    let list = c.args.self.list.items in
    let numbers = c.as_slice.result.now in
    let is = c.stay.view_is in
    let are : AreNumbersOf stay.pool owners numbers
    = subst (λ (v : LoneView). AreNumbersOf v.pool owners numbers) is
    (subst (AreNumbersOf inside.pool owners) (sym c.as_slice.ensures.value) c.in_ok-assembly.ensures.numbers) in
    let placed = ap without_tally c.rename.ensures
    ∙ stay_placed row owners numbers inside.game stay (ap (λ (v : LoneView). v.lane) is) (ap (λ (v : LoneView). v.packing) is) (ap (λ (v : LoneView). v.frames) is)
    c.requires.lie are in
    let games : map without_tally c.push-2.new.self.items ≡ map without_tally list ++ placed_stay row owners stay ∷ []
    = ap (map without_tally) c.in_ok-push-2.ensures.items ∙ map_push without_tally list c.rename.new.self
    ∙ ap (λ (w : GameView). map without_tally list ++ w ∷ []) placed in
    let journals : c.push.new.self.items ≡ c.args.self.journals.items ++ stay.journal ∷ []
    = c.in_ok-push.ensures.items ∙ ap (λ (es : List Event). c.args.self.journals.items ++ es ∷ [])
    (c.in_ok-into_packed.ensures ∙ ap (λ (v : LoneView). v.journal) is) in
    let assembly : c.in_ok-assembly.assembly ≡ laid_if row stay.pool c.args.self.assembly
    = c.in_ok-assembly.ensures.assembly ∙ ap (λ (v : LoneView). laid_if row v.pool c.args.self.assembly) is in
    (λ i. gathered_of (games i) (journals i) (assembly i))
