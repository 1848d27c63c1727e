use Rattle.std.proofs.Common.{◌∙◌, ap, count_by}
use Rattle.std.proofs.lemmas.Result.{IfOk-weaker}
use Rattle.bs_plane.specs.Plane.{is_free}
use Rattle.bs_plane.proofs.NewFood.{places_none, places_one}
use Rattle.bs_plane.proofs.food.place_food.Goals as goal

pub returns-then-free-eq0 : goal.returns-then-free-eq0
returns-then-free-eq0 c _ b has =
    places_none b c.args.plane.now has.shows c.args.word c.count_free-free.result c.args.into.now.items
    (c.count_free-free.ensures ∙ ap (count_by is_free) c.deref.ensures.value) c.if-free-eq0.true has

pub returns : goal.returns
returns c =
    IfOk-weaker c.put_food_at.result _ _
    (λ done puts is b has.
    places_one b c.args.plane.now has.shows c.args.word c.count_free-free.result c.find_free-place.result c.args.into.now.items c.put_food_at.new.into.items c.put_food_at.new.plane
    (c.count_free-free.ensures ∙ ap (count_by is_free) c.deref.ensures.value) c.if-free-eq0.false has
    (rw c.deref-2.ensures.value at c.find_free-place.ensures) (puts is))
    c.put_food_at.ensures
