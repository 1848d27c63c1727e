use Rattle.std.proofs.Common.{◌≡◌, ◌++◌, drop, option_map}
use Rattle.serde_json.specs.View.{items_view}
use Rattle.bs_json.specs.Values.{each}
use Rattle.bs_json.proofs.values.each.Given as goal

abbrev pub invariant-loop-item : goal.invariant-loop-item
invariant-loop-item g l =
    option_map (λ rest. l.found.items ++ rest) (each g.T.FromItem.read (items_view (drop l.item-index l.items))) ≡ each g.T.FromItem.read (items_view l.items)
