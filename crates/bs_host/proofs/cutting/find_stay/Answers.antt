use Rattle.std.proofs.Common.{◌≡◌, ◌∙◌, ◌&&◌, true, false, nat_eq, [], ap, sym, arith, rules}
use Rattle.std.specs.Prelude.{option_copied}
use Rattle.std.proofs.lemmas.List.{get_or_read}
use Rattle.bs_board.specs.plans.Plan.{GameRow, row_of}
use Rattle.bs_board.specs.plans.Version.{has_stays}
use Rattle.bs_board.specs.Texts.{is_same_text}
use Rattle.bs_host.specs.Cut.{row_at}
use Rattle.bs_host.specs.inner.File.{pieces_after}
use Rattle.bs_host.specs.Routing.{capacity_of}
use Rattle.bs_host.proofs.FoundLines.{found_early, found_if_ok, found_planned}
use Rattle.bs_host.proofs.cutting.find_stay.Goals as goal

pub returns-then-is_found_in : goal.returns-then-is_found_in
returns-then-is_found_in c =
    let first : c.index-rows-stay.result ≡ row_at c.as_slice-rows.result.now c.loop-stay.stay
    = get_or_read c.as_slice-rows.result.now c.loop-stay.stay c.index-rows-stay.result c.loop-stay-test.true c.index-rows-stay.is (row_of [] 0) in
    let again : c.index-rows-stay-then-is_found_in.result ≡ row_at c.as_slice-rows.result.now c.loop-stay.stay
    = get_or_read c.as_slice-rows.result.now c.loop-stay.stay c.index-rows-stay-then-is_found_in.result c.loop-stay-test.true c.index-rows-stay-then-is_found_in.is
    (row_of [] 0) in
    let is : c.in_ok-copy.field-0 ≡ row_at c.as_slice-rows.result.now c.loop-stay.stay = c.in_ok-copy.ensures ∙ again in
    let both : (is_same_text c.loop-stay.search.name.now c.in_ok-copy.field-0.game && nat_eq c.loop-stay.search.left 1) ≡ true
    = ap (λ (row : GameRow). is_same_text c.loop-stay.search.name.now row.game && nat_eq c.loop-stay.search.left 1) (is ∙ sym first) ∙ sym c.if-is_found_in.ensures.found in
    found_planned (capacity_of c.args.file.blocks) c.args.file.plan.now.version c.args.file.plan.now.rows c.as_slice-rows.result.now
    (pieces_after (option_copied c.args.file.rest)) c.args.name.now c.args.nth c.as_slice-rows.ensures.value c.loop-stay.stay c.in_ok-copy.field-0
    c.loop-stay.search.name.now c.loop-stay.search.left c.loop-stay-test.true is both c.loop-stay.invariant

pub returns-then-has_stays : goal.returns-then-has_stays
returns-then-has_stays c =
    found_if_ok (capacity_of c.args.file.blocks) c.args.file.plan.now.version c.args.file.plan.now.rows c.as_slice-rows.result.now
    (pieces_after (option_copied c.args.file.rest)) c.args.name.now c.args.nth c.as_slice-rows.ensures.value c.loop-stay.stay c.loop-stay.search.name.now
    c.loop-stay.search.left c.find_admitted.result (omega arith) c.find_admitted.ensures c.loop-stay.invariant

pub returns-else-has_stays : goal.returns-else-has_stays
returns-else-has_stays c =
    let early : has_stays c.args.file.plan.now.version ≡ false = search rules in
    found_early (capacity_of c.args.file.blocks) c.args.file.plan.now.version c.args.file.plan.now.rows c.as_slice-rows.result.now
    (pieces_after (option_copied c.args.file.rest)) c.args.name.now c.args.nth c.as_slice-rows.ensures.value c.loop-stay.stay c.loop-stay.search.name.now
    c.loop-stay.search.left (omega arith) early c.loop-stay.invariant
