use Rattle.std.proofs.Common.{◌≡◌, List, ℕ, [], ◌∙◌, sym, append-nil, subst, refl, Err, rules, inr}
use Rattle.std.specs.Io.KnownBytes.{Appends}
use Rattle.bs_board.specs.declared.plans.version.Version.{Version}
use Rattle.bs_board.specs.plans.Plan.{GameRow}
use Rattle.bs_host.specs.Live.{live_lines_of}
use Rattle.bs_host.specs.inner.Live.{HasAnswered}
use Rattle.bs_host.specs.inner.LiveFaults.{LeavesLines}
use Rattle.bs_host.proofs.LiveBytes.{appends_none}
use Rattle.bs_host.proofs.LiveStates.{end_is}
use Rattle.bs_host.proofs.LiveStops.{none_first, text_leaves}
use Rattle.bs_host.proofs.live.end_plan.Goals as goal

pub returns-clause-written : goal.returns-clause-written
returns-clause-written g c =
    λ blocks version plan is.
    let text = c.close.new.text.bytes in
    let whole : text ≡ live_lines_of blocks version plan [] = rw c.new-text.ensures at c.in_ok-close.ensures ∙ end_is blocks version plan [] c.args.host.now is in
    let wrote = rw c.as_slice.ensures at c.in_ok-write_out.ensures.text in
    subst (λ t. Appends (g.W.Write.contents c.args.output.now) (g.W.Write.contents c.write_out.new.output) t) whole wrote

pub returns-in_err-write_out-clause-left : goal.returns-in_err-write_out-clause-left
returns-in_err-write_out-clause-left g c =
    let now = g.W.Write.contents c.args.output.now in
    let next = g.W.Write.contents c.write_out.new.output in
    let text = c.close.new.text.bytes in
    let fault = c.in_err-write_out.field-0.0 in
    let stops = rw c.as_slice.ensures at c.in_err-write_out.ensures.left in
    let left : (blocks : ℕ) (version : Version) (plan : List GameRow) → HasAnswered blocks version plan [] c.args.host.now → LeavesLines blocks version plan [] now next fault
    = λ blocks version plan is.
    let whole : text ≡ live_lines_of blocks version plan [] = rw c.new-text.ensures at c.in_ok-close.ensures ∙ end_is blocks version plan [] c.args.host.now is in
    text_leaves blocks version plan [] [] text [] now now next 0 fault (sym (append-nil text ∙ whole)) refl (appends_none now)
    (none_first blocks version plan [] now)
    (λ wrote. inr (subst (λ t. Appends now next t) whole wrote))
    stops in
    let same : c.from_residual-in_err-write_out.result ≡ Err fault = search rules in
    rw same left
