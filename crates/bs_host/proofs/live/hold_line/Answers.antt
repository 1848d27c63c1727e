use Rattle.std.proofs.Common.{◌≡◌, ◌+◌, ◌≤◌, None, length, sym, subst, arith}
use Rattle.std.specs.List.{position}
use Rattle.bs_json.specs.declared.limits.TheConstants.{MAX_LINE}
use Rattle.bs_host.specs.inner.Live.{IsSameText}
use Rattle.bs_host.proofs.CutPieces.{is_feed}
use Rattle.bs_host.proofs.LiveHeld.{held_back, still_none}
use Rattle.bs_host.proofs.live.hold_line.Goals as goal

pub returns-then-lacks_feed-clause-text : goal.returns-then-lacks_feed-clause-text
returns-then-lacks_feed-clause-text c =
    let none : position is_feed c.args.pending.now.items ≡ None = rw c.deref.ensures.value at (c.lacks_feed.ensures.0 c.if-lacks_feed.true) in
    let long : MAX_LINE + 1 ≤ length c.args.pending.now.items = omega arith in
    subst (λ new. IsSameText c.args.pending.now.items new) (sym c.truncate.ensures.items) (held_back c.args.pending.now.items none long)

pub returns-then-lacks_feed-clause-ready : goal.returns-then-lacks_feed-clause-ready
returns-then-lacks_feed-clause-ready c =
    λ none. subst (λ new. position is_feed new ≡ None) (sym c.truncate.ensures.items) (still_none (MAX_LINE + 1) c.args.pending.now.items none)
