use Rattle.std.proofs.Common.{◌≡◌, ◌∷◌, ◌++◌, [], Some, None, get_or, true, false, rules}
use Rattle.std.specs.Cmp.Lexicographic.{slice_cmp}
use Rattle.std.specs.List.{insert, position}
use Rattle.std.specs.Ordering.{is_lt, nat_cmp}
use Rattle.bs_json.proofs.OrderedMoves.{behind_all, lands_at, replaces_at, stops_at}
use Rattle.bs_json.proofs.ordered_moves.insert.Goals as goal

pub returns-in_default : goal.returns-in_default
returns-in_default c =
    let entries = c.args.entries.now.items in
    let none : None ≡ position (stops_at c.args.id.now) entries = search rules in
    let all : c.push.new.self.items ≡ entries ++ (c.args.id, c.args.direction) ∷ [] = search rules in
    rw all (behind_all entries c.args.id c.args.direction none)

pub returns-in_ok-insert : goal.returns-in_ok-insert
returns-in_ok-insert c =
    let entries = c.args.entries.now.items in
    let at = c.in-Some.at in
    let found : Some at ≡ position (stops_at c.args.id.now) entries = search rules in
    let below : is_lt (slice_cmp nat_cmp c.args.id.now (get_or entries at c.index.result.now).0.now) ≡ true = search rules in
    let all : c.insert.new.self.items ≡ insert entries at (c.args.id, c.args.direction) = search rules in
    rw all (lands_at entries c.args.id c.args.direction at c.index.result.now found below)

pub returns-else-is_lt : goal.returns-else-is_lt
returns-else-is_lt c =
    let entries = c.args.entries.now.items in
    let at = c.in-Some.at in
    let found : Some at ≡ position (stops_at c.args.id.now) entries = search rules in
    let above : is_lt (slice_cmp nat_cmp c.args.id.now (get_or entries at c.index.result.now).0.now) ≡ false = search rules in
    let here : c.index.result.now ≡ get_or entries at c.index.result.now = search rules in
    rw here (replaces_at entries c.args.id c.args.direction at c.index.result.now found above)
