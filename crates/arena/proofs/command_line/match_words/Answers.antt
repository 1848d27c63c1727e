use Rattle.std.proofs.lemmas.Result.{IfOk-weaker}
use Rattle.arena.proofs.Requests.{rows_matched, fails_by, none_of_spent, kind_of_spent}
use Rattle.arena.proofs.command_line.match_words.Goals as goal

pub returns-in_err-command : goal.returns-in_err-command
returns-in_err-command c = record {
  rows = none_of_spent _ c.from_residual.result c.from_residual.ensures.1;
  refused = kind_of_spent _ c.from_residual.result c.from_residual.ensures.1;
}

pub returns : goal.returns
returns c = record {
  rows = IfOk-weaker c.try_get_matches_from.result _ _ (λ m h. rows_matched _ _ m c.in_ok-command.ensures h) c.try_get_matches_from.ensures.matches;
  refused = fails_by _ _ _ c.in_ok-command.ensures c.try_get_matches_from.ensures.kinds;
}
