use Rattle.std.proofs.Common.{◌∙◌, ap}
use Rattle.arena.specs.Words.{asked_in}
use Rattle.arena.proofs.Requests.{few_words, more_words}
use Rattle.arena.proofs.command_line.read_words.Goals as goal

pub returns-then-words-le1-clause-asked : goal.returns-then-words-le1-clause-asked
returns-then-words-le1-clause-asked c = c.default_request.ensures ∙ few_words _ c.if-words-le1.true

pub returns-in-Ok-clause-asked : goal.returns-in-Ok-clause-asked
returns-in-Ok-clause-asked c = c.request_of.ensures ∙ (ap asked_in c.in-Ok.ensures.rows ∙ more_words _ c.if-words-le1.false)
