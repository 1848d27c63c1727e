-- Each call starts one thread of those that are left.
use Rattle.std.proofs.Common.{◌+◌, ◌*◌}
use Rattle.bs_host.proofs.parse.+parsing.Given as goal

abbrev pub decreases-Parser::parse_on : goal.decreases-Parser::parse_on
decreases-Parser::parse_on g l = 2 * l.threads

abbrev pub decreases-others : goal.decreases-others
decreases-others g l = 2 * l.fewer + 1
