use Rattle.bs_host.proofs.CutLaw.{section_law}
use Rattle.bs_host.proofs.FoundStays.{found_law}
use Rattle.bs_host.proofs.FullStays.{full_law}
use Rattle.bs_host.proofs.OwnLines.{own_lines_law}
use Rattle.bs_host.proofs.PlainLines.{early_law}
use Rattle.bs_host.proofs.RefusedLines.{core_law}
use Rattle.bs_host.proofs.cutting.section_law.Goals as goal

pub returns-clause-cut : goal.returns-clause-cut
returns-clause-cut c = section_law

pub returns-clause-own : goal.returns-clause-own
returns-clause-own c = own_lines_law

pub returns-clause-found : goal.returns-clause-found
returns-clause-found c = found_law

pub returns-clause-early : goal.returns-clause-early
returns-clause-early c = early_law

pub returns-clause-core : goal.returns-clause-core
returns-clause-core c = core_law

pub returns-clause-full : goal.returns-clause-full
returns-clause-full c = full_law
