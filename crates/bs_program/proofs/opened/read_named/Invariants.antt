use Rattle.bs_program.proofs.opened.read_named.Given as goal

-- what a failed call of this file shows
abbrev pub ghosts-read_opened : goal.ghosts-read_opened
ghosts-read_opened g a = record { shown = g.S.Sources.unread a.file.sources.now a.file.name.now }
