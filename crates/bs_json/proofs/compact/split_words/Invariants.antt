use Rattle.std.proofs.Common.{◌≡◌, false, ◌++◌}
use Rattle.bs_json.specs.inner.Compact.{words_text}
use Rattle.bs_json.specs.inner.Compact.{are_some}
use Rattle.bs_json.proofs.compact.split_words.Given as goal

-- the text before the remaining part is that of the words found
abbrev pub invariant-loop-turn : goal.invariant-loop-turn
invariant-loop-turn l = (l.fn.line ≡ words_text false l.words.items ++ l.left) × (l.later ≡ are_some l.words.items)
