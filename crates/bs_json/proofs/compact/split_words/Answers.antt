use Rattle.std.proofs.Common.{◌≡◌, ◌∷◌, ◌++◌, [], decimal, rules, subst}
use Rattle.serde_json.specs.Written.{comma_if}
use Rattle.bs_json.proofs.CutTexts.{one_word_more, some_with_one}
use Rattle.bs_json.proofs.compact.split_words.Goals as goal

pub loop-turn-preserved : goal.loop-turn-preserved
loop-turn-preserved c =
    let words = c.loop-turn.words.items in
    let cut = c.in-Some-split_next_word in
    let all : c.push.new.self.items ≡ words ++ cut.word ∷ [] = search rules in
    let next = subst (λ b. c.loop-turn.left.now ≡ comma_if b ++ (decimal cut.word ++ cut.rest.now)) c.loop-turn.invariant.1 cut.ensures in
    (rw all (one_word_more c.args.line.now c.loop-turn.left.now cut.rest.now words cut.word c.loop-turn.invariant.0 next), rw all (some_with_one words cut.word))
