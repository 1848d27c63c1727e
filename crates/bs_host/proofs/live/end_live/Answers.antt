use Rattle.std.proofs.Common.{◌≡◌, ◌∷◌, ◌++◌, [], sym, ap, ◌∙◌, append-nil, rules, inr}
use Rattle.std.specs.Prelude.{fold}
use Rattle.bs_host.specs.declared.fault.Fault.TheVariants.{Memory}
use Rattle.bs_host.specs.File.{pieces_of}
use Rattle.bs_host.specs.Live.{answers_from, live_lines_of}
use Rattle.bs_host.specs.inner.Live.{StopsAtEnd}
use Rattle.bs_host.specs.inner.LiveHost.{live_after, live_text, live_texts}
use Rattle.bs_host.proofs.CutPieces.{piece_without_feed}
use Rattle.bs_host.proofs.LiveBytes.{serving_ends, serving_whole}
use Rattle.bs_host.proofs.LiveStates.{answered_more, end_is, texts_are}
use Rattle.bs_host.proofs.LiveStops.{serving_last, text_leaves}
use Rattle.bs_host.proofs.live.end_live.Goals as goal

pub returns-clause-written : goal.returns-clause-written
returns-clause-written g c =
    λ blocks version plan after first is.
    let host = c.args.flow.now.answers.host in
    let new = c.answer.new.self in
    let pending = c.args.flow.now.pending.items in
    let count = c.args.flow.now.answers.written in
    let now = g.W.Write.contents c.args.output.now in
    let text = c.answer.new.text.bytes in
    let both = c.close.new.text.bytes in
    let one : pieces_of pending ≡ pending ∷ [] = piece_without_feed pending c.requires in
    let alone : text ≡ [] ++ live_text host pending = rw (c.clear.ensures, c.deref.ensures.value) at c.in_ok-answer.ensures.text in
    let told : text ≡ live_texts host (pieces_of pending) = alone ∙ sym (append-nil (live_text host pending)) ∙ ap (live_texts host) (sym one) in
    let after_one : new ≡ live_after host pending = rw c.deref.ensures.value at c.in_ok-answer.ensures.host in
    let moved : new ≡ fold live_after host (pieces_of pending) = after_one ∙ ap (fold live_after host) (sym one) in
    let wrote = c.in_ok-write_answers.ensures.text in
    let whole : live_lines_of blocks version plan (pieces_of after) ≡ answers_from blocks version plan [] is.done ++ both
    = serving_whole blocks version plan after pending text both first now count host new is
    (λ before has. answered_more blocks version plan before (pieces_of pending) host new has moved)
    (λ before has. told ∙ texts_are blocks version plan before (pieces_of pending) host has)
    (λ lines has. c.in_ok-close.ensures ∙ ap (λ end. text ++ end) (end_is blocks version plan lines new has)) in
    serving_ends blocks version plan after both first now (g.W.Write.contents c.write_answers.new.output) count pending host is whole wrote

pub returns-in_err-answer-clause-left : goal.returns-in_err-answer-clause-left
returns-in_err-answer-clause-left g c =
    let host = c.args.flow.now.answers.host in
    let pending = c.args.flow.now.pending.items in
    let now = g.W.Write.contents c.args.output.now in
    let left : StopsAtEnd c.args.flow.now now now Memory
    = λ blocks version plan after first is. serving_last blocks version plan after pending first now c.args.flow.now.answers.written host is in
    search rules

pub returns-in_err-close-clause-left : goal.returns-in_err-close-clause-left
returns-in_err-close-clause-left g c =
    let host = c.args.flow.now.answers.host in
    let pending = c.args.flow.now.pending.items in
    let now = g.W.Write.contents c.args.output.now in
    let left : StopsAtEnd c.args.flow.now now now Memory
    = λ blocks version plan after first is. serving_last blocks version plan after pending first now c.args.flow.now.answers.written host is in
    search rules

pub returns-in_err-write_answers-clause-left : goal.returns-in_err-write_answers-clause-left
returns-in_err-write_answers-clause-left g c =
    let host = c.args.flow.now.answers.host in
    let new = c.answer.new.self in
    let pending = c.args.flow.now.pending.items in
    let count = c.args.flow.now.answers.written in
    let now = g.W.Write.contents c.args.output.now in
    let next = g.W.Write.contents c.write_answers.new.output in
    let text = c.answer.new.text.bytes in
    let both = c.close.new.text.bytes in
    let fault = c.in_err-write_answers.field-0.0 in
    let one : pieces_of pending ≡ pending ∷ [] = piece_without_feed pending c.requires in
    let alone : text ≡ [] ++ live_text host pending = rw (c.clear.ensures, c.deref.ensures.value) at c.in_ok-answer.ensures.text in
    let told : text ≡ live_texts host (pieces_of pending) = alone ∙ sym (append-nil (live_text host pending)) ∙ ap (live_texts host) (sym one) in
    let after_one : new ≡ live_after host pending = rw c.deref.ensures.value at c.in_ok-answer.ensures.host in
    let moved : new ≡ fold live_after host (pieces_of pending) = after_one ∙ ap (fold live_after host) (sym one) in
    let stops = c.in_err-write_answers.ensures.left in
    let left : StopsAtEnd c.args.flow.now now next fault
    = λ blocks version plan after first is.
    let before = answers_from blocks version plan [] is.done in
    let whole : live_lines_of blocks version plan (pieces_of after) ≡ before ++ both
    = serving_whole blocks version plan after pending text both first now count host new is
    (λ before has. answered_more blocks version plan before (pieces_of pending) host new has moved)
    (λ before has. told ∙ texts_are blocks version plan before (pieces_of pending) host has)
    (λ lines has. c.in_ok-close.ensures ∙ ap (λ end. text ++ end) (end_is blocks version plan lines new has)) in
    text_leaves blocks version plan (pieces_of after) before both [] first now next count fault (whole ∙ sym (append-nil (before ++ both))) is.counted is.written
    (serving_last blocks version plan after pending first now count host is)
    (λ wrote. inr (serving_ends blocks version plan after both first now next count pending host is whole wrote))
    stops in
    search rules
