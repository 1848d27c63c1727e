-- Food made up word by word.
use Rattle.std.proofs.Common.{◌≡◌, ◌∙◌, ℕ, ◌+◌, ◌<◌, List, length, take, get_or, fold, sym, ap}
use Rattle.std.proofs.lemmas.List.Sums.{fold_more}
use Rattle.bs_board.specs.declared.boards.board.Board.{Board}
use Rattle.bs_food.specs.Spawning.{with_one_food}

-- the board after some of the words
abbrev pub after_words : Board → List ℕ → Board
after_words b words = fold (λ c word. with_one_food word c) b words

pub one_word_more : (b now next : Board) (words : List ℕ) (i : ℕ) (word : ℕ) → i < length words → word ≡ get_or words i word
    → now ≡ after_words b (take i words) → next ≡ with_one_food word now → next ≡ after_words b (take (i + 1) words)
one_word_more b now next words i word within is so_far step =
    let more : after_words b (take (i + 1) words) ≡ with_one_food word (after_words b (take i words)) =
    fold_more (λ c w. with_one_food w c) b words i word within ∙ ap (λ w. with_one_food w (after_words b (take i words))) (sym is) in
    rw (step, so_far) (sym more)
