use Rattle.bs_batch.specs.Starting.{piece_of}
use Rattle.bs_batch.proofs.Stepping.{few_taken}
use Rattle.bs_batch.proofs.many.orders_of.Goals as goal

pub returns-clause-words : goal.returns-clause-words
returns-clause-words c =
    few_taken 32 c.min-few.result c.piece-words.result.now (piece_of c.args.orders.now.words.now c.args.number c.args.orders.now.words_each)
    c.min-few.ensures c.piece-words.ensures
