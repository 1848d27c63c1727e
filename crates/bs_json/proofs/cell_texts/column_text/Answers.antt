use Rattle.bs_json.proofs.CellTexts.{column_is}
use Rattle.bs_json.proofs.cell_texts.column_text.Goals as goal

pub returns : goal.returns
returns c = column_is c.args.lead c.args.column c.from.result c.from.ensures c.requires
