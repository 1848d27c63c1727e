use Rattle.bs_json.proofs.CellTexts.{row_is}
use Rattle.bs_json.proofs.cell_texts.row_text.Goals as goal

pub returns : goal.returns
returns c = row_is c.args.row c.from.result c.from.ensures c.requires
