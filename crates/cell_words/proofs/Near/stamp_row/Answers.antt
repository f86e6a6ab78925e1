-- `cell_words::Near::stamp_row` meets its contract: the word that is made says what the marks do. Assumes nothing.
use Rattle.cell_words.proofs.NearLaws.{made}
use Rattle.cell_words.proofs.Near.stamp_row.Goals as goal

pub returns : goal.returns
returns c = made c.args.marked.stamping c.requires.y_lt_height c.requires.stamped c.row_word.result c.row_word.ensures
