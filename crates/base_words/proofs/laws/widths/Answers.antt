use Rattle.base_words.proofs.Bytes.{read_fits, cut_is, cut_one, cut_two, cut_four, read_add}
use Rattle.base_words.proofs.laws.widths.Goals as goal

pub returns-clause-fits : goal.returns-clause-fits
returns-clause-fits c = read_fits

pub returns-clause-cut_is : goal.returns-clause-cut_is
returns-clause-cut_is c = cut_is

pub returns-clause-byte : goal.returns-clause-byte
returns-clause-byte c = cut_one

pub returns-clause-half : goal.returns-clause-half
returns-clause-half c = cut_two

pub returns-clause-word_sized : goal.returns-clause-word_sized
returns-clause-word_sized c = cut_four

pub returns-clause-parts : goal.returns-clause-parts
returns-clause-parts c = read_add
