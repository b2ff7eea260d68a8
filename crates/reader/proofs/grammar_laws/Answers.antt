use Rattle.std.proofs.Common.{length, ap, arith}
use Rattle.reader.proofs.Sizes.{text_of, text_size}
use Rattle.reader.proofs.Texts.{one_sheet}
use Rattle.reader.proofs.grammar_laws.Goals as goal

pub returns : goal.returns
returns c = record { each = text_of; one = one_sheet; longest = λ bytes s t. omega (arith, text_size s t.params t.fits t.stands, ap length t.spelled) }
