-- The sorts of bytes, by names that other crates can use.
use Rattle.std.proofs.Common.{ℕ}
use Rattle.reply_xml.specs.declared.runs.Sort.{Sort}
use Rattle.reply_xml.specs.declared.runs.Sort.TheVariants as sort

abbrev pub space : Sort
space = sort.Space

abbrev pub text : Sort
text = sort.Text

abbrev pub value : ℕ → Sort
value quote = sort.Value quote
