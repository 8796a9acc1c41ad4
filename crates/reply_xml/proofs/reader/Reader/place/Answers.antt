use Rattle.std.proofs.Common.{rules}
use Rattle.reply_xml.proofs.reader.Reader.place.Goals as goal

pub returns : goal.returns
returns c = search rules
