use Rattle.std.proofs.Common.{arith}
use Rattle.http_exchange.proofs.BodyLemmas.{no_line_end, half_line_end}
use Rattle.http_exchange.proofs.form.LineEndForm.read.Goals as goal

pub returns-in-empty : goal.returns-in-empty
returns-in-empty c = (no_line_end c.args.bytes.now (omega arith), omega arith)

pub returns-in-len1 : goal.returns-in-len1
returns-in-len1 c = (half_line_end c.args.bytes.now (omega arith) c.if-only-eq13.true, omega arith)
