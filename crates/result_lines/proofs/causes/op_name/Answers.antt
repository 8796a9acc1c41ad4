use Rattle.std.proofs.Common.{ap, sym}
use Rattle.s3_model.specs.declared.requests.Op.{Op}
use Rattle.result_lines.specs.Causes.{op_name}
use Rattle.result_lines.proofs.causes.op_name.Goals as goal

pub returns-in-Part : goal.returns-in-Part
returns-in-Part c = sym (ap (λ (op : Op). op_name op) c.in-Part.is)
