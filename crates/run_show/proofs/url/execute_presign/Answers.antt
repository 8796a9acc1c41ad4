use Rattle.std.proofs.Common.{rules}
use Rattle.run_show.proofs.url.execute_presign.Goals as goal

pub returns-in-Ok-clause-made : goal.returns-in-Ok-clause-made
returns-in-Ok-clause-made g c = search rules
