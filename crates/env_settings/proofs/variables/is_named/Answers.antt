use Rattle.std.proofs.Common.{rules}
use Rattle.env_settings.proofs.variables.is_named.Goals as goal

pub returns : goal.returns
returns c = search rules
