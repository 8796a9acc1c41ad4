use Rattle.std.proofs.Common.{rules}
use Rattle.env_settings.proofs.ReadLemmas.{still}
use Rattle.env_settings.proofs.variables.read_paths.Goals as goal

pub returns-in-Ok-clause-config : goal.returns-in-Ok-clause-config
returns-in-Ok-clause-config g c = search rules

pub returns-in-Ok-clause-credentials : goal.returns-in-Ok-clause-credentials
returns-in-Ok-clause-credentials g c = still _ _ _ c.in_ok-config.ensures.same c.in-Ok.ensures.value
