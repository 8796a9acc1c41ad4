use Rattle.std.proofs.Common.{◌∙◌}
use Rattle.env_settings.proofs.ReadLemmas.{still}
use Rattle.env_settings.proofs.variables.read_keys.Goals as goal

pub returns-clause-secret : goal.returns-clause-secret
returns-clause-secret g c = still _ _ _ c.in_ok-id.ensures.same c.in_ok-secret.ensures.value

pub returns-clause-token : goal.returns-clause-token
returns-clause-token g c = still _ _ _ (c.in_ok-secret.ensures.same ∙ c.in_ok-id.ensures.same) c.in_ok-token.ensures.value
