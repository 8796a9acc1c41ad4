use Rattle.env_settings.proofs.ReadLemmas.{second_read}
use Rattle.env_settings.proofs.variables.read_either.Goals as goal

pub returns-in-None-clause-value : goal.returns-in-None-clause-value
returns-in-None-clause-value g c =
    second_read _ _ _ _ _ _ c.in-None.is c.in_ok-word.ensures.same c.in_ok-word.ensures.value c.read_usable-in-None.ensures.value
