use Rattle.std.proofs.Common.{rules}
use Rattle.env_settings.proofs.AskLemmas.{asks_both}
use Rattle.env_settings.proofs.files.read_files.Goals as goal

pub returns-in_err-credentials-clause-asked : goal.returns-in_err-credentials-clause-asked
returns-in_err-credentials-clause-asked g c =
    asks_both c.args.paths.now.config c.args.paths.now.credentials _ _ _ _ _ _ _ c.in_ok-config.ensures.later c.in_err-credentials.ensures.later
    c.in_ok-config.ensures.asked c.in_err-credentials.ensures.asked

pub returns-clause-asked : goal.returns-clause-asked
returns-clause-asked g c =
    asks_both c.args.paths.now.config c.args.paths.now.credentials _ _ _ _ _ _ _ c.in_ok-config.ensures.later c.in_ok-credentials.ensures.later
    c.in_ok-config.ensures.asked c.in_ok-credentials.ensures.asked

pub returns-in_err-config-clause-asked : goal.returns-in_err-config-clause-asked
returns-in_err-config-clause-asked g c = search rules
