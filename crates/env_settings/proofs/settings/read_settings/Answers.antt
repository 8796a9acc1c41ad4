use Rattle.std.proofs.Common.{sym}
use Rattle.env_settings.proofs.AskLemmas.{asks_found}
use Rattle.env_settings.proofs.ReadLemmas.{paths_found, settled, still}
use Rattle.env_settings.proofs.settings.read_settings.Goals as goal

pub returns-clause-asked : goal.returns-clause-asked
returns-clause-asked g c =
    let read = c.in_ok-paths.ensures in
    asks_found _ _ _ _ _ _ _ _ _ read.later read.same (paths_found _ _ _ read.config read.credentials) c.read_at-settings.ensures.asked

pub returns-clause-settings : goal.returns-clause-settings
returns-clause-settings g c =
    let read = c.in_ok-paths.ensures in
    settled c.args.region c.args.profile _ _ _ _ _ _ _ _ _ (still _ _ _ (sym read.same) read.config) (still _ _ _ (sym read.same) read.credentials) (still _ _ _ (sym read.same) read.words)
    c.read_at-settings.ensures.asked c.read_at-settings.ensures.settings
