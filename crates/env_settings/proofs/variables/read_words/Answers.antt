use Rattle.env_settings.proofs.ReadLemmas.{words_read}
use Rattle.env_settings.proofs.variables.read_words.Goals as goal

pub returns-in-Ok-read_choice-clause-value : goal.returns-in-Ok-read_choice-clause-value
returns-in-Ok-read_choice-clause-value g c =
    let keys = c.in-Ok.ensures in
    let choice = c.in-Ok-read_choice.ensures in
    words_read _ _ _ _ _ _ c.args.region c.args.profile _ _ _ c.words_of.ensures choice.named keys.same keys.id keys.secret keys.token choice.region choice.profile
