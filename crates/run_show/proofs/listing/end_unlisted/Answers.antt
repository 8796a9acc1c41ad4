use Rattle.std.proofs.Common.{[], Some, Global, map, string_bytes}
use Rattle.run_report.proofs.TextLemmas.{silent_text}
use Rattle.run_show.proofs.listing.end_unlisted.Goals as goal

pub returns-clause-text : goal.returns-clause-text
returns-clause-text c =
    let has = c.listing_run.ensures.listed in
    silent_text (map (string_bytes {Z = Global}) c.args.words.now) [] c.listing_run.result c.ending_text-text.result has.nothing.no_task (Some c.args.fatal) has.nothing.no_skip has.nothing.no_warning has.fatal
    c.ending_text-text.ensures.text c.ending_text-text.ensures.memory
