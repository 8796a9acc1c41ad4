use Rattle.upload_promise.proofs.SourceLemmas.{looks_none}
use Rattle.std.specs.Prelude.{IfSome}
use Rattle.s3_model.specs.Validity.{IsValidLimits}
use Rattle.std.proofs.Common.{◌∙◌, Global, map, string_bytes, ap, arith, is_some, subst, sym, inl, inr, None}
use Rattle.s3_model.specs.declared.settings.Limits.{Limits}
use Rattle.job_terms.specs.Gains.{Gains}
use Rattle.job_terms.proofs.GainLemmas.{gains_as}
use Rattle.s3_main.specs.Runs.{GoesAs, StopsFor, Undertakes}
use Rattle.s3_main.specs.Urls.{IsPresigned}
use Rattle.dry_runs.specs.Found.{files_seen}
use Rattle.s3_main.proofs.BeginLemmas as lemma
use Rattle.s3_main.proofs.DryLemmas.{dries_true, dry_does, dry_goes, dry_stops, no_other}
use Rattle.s3_main.proofs.FirstLemmas.{alone_each, alone_others, each_same, first_same, on_each, on_first, others_stay}
use Rattle.s3_main.proofs.ListingLemmas.{listing_does, listing_goes, listing_line_is, listing_stops, same_status}
use Rattle.s3_main.proofs.UrlLemmas.{copy_line, lists, presign_is_no_listing, stopped_line, url_does, url_goes, url_line_is}
use Rattle.run_start.proofs.RestLemmas.{mode_is}
use Rattle.s3_main.proofs.execution.execute.Goals as goal

pub returns-in-Ok-clause-went : goal.returns-in-Ok-clause-went
returns-in-Ok-clause-went g c =
    let words = map (string_bytes {Z = Global}) c.args.words.now in
    let run = c.execute_presign.result.run in
    on_first c.args.wires.now.items c.index_mut.result.now c.execute_presign.new.wire _ (omega (arith, c.requires.wire, c.args.wires.now.ok.0)) c.index_mut.ensures.value
    (gains_as (IsPresigned words (g.E.Env.seen c.read_start.new.env) run) (GoesAs words (g.E.Env.seen c.read_start.new.env) (g.E.Env.allows c.args.env.now) (g.F.Files.seen c.args.files.now)
    (g.F.Files.seen c.args.files.now) (g.F.Files.faults c.args.files.now) (g.F.Files.faults c.args.files.now) run) (λ talks notes url. inr (inr (inl url))) _ _
    (url_goes words _ c.in-Ok.start.command c.in-Ok.start.settings c.in-Ok.ensures.begun (sym c.is_presign.ensures ∙ c.if-is_presign.true) _ _ run c.execute_presign.result.text c.execute_presign.ensures.made))

pub returns-in-Ok-clause-does : goal.returns-in-Ok-clause-does
returns-in-Ok-clause-does g c =
    let words = map (string_bytes {Z = Global}) c.args.words.now in
    inr (inr (inl (url_does words _ c.in-Ok.start.command c.in-Ok.start.settings c.in-Ok.ensures.begun (sym c.is_presign.ensures ∙ c.if-is_presign.true) _ _ c.execute_presign.result.run c.execute_presign.result.text
    c.execute_presign.ensures.made)))

pub returns-in-Ok-clause-text : goal.returns-in-Ok-clause-text
returns-in-Ok-clause-text g c =
    let words = map (string_bytes {Z = Global}) c.args.words.now in
    on_first c.args.wires.now.items c.index_mut.result.now c.execute_presign.new.wire _ (omega (arith, c.requires.wire, c.args.wires.now.ok.0)) c.index_mut.ensures.value
    (url_line_is words _ c.in-Ok.start.command c.in-Ok.start.settings c.in-Ok.ensures.begun (sym c.is_presign.ensures ∙ c.if-is_presign.true) _ _ c.execute_presign.result.run c.execute_presign.result.text
    c.execute_presign.ensures.made)

pub returns-in-Ok-clause-lists : goal.returns-in-Ok-clause-lists
returns-in-Ok-clause-lists g c =
    let words = map (string_bytes {Z = Global}) c.args.words.now in
    same_status _ _ _ (lists words c.in-Ok.start.command c.in-Ok.ensures.begun.rest ∙ presign_is_no_listing c.in-Ok.start.command.verb (sym c.is_presign.ensures ∙ c.if-is_presign.true))

pub returns-in-Ok-2-clause-went : goal.returns-in-Ok-2-clause-went
returns-in-Ok-2-clause-went g c =
    let words = map (string_bytes {Z = Global}) c.args.words.now in
    let run = c.execute_listing.result.executed.run in
    listing_goes words c.execute_listing.result.executed.run c.execute_listing.result.executed.text c.execute_listing.result.missed (g.E.Env.seen c.read_start.new.env) c.in-Ok.start.command c.in-Ok.start.settings c.in-Ok.ensures.begun (sym c.is_listing.ensures ∙ c.if-is_listing.true) g.W.Wire.seen c.args.wires.now.items c.execute_listing.new.wires.items c.execute_listing.ensures.listed
    (GoesAs words (g.E.Env.seen c.read_start.new.env) (g.E.Env.allows c.args.env.now) (g.F.Files.seen c.args.files.now) (g.F.Files.seen c.args.files.now) (g.F.Files.faults c.args.files.now) (g.F.Files.faults c.args.files.now) run)
    (λ talks notes listed. inr (inr (inr (inl listed))))

pub returns-in-Ok-2-clause-text : goal.returns-in-Ok-2-clause-text
returns-in-Ok-2-clause-text g c =
    let words = map (string_bytes {Z = Global}) c.args.words.now in
    listing_line_is words c.execute_listing.result.executed.run c.execute_listing.result.executed.text c.execute_listing.result.missed (g.E.Env.seen c.read_start.new.env) c.in-Ok.start.command c.in-Ok.start.settings c.in-Ok.ensures.begun (sym c.is_listing.ensures ∙ c.if-is_listing.true) g.W.Wire.seen c.args.wires.now.items c.execute_listing.new.wires.items c.execute_listing.ensures.listed

pub returns-in-Ok-2-clause-lists : goal.returns-in-Ok-2-clause-lists
returns-in-Ok-2-clause-lists g c =
    let words = map (string_bytes {Z = Global}) c.args.words.now in
    same_status _ _ _ (lists words c.in-Ok.start.command c.in-Ok.ensures.begun.rest ∙ (sym c.is_listing.ensures ∙ c.if-is_listing.true) ∙ sym c.execute_listing.ensures.lists)

pub returns-in-Ok-2-clause-stops : goal.returns-in-Ok-2-clause-stops
returns-in-Ok-2-clause-stops g c =
    let words = map (string_bytes {Z = Global}) c.args.words.now in
    listing_stops words c.execute_listing.result.executed.run c.execute_listing.result.executed.text c.execute_listing.result.missed (g.E.Env.seen c.read_start.new.env) c.in-Ok.start.command c.in-Ok.start.settings c.in-Ok.ensures.begun (sym c.is_listing.ensures ∙ c.if-is_listing.true) _ _ _ _ c.execute_listing.result.executed.run.fatal c.execute_listing.ensures.stops

pub returns-in-Ok-2-clause-does : goal.returns-in-Ok-2-clause-does
returns-in-Ok-2-clause-does g c =
    let words = map (string_bytes {Z = Global}) c.args.words.now in
    inr (inr (inr (inl (listing_does words c.execute_listing.result.executed.run c.execute_listing.result.executed.text c.execute_listing.result.missed (g.E.Env.seen c.read_start.new.env) c.in-Ok.start.command c.in-Ok.start.settings c.in-Ok.ensures.begun (sym c.is_listing.ensures ∙ c.if-is_listing.true) g.W.Wire.seen c.args.wires.now.items c.execute_listing.new.wires.items c.execute_listing.ensures.listed))))

pub returns-in-Ok-4-clause-went : goal.returns-in-Ok-4-clause-went
returns-in-Ok-4-clause-went g c =
    let words = map (string_bytes {Z = Global}) c.args.words.now in
    on_first c.args.wires.now.items c.index_mut-in-Ok-4.result.now c.execute_command.new.wire _ (omega (arith, c.requires.wire, c.args.wires.now.ok.0)) c.index_mut-in-Ok-4.ensures.value
    (subst (λ (limits : Limits). Gains (g.W.Wire.seen c.index_mut-in-Ok-4.result.now) (g.W.Wire.seen c.execute_command.new.wire) (GoesAs words (g.E.Env.seen c.read_start.new.env) limits (g.F.Files.seen c.args.files.now)
    (g.F.Files.seen c.execute_command.new.files) (g.F.Files.faults c.args.files.now) (g.F.Files.faults c.execute_command.new.files) c.execute_command.result.run)) c.limits-limits.ensures.value
    (lemma.begun_goes words _ 0 0 _ _ _ _ _ c.execute_command.result.run c.in-Ok.start.command c.in-Ok.start.settings c.in-Ok.ensures.begun (sym c.is_presign.ensures ∙ c.if-is_presign.false)
    (sym c.is_listing.ensures ∙ c.if-is_listing.false) (c.in-Ok.ensures.carried (sym c.is_presign.ensures ∙ c.if-is_presign.false) (sym c.is_listing.ensures ∙ c.if-is_listing.false) (sym c.is_offline_dry_run.ensures ∙ c.if-is_offline_dry_run.false)) _ _ c.execute_command.ensures.went))

pub returns-in-Ok-4-clause-text : goal.returns-in-Ok-4-clause-text
returns-in-Ok-4-clause-text g c =
    let words = map (string_bytes {Z = Global}) c.args.words.now in
    on_first c.args.wires.now.items c.index_mut-in-Ok-4.result.now c.execute_command.new.wire _ (omega (arith, c.requires.wire, c.args.wires.now.ok.0)) c.index_mut-in-Ok-4.ensures.value
    (copy_line words _ _ _ c.execute_command.result.run c.execute_command.result.text c.in-Ok.start.command c.in-Ok.ensures.begun.rest (sym c.is_presign.ensures ∙ c.if-is_presign.false)
    (sym c.is_listing.ensures ∙ c.if-is_listing.false) c.execute_command.ensures.text)

pub returns-in-Ok-4-clause-lists : goal.returns-in-Ok-4-clause-lists
returns-in-Ok-4-clause-lists g c =
    let words = map (string_bytes {Z = Global}) c.args.words.now in
    same_status _ _ _ (lists words c.in-Ok.start.command c.in-Ok.ensures.begun.rest ∙ (sym c.is_listing.ensures ∙ c.if-is_listing.false))

pub execute_command-requires-clause-mode : goal.execute_command-requires-clause-mode
execute_command-requires-clause-mode g c =
    mode_is (map (string_bytes {Z = Global}) c.args.words.now) c.in-Ok.start.command c.in-Ok.ensures.begun.rest

pub returns-in-Ok-4-clause-files : goal.returns-in-Ok-4-clause-files
returns-in-Ok-4-clause-files g c =
    inl (lemma.looks_words (map (string_bytes {Z = Global}) c.args.words.now) c.in-Ok.start.command c.in-Ok.ensures.begun.rest _ _ c.execute_command.ensures.files)

pub returns-in-Err-clause-went : goal.returns-in-Err-clause-went
returns-in-Err-clause-went g c =
    first_same c.args.wires.now.items _ (omega (arith, c.requires.wire, c.args.wires.now.ok.0))
    (λ wire. lemma.early_goes (map (string_bytes {Z = Global}) c.args.words.now) _ _ _ _ _ _ _ _ c.end_early.result.run _ c.in-Err.fatal c.end_early.ensures.run c.in-Err.ensures.stops)

pub returns-in-Err-clause-text : goal.returns-in-Err-clause-text
returns-in-Err-clause-text g c =
    first_same c.args.wires.now.items _ (omega (arith, c.requires.wire, c.args.wires.now.ok.0))
    (λ wire. stopped_line (map (string_bytes {Z = Global}) c.args.words.now) _ _ _ c.end_early.result.run c.end_early.result.text (ap is_some c.end_early.ensures.run.fatal) c.end_early.ensures.text)

pub returns-in-Ok-clause-valid : goal.returns-in-Ok-clause-valid
returns-in-Ok-clause-valid g c = subst IsValidLimits c.limits-limits.ensures.value c.limits-limits.ensures.valid

pub returns-in-Ok-clause-files : goal.returns-in-Ok-clause-files
returns-in-Ok-clause-files g c = inl (looks_none _ _)

pub returns-in-Ok-clause-asked : goal.returns-in-Ok-clause-asked
returns-in-Ok-clause-asked g c = c.read_start.ensures.asked

pub returns-in-Ok-clause-env_later : goal.returns-in-Ok-clause-env_later
returns-in-Ok-clause-env_later g c = c.read_start.ensures.later

pub returns-in-Ok-2-clause-valid : goal.returns-in-Ok-2-clause-valid
returns-in-Ok-2-clause-valid g c = subst IsValidLimits c.limits-limits.ensures.value c.limits-limits.ensures.valid

pub returns-in-Ok-2-clause-files : goal.returns-in-Ok-2-clause-files
returns-in-Ok-2-clause-files g c = inl (looks_none _ _)

pub returns-in-Ok-2-clause-asked : goal.returns-in-Ok-2-clause-asked
returns-in-Ok-2-clause-asked g c = c.read_start.ensures.asked

pub returns-in-Ok-2-clause-env_later : goal.returns-in-Ok-2-clause-env_later
returns-in-Ok-2-clause-env_later g c = c.read_start.ensures.later

pub returns-in-Ok-4-clause-valid : goal.returns-in-Ok-4-clause-valid
returns-in-Ok-4-clause-valid g c = subst IsValidLimits c.limits-limits.ensures.value c.limits-limits.ensures.valid

pub returns-in-Ok-4-clause-asked : goal.returns-in-Ok-4-clause-asked
returns-in-Ok-4-clause-asked g c = c.read_start.ensures.asked

pub returns-in-Ok-4-clause-env_later : goal.returns-in-Ok-4-clause-env_later
returns-in-Ok-4-clause-env_later g c = c.read_start.ensures.later

pub returns-in-Err-clause-valid : goal.returns-in-Err-clause-valid
returns-in-Err-clause-valid g c = subst IsValidLimits c.limits-limits.ensures.value c.limits-limits.ensures.valid

pub returns-in-Err-clause-files : goal.returns-in-Err-clause-files
returns-in-Err-clause-files g c = inl (looks_none _ _)

pub returns-in-Err-clause-asked : goal.returns-in-Err-clause-asked
returns-in-Err-clause-asked g c = c.read_start.ensures.asked

pub returns-in-Err-clause-env_later : goal.returns-in-Err-clause-env_later
returns-in-Err-clause-env_later g c = c.read_start.ensures.later

pub returns-in-Ok-4-clause-files_later : goal.returns-in-Ok-4-clause-files_later
returns-in-Ok-4-clause-files_later g c = c.execute_command.ensures.files_later

pub returns-in-Ok-4-clause-stops : goal.returns-in-Ok-4-clause-stops
returns-in-Ok-4-clause-stops g c =
    let words = map (string_bytes {Z = Global}) c.args.words.now in
    subst (λ (limits : Limits). IfSome c.execute_command.result.run.fatal (StopsFor words (g.E.Env.seen c.read_start.new.env) (g.E.Env.faults c.args.env.now) (g.E.Env.faults c.read_start.new.env) limits
    (files_seen (g.F.Files.seen c.args.files.now) (g.F.Files.seen c.execute_command.new.files) (g.F.Files.faults c.args.files.now) (g.F.Files.faults c.execute_command.new.files)))) c.limits-limits.ensures.value
    (lemma.begun_stops words _ _ _ _ _ _ _ _ c.execute_command.result.run c.in-Ok.start.command c.in-Ok.start.settings c.in-Ok.ensures.begun (sym c.is_presign.ensures ∙ c.if-is_presign.false)
    (sym c.is_listing.ensures ∙ c.if-is_listing.false) (c.in-Ok.ensures.carried (sym c.is_presign.ensures ∙ c.if-is_presign.false) (sym c.is_listing.ensures ∙ c.if-is_listing.false) (sym c.is_offline_dry_run.ensures ∙ c.if-is_offline_dry_run.false)) c.execute_command.ensures.stops)

pub returns-in-Ok-4-clause-does : goal.returns-in-Ok-4-clause-does
returns-in-Ok-4-clause-does g c =
    let words = map (string_bytes {Z = Global}) c.args.words.now in
    subst (λ (limits : Limits). Undertakes words limits (g.F.Files.faults c.args.files.now) (g.F.Files.faults c.execute_command.new.files) c.execute_command.result.run) c.limits-limits.ensures.value
    (lemma.begun_does words (g.E.Env.seen c.read_start.new.env) 0 0 _ None None _ _ c.execute_command.result.run c.in-Ok.start.command c.in-Ok.start.settings c.in-Ok.ensures.begun (sym c.is_presign.ensures ∙ c.if-is_presign.false)
    (sym c.is_listing.ensures ∙ c.if-is_listing.false) (c.in-Ok.ensures.carried (sym c.is_presign.ensures ∙ c.if-is_presign.false) (sym c.is_listing.ensures ∙ c.if-is_listing.false) (sym c.is_offline_dry_run.ensures ∙ c.if-is_offline_dry_run.false)) c.execute_command.ensures.does)

pub returns-in-Err-clause-stops : goal.returns-in-Err-clause-stops
returns-in-Err-clause-stops g c =
    lemma.early_stops (map (string_bytes {Z = Global}) c.args.words.now) _ _ _ _ _ _ _ _ c.end_early.result.run c.in-Err.fatal c.end_early.ensures.run c.in-Err.ensures.stops

pub returns-in-Err-clause-does : goal.returns-in-Err-clause-does
returns-in-Err-clause-does g c =
    lemma.early_does (map (string_bytes {Z = Global}) c.args.words.now) (g.E.Env.seen c.read_start.new.env) (g.E.Env.faults c.args.env.now) (g.E.Env.faults c.read_start.new.env) _ None None _ _ c.end_early.result.run c.in-Err.fatal
    c.end_early.ensures.run c.in-Err.ensures.stops

pub returns-in-Ok-3-clause-went : goal.returns-in-Ok-3-clause-went
returns-in-Ok-3-clause-went g c =
    let words = map (string_bytes {Z = Global}) c.args.words.now in
    first_same c.args.wires.now.items _ (omega (arith, c.requires.wire, c.args.wires.now.ok.0))
    (λ wire. subst (λ (limits : Limits). Gains (g.W.Wire.seen wire) (g.W.Wire.seen wire) (GoesAs words (g.E.Env.seen c.read_start.new.env) limits (g.F.Files.seen c.args.files.now)
    (g.F.Files.seen c.execute_dry_run.new.files) (g.F.Files.faults c.args.files.now) (g.F.Files.faults c.execute_dry_run.new.files) c.execute_dry_run.result.run)) c.limits-limits.ensures.value
    (dry_goes words _ 0 0 _ _ _ _ _ c.in-Ok.start.command c.in-Ok.start.settings c.in-Ok.ensures.begun (sym c.is_offline_dry_run.ensures ∙ c.if-is_offline_dry_run.true) c.execute_dry_run.result.run c.execute_dry_run.ensures.went _))

pub returns-in-Ok-3-clause-text : goal.returns-in-Ok-3-clause-text
returns-in-Ok-3-clause-text g c =
    let words = map (string_bytes {Z = Global}) c.args.words.now in
    let other = no_other c.in-Ok.start.command (sym c.is_offline_dry_run.ensures ∙ c.if-is_offline_dry_run.true) in
    first_same c.args.wires.now.items _ (omega (arith, c.requires.wire, c.args.wires.now.ok.0))
    (λ wire. copy_line words _ _ _ c.execute_dry_run.result.run c.execute_dry_run.result.text c.in-Ok.start.command c.in-Ok.ensures.begun.rest other.0 other.1 c.execute_dry_run.ensures.text)

pub returns-in-Ok-3-clause-lists : goal.returns-in-Ok-3-clause-lists
returns-in-Ok-3-clause-lists g c =
    let words = map (string_bytes {Z = Global}) c.args.words.now in
    same_status _ _ _ (lists words c.in-Ok.start.command c.in-Ok.ensures.begun.rest ∙ (sym c.is_listing.ensures ∙ c.if-is_listing.false))

pub execute_dry_run-requires-clause-mode : goal.execute_dry_run-requires-clause-mode
execute_dry_run-requires-clause-mode g c =
    mode_is (map (string_bytes {Z = Global}) c.args.words.now) c.in-Ok.start.command c.in-Ok.ensures.begun.rest

pub execute_dry_run-requires-clause-offline : goal.execute_dry_run-requires-clause-offline
execute_dry_run-requires-clause-offline g c = c.in-Ok.ensures.offline (sym c.is_offline_dry_run.ensures ∙ c.if-is_offline_dry_run.true)

pub returns-in-Ok-3-clause-files : goal.returns-in-Ok-3-clause-files
returns-in-Ok-3-clause-files g c =
    let words = map (string_bytes {Z = Global}) c.args.words.now in
    inr (dries_true words c.in-Ok.start.command c.in-Ok.ensures.begun.rest (sym c.is_offline_dry_run.ensures ∙ c.if-is_offline_dry_run.true), c.execute_dry_run.ensures.kept)

pub returns-in-Ok-3-clause-valid : goal.returns-in-Ok-3-clause-valid
returns-in-Ok-3-clause-valid g c = subst IsValidLimits c.limits-limits.ensures.value c.limits-limits.ensures.valid

pub returns-in-Ok-3-clause-asked : goal.returns-in-Ok-3-clause-asked
returns-in-Ok-3-clause-asked g c = c.read_start.ensures.asked

pub returns-in-Ok-3-clause-env_later : goal.returns-in-Ok-3-clause-env_later
returns-in-Ok-3-clause-env_later g c = c.read_start.ensures.later

pub returns-in-Ok-3-clause-files_later : goal.returns-in-Ok-3-clause-files_later
returns-in-Ok-3-clause-files_later g c = c.execute_dry_run.ensures.later

pub returns-in-Ok-3-clause-stops : goal.returns-in-Ok-3-clause-stops
returns-in-Ok-3-clause-stops g c =
    let words = map (string_bytes {Z = Global}) c.args.words.now in
    subst (λ (limits : Limits). IfSome c.execute_dry_run.result.run.fatal (StopsFor words (g.E.Env.seen c.read_start.new.env) (g.E.Env.faults c.args.env.now) (g.E.Env.faults c.read_start.new.env) limits
    (files_seen (g.F.Files.seen c.args.files.now) (g.F.Files.seen c.execute_dry_run.new.files) (g.F.Files.faults c.args.files.now) (g.F.Files.faults c.execute_dry_run.new.files)))) c.limits-limits.ensures.value
    (dry_stops words _ _ _ _ _ _ _ _ c.in-Ok.start.command c.in-Ok.start.settings c.in-Ok.ensures.begun (sym c.is_offline_dry_run.ensures ∙ c.if-is_offline_dry_run.true) c.execute_dry_run.result.run c.execute_dry_run.ensures.went)

pub returns-in-Ok-3-clause-does : goal.returns-in-Ok-3-clause-does
returns-in-Ok-3-clause-does g c =
    let words = map (string_bytes {Z = Global}) c.args.words.now in
    subst (λ (limits : Limits). Undertakes words limits (g.F.Files.faults c.args.files.now) (g.F.Files.faults c.execute_dry_run.new.files) c.execute_dry_run.result.run) c.limits-limits.ensures.value
    (dry_does words (g.E.Env.seen c.read_start.new.env) 0 0 _ _ _ _ _ c.in-Ok.start.command c.in-Ok.start.settings c.in-Ok.ensures.begun (sym c.is_offline_dry_run.ensures ∙ c.if-is_offline_dry_run.true) c.execute_dry_run.result.run c.execute_dry_run.ensures.went)

pub returns-in-Ok-clause-wires_later : goal.returns-in-Ok-clause-wires_later
returns-in-Ok-clause-wires_later g c =
    on_each c.args.wires.now.items c.index_mut.result.now c.execute_presign.new.wire _ (λ wire. omega arith) (omega (arith, c.requires.wire, c.args.wires.now.ok.0)) c.index_mut.ensures.value
    c.execute_presign.ensures.later

pub returns-in-Ok-clause-others : goal.returns-in-Ok-clause-others
returns-in-Ok-clause-others g c =
    others_stay c.args.wires.now.items _ (omega (arith, c.requires.wire, c.args.wires.now.ok.0))

pub returns-in-Ok-4-clause-wires_later : goal.returns-in-Ok-4-clause-wires_later
returns-in-Ok-4-clause-wires_later g c =
    on_each c.args.wires.now.items c.index_mut-in-Ok-4.result.now c.execute_command.new.wire _ (λ wire. omega arith) (omega (arith, c.requires.wire, c.args.wires.now.ok.0)) c.index_mut-in-Ok-4.ensures.value
    c.execute_command.ensures.wire_later

pub returns-in-Ok-4-clause-others : goal.returns-in-Ok-4-clause-others
returns-in-Ok-4-clause-others g c =
    others_stay c.args.wires.now.items _ (omega (arith, c.requires.wire, c.args.wires.now.ok.0))

pub returns-in-Ok-3-clause-wires_later : goal.returns-in-Ok-3-clause-wires_later
returns-in-Ok-3-clause-wires_later g c =
    each_same _ (λ wire. omega arith) c.args.wires.now.items

pub returns-in-Err-clause-wires_later : goal.returns-in-Err-clause-wires_later
returns-in-Err-clause-wires_later g c =
    each_same _ (λ wire. omega arith) c.args.wires.now.items

pub returns-in-Ok-2-clause-others : goal.returns-in-Ok-2-clause-others
returns-in-Ok-2-clause-others g c =
    alone_others c.args.wires.now.items c.execute_listing.new.wires.items _ c.execute_listing.ensures.later

pub returns-in-Ok-2-clause-wires_later : goal.returns-in-Ok-2-clause-wires_later
returns-in-Ok-2-clause-wires_later g c =
    alone_each c.args.wires.now.items c.execute_listing.new.wires.items _ (λ wire. omega arith) c.execute_listing.ensures.later
