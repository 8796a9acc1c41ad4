use Rattle.std.proofs.Common.{◌≡◌, ◌≤◌, Global, false, true, map, string_bytes, subst, sym}
use Rattle.s3_words.specs.declared.commands.Command.{Command}
use Rattle.s3_model.specs.Places.{IsListed}
use Rattle.s3_words.specs.Options.{is_listing, is_presign}
use Rattle.s3_words.specs.Commands.{NamesObject}
use Rattle.upload_plans.specs.Commands.{CopiesUp, IsOffline, is_offline_dry_run}
use Rattle.upload_plans.proofs.WordLemmas.{copies_up, is_offline, names_listed, names_object}
use Rattle.run_start.proofs.ExpiryLemmas.{expires_within}
use Rattle.run_start.proofs.start.read_start.Goals as goal

pub returns-in-Ok-clause-copies : goal.returns-in-Ok-clause-copies
returns-in-Ok-clause-copies g c =
    subst (λ (command : Command). is_presign command.verb ≡ false → is_listing command.verb ≡ false → is_offline_dry_run command ≡ false → CopiesUp command) (sym c.in-Ok.ensures.rest) (λ other none carried.
    let read = c.in_ok-command.ensures.read in
    let up = (copies_up (map (string_bytes {Z = Global}) c.args.words.now) c.in_ok-command.command read.no_fault read.is_command read.built other none carried).0 in
    record { from = up.from; to = up.to })

pub returns-in-Ok-clause-carried : goal.returns-in-Ok-clause-carried
returns-in-Ok-clause-carried g c =
    subst (λ (command : Command). is_presign command.verb ≡ false → is_listing command.verb ≡ false → is_offline_dry_run command ≡ false → command.mode.dryrun ≡ false) (sym c.in-Ok.ensures.rest) (λ other none carried.
    let read = c.in_ok-command.ensures.read in
    (copies_up (map (string_bytes {Z = Global}) c.args.words.now) c.in_ok-command.command read.no_fault read.is_command read.built other none carried).1)

pub returns-in-Ok-clause-offline : goal.returns-in-Ok-clause-offline
returns-in-Ok-clause-offline g c =
    subst (λ (command : Command). is_offline_dry_run command ≡ true → IsOffline command) (sym c.in-Ok.ensures.rest) (λ dry.
    let read = c.in_ok-command.ensures.read in
    let off = is_offline (map (string_bytes {Z = Global}) c.args.words.now) c.in_ok-command.command read.no_fault read.is_command dry in
    record { copies = λ none. let up = off.copies none in record { from = up.from; to = up.to }; removes = off.removes })

pub returns-in-Ok-clause-object : goal.returns-in-Ok-clause-object
returns-in-Ok-clause-object g c =
    subst (λ (command : Command). is_presign command.verb ≡ true → NamesObject command) (sym c.in-Ok.ensures.rest) (λ presign.
    let read = c.in_ok-command.ensures.read in
    names_object (map (string_bytes {Z = Global}) c.args.words.now) c.in_ok-command.command read.no_fault read.is_command presign)

pub returns-in-Ok-clause-least : goal.returns-in-Ok-clause-least
returns-in-Ok-clause-least g c =
    subst (λ (command : Command). 1 ≤ command.expires) (sym c.in-Ok.ensures.rest)
    (expires_within (map (string_bytes {Z = Global}) c.args.words.now) c.in_ok-command.command c.in_ok-command.ensures.read.is_command).0

pub returns-in-Ok-clause-most : goal.returns-in-Ok-clause-most
returns-in-Ok-clause-most g c =
    subst (λ (command : Command). command.expires ≤ 604800) (sym c.in-Ok.ensures.rest)
    (expires_within (map (string_bytes {Z = Global}) c.args.words.now) c.in_ok-command.command c.in_ok-command.ensures.read.is_command).1

pub returns-in-Ok-clause-listed : goal.returns-in-Ok-clause-listed
returns-in-Ok-clause-listed g c =
    subst (λ (command : Command). is_listing command.verb ≡ true → IsListed command.from) (sym c.in-Ok.ensures.rest) (λ listing.
    let read = c.in_ok-command.ensures.read in
    names_listed (map (string_bytes {Z = Global}) c.args.words.now) c.in_ok-command.command read.no_fault read.is_command listing)

pub returns-in-Ok-clause-attempts : goal.returns-in-Ok-clause-attempts
returns-in-Ok-clause-attempts g c = c.in-Ok.ensures.valid.attempts

pub returns-in-Ok-clause-begun : goal.returns-in-Ok-clause-begun
returns-in-Ok-clause-begun g c = record {
  rest = record { whole = c.in_ok-command.command; reads = c.in_ok-command.ensures.read; is = c.in-Ok.ensures.rest };
  settled = c.in-Ok.ensures.settled;
  valid = c.in-Ok.ensures.valid;
}
