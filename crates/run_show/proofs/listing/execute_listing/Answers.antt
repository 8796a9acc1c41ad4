use Rattle.std.proofs.Common.{◌≤◌, List, ap, arith, length, subst, sym}
use Rattle.job_terms.specs.Gains.{Gains}
use Rattle.question_runs.specs.Asked.{log_of}
use Rattle.s3_model.specs.declared.outcomes.Event.{Event}
use Rattle.run_show.specs.Listings.{OnFirstAlone, ShowsListing}
use Rattle.std.proofs.Common.{Some, None}
use Rattle.run_show.proofs.ListingLemmas.{halts_may_end, listing_stops, wire_gained, wire_halts, wire_later, wire_unseen}
use Rattle.run_show.proofs.listing.execute_listing.Goals as goal

pub end_listing-requires : goal.end_listing-requires
end_listing-requires g c =
    halts_may_end _ c.show_listing-run.result.shown
    (wire_halts g.W.Wire.seen g.W.Wire.faults c.args.start.command c.args.start.settings c.show_listing-run.result.journal.items c.show_listing-run.result.shown c.args.wires.now.items c.show_listing-run.new.wires.items
    (omega (arith, c.requires.wire, c.args.wires.now.ok.0)) c.show_listing-run.ensures.shown)

pub returns-clause-listed : goal.returns-clause-listed
returns-clause-listed g c =
    let command = c.args.start.command in
    let settings = c.args.start.settings in
    let shown = c.show_listing-run.result.shown in
    let events = c.show_listing-run.result.journal.items in
    let before = c.args.wires.now.items in
    let after = c.show_listing-run.new.wires.items in
    let some : 1 ≤ length before = omega (arith, c.requires.wire, c.args.wires.now.ok.0) in
    let same = sym (ap (λ j. j.items) c.end_listing.ensures.journal) in
    record {
      result = shown;
      gained = subst (λ (all : List Event). OnFirstAlone before after (λ was now. Gains (g.W.Wire.seen was) (g.W.Wire.seen now) (λ talks notes. ShowsListing command settings all shown (Some (log_of talks notes))))) same
          (wire_gained g.W.Wire.seen g.W.Wire.faults command settings events shown before after some c.show_listing-run.ensures.shown);
      unseen = subst (λ (all : List Event). ShowsListing command settings all shown None) same
          (wire_unseen g.W.Wire.seen g.W.Wire.faults command settings events shown before after some c.show_listing-run.ensures.shown);
      made = c.end_listing.ensures.made;
    }

pub returns-clause-stops : goal.returns-clause-stops
returns-clause-stops g c =
    listing_stops _ c.args.start.command.from c.show_listing-run.result.shown c.end_listing.result.executed.run c.end_listing.result.executed.text c.end_listing.result.missed c.end_listing.ensures.made
    (wire_halts g.W.Wire.seen g.W.Wire.faults c.args.start.command c.args.start.settings c.show_listing-run.result.journal.items c.show_listing-run.result.shown c.args.wires.now.items c.show_listing-run.new.wires.items
    (omega (arith, c.requires.wire, c.args.wires.now.ok.0)) c.show_listing-run.ensures.shown)

pub returns-clause-later : goal.returns-clause-later
returns-clause-later g c =
    wire_later g.W.Wire.seen g.W.Wire.faults c.args.start.command c.args.start.settings c.show_listing-run.result.journal.items c.show_listing-run.result.shown c.args.wires.now.items c.show_listing-run.new.wires.items
    (omega (arith, c.requires.wire, c.args.wires.now.ok.0)) c.show_listing-run.ensures.shown
