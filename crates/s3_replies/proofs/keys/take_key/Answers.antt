use Rattle.std.proofs.Common.{List, Option, false, true, refl, subst, sym}
use Rattle.std.specs.Result.{OnOk}
use Rattle.reply_xml.specs.declared.elements.Element.{Element}
use Rattle.reply_xml.specs.declared.elements.Element.TheVariants as element
use Rattle.reply_xml.specs.Breaks.{BreaksElement, IfBroken}
use Rattle.reply_xml.specs.Faults.{IfRefused}
use Rattle.reply_xml.specs.Reading.{Advances, LeafLeft, Stops}
use Rattle.reply_xml.specs.Tables.{IsFound}
use Rattle.reply_xml.specs.Unfit.{AKey, OwnForm}
use Rattle.reply_xml.proofs.BreakLemmas.{broken_so}
use Rattle.s3_replies.specs.declared.keys.Keys.{Keys}
use Rattle.s3_replies.specs.Listing.{SpellsKey, key_form, object_table}
use Rattle.s3_replies.proofs.keys.take_key.Goals as goal

pub returns-in-Written-clause-value : goal.returns-in-Written-clause-value
returns-in-Written-clause-value c =
    subst
    (
    λ (k : Keys). OnOk c.take.result
    (Advances (LeafLeft (SpellsKey k) element.Key c.args.found.now)
    (LeafLeft (SpellsKey k) element.Key c.take.new.found) c.args.child.now c.args.reader.now.rest.now
    c.take.new.self.rest.now)
    )
    (sym c.in-Written.is) c.take.ensures.value

pub returns-in-Written-clause-refused : goal.returns-in-Written-clause-refused
returns-in-Written-clause-refused c =
    subst (λ (k : Keys). IfRefused c.take.result
    (Stops (LeafLeft (SpellsKey k) element.Key c.args.found.now) c.args.child.now c.args.reader.now.rest.now))
    (sym c.in-Written.is) c.take.ensures.refused

pub returns-in-Written-clause-broken : goal.returns-in-Written-clause-broken
returns-in-Written-clause-broken c =
    subst
    (
    λ (k : Keys). IfBroken c.take.result
    (
    λ reason. (front : List (Option Element)) → IsFound element.Key c.args.found.now front
    → BreaksElement c.args.reader.now.size reason (object_table (key_form k)) front c.args.child.now
    c.args.reader.now.rest.now
    )
    )
    (sym c.in-Written.is) (broken_so c.take.result
    (λ reason b front found. b (object_table OwnForm) front refl refl found) c.take.ensures.broken)

pub returns-in-Plain-clause-value : goal.returns-in-Plain-clause-value
returns-in-Plain-clause-value c =
    subst
    (
    λ (k : Keys). OnOk c.take-in-Plain.result
    (Advances (LeafLeft (SpellsKey k) element.Key c.args.found.now)
    (LeafLeft (SpellsKey k) element.Key c.take-in-Plain.new.found) c.args.child.now c.args.reader.now.rest.now
    c.take-in-Plain.new.self.rest.now)
    )
    (sym c.in-Plain.is) c.take-in-Plain.ensures.value

pub returns-in-Plain-clause-refused : goal.returns-in-Plain-clause-refused
returns-in-Plain-clause-refused c =
    subst (λ (k : Keys). IfRefused c.take-in-Plain.result
    (Stops (LeafLeft (SpellsKey k) element.Key c.args.found.now) c.args.child.now c.args.reader.now.rest.now))
    (sym c.in-Plain.is) c.take-in-Plain.ensures.refused

pub returns-in-Plain-clause-broken : goal.returns-in-Plain-clause-broken
returns-in-Plain-clause-broken c =
    subst
    (
    λ (k : Keys). IfBroken c.take-in-Plain.result
    (
    λ reason. (front : List (Option Element)) → IsFound element.Key c.args.found.now front
    → BreaksElement c.args.reader.now.size reason (object_table (key_form k)) front c.args.child.now
    c.args.reader.now.rest.now
    )
    )
    (sym c.in-Plain.is) (broken_so c.take-in-Plain.result
    (λ reason b front found. b (object_table (AKey false)) front refl refl found) c.take-in-Plain.ensures.broken)

pub returns-in-Url-clause-value : goal.returns-in-Url-clause-value
returns-in-Url-clause-value c =
    subst
    (
    λ (k : Keys). OnOk c.take-in-Url.result
    (Advances (LeafLeft (SpellsKey k) element.Key c.args.found.now)
    (LeafLeft (SpellsKey k) element.Key c.take-in-Url.new.found) c.args.child.now c.args.reader.now.rest.now
    c.take-in-Url.new.self.rest.now)
    )
    (sym c.in-Url.is) c.take-in-Url.ensures.value

pub returns-in-Url-clause-refused : goal.returns-in-Url-clause-refused
returns-in-Url-clause-refused c =
    subst (λ (k : Keys). IfRefused c.take-in-Url.result
    (Stops (LeafLeft (SpellsKey k) element.Key c.args.found.now) c.args.child.now c.args.reader.now.rest.now))
    (sym c.in-Url.is) c.take-in-Url.ensures.refused

pub returns-in-Url-clause-broken : goal.returns-in-Url-clause-broken
returns-in-Url-clause-broken c =
    subst
    (
    λ (k : Keys). IfBroken c.take-in-Url.result
    (
    λ reason. (front : List (Option Element)) → IsFound element.Key c.args.found.now front
    → BreaksElement c.args.reader.now.size reason (object_table (key_form k)) front c.args.child.now
    c.args.reader.now.rest.now
    )
    )
    (sym c.in-Url.is) (broken_so c.take-in-Url.result
    (λ reason b front found. b (object_table (AKey true)) front refl refl found) c.take-in-Url.ensures.broken)
