use Rattle.std.proofs.Common.{List, Option, subst, sym}
use Rattle.std.specs.Result.{OnOk}
use Rattle.reply_xml.specs.declared.elements.Element.{Element}
use Rattle.reply_xml.specs.declared.elements.Element.TheVariants as element
use Rattle.reply_xml.specs.Breaks.{BreaksElement, IfBroken}
use Rattle.reply_xml.specs.Children.{HasOnly}
use Rattle.reply_xml.specs.Faults.{IfRefused}
use Rattle.reply_xml.specs.Fits.{ReadsWell}
use Rattle.reply_xml.specs.Reading.{ReadsNone}
use Rattle.reply_xml.specs.Tables.{IsFresh, IsParentOf, Table}
use Rattle.s3_replies.specs.declared.keys.Keys.{Keys}
use Rattle.s3_replies.specs.Listing.{SpellsPrefix, prefix_form, prefix_table}
use Rattle.s3_replies.proofs.listing.read_prefix.Goals as goal

pub returns-in-Written-clause-refused : goal.returns-in-Written-clause-refused
returns-in-Written-clause-refused c =
    subst (λ (k : Keys). IfRefused c.element.result
    (ReadsNone (HasOnly (SpellsPrefix k) element.Prefix) c.args.child.now c.args.reader.now.rest.now))
    (sym c.in-Written.is) c.element.ensures.refused

pub returns-in-Written-clause-well : goal.returns-in-Written-clause-well
returns-in-Written-clause-well c =
    subst
    (
    λ (k : Keys). OnOk c.element.result
    (
    (table : Table) (front : List (Option Element)) (of : Element)
    → IsParentOf table c.args.child.now.element of (prefix_table (prefix_form k))
    → IsFresh table front c.args.child.now.element
    → ReadsWell table front c.args.child.now c.args.reader.now.rest.now c.element.new.self.rest.now
    )
    )
    (sym c.in-Written.is) c.element.ensures.well

pub returns-in-Written-clause-broken : goal.returns-in-Written-clause-broken
returns-in-Written-clause-broken c =
    subst
    (
    λ (k : Keys). IfBroken c.element.result
    (
    λ reason. (table : Table) (front : List (Option Element)) (of : Element)
    → IsParentOf table c.args.child.now.element of (prefix_table (prefix_form k))
    → IsFresh table front c.args.child.now.element
    → BreaksElement c.args.reader.now.size reason table front c.args.child.now c.args.reader.now.rest.now
    )
    )
    (sym c.in-Written.is) c.element.ensures.broken

pub returns-in-Plain-clause-refused : goal.returns-in-Plain-clause-refused
returns-in-Plain-clause-refused c =
    subst (λ (k : Keys). IfRefused c.element-in-Plain.result
    (ReadsNone (HasOnly (SpellsPrefix k) element.Prefix) c.args.child.now c.args.reader.now.rest.now))
    (sym c.in-Plain.is) c.element-in-Plain.ensures.refused

pub returns-in-Plain-clause-well : goal.returns-in-Plain-clause-well
returns-in-Plain-clause-well c =
    subst
    (
    λ (k : Keys). OnOk c.element-in-Plain.result
    (
    (table : Table) (front : List (Option Element)) (of : Element)
    → IsParentOf table c.args.child.now.element of (prefix_table (prefix_form k))
    → IsFresh table front c.args.child.now.element
    → ReadsWell table front c.args.child.now c.args.reader.now.rest.now c.element-in-Plain.new.self.rest.now
    )
    )
    (sym c.in-Plain.is) c.element-in-Plain.ensures.well

pub returns-in-Plain-clause-broken : goal.returns-in-Plain-clause-broken
returns-in-Plain-clause-broken c =
    subst
    (
    λ (k : Keys). IfBroken c.element-in-Plain.result
    (
    λ reason. (table : Table) (front : List (Option Element)) (of : Element)
    → IsParentOf table c.args.child.now.element of (prefix_table (prefix_form k))
    → IsFresh table front c.args.child.now.element
    → BreaksElement c.args.reader.now.size reason table front c.args.child.now c.args.reader.now.rest.now
    )
    )
    (sym c.in-Plain.is) c.element-in-Plain.ensures.broken

pub returns-in-Url-clause-refused : goal.returns-in-Url-clause-refused
returns-in-Url-clause-refused c =
    subst (λ (k : Keys). IfRefused c.element-in-Url.result
    (ReadsNone (HasOnly (SpellsPrefix k) element.Prefix) c.args.child.now c.args.reader.now.rest.now))
    (sym c.in-Url.is) c.element-in-Url.ensures.refused

pub returns-in-Url-clause-well : goal.returns-in-Url-clause-well
returns-in-Url-clause-well c =
    subst
    (
    λ (k : Keys). OnOk c.element-in-Url.result
    (
    (table : Table) (front : List (Option Element)) (of : Element)
    → IsParentOf table c.args.child.now.element of (prefix_table (prefix_form k))
    → IsFresh table front c.args.child.now.element
    → ReadsWell table front c.args.child.now c.args.reader.now.rest.now c.element-in-Url.new.self.rest.now
    )
    )
    (sym c.in-Url.is) c.element-in-Url.ensures.well

pub returns-in-Url-clause-broken : goal.returns-in-Url-clause-broken
returns-in-Url-clause-broken c =
    subst
    (
    λ (k : Keys). IfBroken c.element-in-Url.result
    (
    λ reason. (table : Table) (front : List (Option Element)) (of : Element)
    → IsParentOf table c.args.child.now.element of (prefix_table (prefix_form k))
    → IsFresh table front c.args.child.now.element
    → BreaksElement c.args.reader.now.size reason table front c.args.child.now c.args.reader.now.rest.now
    )
    )
    (sym c.in-Url.is) c.element-in-Url.ensures.broken
