use Rattle.reply_xml.specs.Fits.{Passed}
use Rattle.std.proofs.Common.{refl}
use Rattle.reply_xml.specs.declared.elements.Element.TheVariants as element
use Rattle.reply_xml.proofs.ChildLemmas.{is_other}
use Rattle.reply_xml.proofs.BreakLemmas.{broken_so}
use Rattle.reply_xml.proofs.FrontLemmas.{found_here, found_past}
use Rattle.s3_replies.specs.Errors.{error_table}
use Rattle.std.proofs.Common.{◌∙◌, sym}
use Rattle.s3_replies.specs.Errors.{ErrorLeft}
use Rattle.reply_xml.proofs.FaultLemmas.{refused_so, OnOk-map, OnOk-all}
use Rattle.reply_xml.proofs.TakeLemmas.{stops_there}
use Rattle.s3_replies.proofs.ErrorLemmas.{code_advanced, code_stopped, message_advanced, message_stopped, error_skipped}
use Rattle.s3_replies.proofs.errors.ErrorFieldsParts.take.Goals as goal

pub returns-then-is_the-clause-value : goal.returns-then-is_the-clause-value
returns-then-is_the-clause-value c =
    OnOk-map c.take.result (code_advanced _ _ c.args.self.now.message c.args.child.now c.args.reader.now.rest.now _
    (sym c.is_the.ensures ∙ c.if-is_the.true)) c.take.ensures.value

pub returns-then-is_the-clause-refused : goal.returns-then-is_the-clause-refused
returns-then-is_the-clause-refused c =
    refused_so c.take.result (code_stopped _ c.args.self.now.message c.args.child.now c.args.reader.now.rest.now)
    c.take.ensures.refused

pub returns-then-is_the-2-clause-value : goal.returns-then-is_the-2-clause-value
returns-then-is_the-2-clause-value c =
    OnOk-all c.take-then-is_the-2.result
    (message_advanced c.args.self.now.code _ _ c.args.child.now c.args.reader.now.rest.now _
    (sym c.is_the.ensures ∙ c.if-is_the.false) (sym c.is_the-2.ensures ∙ c.if-is_the-2.true))
    c.take-then-is_the-2.ensures.value c.take-then-is_the-2.ensures.first c.take-then-is_the-2.ensures.some

pub returns-then-is_the-2-clause-refused : goal.returns-then-is_the-2-clause-refused
returns-then-is_the-2-clause-refused c =
    refused_so c.take-then-is_the-2.result
    (message_stopped c.args.self.now.code _ c.args.child.now c.args.reader.now.rest.now
    (sym c.is_the-2.ensures ∙ c.if-is_the-2.true))
    c.take-then-is_the-2.ensures.refused

pub returns-clause-value : goal.returns-clause-value
returns-clause-value c =
    OnOk-map c.skip.result
    (error_skipped c.args.self.now.code c.args.self.now.message c.args.child.now c.args.reader.now.rest.now _
    (sym c.is_the.ensures ∙ c.if-is_the.false) (sym c.is_the-2.ensures ∙ c.if-is_the-2.false))
    c.skip.ensures.value

pub returns-clause-refused : goal.returns-clause-refused
returns-clause-refused c =
    refused_so c.skip.result (stops_there (ErrorLeft c.args.self.now.code c.args.self.now.message) c.args.child.now
    c.args.reader.now.rest.now) c.skip.ensures.refused

pub returns-then-is_the-clause-known : goal.returns-then-is_the-clause-known
returns-then-is_the-clause-known c =
    OnOk-map c.take.result
    (λ some front found. (
      found_here element.Code c.take.new.found c.args.child.now.element front
          (sym c.is_the.ensures ∙ c.if-is_the.true) some,
      found_past element.Message c.args.self.now.message c.args.child.now.element front
          (is_other element.Code element.Message c.args.child.now.element
          (sym c.is_the.ensures ∙ c.if-is_the.true) refl)
          found.1,
    ))
    c.take.ensures.some

pub returns-then-is_the-clause-broken : goal.returns-then-is_the-clause-broken
returns-then-is_the-clause-broken c =
    broken_so c.take.result (λ reason b front found. b error_table front refl refl found.0) c.take.ensures.broken

pub returns-then-is_the-2-clause-known : goal.returns-then-is_the-2-clause-known
returns-then-is_the-2-clause-known c =
    OnOk-map c.take-then-is_the-2.result
    (λ some front found. (
      found_past element.Code c.args.self.now.code c.args.child.now.element front
          (is_other element.Message element.Code c.args.child.now.element
          (sym c.is_the-2.ensures ∙ c.if-is_the-2.true) refl) found.0,
      found_here element.Message c.take-then-is_the-2.new.found c.args.child.now.element front
          (sym c.is_the-2.ensures ∙ c.if-is_the-2.true) some,
    ))
    c.take-then-is_the-2.ensures.some

pub returns-then-is_the-2-clause-broken : goal.returns-then-is_the-2-clause-broken
returns-then-is_the-2-clause-broken c =
    broken_so c.take-then-is_the-2.result (λ reason b front found. b error_table front refl refl found.1)
    c.take-then-is_the-2.ensures.broken

pub returns-clause-known : goal.returns-clause-known
returns-clause-known c =
    OnOk-map c.skip.result
    (λ read front found. (
      found_past element.Code c.args.self.now.code c.args.child.now.element front
          (sym c.is_the.ensures ∙ c.if-is_the.false) found.0,
      found_past element.Message c.args.self.now.message c.args.child.now.element front
          (sym c.is_the-2.ensures ∙ c.if-is_the-2.false) found.1,
    ))
    c.skip.ensures.value

pub returns-clause-broken : goal.returns-clause-broken
returns-clause-broken c =
    broken_so c.skip.result
    (λ reason b front found. b error_table front
    ((sym c.is_the.ensures ∙ c.if-is_the.false), ((sym c.is_the-2.ensures ∙ c.if-is_the-2.false), tt)))
    c.skip.ensures.broken

pub returns-then-is_the-clause-well : goal.returns-then-is_the-clause-well
returns-then-is_the-clause-well c =
    OnOk-map c.take.result (λ well front found. well error_table front refl found.0) c.take.ensures.well

pub returns-then-is_the-2-clause-well : goal.returns-then-is_the-2-clause-well
returns-then-is_the-2-clause-well c =
    OnOk-map c.take-then-is_the-2.result (λ well front found. well error_table front refl found.1)
    c.take-then-is_the-2.ensures.well

pub returns-clause-well : goal.returns-clause-well
returns-clause-well c =
    OnOk-map c.skip.result
    (λ read front found. (
      read.0,
      read.1,
      Passed ((sym c.is_the.ensures ∙ c.if-is_the.false), ((sym c.is_the-2.ensures ∙ c.if-is_the-2.false), tt)),
    ))
    c.skip.ensures.value
