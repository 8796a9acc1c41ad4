use Rattle.std.proofs.Common.{◌≡◌, [], ◌&&◌, Option, not, sym, ap, subst, ◌∙◌, refl, inr, eqb, List, ℕ}
use Rattle.std.specs.Prelude.{codes, Result}
use Rattle.std.proofs.lemmas.Result.{err_from_is_err_and, MatchResult-at_ok}
use Rattle.http1.specs.Fields.{Header, has_option, elements_named}
use Rattle.http1.specs.declared.fields.KnownFields.{KnownFields}
use Rattle.answer_grammar.specs.Head.{IsCoded, codings, lengths, StatesLength, framing_by, has_no_body, etag_of, micros_of, first_named, HasRange, ends_itself}
use Rattle.answer_grammar.specs.Parts.{pairs, HasEtag, IsCodedBy}
use Rattle.answer_grammar.proofs.FramingLemmas.{known_close, coded_by, codes_by}
use Rattle.answer_grammar.proofs.OneFraming.{coded_once, stated_once}
use Rattle.answer_grammar.proofs.head.describe.Goals as goal

pub returns-in_err-length : goal.returns-in_err-length
returns-in_err-length c = λ head same code version.
    let p = err_from_is_err_and c.from_residual.result c.from_residual.ensures.1 in
    let was = c.in_err-length.ensures.none in
    rw p.1 (inr (p.2 ∙ was.0, λ stated framed is. was.1 stated (subst (λ (hs : List Header). StatesLength (lengths hs) stated) same is.states)))

pub returns-in_err-chunked : goal.returns-in_err-chunked
returns-in_err-chunked c = λ head same code version.
    let p = err_from_is_err_and c.from_residual-in_err-chunked.result c.from_residual-in_err-chunked.ensures.1 in
    let was = c.in_err-chunked.ensures.none in
    let lines = pairs c.args.lines.now in
    rw p.1 (inr (
      p.2 ∙ was.0,
      λ stated framed is.
          was.1 is.chunked (subst (λ (k : KnownFields). IsCodedBy k is.chunked) (sym c.known-known.ensures) (codes_by lines is.chunked (subst (λ (hs : List Header). IsCoded (codings hs) is.chunked) same is.coded))),
    ))

pub returns-in_err-framing : goal.returns-in_err-framing
returns-in_err-framing c = λ head same code version.
    let p = err_from_is_err_and c.from_residual-in_err-framing.result c.from_residual-in_err-framing.ensures.1 in
    let was = c.in_err-framing.ensures.none in
    let lines = pairs c.args.lines.now in
    let coded = coded_by lines c.in_ok-chunked.chunked (subst (λ (k : KnownFields). IsCodedBy k c.in_ok-chunked.chunked) c.known-known.ensures c.in_ok-chunked.ensures.value) in
    rw p.1 (inr (
      p.2 ∙ was.0,
      λ stated framed is.
          let coding = coded_once (codings lines) is.chunked c.in_ok-chunked.chunked (subst (λ (hs : List Header). IsCoded (codings hs) is.chunked) same is.coded) coded in
          let length = stated_once (lengths lines) stated c.in_ok-length.length (subst (λ (hs : List Header). StatesLength (lengths hs) stated) same is.states) c.in_ok-length.ensures.value in
          was.2 (sym length ∙ is.one_way (coding ∙ was.1)),
    ))

pub returns : goal.returns
returns c = λ head same code version.
    let lines = pairs c.args.lines.now in
    let known = c.known-known.ensures in
    let close = ap (λ (k : KnownFields). k.close) known ∙ known_close lines in
    let coded = coded_by lines c.in_ok-chunked.chunked (subst (λ (k : KnownFields). IsCodedBy k c.in_ok-chunked.chunked) known c.in_ok-chunked.ensures.value) in
    let made_empty = MatchResult-at_ok (λ made. made.bytes ≡ []) (λ _. Unit) c.in_ok-body.body c.in_ok-body.ensures.value c.make.ensures.empty in (
      refl,
      record {
        framing_is = record {
          chunked = c.in_ok-chunked.chunked;
          coded = subst (λ (hs : List Header). IsCoded (codings hs) c.in_ok-chunked.chunked) (sym same) coded;
          states = subst (λ (hs : List Header). StatesLength (lengths hs) c.in_ok-length.length) (sym same) c.in_ok-length.ensures.value;
          one_way = c.in_ok-framing.ensures.value.0;
          by = c.in_ok-framing.ensures.value.1 ∙ ap (λ s. framing_by (has_no_body c.args.head_only s) c.in_ok-chunked.chunked c.in_ok-length.length) code;
        };
        status = code;
        etag = subst (λ (r : Result (Option (List ℕ)) _). HasEtag lines r) c.in_ok-etag.ensures.value c.etag_of.ensures ∙ ap etag_of (sym same);
        range = subst (λ (hs : List Header). HasRange (first_named (codes "content-range") hs) c.first_range.result) (sym same) c.first_range.ensures;
        micros = c.micros_of.ensures ∙ ap micros_of (sym same);
        keep = c.may_keep.ensures
            ∙ ap (λ v. ends_itself c.in_ok-framing.framing && (eqb v 1 && not c.known-known.result.close)) version
            ∙ ap (λ b. ends_itself c.in_ok-framing.framing && (eqb head.minor 1 && not b)) close
            ∙ ap (λ (hs : List Header). ends_itself c.in_ok-framing.framing && (eqb head.minor 1 && not (has_option (codes "close") (elements_named (codes "connection") hs)))) (sym same);
      },
      made_empty,
    )
