use Rattle.std.proofs.Common.{ℕ, List, [], ◌++◌, sym, subst, ◌∙◌}
use Rattle.std.proofs.lemmas.Result.{err_from_is_err_and}
use Rattle.s3_model.specs.Talks.{Ending}
use Rattle.answer_grammar.specs.Answer.{body_limit}
use Rattle.http_exchange.specs.Exchange.{BeginsByLine, InPieces}
use Rattle.http_exchange.specs.Steps.{FillsPlace, FillsAnswer}
use Rattle.http_exchange.proofs.AnswerLemmas.{head_broken, into_place, into_answer}
use Rattle.http_exchange.proofs.TalkLemmas.{heard_after}
use Rattle.http_exchange.proofs.talk.receive.Goals as goal

pub returns-in_err-head-clause-heard : goal.returns-in_err-head-clause-heard
returns-in_err-head-clause-heard g c =
    let p = err_from_is_err_and c.from_residual.result c.from_residual.ensures.1 in
    let h = c.in_err-head.ensures.heard in
    rw p.1 (h.0, h.1, h.2, head_broken c.args.head_only c.args.limit _ _ h.0 _ _ h.1 c.in_err-head.field-0.0 p.0 p.2 h.3)

pub returns-then-goes_into-clause-heard : goal.returns-then-goes_into-clause-heard
returns-then-goes_into-clause-heard g c =
    let h = c.in_ok-head.ensures.heard in
    let m = c.fill_place.ensures.heard in
    let found = c.in_ok-head.head in
    let (window, more, split, at, after, open_) = h.3.comes in
    let E : Ending → Type 0 = λ e. InPieces BeginsByLine [] h.0 e in
    let P : (most : ℕ) (bytes : List ℕ) → Type 0 = λ most bytes. FillsPlace found most bytes c.fill_place.new.room.incoming c.fill_place.new.into.bytes c.fill_place.result m.0 m.1 in
    let fills = subst (λ (bytes : List ℕ). P (body_limit c.args.limit found.answer.status) bytes) after (subst (λ (most : ℕ). P most c.take_head.new.room.incoming) c.body_limit-most.ensures m.3) in (
      h.0 ++ m.0,
      m.1,
      heard_after h.0 m.0 h.1 m.1 _ _ _ open_ h.2 m.2,
      into_place c.args.head_only c.args.limit h.0 window more found at split m.0 _ c.args.into.now c.fill_place.new.into m.1 c.fill_place.result (subst E open_ h.3.pieces) (sym c.goes_into.ensures ∙ c.if-goes_into.true) fills,
    )

pub returns-else-goes_into-clause-heard : goal.returns-else-goes_into-clause-heard
returns-else-goes_into-clause-heard g c =
    let h = c.in_ok-head.ensures.heard in
    let m = c.fill_answer.ensures.heard in
    let found = c.in_ok-head.head in
    let (window, more, split, at, after, open_) = h.3.comes in
    let E : Ending → Type 0 = λ e. InPieces BeginsByLine [] h.0 e in
    let P : (most : ℕ) (bytes : List ℕ) → Type 0 = λ most bytes. FillsAnswer found most bytes c.fill_answer.new.room.incoming c.fill_answer.result m.0 m.1 in
    let fills = subst (λ (bytes : List ℕ). P (body_limit c.args.limit found.answer.status) bytes) after (subst (λ (most : ℕ). P most c.take_head.new.room.incoming) c.body_limit-most.ensures m.3) in (
      h.0 ++ m.0,
      m.1,
      heard_after h.0 m.0 h.1 m.1 _ _ _ open_ h.2 m.2,
      into_answer c.args.head_only c.args.limit h.0 window more found at split m.0 _ c.args.into.now m.1 c.fill_answer.result (subst E open_ h.3.pieces) (sym c.goes_into.ensures ∙ c.if-goes_into.false) fills,
    )
