use Rattle.std.proofs.Common.{ℕ, ◌<◌, List, [], ◌++◌, length, take, drop, sym, refl, ap, subst, ◌∙◌, arith, inl, inr}
use Rattle.std.proofs.lemmas.Bool.{ltb-false, ltb-true}
use Rattle.std.proofs.lemmas.List.{length-take, take-append-drop, drop-append-le}
use Rattle.std.proofs.lemmas.Result.{err_from_is_err_and}
use Rattle.s3_model.specs.Talks.{Finished}
use Rattle.answer_grammar.specs.Breaks.{BeginsHead}
use Rattle.answer_grammar.specs.Parts.{IsHeadAt, RefusesHead}
use Rattle.http_exchange.specs.Exchange.{BeginsByLine, InPieces}
use Rattle.http_exchange.specs.Steps.{IsBegun, IsWhyNoHead}
use Rattle.http_exchange.proofs.LineLemmas.{by_line, begins_all, head_at_lines, no_head}
use Rattle.http_exchange.proofs.PieceLemmas.{pieces_after, closed_fine, finished_fine}
use Rattle.http_exchange.proofs.TalkLemmas.{heard_nothing, heard_after, ending_is, heard_is}
use Rattle.http_exchange.proofs.receive.take_head.Goals as goal

pub loop-head-init : goal.loop-head-init
loop-head-init g c = record { heard = heard_is [] c.args.room.now.incoming Finished _ _ (sym c.requires) (heard_nothing _); pieces = inl c.requires; later = omega arith }

pub returns-in_err-head-clause-heard : goal.returns-in_err-head-clause-heard
returns-in_err-head-clause-heard g c =
    let p = err_from_is_err_and c.from_residual.result c.from_residual.ensures.1 in
    let R : List ℕ → Type 0 = λ bytes. RefusesHead c.args.head_only (take 65536 bytes) c.in_err-head.field-0.0 in
    rw (p.1, p.2) (
      c.loop-head.room.incoming,
      Finished,
      c.loop-head.invariant.heard,
      record {
        pieces = c.loop-head.invariant.pieces;
        comes = inr (finished_fine Finished refl, inl (subst R c.bytes.ensures c.in_err-head.ensures));
      },
    )

pub skip-requires : goal.skip-requires
skip-requires g c =
    let at = rw c.in-Some.is at c.in_ok-head.ensures in
    omega (arith, at.within, length-take 65536 c.bytes.result.now, ap length c.bytes.ensures)

pub returns-in-Some-clause-heard : goal.returns-in-Some-clause-heard
returns-in-Some-clause-heard g c =
    let got = c.loop-head.room.incoming in
    let len = c.in-Some.head.len in
    let A : List ℕ → Type 0 = λ bytes. IsHeadAt c.args.head_only (take 65536 bytes) c.in-Some.head in
    let at = subst A c.bytes.ensures (rw c.in-Some.is at c.in_ok-head.ensures) in
    let split = sym (take-append-drop 65536 got) in (
      got,
      Finished,
      c.loop-head.invariant.heard,
      record {
        pieces = c.loop-head.invariant.pieces;
        comes = (take 65536 got, drop 65536 got, split, at, c.skip.ensures ∙ ap (drop len) split ∙ drop-append-le len (take 65536 got) (drop 65536 got) at.within, refl);
      },
    )

pub returns-then-is_full-clause-heard : goal.returns-then-is_full-clause-heard
returns-then-is_full-clause-heard g c =
    let B : List ℕ → Type 0 = λ bytes. BeginsHead (take 65536 bytes) in
    let begins = subst B c.bytes.ensures (rw c.in_default.is at c.in_ok-head.ensures) in (
      c.loop-head.room.incoming,
      Finished,
      c.loop-head.invariant.heard,
      record {
        pieces = c.loop-head.invariant.pieces;
        comes = inr (finished_fine Finished refl, inr (inl (omega (arith, ltb-true _ _ (sym c.is_full.ensures ∙ c.if-is_full.true)), begins, refl)));
      },
    )

pub take_lines-requires : goal.take_lines-requires
take_lines-requires g c = omega (arith, ltb-false _ _ (sym c.is_full.ensures ∙ c.if-is_full.false))

pub returns-in_err-take_lines-clause-heard : goal.returns-in_err-take_lines-clause-heard
returns-in_err-take_lines-clause-heard g c =
    let p = err_from_is_err_and c.from_residual-in_err-take_lines.result c.from_residual-in_err-take_lines.ensures.1 in
    let got = c.loop-head.room.incoming in
    let now = c.in_err-take_lines.ensures.heard in
    let B : List ℕ → Type 0 = λ bytes. BeginsHead (take 65536 bytes) in
    let short : length got < 65536 = omega (arith, ltb-false _ _ (sym c.is_full.ensures ∙ c.if-is_full.false)) in
    let begins = begins_all got short (subst B c.bytes.ensures (rw c.in_default.is at c.in_ok-head.ensures)) in
    rw (p.1, p.2) (
      got ++ now.0,
      now.1,
      heard_after got now.0 Finished now.1 _ _ _ refl c.loop-head.invariant.heard now.2,
      record {
        pieces = pieces_after BeginsByLine (IsBegun got) BeginsByLine [] got got now.0 now.1 (λ bytes holds. holds) (λ more is. by_line got (got ++ more) begins is) c.loop-head.invariant.pieces now.3.2;
        comes = inl (now.3.0, now.3.1);
      },
    )

pub why_no_head-requires : goal.why_no_head-requires
why_no_head-requires g c found at =
    let got = c.loop-head.room.incoming in
    let now = rw c.if-branch.true at c.in_ok-take_lines.ensures.heard in
    let B : List ℕ → Type 0 = λ bytes. BeginsHead (take 65536 bytes) in
    let short : length got < 65536 = omega (arith, ltb-false _ _ (sym c.is_full.ensures ∙ c.if-is_full.false)) in
    let begins = begins_all got short (subst B c.bytes.ensures (rw c.in_default.is at c.in_ok-head.ensures)) in
    let A : List ℕ → Type 0 = λ bytes. IsHeadAt c.args.head_only (take 65536 bytes) found in
    head_at_lines c.args.head_only got now.0 found (omega (arith, now.3.2, ap length now.3.0)) begins now.3.1 (subst A (c.bytes-then-branch.ensures ∙ now.3.0) at)

pub returns-then-branch-clause-heard : goal.returns-then-branch-clause-heard
returns-then-branch-clause-heard g c =
    let got = c.loop-head.room.incoming in
    let now = rw c.if-branch.true at c.in_ok-take_lines.ensures.heard in
    let B : List ℕ → Type 0 = λ bytes. BeginsHead (take 65536 bytes) in
    let short : length got < 65536 = omega (arith, ltb-false _ _ (sym c.is_full.ensures ∙ c.if-is_full.false)) in
    let begins = begins_all got short (subst B c.bytes.ensures (rw c.in_default.is at c.in_ok-head.ensures)) in
    let W : List ℕ → Type 0 = λ bytes. IsWhyNoHead c.args.head_only (take 65536 bytes) c.why_no_head.result in
    let all : length (got ++ now.0) < 65536 = omega (arith, now.3.2, ap length now.3.0) in (
      got ++ now.0,
      now.1,
      heard_after got now.0 Finished now.1 _ _ _ refl c.loop-head.invariant.heard now.2,
      record {
        pieces = pieces_after BeginsByLine (IsBegun got) BeginsByLine [] got got now.0 now.1 (λ bytes holds. holds) (λ more is. by_line got (got ++ more) begins is) c.loop-head.invariant.pieces now.3.4;
        comes = inr (
          closed_fine now.1 now.3.3,
          no_head c.args.head_only (got ++ now.0) now.1 c.why_no_head.result all now.3.3 (subst W (c.bytes-then-branch.ensures ∙ now.3.0) c.why_no_head.ensures),
        );
      },
    )

pub loop-head-preserved : goal.loop-head-preserved
loop-head-preserved g c =
    let got = c.loop-head.room.incoming in
    let now = rw c.if-branch.false at c.in_ok-take_lines.ensures.heard in
    let B : List ℕ → Type 0 = λ bytes. BeginsHead (take 65536 bytes) in
    let short : length got < 65536 = omega (arith, ltb-false _ _ (sym c.is_full.ensures ∙ c.if-is_full.false)) in
    let begins = begins_all got short (subst B c.bytes.ensures (rw c.in_default.is at c.in_ok-head.ensures)) in
    let heard = ending_is (got ++ now.0) now.1 Finished _ _ now.3.2 (heard_after got now.0 Finished now.1 _ _ _ refl c.loop-head.invariant.heard now.2) in
    let I : List ℕ → Type 0 = λ bytes. InPieces BeginsByLine [] bytes Finished in
    record {
      heard = heard_is (got ++ now.0) c.take_lines.new.incoming Finished _ _ (sym now.3.0) heard;
      pieces = subst I (sym now.3.0) (pieces_after BeginsByLine (IsBegun got) BeginsByLine [] got got now.0 Finished (λ bytes holds. holds) (λ more is. by_line got (got ++ more) begins is) c.loop-head.invariant.pieces now.3.3);
      later = omega (arith, c.take_lines.ensures.cause.later);
    }
