use Rattle.std.proofs.Common.{◌≡◌, ℕ, ◌+◌, ◌<◌, ◌≤◌, List, [], ◌++◌, length, take, sym, refl, ap, ◌∙◌, arith, inl, inr, eqb-true, length-append}
use Rattle.std.proofs.lemmas.Bool.{eqb-false}
use Rattle.std.proofs.lemmas.List.{append-nil, take-append-drop, length-take, length-drop}
use Rattle.std.proofs.lemmas.Result.{err_from_is_err_and}
use Rattle.s3_model.specs.Talks.{Closed, Finished}
use Rattle.answer_grammar.specs.declared.framing.Framing.TheVariants as framing
use Rattle.http_exchange.specs.Steps.{IsOpenBody}
use Rattle.http_exchange.proofs.BodyLemmas.{grown}
use Rattle.http_exchange.proofs.PieceLemmas.{last_piece, none_more, nothing_more, closed_fine, finished_fine}
use Rattle.http_exchange.proofs.TalkLemmas.{heard_nothing, heard_after, ending_is, nothing_taken}
use Rattle.http_exchange.proofs.body.take_to_close.Goals as goal

pub loop-body-init : goal.loop-body-init
loop-body-init g c =
    let n = c.move_to.result in
    let before = c.args.incoming.now in
    let body : c.move_to.new.body.bytes ≡ take n before = c.move_to.ensures.moved ∙ ap (λ (b : List ℕ). b ++ take n before) c.requires.empty in
    record {
      heard = ([], heard_nothing _, append-nil before ∙ sym (take-append-drop n before) ∙ (λ i. sym body i ++ sym c.move_to.ensures.left i), inl refl);
      within = omega (arith, ap length body, length-take n before, c.move_to.ensures.count);
      full = λ some. omega (arith, some, ap length c.move_to.ensures.left, length-drop n before, ap length body, length-take n before, c.move_to.ensures.count);
      room = c.move_to.ensures.room;
      later = omega arith;
    }

pub returns-in_err-take_more-clause-heard : goal.returns-in_err-take_more-clause-heard
returns-in_err-take_more-clause-heard g c =
    let p = err_from_is_err_and c.from_residual.result c.from_residual.ensures.1 in
    let so = c.loop-body.invariant.heard in
    let now = c.in_err-take_more.ensures.heard in
    let none : length c.loop-body.incoming ≡ 0 = omega (arith, eqb-true (length c.bytes.result.now) 0 (sym c.is_empty.ensures ∙ c.loop-body-test.true), ap length c.bytes.ensures) in
    let within : length (c.args.incoming.now ++ so.0) ≤ c.args.limit = omega (arith, ap length so.2, length-append c.loop-body.body.bytes c.loop-body.incoming, none, c.loop-body.invariant.within) in
    rw p.1 (
      so.0 ++ now.0,
      now.1,
      heard_after so.0 now.0 Finished now.1 _ _ _ refl so.1 now.2,
      record {
        pieces = none_more (IsOpenBody framing.ToClose c.args.limit) c.args.incoming.now so.0 now.0 now.1 (inr (refl, within)) now.3.0;
        comes = inl (p.2 ∙ now.3.1, now.3.2);
      },
    )

pub returns-then-branch-eq0-clause-heard : goal.returns-then-branch-eq0-clause-heard
returns-then-branch-eq0-clause-heard g c =
    let so = c.loop-body.invariant.heard in
    let now = c.in_ok-take_more.ensures.heard in
    let content = now.3.0 in
    let after = c.take_more.new.incoming in
    let none : length c.loop-body.incoming ≡ 0 = omega (arith, eqb-true (length c.bytes.result.now) 0 (sym c.is_empty.ensures ∙ c.loop-body-test.true), ap length c.bytes.ensures) in
    let within : length (c.args.incoming.now ++ so.0) ≤ c.args.limit = omega (arith, ap length so.2, length-append c.loop-body.body.bytes c.loop-body.incoming, none, c.loop-body.invariant.within) in
    let nothing : now.0 ≡ [] = nothing_taken now.0 (now.3.3 ∙ (omega arith)) in
    let closed : now.1 ≡ Closed = now.3.6 (omega arith) in
    let no_content : content ≡ [] = nothing_taken content (omega (arith, ap length nothing, ap length now.3.1, length-append content after)) in
    let no_more : after ≡ [] = nothing_taken after (omega (arith, ap length nothing, ap length now.3.1, length-append content after)) in
    let body : c.take_more.new.body.bytes ≡ c.args.incoming.now ++ so.0 = now.3.2 ∙ ap (λ (b : List ℕ). c.loop-body.body.bytes ++ b) (no_content ∙ sym (nothing_taken c.loop-body.incoming none)) ∙ sym so.2 in (
      so.0 ++ now.0,
      now.1,
      heard_after so.0 now.0 Finished now.1 _ _ _ refl so.1 now.2,
      record {
        pieces = none_more (IsOpenBody framing.ToClose c.args.limit) c.args.incoming.now so.0 now.0 now.1 (inr (refl, within)) nothing;
        comes = (
          (body ∙ sym (nothing_more c.args.incoming.now so.0 now.0 nothing), no_more, closed),
          omega (arith, ap length body, within),
          closed_fine now.1 closed,
        );
      },
    )

pub loop-body-preserved : goal.loop-body-preserved
loop-body-preserved g c =
    let so = c.loop-body.invariant.heard in
    let now = c.in_ok-take_more.ensures.heard in
    let content = now.3.0 in
    let after = c.take_more.new.incoming in
    let n = length content in
    let none : length c.loop-body.incoming ≡ 0 = omega (arith, eqb-true (length c.bytes.result.now) 0 (sym c.is_empty.ensures ∙ c.loop-body-test.true), ap length c.bytes.ensures) in
    let open_ : now.1 ≡ Finished = now.3.7 (omega arith) in
    let have : length c.as_slice.result.now ≡ length c.loop-body.body.bytes = ap length c.as_slice.ensures in
    let so_far : length (c.args.incoming.now ++ so.0) ≡ length c.loop-body.body.bytes = omega (arith, ap length so.2, length-append c.loop-body.body.bytes c.loop-body.incoming, none) in
    let long : length now.0 ≡ n + length after = ap length now.3.1 ∙ length-append content after in
    let more : length c.take_more.new.body.bytes ≡ length c.loop-body.body.bytes + n = ap length now.3.2 ∙ length-append c.loop-body.body.bytes content in
    record {
      heard = (
        so.0 ++ now.0,
        ending_is (so.0 ++ now.0) now.1 Finished _ _ open_ (heard_after so.0 now.0 Finished now.1 _ _ _ refl so.1 now.2),
        grown c.args.incoming.now so.0 now.0 c.loop-body.body.bytes c.loop-body.incoming content after so.2 (nothing_taken c.loop-body.incoming none) now.3.1 ∙ ap (λ (b : List ℕ). b ++ after) (sym now.3.2),
        last_piece (IsOpenBody framing.ToClose c.args.limit) c.args.incoming.now so.0 now.0 n
            (inr (refl, omega (arith, so_far, have, c.loop-body.invariant.within, length-append c.args.incoming.now so.0, length-append c.args.incoming.now (so.0 ++ take n now.0), length-append so.0 (take n now.0), length-take n now.0, now.3.4)))
            (omega (arith, length-drop n now.0, now.3.3, now.3.4, now.3.5)),
      );
      within = omega (arith, more, now.3.4, have, c.loop-body.invariant.within);
      full = λ some. omega (arith, some, more, long, now.3.3, now.3.4, have, c.loop-body.invariant.within);
      room = c.take_more.ensures.room_kept ∙ c.loop-body.invariant.room;
      later = omega (arith, c.take_more.ensures.cause.later);
    }

pub returns-clause-heard : goal.returns-clause-heard
returns-clause-heard g c =
    let so = c.loop-body.invariant.heard in
    let some : 0 < length c.loop-body.incoming = omega (arith, eqb-false (length c.bytes.result.now) 0 (sym c.is_empty.ensures ∙ c.loop-body-test.false), ap length c.bytes.ensures) in
    let above : c.args.limit < length (c.args.incoming.now ++ so.0) = omega (arith, ap length so.2, length-append c.loop-body.body.bytes c.loop-body.incoming, some, c.loop-body.invariant.full some) in
    (so.0, Finished, so.1, record { pieces = so.3; comes = inr (finished_fine Finished refl, (above, refl)) })
