use Rattle.std.proofs.Common.{◌≡◌, ℕ, ◌+◌, ◌-◌, ◌<◌, List, [], ◌++◌, length, take, sym, refl, ap, ◌∙◌, arith, inl, inr, length-append, append_assoc}
use Rattle.std.proofs.lemmas.List.{append-nil, length-take, length-drop, drop_all, take-append-drop}
use Rattle.std.proofs.lemmas.Result.{err_from_is_err_and}
use Rattle.s3_model.specs.Talks.{Closed, Finished}
use Rattle.http_exchange.proofs.BodyLemmas.{grown}
use Rattle.http_exchange.proofs.PieceLemmas.{last_piece, none_more, closed_fine}
use Rattle.http_exchange.proofs.TalkLemmas.{heard_nothing, heard_after, ending_is, nothing_taken}
use Rattle.http_exchange.proofs.body.take_content.Goals as goal

pub loop-left-init : goal.loop-left-init
loop-left-init g c =
    let n = c.move_to.result in
    let before = c.args.incoming.now in
    let moved = c.move_to.ensures.count in
    record {
      heard = (
        [],
        take n before,
        heard_nothing _,
        append-nil before ∙ sym (take-append-drop n before) ∙ ap (λ (b : List ℕ). take n before ++ b) (sym c.move_to.ensures.left),
        c.move_to.ensures.moved,
        omega (arith, length-take n before, moved),
        inl refl,
      );
      empty = λ some. c.move_to.ensures.left ∙ drop_all n before (omega (arith, some, moved));
      room = c.move_to.ensures.room;
      later = omega arith;
    }

pub returns-in_err-count-clause-heard : goal.returns-in_err-count-clause-heard
returns-in_err-count-clause-heard g c =
    let p = err_from_is_err_and c.from_residual.result c.from_residual.ensures.1 in
    let so = c.loop-left.invariant.heard in
    let now = c.in_err-count.ensures.heard in
    let empty = c.loop-left.invariant.empty c.loop-left-test.true in
    let short : length (c.args.incoming.now ++ so.0) < c.args.size = omega (arith, ap length so.3, ap length empty, length-append so.1 c.loop-left.incoming, so.5, c.loop-left-test.true) in
    rw p.1 (
      so.0 ++ now.0,
      now.1,
      heard_after so.0 now.0 Finished now.1 _ _ _ refl so.2 now.2,
      record {
        pieces = none_more (λ bytes. length bytes < c.args.size) c.args.incoming.now so.0 now.0 now.1 short now.3.0;
        comes = inl (p.2 ∙ now.3.1, now.3.2);
      },
    )

pub returns-then-count-eq0-clause-heard : goal.returns-then-count-eq0-clause-heard
returns-then-count-eq0-clause-heard g c =
    let so = c.loop-left.invariant.heard in
    let now = c.in_ok-count.ensures.heard in
    let empty = c.loop-left.invariant.empty c.loop-left-test.true in
    let none = nothing_taken now.0 (omega (arith, now.3.3, c.if-count-eq0.true)) in
    let closed : now.1 ≡ Closed = now.3.6 (omega (arith, c.if-count-eq0.true)) in
    let short : length (c.args.incoming.now ++ so.0) < c.args.size = omega (arith, ap length so.3, ap length empty, length-append so.1 c.loop-left.incoming, so.5, c.loop-left-test.true) in (
      so.0 ++ now.0,
      now.1,
      heard_after so.0 now.0 Finished now.1 _ _ _ refl so.2 now.2,
      record {
        pieces = none_more (λ bytes. length bytes < c.args.size) c.args.incoming.now so.0 now.0 now.1 short none;
        comes = inr (
          closed_fine now.1 closed,
          (
            omega (arith, short, ap length none, length-append c.args.incoming.now so.0, length-append c.args.incoming.now (so.0 ++ now.0), length-append so.0 now.0),
            closed,
            refl,
          ),
        );
      },
    )

pub loop-left-preserved : goal.loop-left-preserved
loop-left-preserved g c =
    let so = c.loop-left.invariant.heard in
    let now = c.in_ok-count.ensures.heard in
    let content = now.3.0 in
    let count = c.in_ok-count.count in
    let n = length content - 1 in
    let some : 0 < count = omega (arith, c.if-count-eq0.false) in
    let empty = c.loop-left.invariant.empty c.loop-left-test.true in
    let open_ : now.1 ≡ Finished = now.3.7 some in
    let so_far : length (c.args.incoming.now ++ so.0) + c.loop-left.left ≡ c.args.size = omega (arith, ap length so.3, ap length empty, length-append so.1 c.loop-left.incoming, so.5) in
    let long : length now.0 ≡ length content + length c.take_more.new.incoming = ap length now.3.1 ∙ length-append content c.take_more.new.incoming in
    record {
      heard = (
        so.0 ++ now.0,
        so.1 ++ content,
        ending_is (so.0 ++ now.0) now.1 Finished _ _ open_ (heard_after so.0 now.0 Finished now.1 _ _ _ refl so.2 now.2),
        grown c.args.incoming.now so.0 now.0 so.1 c.loop-left.incoming content c.take_more.new.incoming so.3 empty now.3.1,
        now.3.2 ∙ ap (λ (b : List ℕ). b ++ content) so.4 ∙ append_assoc c.args.body.now.bytes so.1 content,
        omega (arith, so.5, length-append so.1 content, now.3.4),
        last_piece (λ bytes. length bytes < c.args.size) c.args.incoming.now so.0 now.0 n
            (omega (arith, so_far, length-append c.args.incoming.now so.0, length-append c.args.incoming.now (so.0 ++ take n now.0), length-append so.0 (take n now.0), length-take n now.0, now.3.4, c.loop-left-test.true, some))
            (omega (arith, length-drop n now.0, now.3.3, now.3.4, now.3.5, c.loop-left-test.true, some)),
      );
      empty = λ more. nothing_taken c.take_more.new.incoming (omega (arith, more, long, now.3.3, now.3.4));
      room = c.take_more.ensures.room_kept ∙ c.loop-left.invariant.room;
      later = omega (arith, c.take_more.ensures.cause.later);
    }
