use Rattle.std.proofs.Common.{◌≡◌, ℕ, ◌-◌, ◌<◌, List, [], ◌++◌, length, take, drop, sym, refl, ap, subst, ◌∙◌, arith, inl, append_assoc, length-append}
use Rattle.std.proofs.lemmas.List.{append-nil, drop_at, take_rest}
use Rattle.std.proofs.lemmas.Result.{err_from_is_err_and}
use Rattle.s3_model.specs.Talks.{Finished}
use Rattle.http_exchange.specs.Exchange.{LacksLineEnd}
use Rattle.http_exchange.specs.Steps.{IsBegun}
use Rattle.http_exchange.proofs.LineLemmas.{lacks_both}
use Rattle.http_exchange.proofs.PieceLemmas.{one_more, none_more}
use Rattle.http_exchange.proofs.TalkLemmas.{heard_nothing, heard_after, ending_is, nothing_taken}
use Rattle.http_exchange.proofs.receive.take_lines.Goals as goal

begun : (before got incoming : List ℕ) → incoming ≡ before ++ got → LacksLineEnd got → length incoming < 65_536 → IsBegun before (before ++ got)
begun before got incoming split lacks short = (got, refl, lacks, omega (arith, ap length split, short))

pub loop-incoming-init : goal.loop-incoming-init
loop-incoming-init g c = record { heard = ([], heard_nothing _, sym (append-nil _), refl, inl refl); short = c.requires; later = omega arith }

pub returns-in_err-refill-clause-heard : goal.returns-in_err-refill-clause-heard
returns-in_err-refill-clause-heard g c =
    let p = err_from_is_err_and c.from_residual.result c.from_residual.ensures.1 in
    let so = c.loop-incoming.invariant.heard in
    let now = c.in_err-refill.ensures.heard in
    rw p.1 (
      so.0 ++ now.0,
      now.1,
      heard_after so.0 now.0 Finished now.1 _ _ _ refl so.1 now.2,
      (p.2 ∙ now.3.1, now.3.2, none_more (IsBegun c.args.incoming.now) c.args.incoming.now so.0 now.0 now.1 (begun _ so.0 _ so.2 so.3 c.loop-incoming.invariant.short) now.3.0),
    )

pub returns-then-branch-eq0-clause-heard : goal.returns-then-branch-eq0-clause-heard
returns-then-branch-eq0-clause-heard g c =
    let so = c.loop-incoming.invariant.heard in
    let now = c.in_ok-refill.ensures.heard in
    let none = nothing_taken now.0 (now.3.1 ∙ (omega arith)) in
    let same : so.0 ++ now.0 ≡ so.0 = ap (λ (b : List ℕ). so.0 ++ b) none ∙ append-nil so.0 in
    let kept : c.refill.new.self ≡ c.loop-incoming.incoming = now.3.0 ∙ ap (λ (b : List ℕ). c.loop-incoming.incoming ++ b) none ∙ append-nil c.loop-incoming.incoming in (
      so.0 ++ now.0,
      now.1,
      heard_after so.0 now.0 Finished now.1 _ _ _ refl so.1 now.2,
      (
        kept ∙ so.2 ∙ ap (λ (b : List ℕ). c.args.incoming.now ++ b) (sym same),
        subst LacksLineEnd (sym same) so.3,
        omega (arith, ap length kept, c.loop-incoming.invariant.short),
        now.3.3 (omega arith),
        none_more (IsBegun c.args.incoming.now) c.args.incoming.now so.0 now.0 now.1 (begun _ so.0 _ so.2 so.3 c.loop-incoming.invariant.short) none,
      ),
    )

pub returns-then-bytes-ge-HEAD_LIMIT-clause-heard : goal.returns-then-bytes-ge-HEAD_LIMIT-clause-heard
returns-then-bytes-ge-HEAD_LIMIT-clause-heard g c =
    let so = c.loop-incoming.invariant.heard in
    let now = c.in_ok-refill.ensures.heard in
    let some = c.if-branch-eq0.false in
    let count = now.3.1 in (
      so.0 ++ now.0,
      now.1,
      heard_after so.0 now.0 Finished now.1 _ _ _ refl so.1 now.2,
      (
        now.3.0 ∙ ap (λ (b : List ℕ). b ++ now.0) so.2 ∙ append_assoc c.args.incoming.now so.0 now.0,
        omega (arith, length-append so.0 now.0, count, some),
        now.3.4 (omega arith),
        one_more (IsBegun c.args.incoming.now) c.args.incoming.now so.0 now.0 (begun _ so.0 _ so.2 so.3 c.loop-incoming.invariant.short) (omega (arith, now.3.1, now.3.2)),
      ),
    )

pub loop-incoming-preserved : goal.loop-incoming-preserved
loop-incoming-preserved g c =
    let so = c.loop-incoming.invariant.heard in
    let now = c.in_ok-refill.ensures.heard in
    let open_ : now.1 ≡ Finished = now.3.4 (omega arith) in
    let inc = c.loop-incoming.incoming in
    let bytes = c.bytes-bytes.result.now in
    let kept = length c.bytes-before.result.now in
    let newest : take (length bytes - kept) (drop kept bytes) ≡ now.0 =
    take_rest bytes kept ∙ ap (drop kept) (c.bytes-bytes.ensures ∙ now.3.0) ∙ drop_at inc now.0 kept (sym (ap length c.bytes-before.ensures)) in
    let lacks : LacksLineEnd now.0 = subst LacksLineEnd newest (sym c.lacks_line_end.ensures ∙ c.if-not-lacks_line_end.false) in
    record {
      heard = (
        so.0 ++ now.0,
        ending_is (so.0 ++ now.0) now.1 Finished _ _ open_ (heard_after so.0 now.0 Finished now.1 _ _ _ refl so.1 now.2),
        now.3.0 ∙ ap (λ (b : List ℕ). b ++ now.0) so.2 ∙ append_assoc c.args.incoming.now so.0 now.0,
        lacks_both so.0 now.0 so.3 lacks,
        one_more (IsBegun c.args.incoming.now) c.args.incoming.now so.0 now.0 (begun _ so.0 _ so.2 so.3 c.loop-incoming.invariant.short) (omega (arith, now.3.1, now.3.2)),
      );
      short = omega (arith, c.if-bytes-ge-HEAD_LIMIT.false, ap length c.bytes-bytes.ensures);
      later = omega (arith, c.refill.ensures.cause.later);
    }
