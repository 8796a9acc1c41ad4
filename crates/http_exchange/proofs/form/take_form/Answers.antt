use Rattle.std.proofs.Common.{◌≡◌, ℕ, List, [], ◌++◌, sym, refl, ap, subst, ◌∙◌, arith, inl, append_assoc}
use Rattle.std.proofs.lemmas.List.{append-nil}
use Rattle.std.proofs.lemmas.Result.{err_from_is_err_and}
use Rattle.s3_model.specs.Talks.{Finished}
use Rattle.http_exchange.proofs.PieceLemmas.{form_failed, form_ended, one_more}
use Rattle.http_exchange.proofs.TalkLemmas.{heard_nothing, heard_after, ending_is, nothing_taken}
use Rattle.http_exchange.proofs.form.take_form.Goals as goal

pub loop-len-init : goal.loop-len-init
loop-len-init g c = record { heard = ([], heard_nothing _, sym (append-nil _), inl refl); later = omega arith }

pub returns-in_err-refill-clause-heard : goal.returns-in_err-refill-clause-heard
returns-in_err-refill-clause-heard g c =
    let p = err_from_is_err_and c.from_residual-in_err-refill.result c.from_residual-in_err-refill.ensures.1 in
    let so = c.loop-len.invariant.heard in
    let now = c.in_err-refill.ensures.heard in
    let begins = subst g.F.Form.begins (c.bytes.ensures ∙ so.2) (rw c.in_default.is at c.in_ok-len.ensures).0 in
    rw p.1 (so.0 ++ now.0, now.1, heard_after so.0 now.0 Finished now.1 _ _ _ refl so.1 now.2, form_failed g.F.Form.has g.F.Form.cannot_be g.F.Form.begins _ _ so.0 now.0 now.1 p.0 begins now.3.0 (p.2 ∙ now.3.1) now.3.2)

pub returns-then-branch-eq0-clause-heard : goal.returns-then-branch-eq0-clause-heard
returns-then-branch-eq0-clause-heard g c =
    let so = c.loop-len.invariant.heard in
    let now = c.in_ok-refill.ensures.heard in
    let begins = subst g.F.Form.begins (c.bytes.ensures ∙ so.2) (rw c.in_default.is at c.in_ok-len.ensures).0 in
    let none = nothing_taken now.0 (now.3.1 ∙ (omega arith)) in
    (so.0 ++ now.0, now.1, heard_after so.0 now.0 Finished now.1 _ _ _ refl so.1 now.2, form_ended g.F.Form.has g.F.Form.cannot_be g.F.Form.begins _ _ so.0 now.0 now.1 begins none (now.3.3 (omega arith)))

pub loop-len-preserved : goal.loop-len-preserved
loop-len-preserved g c =
    let so = c.loop-len.invariant.heard in
    let now = c.in_ok-refill.ensures.heard in
    let begins = subst g.F.Form.begins (c.bytes.ensures ∙ so.2) (rw c.in_default.is at c.in_ok-len.ensures).0 in
    let open_ : now.1 ≡ Finished = now.3.4 (omega arith) in
    record {
      heard = (
        so.0 ++ now.0,
        ending_is (so.0 ++ now.0) now.1 Finished _ _ open_ (heard_after so.0 now.0 Finished now.1 _ _ _ refl so.1 now.2),
        now.3.0 ∙ ap (λ (b : List ℕ). b ++ now.0) so.2 ∙ append_assoc _ so.0 now.0,
        one_more g.F.Form.begins _ so.0 now.0 begins (omega (arith, now.3.1, now.3.2)),
      );
      later = omega (arith, c.refill.ensures.cause.later);
    }
