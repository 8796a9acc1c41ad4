use Rattle.std.proofs.Common.{◌⊎◌, ℕ, List, inl, inr, rules, subst, sym}
use Rattle.s3_model.specs.declared.requests.Ask.TheVariants as ask
use Rattle.s3_service.specs.Serves.{Joins, JoinsAgain}
use Rattle.std.proofs.lemmas.Result.{err_from_is_err_and}
use Rattle.shared_lemmas.proofs.Clashes.{false_true}
use Rattle.table_service.proofs.Rows.{complete_row, served_as}
use Rattle.table_service.proofs.uploads.serve_upload.Goals as goal

pub returns-in_ok-id-in-Create-clause-served : goal.returns-in_ok-id-in-Create-clause-served
returns-in_ok-id-in-Create-clause-served c =
    served_as c.args.manner.now.limits c.args.table.now c.args.ask.now (ask.Create c.as_str.result.now c.as_str-in-Create.result.now c.in-Create.content) _ _ _ (search rules) c.in_ok-id-in-Create.ensures.created

pub returns-in_ok-complete-in-Complete-clause-served :
    goal.returns-in_ok-complete-in-Complete-clause-served
returns-in_ok-complete-in-Complete-clause-served c =
    served_as c.args.manner.now.limits c.args.table.now c.args.ask.now (ask.Complete c.as_str-in-Complete.result.now c.as_str-in-Complete-2.result.now c.as_str-in-Complete-3.result.now c.in-Complete.etags c.in-Complete.fresh) _ _ _ (search rules)
    (subst (λ (etags : List (List ℕ)). Joins c.args.manner.now.limits c.args.table.now c.as_str-in-Complete.result.now c.as_str-in-Complete-2.result.now c.as_str-in-Complete-3.result.now etags c.in-Complete.fresh c.complete.new.self
    ⊎ JoinsAgain c.args.table.now c.as_str-in-Complete-3.result.now etags c.complete.new.self)
    c.as_slice.ensures c.in_ok-complete-in-Complete.ensures.joined)

pub returns-in_ok-abort-in-Abort-clause-served : goal.returns-in_ok-abort-in-Abort-clause-served
returns-in_ok-abort-in-Abort-clause-served c =
    served_as c.args.manner.now.limits c.args.table.now c.args.ask.now (ask.Abort c.as_str-in-Abort.result.now c.as_str-in-Abort-2.result.now c.as_str-in-Abort-3.result.now) _ _ _ (search rules) c.in_ok-abort-in-Abort.ensures.aborted

pub returns-in_err-complete-in-Complete-clause-willing :
    goal.returns-in_err-complete-in-Complete-clause-willing
returns-in_err-complete-in-Complete-clause-willing c = λ answered bytes new may.
    let row = complete_row c.args.manner.now.limits c.args.table.now c.args.ask.now c.args.body.now answered bytes new c.as_str-in-Complete.result.now c.as_str-in-Complete-2.result.now c.as_str-in-Complete-3.result.now c.in-Complete.etags c.in-Complete.fresh (search rules) may in
    let same = subst (λ (etags : List (List ℕ)). Joins c.args.manner.now.limits c.args.table.now c.as_str-in-Complete.result.now c.as_str-in-Complete-2.result.now c.as_str-in-Complete-3.result.now etags c.in-Complete.fresh new
    ⊎ JoinsAgain c.args.table.now c.as_str-in-Complete-3.result.now etags new) (sym c.as_slice.ensures) row in
    let p = err_from_is_err_and c.from_residual-in_err-complete-in-Complete.result c.from_residual-in_err-complete-in-Complete.ensures.1 in
    rw (p.1, p.2) (elim same [
      | inl joins ↦ c.in_err-complete-in-Complete.ensures.willing new joins
      | inr again ↦ absurd (false_true (c.in_err-complete-in-Complete.ensures.again new again))
    ])
