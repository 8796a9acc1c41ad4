use Rattle.std.proofs.Common.{◌≡◌, ◌∙◌, ◌++◌, ◌∷◌, [], ℕ, true, List, arith, get_or, sym, ap}
use Rattle.s3_model.specs.Files.{is_listed}
use Rattle.file_table.proofs.FolderLemmas.{each_next, each_past, kept_next, listed_all, only_next}
use Rattle.file_table.proofs.folders.add_folders.Goals as goal
use Rattle.file_table.proofs.folders.add_folders.Goals.{then-as_bytes-end-eq47+in_ok-add_both, else-as_bytes-end-eq47}

pub loop-end-preserved : goal.loop-end-preserved
loop-end-preserved c =
    elim c.if-as_bytes-end-eq47.branch [
      | then-as_bytes-end-eq47+in_ok-add_both w ↦
          let slash : get_or c.args.path.now c.loop-end.end 0 ≡ 47 = ap (λ (bytes : List ℕ). get_or bytes c.loop-end.end 0) (sym c.as_bytes.ensures.value) ∙ w.if-as_bytes-end-eq47.true in
          record {
            only = only_next c.args.path.now c.args.folders.now c.loop-end.folders c.if-as_bytes-end-eq47.folders c.loop-end.end c.loop-end-test.true slash
                (λ f. ap (λ v. is_listed v f) w.folders-is ∙ w.in_ok-add_both.ensures.added f) c.loop-end.invariant.only;
            kept = kept_next c.args.path.now c.args.folders.now c.loop-end.folders c.if-as_bytes-end-eq47.folders c.loop-end.end c.loop-end-test.true slash
                (λ f. ap (λ v. is_listed v f) w.folders-is ∙ w.in_ok-add_both.ensures.added f) c.loop-end.invariant.kept;
            each = each_next c.args.path.now c.args.folders.now c.loop-end.folders c.if-as_bytes-end-eq47.folders c.loop-end.end c.loop-end-test.true slash
                (λ f. ap (λ v. is_listed v f) w.folders-is ∙ w.in_ok-add_both.ensures.added f) c.loop-end.invariant.each;
          }
      | else-as_bytes-end-eq47 w ↦ record {
        only = λ f h. c.loop-end.invariant.only f (sym (ap (λ v. is_listed v f) w.folders-is) ∙ h);
        kept = λ f h. ap (λ v. is_listed v f) w.folders-is ∙ c.loop-end.invariant.kept f h;
        each = each_past c.args.path.now (λ front. (is_listed c.if-as_bytes-end-eq47.folders front ≡ true) × (is_listed c.if-as_bytes-end-eq47.folders (front ++ 47 ∷ []) ≡ true)) c.loop-end.end
            (λ e. w.if-as_bytes-end-eq47.false (ap (λ (bytes : List ℕ). get_or bytes c.loop-end.end 0) c.as_bytes.ensures.value ∙ e))
            (λ front back e l. let both = c.loop-end.invariant.each front back e l in (ap (λ v. is_listed v front) w.folders-is ∙ both.0, ap (λ v. is_listed v (front ++ 47 ∷ [])) w.folders-is ∙ both.1));
      }
    ]

pub returns-clause-added : goal.returns-clause-added
returns-clause-added c =
    listed_all c.args.path.now c.args.folders.now c.loop-end.folders c.loop-end.end (omega arith) c.loop-end.invariant.only c.loop-end.invariant.kept c.loop-end.invariant.each
