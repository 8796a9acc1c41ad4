use Rattle.std.proofs.Common.{ℕ, List, arith, rules, subst}
use Rattle.std.specs.Prelude.{IfSome}
use Rattle.std.proofs.lemmas.List.{take_all}
use Rattle.std.proofs.lemmas.Grind.{common_steps}
use Rattle.upload_promise.proofs.SourceLemmas.{looks_both}
use Rattle.upload_promise.specs.Sources.{AreFirstBytes}
use Rattle.small_uploads.proofs.source.fill_from.Goals as goal

pub pieces-preserved : goal.pieces-preserved
pieces-preserved g c = record {
  inside = search rules;
  whole = search rules;
  files = search rules;
  looks = looks_both c.args.path.now _ _ _ c.pieces.invariant.looks c.read_more.ensures.looks;
  later = search rules;
  first = grind (arith, common_steps);
}

pub returns-clause-bytes : goal.returns-clause-bytes
returns-clause-bytes g c =
    subst (λ (bytes : List ℕ). IfSome (g.F.Files.seen c.pieces.files) (λ seen. AreFirstBytes seen.store c.args.path.now bytes)) (take_all c.pieces.at c.pieces.place c.pieces-test.false) c.pieces.invariant.first

pub returns-in_err-at-clause-looks : goal.returns-in_err-at-clause-looks
returns-in_err-at-clause-looks g c = looks_both c.args.path.now _ _ _ c.pieces.invariant.looks c.read_more.ensures.looks
