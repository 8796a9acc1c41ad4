use Rattle.std.proofs.Common.{◌||◌, ◌∙◌, List, ℕ, ap}
use Rattle.std.specs.Str.{bytes_eq}
use Rattle.s3_model.specs.Files.{is_listed}
use Rattle.file_table.proofs.FolderLemmas.{on_err, only_front}
use Rattle.file_table.proofs.folders.add_both.Goals as goal

pub returns-clause-only : goal.returns-clause-only
returns-clause-only c =
    on_err c.add-2.result (λ same. only_front c.args.path.now c.args.end c.requires.inside c.requires.slash c.args.folders.now c.add-2.new.folders (λ f.
    ap (λ (ps : List (List ℕ)). is_listed ps f) same ∙ c.in_ok-add.ensures.added f ∙ ap (λ (front : List ℕ). bytes_eq front f || is_listed c.args.folders.now f) c.split_at.ensures.front)) c.add-2.ensures.same
