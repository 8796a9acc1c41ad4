use Rattle.std.proofs.Common.{◌≡◌, ◌≢◌, ◌∙◌, ℕ, List, [], Option, Ok, ap, subst, sym}
use Rattle.std.specs.Prelude.{IfSome}
use Rattle.std.specs.FinMap.{insert}
use Rattle.local_files.specs.Calls.{MakeTemp}
use Rattle.local_files.specs.Changes.{Changes}
use Rattle.s3_model.specs.Files.{FileStore, HeldFile}
use Rattle.s3_outside.specs.Files.{shape_at}
use Rattle.s3_outside.specs.FileCalls.{IsTempPath}
use Rattle.s3_outside.specs.declared.files.Shape.TheVariants as shape
use Rattle.outside_memory.proofs.MadeLemmas.{made_temp}
use Rattle.outside_memory.proofs.table_changes.make_in.Goals as goal

pub returns-in-Ok-clause-changes : goal.returns-in-Ok-clause-changes
returns-in-Ok-clause-changes c =
    let store = c.args.table.now in
    let dest = c.args.dest.now in
    let temp = c.in-Some-2.path in
    let named : IsTempPath dest temp = subst (λ (found : Option (List ℕ)). IfSome found (IsTempPath dest)) c.in-Some-2.is c.in_ok-path.ensures.path in
    let apart : temp ≢ dest = subst (λ (found : Option (List ℕ)). IfSome found (λ path. path ≢ dest)) c.in-Some-2.is c.in_ok-path.ensures.apart in
    let absent : shape_at store temp ≡ shape.Absent = subst (λ (found : Option (List ℕ)). IfSome found (λ path. shape_at store path ≡ shape.Absent)) c.in-Some-2.is c.in_ok-path.ensures.absent in
    let same : c.put_file.new.self ≡ record store { held = insert store.held temp (record { bytes = []; micros = 0 }) } =
    c.in-Ok.ensures.put
    ∙ ap (λ (path : List ℕ). record store { held = insert store.held path c.empty.result }) c.as_str.ensures
    ∙ ap (λ (file : HeldFile). record store { held = insert store.held temp file }) c.empty.ensures in
    subst (λ (new : FileStore). Changes (MakeTemp dest (Ok temp)) store new) (sym same) (made_temp store dest temp named apart absent)
