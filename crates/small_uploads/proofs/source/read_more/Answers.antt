use Rattle.std.proofs.Common.{◌≡◌, ◌∙◌, ◌+◌, ◌<◌, ℕ, List, Option, Some, None, IfSome, refl, arith, rules, ap, inl, inr, length, length-drop, length-take, subst, sym}
use Rattle.shared_lemmas.proofs.Clashes.{some_is}
use Rattle.std.specs.Prelude.{IsErrOf, Err}
use Rattle.s3_model.specs.Files.{FileStore, HeldFile}
use Rattle.s3_outside.specs.Files.{Reads, SeenFiles}
use Rattle.upload_promise.specs.Sources.{HasFewer}
use Rattle.upload_promise.proofs.SourceLemmas.{reads_seen, seen_before}
use Rattle.small_uploads.specs.declared.source.ReadFault.TheVariants as read
use Rattle.small_uploads.specs.declared.source.ReadFault.{ReadFault}
use Rattle.small_uploads.proofs.source.read_more.Goals as goal

-- where nothing was read into some room, the file ends there
ends_there : (store : FileStore) (path : List ℕ) (at count size : ℕ) (into : List ℕ) → at < size → length into + at ≡ size → count ≡ 0 → Reads store path at into count → HasFewer store path size
ends_there store path at count size into inside room none reads = λ file held.
    let same : reads.file ≡ file = some_is _ _ (sym reads.held ∙ held) in
    subst (λ (f : HeldFile). length f.bytes < size) same (elim reads.progress [
      | inl more ↦ omega (arith, none, more)
      | inr (inl empty) ↦ omega (arith, room, ap length empty)
      | inr (inr ends) ↦ omega (arith, ap length ends, length-drop at reads.file.bytes)
    ])

none_came : (seen : Option SeenFiles) (path : List ℕ) (at count size : ℕ) (into : List ℕ) → at < size → length into + at ≡ size → count ≡ 0 → IfSome seen (λ files. Reads files.store path at into count)
    → IfSome seen (λ files. IsErrOf {T = ℕ} {E = ReadFault} (Err read.Short) read.Short → HasFewer files.store path size)
none_came None path at count size into inside room none reads = tt
none_came (Some files) path at count size into inside room none reads = λ short. ends_there files.store path at count size into inside room none reads

pub returns-in-Ok-eq0-clause-short : goal.returns-in-Ok-eq0-clause-short
returns-in-Ok-eq0-clause-short g c =
    let fewer = λ (store : FileStore). IsErrOf {T = ℕ} {E = ReadFault} (Err read.Short) read.Short → HasFewer store c.args.path.now (length c.args.bytes.now) in
    seen_before _ (λ seen. refl) fewer _ _ _ _ (none_came _ c.args.path.now c.args.at c.in-Ok-eq0.field-0 (length c.args.bytes.now) c.read_at.new.into c.requires (omega (arith, c.read_at.ensures.length, length-take {A = ℕ}, length-drop {A = ℕ})) c.in-Ok-eq0.field-0-test c.in-Ok-eq0.ensures.bytes) c.in-Ok-eq0.ensures.calls

pub returns-in-Ok-clause-bytes : goal.returns-in-Ok-clause-bytes
returns-in-Ok-clause-bytes g c =
    reads_seen _ (λ seen. refl) c.args.path.now c.args.at c.in-Ok.count c.args.bytes.now _ _ _ _ _ _ (omega arith) c.in-Ok.ensures.bound c.in-Ok.ensures.bytes c.in-Ok.ensures.calls

pub returns-in-Ok-eq0-clause-bytes : goal.returns-in-Ok-eq0-clause-bytes
returns-in-Ok-eq0-clause-bytes g c = search rules

pub returns-in-Ok-clause-failed : goal.returns-in-Ok-clause-failed
returns-in-Ok-clause-failed g c = search rules
