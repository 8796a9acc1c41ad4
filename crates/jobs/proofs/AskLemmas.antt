-- The request of a step, from the texts that were copied for it.
use Rattle.std.proofs.Common.{◌≡◌, ◌∙◌, ℕ, List, Option, Some, refl, ap}
use Rattle.s3_model.specs.declared.requests.Ask.TheVariants as ask
use Rattle.s3_model.specs.declared.tasks.Task.{Task}
use Rattle.s3_model.specs.Lists.{Reserved}
use Rattle.job_terms.specs.Jobs.{IsObject, IsSource, Origin, Target}
use Rattle.jobs.specs.Jobs.{asked_range, ends_of, stated_content}

module _ (task : Task) (bucket key : List ℕ) where
  module _ (is : IsObject task.dest bucket key) where
    abbrev to : Target task
    to = record { bucket = bucket; key = key; is_dest = is }

    pub put : (content : Option (List ℕ)) → content ≡ task.content
        → (to : Target task) × (ask.Put bucket key content task.fresh ≡ ask.Put to.bucket to.key task.content task.fresh)
    put content e = (to, ap (λ (c : Option (List ℕ)). ask.Put bucket key c task.fresh) e)

    pub create : (content : Option (List ℕ)) → content ≡ stated_content task.kind task.content
        → (to : Target task) × (ask.Create bucket key content ≡ ask.Create to.bucket to.key (stated_content task.kind task.content))
    create content e = (to, ap (λ (c : Option (List ℕ)). ask.Create bucket key c) e)

    module _ (upload : Option (List ℕ)) (id : List ℕ) (known : upload ≡ Some id) where
      pub part : (number : ℕ) → (to : Target task) × (i : List ℕ) × (upload ≡ Some i) × (ask.Part bucket key id number ≡ ask.Part to.bucket to.key i number)
      part number = (to, id, known, refl)

      pub abort : (to : Target task) × (i : List ℕ) × (upload ≡ Some i) × (ask.Abort bucket key id ≡ ask.Abort to.bucket to.key i)
      abort = (to, id, known, refl)

      pub complete : (etags : Option (Reserved (List ℕ))) (given copies : Reserved (List ℕ)) → etags ≡ Some given → copies.items ≡ given.items
          → (to : Target task) × (i : List ℕ) × (g : Reserved (List ℕ)) × (spare : ℕ) × (upload ≡ Some i) × (etags ≡ Some g)
          × (ask.Complete bucket key id copies task.fresh ≡ ask.Complete to.bucket to.key i (record { items = g.items; spare = spare }) task.fresh)
      complete etags given copies e same =
          (to, id, given, copies.spare, known, e, ap (λ (items : List (List ℕ)). ask.Complete bucket key id (record { items = items; spare = copies.spare }) task.fresh) same)

    module _ (from_bucket from_key : List ℕ) (read : IsSource task.source from_bucket from_key) (etag : List ℕ) (same : etag ≡ task.etag) where
      abbrev taken : Origin task
      taken = record { bucket = from_bucket; key = from_key; is_source = read }

      pub copy : (to : Target task) × (from : Origin task)
          × (ask.Copy bucket key from_bucket from_key etag ≡ ask.Copy to.bucket to.key from.bucket from.key task.etag)
      copy = (to, taken, ap (λ (e : List ℕ). ask.Copy bucket key from_bucket from_key e) same)

      pub part_copy : (upload : Option (List ℕ)) (id : List ℕ) → upload ≡ Some id → (number : ℕ) (range ends : ℕ × ℕ) → ends ≡ ends_of range
          → (to : Target task) × (from : Origin task) × (i : List ℕ) × (upload ≡ Some i)
          × (ask.PartCopy bucket key id number from_bucket from_key etag ends ≡ ask.PartCopy to.bucket to.key i number from.bucket from.key task.etag (ends_of range))
      part_copy upload id known number range ends e = (
        to,
        taken,
        id,
        known,
        ap (λ (t : List ℕ). ask.PartCopy bucket key id number from_bucket from_key t ends) same
            ∙ ap (λ (r : ℕ × ℕ). ask.PartCopy bucket key id number from_bucket from_key task.etag r) e,
      )

  module _ (is : IsSource task.source bucket key) where
    pub get : (etag : List ℕ) (number : ℕ) (range : ℕ × ℕ) (asked : Option (ℕ × ℕ)) → etag ≡ task.etag → asked ≡ asked_range number range
        → (from : Origin task) × (ask.Get bucket key etag asked ≡ ask.Get from.bucket from.key task.etag (asked_range number range))
    get etag number range asked e r =
        (record { bucket = bucket; key = key; is_source = is }, ap (λ (t : List ℕ). ask.Get bucket key t asked) e ∙ ap (λ (o : Option (ℕ × ℕ)). ask.Get bucket key task.etag o) r)
