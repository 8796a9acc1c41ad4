-- What a service holds after one of its maps changed.
use Rattle.std.proofs.Common.{◌≡◌, ◌∙◌, ℕ, List, Some, None, Result, Ok, Err, sym, ap}
use Rattle.std.specs.FinMap.{empty, get, insert, remove}
use Rattle.std.specs.Option.{unwrap_or}
use Rattle.std.specs.Prelude.{IfOk}
use Rattle.s3_model.specs.Maps.{MapOf}
use Rattle.file_table.proofs.Keys.{remove_new}
use Rattle.shared_lemmas.proofs.Clashes.{some_is}
use Rattle.s3_service.specs.ServiceState.{State, Object, StoredPart, Upload, Ended, with_ended, with_object, with_part, with_upload}
use Rattle.s3_service.specs.Serves.{CopiesPart, IsThere, LiesWithin, StoresPart, bytes_within}
use Rattle.object_table.specs.declared.fault.TableFault.{TableFault}

abbrev made_of : MapOf (MapOf Object) → MapOf Upload → MapOf Ended → MapOf (List ℕ) → State
made_of objects uploads ended tokens = record { objects = objects; uploads = uploads; ended = ended; tokens = tokens }

module _ (objects : MapOf (MapOf Object)) (uploads uploads' : MapOf Upload) (ended ended' : MapOf Ended) (tokens : MapOf (List ℕ)) (t : State) where
  pub ended_is : made_of objects uploads ended tokens ≡ t → (id : List ℕ) (how : Ended) → uploads' ≡ remove uploads id → ended' ≡ insert ended id how → made_of objects uploads' ended' tokens ≡ with_ended t id how
  ended_is is id how took put =
      ap (λ (m : MapOf Upload). made_of objects m ended' tokens) took
      ∙ ap (λ (m : MapOf Ended). made_of objects (remove uploads id) m tokens) put
      ∙ ap (λ (s : State). with_ended s id how) is

  pub upload_is : made_of objects uploads ended tokens ≡ t → (id : List ℕ) (upload : Upload) → uploads' ≡ insert uploads id upload → made_of objects uploads' ended tokens ≡ with_upload t id upload
  upload_is is id upload put =
      ap (λ (m : MapOf Upload). made_of objects m ended tokens) put
      ∙ ap (λ (s : State). with_upload s id upload) is

-- the upload that was found is the one that is there
pub part_put : (uploads : MapOf Upload) (id : List ℕ) (found upload put : Upload) (number : ℕ) (part : StoredPart) → get uploads id ≡ Some found → put ≡ record found { parts = insert found.parts number part } → get uploads id ≡ Some upload
    → put ≡ record upload { parts = insert upload.parts number part }
part_put uploads id found upload put number part held is there =
    is ∙ ap (λ (u : Upload). record u { parts = insert u.parts number part }) (some_is found upload (sym held ∙ there))

pub range_put : (r : Result (List ℕ) TableFault) (old new : State) (bucket key id : List ℕ) (number : ℕ) (from_bucket from_key under : List ℕ) (range : ℕ × ℕ) (bytes : List ℕ) (source : Object)
    → IfOk r (λ etag. StoresPart old bucket key id number bytes etag new) → IsThere old from_bucket from_key under source → LiesWithin range source.bytes → bytes ≡ bytes_within range source.bytes
    → IfOk r (λ etag. CopiesPart old bucket key id number from_bucket from_key under range etag new)
range_put (Ok etag) old new bucket key id number from_bucket from_key under range bytes source stored there lies is = (
  stored.0,
  source,
  stored.1,
  there,
  lies,
  stored.2 ∙ ap (λ (piece : List ℕ). with_part old id stored.0 number (record { bytes = piece; etag = etag })) is,
)
range_put (Err fault) old new bucket key id number from_bucket from_key under range bytes source stored there lies is = tt

module _ (objects objects' : MapOf (MapOf Object)) (uploads uploads' : MapOf Upload) (ended put ended' : MapOf Ended) (tokens : MapOf (List ℕ)) (t : State) where
  -- the object is stored, and the upload ended
  pub joined_is : made_of objects uploads ended tokens ≡ t → (bucket key id : List ℕ) (object : Object) (how : Ended) → put ≡ insert ended id how → objects' ≡ insert objects bucket (insert (unwrap_or (get objects bucket) empty) key object)
      → uploads' ≡ remove uploads id → made_of objects' uploads' put tokens ≡ with_ended (with_object t bucket key object) id how
  joined_is is bucket key id object how noted stored gone =
      ap (λ (m : MapOf (MapOf Object)). made_of m uploads' put tokens) stored
      ∙ ap (λ (m : MapOf Upload). made_of (insert objects bucket (insert (unwrap_or (get objects bucket) empty) key object)) m put tokens) gone
      ∙ ap (λ (m : MapOf Ended). made_of (insert objects bucket (insert (unwrap_or (get objects bucket) empty) key object)) (remove uploads id) m tokens) noted
      ∙ ap (λ (s : State). with_ended (with_object s bucket key object) id how) is

  -- the end that was noted is taken out again
  pub undone : made_of objects uploads ended tokens ≡ t → (id : List ℕ) (how : Ended) → put ≡ insert ended id how → objects' ≡ objects → ended' ≡ remove put id → get ended id ≡ None → made_of objects' uploads ended' tokens ≡ t
  undone is id how noted same gone none =
      ap (λ (m : MapOf (MapOf Object)). made_of m uploads ended' tokens) same
      ∙ ap (λ (m : MapOf Ended). made_of objects uploads m tokens) (gone ∙ ap (λ (m : MapOf Ended). remove m id) noted ∙ remove_new ended id how none)
      ∙ is
