use Rattle.std.proofs.Common.{◌≡◌, ℕ, List, Result, Ok, Err, refl}
use Rattle.std.specs.Prelude.{IsNone, OnErr, OnOk}
use Rattle.std.specs.FinMap.{get, insert}
use Rattle.s3_model.specs.Maps.{MapOf}
use Rattle.s3_service.specs.ServiceState.{Ended, HasBucket, Object, State, Upload}
use Rattle.object_table.specs.Soundness.{AreSound}
use Rattle.object_table.proofs.Sound.{sound_begun, sound_still}
use Rattle.object_table.proofs.table.ObjectTable.begin.Goals as goal

module _ (objects : MapOf (MapOf Object)) (uploads : MapOf Upload) (ended : MapOf Ended) (tokens : MapOf (List ℕ)) (t : State) (is : record { objects = objects; uploads = uploads; ended = ended; tokens = tokens } ≡ t) (sound : AreSound objects uploads ended) where
  -- an upload was begun, or was not
  sound_either : {V E : Type 0} (r : Result V E) (uploads' : MapOf Upload) (at : List ℕ) (new : Upload) → OnOk r (uploads' ≡ insert uploads at new) → OnErr r (uploads' ≡ uploads) → HasBucket t new.bucket → IsNone (get t.ended at)
      → AreSound objects uploads' ended
  sound_either (Ok done) uploads' at new put same there apart = sound_begun objects uploads ended tokens t is sound uploads' at new.bucket new put refl there apart
  sound_either (Err fault) uploads' at new put same there apart = sound_still objects uploads ended sound objects uploads' ended refl same refl

pub invariant_of-self : goal.invariant_of-self
invariant_of-self c =
    sound_either c.self.inside.objects c.self.inside.uploads c.self.inside.ended c.self.inside.tokens c.args.self.now c.self.view_is c.self.invariant c.insert.result c.insert.new.self c.args.id.now c.args.upload c.insert.ensures.put c.insert.ensures.same
    c.requires.bucket c.requires.apart
