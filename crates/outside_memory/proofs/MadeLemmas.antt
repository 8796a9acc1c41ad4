-- A call that changed files in memory, and was listed or was not.
use Rattle.std.proofs.Common.{◌≡◌, ◌≤◌, ◌∙◌, ◌⊎◌, ◌||◌, ℕ, Bool, true, false, List, [], Option, Some, None, Result, Ok, Err, refl, sym, ap, subst, inl, inr, arith}
use Rattle.std.specs.Prelude.{IfSome, IfOk, OnErr}
use Rattle.s3_model.specs.Counts.{Rose}
use Rattle.std.specs.FinMap.{get, insert}
use Rattle.s3_model.specs.Files.{FileStore, HeldFile, is_folder}
use Rattle.local_files.specs.Calls.{Call, DropTemp, Fault, Leads, MakeTemp, Remove, Rename, Stamp, WriteAt}
use Rattle.file_table.proofs.Stores.{put_below}
use Rattle.s3_model.specs.declared.list.OutOfMemory.{OutOfMemory}
use Rattle.file_table.specs.Table.{AreAlike}
use Rattle.local_files.specs.Changes.{Changes, puts_below}
use Rattle.s3_outside.specs.FileCalls.{HasMade, IsMade, IsTempPath, call_of}
use Rattle.s3_outside.specs.Files.{SeenFiles, called, shape_at, shape_of}
use Rattle.outside_memory.specs.MemFiles.{seen_files}
use Rattle.s3_outside.specs.Seen.{IsSeenAfter}
use Rattle.s3_outside.specs.declared.files.FileNote.{FileNote}
use Rattle.s3_outside.specs.declared.files.Shape.TheVariants as shape
use Rattle.s3_outside.proofs.TempLemmas.{temp_for}

some_is : {A : Type 0} (x y : A) → ◌≡◌ {A = Option A} (Some x) (Some y) → x ≡ y
some_is x y e = cc

none_is_some : {A : Type 0} (x : A) → ◌≡◌ {A = Option A} None (Some x) → ⊥
none_is_some x e = cc

rose_since : (first before after : ℕ) → first ≤ before → Rose before after → Rose first after
rose_since first before after later rose = omega arith

module _ (told : FileNote) (old new : FileStore) (calls : List FileNote) (first before after : ℕ) (later : first ≤ before) (changed : IfSome (call_of told) (λ call. Changes call old new)) where
  pub made_listed : (is_seen : Bool) (seen : Option SeenFiles) → IsSeenAfter (called told) (seen_files is_seen new calls) seen before after → IsMade told (seen_files is_seen old calls) seen first after
  made_listed false None h = tt
  made_listed false (Some s) h = elim h [ inl e ↦ absurd (none_is_some s (sym e)) | inr gone ↦ absurd (none_is_some s (sym gone.0)) ]
  made_listed true None h = elim h [ inl e ↦ absurd (none_is_some _ e) | inr gone ↦ rose_since first before after later gone.1 ]
  made_listed true (Some s) h =
      elim h [
        | inl e ↦ subst (λ (x : SeenFiles). HasMade told (record { store = old; calls = calls }) x) (sym (some_is _ _ e)) (record { calls = refl; files = changed })
        | inr gone ↦ absurd (none_is_some s (sym gone.0))
      ]

  pub made_unlisted : (is_seen : Bool) (seen : Option SeenFiles) → seen ≡ None → ((seen_files is_seen new calls ≡ None) ⊎ Rose before after) → IsMade told (seen_files is_seen old calls) seen first after
  made_unlisted false None e h = tt
  made_unlisted is_seen (Some s) e h = absurd (none_is_some s (sym e))
  made_unlisted true None e h = elim h [ inl none ↦ absurd (none_is_some _ (sym none)) | inr rose ↦ rose_since first before after later rose ]

  -- the note was made, or memory for it ran out
  pub made : (is_seen : Bool) (seen : Option SeenFiles) (note : Result FileNote OutOfMemory) → IfOk note (λ n. n ≡ told) → IfOk note (λ n. IsSeenAfter (called n) (seen_files is_seen new calls) seen before after)
      → OnErr note (seen ≡ None) → OnErr note ((seen_files is_seen new calls ≡ None) ⊎ Rose before after) → IsMade told (seen_files is_seen old calls) seen first after
  made is_seen seen (Ok n) is listed none rose = made_listed is_seen seen (subst (λ (x : FileNote). IsSeenAfter (called x) (seen_files is_seen new calls) seen before after) is listed)
  made is_seen seen (Err e) is listed none rose = made_unlisted is_seen seen none rose

-- ---- calls that failed changed nothing

unchanged : (call : Call) (store : FileStore) → Leads call store.held store.held → ((f : List ℕ) → puts_below call f ≡ false) → Changes call store store
unchanged call store leads none = record { held = leads; folders = λ f. ap (λ (b : Bool). b || is_folder store f) (sym (none f)); others = refl; unnamed = refl }

pub unwritten : (temp : List ℕ) (at : ℕ) (bytes : List ℕ) (store : FileStore) → Changes (WriteAt temp at bytes false) store store
unwritten temp at bytes store = unchanged (WriteAt temp at bytes false) store (inl refl) (λ f. refl)

pub unmade : (dest : List ℕ) (why : Fault) (store : FileStore) → Changes (MakeTemp dest (Err why)) store store
unmade dest why store = unchanged (MakeTemp dest (Err why)) store refl (λ f. refl)

pub unrenamed : (temp dest : List ℕ) (why : Fault) (store : FileStore) → Changes (Rename temp dest (Some why)) store store
unrenamed temp dest why store = unchanged (Rename temp dest (Some why)) store refl (λ f. refl)

pub undropped : (temp : List ℕ) (store : FileStore) → Changes (DropTemp temp false) store store
undropped temp store = unchanged (DropTemp temp false) store refl (λ f. refl)

pub unremoved : (path : List ℕ) (store : FileStore) → Changes (Remove path false) store store
unremoved path store = unchanged (Remove path false) store refl (λ f. refl)

pub unstamped : (path : List ℕ) (micros : ℕ) (store : FileStore) → Changes (Stamp path micros false) store store
unstamped path micros store = unchanged (Stamp path micros false) store refl (λ f. refl)

module _ (old new : FileStore) (alike : AreAlike old new) where
  still : (call : Call) → Leads call old.held new.held → ((f : List ℕ) → puts_below call f ≡ false) → Changes call old new
  still call leads none = record { held = leads; folders = λ f. alike.folders f ∙ ap (λ (b : Bool). b || is_folder old f) (sym (none f)); others = alike.others; unnamed = alike.unnamed }

  pub alike_unrenamed : (temp dest : List ℕ) (why : Fault) → Changes (Rename temp dest (Some why)) old new
  alike_unrenamed temp dest why = still (Rename temp dest (Some why)) alike.held (λ f. refl)

  pub alike_undropped : (temp : List ℕ) → Changes (DropTemp temp false) old new
  alike_undropped temp = still (DropTemp temp false) alike.held (λ f. refl)

  pub alike_unremoved : (path : List ℕ) → Changes (Remove path false) old new
  alike_unremoved path = still (Remove path false) alike.held (λ f. refl)

-- ---- a temporary file that was made

nothing_there : (store : FileStore) (path : List ℕ) (found : Option HeldFile) → shape_of store path found ≡ shape.Absent → found ≡ None
nothing_there store path None absent = refl
nothing_there store path (Some file) absent = absurd (no_file _ _ absent)
  where
    no_file : (size micros : ℕ) → shape.File size micros ≡ shape.Absent → ⊥
    no_file size micros e = cc

pub made_temp : (store : FileStore) (dest temp : List ℕ) → IsTempPath dest temp → (temp ≡ dest → ⊥) → shape_at store temp ≡ shape.Absent
    → Changes (MakeTemp dest (Ok temp)) store (record store { held = insert store.held temp (record { bytes = []; micros = 0 }) })
made_temp store dest temp named apart absent = record {
  held = (temp_for dest temp named apart, nothing_there store temp (get store.held temp) absent, (0, refl));
  folders = put_below store temp (record { bytes = []; micros = 0 });
  others = refl;
  unnamed = refl;
}

-- ---- a call on files in memory

module _ (told : FileNote) (is_seen first_seen : Bool) (old first new : FileStore) (calls first_calls : List FileNote) (faults first_faults before after : ℕ) where
  -- the next call is counted, changes the files, and is listed
  pub made_call : first ≡ old → first_calls ≡ calls → first_seen ≡ is_seen → first_faults ≡ faults → first_faults ≤ before → IfSome (call_of told) (λ call. Changes call first new) → (seen : Option SeenFiles) (note : Result FileNote OutOfMemory)
      → IfOk note (λ n. n ≡ told) → IfOk note (λ n. IsSeenAfter (called n) (seen_files first_seen new first_calls) seen before after) → OnErr note (seen ≡ None) → OnErr note ((seen_files first_seen new first_calls ≡ None) ⊎ Rose before after)
      → IsMade told (seen_files is_seen old calls) seen faults after
  made_call same_files same_calls same_seen same_faults later changed seen note is listed none rose =
      subst (λ (n : ℕ). IsMade told (seen_files is_seen old calls) seen n after) same_faults
      (subst (λ (b : Bool). IsMade told (seen_files b old calls) seen first_faults after) same_seen
      (subst (λ (cs : List FileNote). IsMade told (seen_files first_seen old cs) seen first_faults after) same_calls
      (subst (λ (store : FileStore). IsMade told (seen_files first_seen store first_calls) seen first_faults after) same_files
      (made told first new first_calls first_faults before after later changed first_seen seen note is listed none rose))))

-- what holds of the files when the call begins, as far as they are seen
pub seen_first : (Holds : FileStore → Type 0) (is_seen : Bool) (old first : FileStore) (calls : List FileNote) → first ≡ old → Holds first → IfSome (seen_files is_seen old calls) (λ files. Holds files.store)
seen_first Holds false old first calls same holds = tt
seen_first Holds true old first calls same holds = subst Holds same holds
