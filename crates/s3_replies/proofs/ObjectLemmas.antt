-- An object of a listing, as its parts are found.
use Rattle.std.proofs.Common.{◌≡◌, ℕ, true, false, List, [], Option, Some, None, sym, refl, subst}
use Rattle.s3_model.specs.declared.places.Entry.{Entry}
use Rattle.reply_xml.specs.declared.elements.Element.TheVariants as element
use Rattle.reply_xml.specs.declared.tags.Child.{Child}
use Rattle.reply_xml.specs.Contents.{Content, Only, is_the, named}
use Rattle.reply_xml.specs.Children.{IsFormed, IsLeafOf}
use Rattle.s3_replies.specs.Listing.{HasObjectBy, ObjectLeft}
use Rattle.reply_values.specs.Numbers.{SpellsNumber}
use Rattle.reply_xml.specs.Reading.{ReadsAs, Advances, Stops, ReadsSome, OnceLeft, LeafLeft}
use Rattle.reply_values.specs.Times.{SpellsTime}
use Rattle.reply_xml.proofs.ChildLemmas.{is_other, once_missing, leaf_same, IsFormed-same}
use Rattle.s3_replies.proofs.EntryLemmas.{entries_same}
use Rattle.reply_values.proofs.NumberLemmas.{SpellsNumber-same}
use Rattle.reply_values.proofs.TimeValues.{SpellsTime-same}
use Rattle.reply_xml.proofs.TakeLemmas.{Both, Passes, first_advanced, other_advanced, first_stopped, other_stopped}
use Rattle.reply_xml.proofs.TakeLemmas.{both_pass, part_advanced, part_stopped, skipped, named_passes}

abbrev KeyLeft : (Spells : List ℕ → List ℕ → Type 0) → Option (List ℕ) → Content → Entry → Type 0
KeyLeft Spells key content entry = LeafLeft Spells element.Key key content entry.key

key_passes : (Spells : List ℕ → List ℕ → Type 0) → (key : Option (List ℕ)) (child : Child)
    → is_the element.Key child.element ≡ false → Passes (KeyLeft Spells key) child
key_passes Spells key child h = named_passes (λ cs (entry : Entry). OnceLeft (IsLeafOf Spells) key cs entry.key)
    element.Key child h

abbrev ModifiedLeft : Option ℕ → Content → Entry → Type 0
ModifiedLeft modified content entry = LeafLeft SpellsTime element.LastModified modified content entry.micros

modified_passes : (modified : Option ℕ) (child : Child) → is_the element.LastModified child.element ≡ false
    → Passes (ModifiedLeft modified) child
modified_passes modified child h = named_passes
    (λ cs (entry : Entry). OnceLeft (IsLeafOf SpellsTime) modified cs entry.micros) element.LastModified child h

abbrev EtagLeft : Option (List ℕ) → Content → Entry → Type 0
EtagLeft etag content entry = LeafLeft (IsFormed element.ETag) element.ETag etag content entry.etag

etag_passes : (etag : Option (List ℕ)) (child : Child) → is_the element.ETag child.element ≡ false
    → Passes (EtagLeft etag) child
etag_passes etag child h = named_passes
    (λ cs (entry : Entry). OnceLeft (IsLeafOf (IsFormed element.ETag)) etag cs entry.etag) element.ETag child h

abbrev SizeLeft : Option ℕ → Content → Entry → Type 0
SizeLeft size content entry = LeafLeft SpellsNumber element.Size size content entry.size

size_passes : (size : Option ℕ) (child : Child) → is_the element.Size child.element ≡ false
    → Passes (SizeLeft size) child
size_passes size child h = named_passes (λ cs (entry : Entry). OnceLeft (IsLeafOf SpellsNumber) size cs entry.size)
    element.Size child h

pub key_advanced : (Spells : List ℕ → List ℕ → Type 0)
    → (key : Option (List ℕ)) (modified : Option ℕ) (etag : Option (List ℕ)) (size : Option ℕ) (now : Option (List ℕ))
    (child : Child) (bytes rest : List ℕ) → is_the element.Key child.element ≡ true
    → Advances (LeafLeft Spells element.Key key) (LeafLeft Spells element.Key now) child bytes rest
    → Advances (ObjectLeft Spells key modified etag size) (ObjectLeft Spells now modified etag size) child bytes rest
key_advanced Spells key modified etag size now child bytes rest h a =
    first_advanced (Both (KeyLeft Spells key) (ModifiedLeft modified))
    (Both (KeyLeft Spells now) (ModifiedLeft modified)) (Both (EtagLeft etag) (SizeLeft size)) child bytes rest
    (first_advanced (KeyLeft Spells key) (KeyLeft Spells now) (ModifiedLeft modified) child bytes rest
    (part_advanced (λ (entry : Entry). entry.key) (LeafLeft Spells element.Key key)
    (LeafLeft Spells element.Key now) child bytes rest a)
    (modified_passes modified child (is_other element.Key element.LastModified child.element h refl)))
    (both_pass (EtagLeft etag) (SizeLeft size) child
    (etag_passes etag child (is_other element.Key element.ETag child.element h refl))
    (size_passes size child (is_other element.Key element.Size child.element h refl)))

pub key_stopped : (Spells : List ℕ → List ℕ → Type 0) → (key : Option (List ℕ)) (modified : Option ℕ)
    (etag : Option (List ℕ)) (size : Option ℕ) (child : Child) (bytes : List ℕ)
    → Stops (LeafLeft Spells element.Key key) child bytes → Stops (ObjectLeft Spells key modified etag size) child bytes
key_stopped Spells key modified etag size child bytes s =
    first_stopped (Both (KeyLeft Spells key) (ModifiedLeft modified)) (Both (EtagLeft etag) (SizeLeft size)) child bytes
    (first_stopped (KeyLeft Spells key) (ModifiedLeft modified) child bytes
    (part_stopped (λ (entry : Entry). entry.key) (LeafLeft Spells element.Key key) child bytes s))

pub modified_advanced : (Spells : List ℕ → List ℕ → Type 0)
    → (key : Option (List ℕ)) (modified : Option ℕ) (etag : Option (List ℕ)) (size : Option ℕ) (now : Option ℕ)
    (child : Child) (bytes rest : List ℕ) → is_the element.LastModified child.element ≡ true
    → Advances (LeafLeft SpellsTime element.LastModified modified)
    (LeafLeft SpellsTime element.LastModified now) child bytes rest
    → Advances (ObjectLeft Spells key modified etag size) (ObjectLeft Spells key now etag size) child bytes rest
modified_advanced Spells key modified etag size now child bytes rest h a =
    first_advanced (Both (KeyLeft Spells key) (ModifiedLeft modified)) (Both (KeyLeft Spells key) (ModifiedLeft now))
    (Both (EtagLeft etag) (SizeLeft size)) child bytes rest
    (other_advanced (KeyLeft Spells key) (ModifiedLeft modified) (ModifiedLeft now) child bytes rest
    (part_advanced (λ (entry : Entry). entry.micros) (LeafLeft SpellsTime element.LastModified modified)
    (LeafLeft SpellsTime element.LastModified now) child bytes rest a)
    (key_passes Spells key child (is_other element.LastModified element.Key child.element h refl)))
    (both_pass (EtagLeft etag) (SizeLeft size) child
    (etag_passes etag child (is_other element.LastModified element.ETag child.element h refl))
    (size_passes size child (is_other element.LastModified element.Size child.element h refl)))

pub modified_stopped : (Spells : List ℕ → List ℕ → Type 0)
    → (key : Option (List ℕ)) (modified : Option ℕ) (etag : Option (List ℕ)) (size : Option ℕ) (child : Child)
    (bytes : List ℕ) → Stops (LeafLeft SpellsTime element.LastModified modified) child bytes
    → Stops (ObjectLeft Spells key modified etag size) child bytes
modified_stopped Spells key modified etag size child bytes s =
    first_stopped (Both (KeyLeft Spells key) (ModifiedLeft modified)) (Both (EtagLeft etag) (SizeLeft size)) child bytes
    (other_stopped (KeyLeft Spells key) (ModifiedLeft modified) child bytes
    (part_stopped (λ (entry : Entry). entry.micros) (LeafLeft SpellsTime element.LastModified modified) child bytes s))

pub etag_advanced : (Spells : List ℕ → List ℕ → Type 0)
    → (key : Option (List ℕ)) (modified : Option ℕ) (etag : Option (List ℕ)) (size : Option ℕ) (now : Option (List ℕ))
    (child : Child) (bytes rest : List ℕ) → is_the element.ETag child.element ≡ true
    → Advances (LeafLeft (IsFormed element.ETag) element.ETag etag)
    (LeafLeft (IsFormed element.ETag) element.ETag now) child bytes rest
    → Advances (ObjectLeft Spells key modified etag size) (ObjectLeft Spells key modified now size) child bytes rest
etag_advanced Spells key modified etag size now child bytes rest h a =
    other_advanced (Both (KeyLeft Spells key) (ModifiedLeft modified)) (Both (EtagLeft etag) (SizeLeft size))
    (Both (EtagLeft now) (SizeLeft size)) child bytes rest
    (first_advanced (EtagLeft etag) (EtagLeft now) (SizeLeft size) child bytes rest
    (part_advanced (λ (entry : Entry). entry.etag) (LeafLeft (IsFormed element.ETag) element.ETag etag)
    (LeafLeft (IsFormed element.ETag) element.ETag now) child bytes rest a)
    (size_passes size child (is_other element.ETag element.Size child.element h refl)))
    (both_pass (KeyLeft Spells key) (ModifiedLeft modified) child
    (key_passes Spells key child (is_other element.ETag element.Key child.element h refl))
    (modified_passes modified child (is_other element.ETag element.LastModified child.element h refl)))

pub etag_stopped : (Spells : List ℕ → List ℕ → Type 0)
    → (key : Option (List ℕ)) (modified : Option ℕ) (etag : Option (List ℕ)) (size : Option ℕ) (child : Child)
    (bytes : List ℕ) → Stops (LeafLeft (IsFormed element.ETag) element.ETag etag) child bytes
    → Stops (ObjectLeft Spells key modified etag size) child bytes
etag_stopped Spells key modified etag size child bytes s =
    other_stopped (Both (KeyLeft Spells key) (ModifiedLeft modified)) (Both (EtagLeft etag) (SizeLeft size)) child bytes
    (first_stopped (EtagLeft etag) (SizeLeft size) child bytes
    (part_stopped (λ (entry : Entry). entry.etag) (LeafLeft (IsFormed element.ETag) element.ETag etag) child bytes s))

pub size_advanced : (Spells : List ℕ → List ℕ → Type 0)
    → (key : Option (List ℕ)) (modified : Option ℕ) (etag : Option (List ℕ)) (size : Option ℕ) (now : Option ℕ)
    (child : Child) (bytes rest : List ℕ) → is_the element.Size child.element ≡ true
    → Advances (LeafLeft SpellsNumber element.Size size) (LeafLeft SpellsNumber element.Size now) child bytes rest
    → Advances (ObjectLeft Spells key modified etag size) (ObjectLeft Spells key modified etag now) child bytes rest
size_advanced Spells key modified etag size now child bytes rest h a =
    other_advanced (Both (KeyLeft Spells key) (ModifiedLeft modified)) (Both (EtagLeft etag) (SizeLeft size))
    (Both (EtagLeft etag) (SizeLeft now)) child bytes rest
    (other_advanced (EtagLeft etag) (SizeLeft size) (SizeLeft now) child bytes rest
    (part_advanced (λ (entry : Entry). entry.size) (LeafLeft SpellsNumber element.Size size)
    (LeafLeft SpellsNumber element.Size now) child bytes rest a)
    (etag_passes etag child (is_other element.Size element.ETag child.element h refl)))
    (both_pass (KeyLeft Spells key) (ModifiedLeft modified) child
    (key_passes Spells key child (is_other element.Size element.Key child.element h refl))
    (modified_passes modified child (is_other element.Size element.LastModified child.element h refl)))

pub size_stopped : (Spells : List ℕ → List ℕ → Type 0)
    → (key : Option (List ℕ)) (modified : Option ℕ) (etag : Option (List ℕ)) (size : Option ℕ) (child : Child)
    (bytes : List ℕ) → Stops (LeafLeft SpellsNumber element.Size size) child bytes
    → Stops (ObjectLeft Spells key modified etag size) child bytes
size_stopped Spells key modified etag size child bytes s =
    other_stopped (Both (KeyLeft Spells key) (ModifiedLeft modified)) (Both (EtagLeft etag) (SizeLeft size)) child bytes
    (other_stopped (EtagLeft etag) (SizeLeft size) child bytes
    (part_stopped (λ (entry : Entry). entry.size) (LeafLeft SpellsNumber element.Size size) child bytes s))

pub object_skipped : (Spells : List ℕ → List ℕ → Type 0)
    → (key : Option (List ℕ)) (modified : Option ℕ) (etag : Option (List ℕ)) (size : Option ℕ) (child : Child)
    (bytes rest : List ℕ) → is_the element.Key child.element ≡ false → is_the element.LastModified child.element ≡ false
    → is_the element.ETag child.element ≡ false
    → is_the element.Size child.element ≡ false → ReadsSome child bytes rest
    → Advances (ObjectLeft Spells key modified etag size) (ObjectLeft Spells key modified etag size) child bytes rest
object_skipped Spells key modified etag size child bytes rest k m e s r =
    skipped (ObjectLeft Spells key modified etag size) child bytes rest
    (
    both_pass (Both (KeyLeft Spells key) (ModifiedLeft modified)) (Both (EtagLeft etag) (SizeLeft size)) child
    (both_pass (KeyLeft Spells key) (ModifiedLeft modified) child (key_passes Spells key child k)
    (modified_passes modified child m))
    (both_pass (EtagLeft etag) (SizeLeft size) child (etag_passes etag child e) (size_passes size child s))
    )
    r

-- an object, by what is left to be found of it at first
pub object_opened : (Spells : List ℕ → List ℕ → Type 0) → (child : Child) (bytes rest : List ℕ) (entry : Entry)
    → ReadsAs (HasObjectBy Spells) child bytes rest entry
    → ReadsAs (ObjectLeft Spells None None None None) child bytes rest entry
object_opened Spells child bytes rest entry r = (r.0, r.1, ((r.2.key, r.2.modified), (r.2.etag, r.2.size)))

pub object_closed : (Spells : List ℕ → List ℕ → Type 0) → (child : Child) (bytes rest : List ℕ) (entry : Entry)
    → ReadsAs (ObjectLeft Spells None None None None) child bytes rest entry
    → ReadsAs (HasObjectBy Spells) child bytes rest entry
object_closed Spells child bytes rest entry r =
    (r.0, r.1, record { key = r.2.0.0; modified = r.2.0.1; etag = r.2.1.0; size = r.2.1.1 })

pub object_left : (Spells : List ℕ → List ℕ → Type 0) → (entry : Entry) (text : List ℕ) (key : Option (List ℕ))
    (modified : Option ℕ) (etag : Option (List ℕ)) (size : Option ℕ) → key ≡ Some entry.key
    → modified ≡ Some entry.micros
    → etag ≡ Some entry.etag → size ≡ Some entry.size → ObjectLeft Spells key modified etag size (Only text) entry
object_left Spells entry text key modified etag size k m e s = (
  (
    subst (λ (o : Option (List ℕ)). OnceLeft (IsLeafOf Spells) o [] entry.key) (sym k) (refl, refl),
    subst (λ (o : Option ℕ). OnceLeft (IsLeafOf SpellsTime) o [] entry.micros) (sym m) (refl, refl),
  ),
  (
    subst (λ (o : Option (List ℕ)). OnceLeft (IsLeafOf (IsFormed element.ETag)) o [] entry.etag) (sym e) (refl, refl),
    subst (λ (o : Option ℕ). OnceLeft (IsLeafOf SpellsNumber) o [] entry.size) (sym s) (refl, refl),
  ),
)

-- a part that is not there
pub part_missing : {V : Type 0} (Spells : List ℕ → V → Type 0) (found : Option V) (value : V) → found ≡ None
    → OnceLeft (IsLeafOf Spells) found [] value → ⊥
part_missing {V} Spells found value e h = once_missing (IsLeafOf Spells) value
    (subst (λ (o : Option V). OnceLeft (IsLeafOf Spells) o [] value) e h)

pub HasObject-same : (Spells : List ℕ → List ℕ → Type 0) → ((text v w : List ℕ) → Spells text v → Spells text w → w ≡ v)
    → (c : Content) (e f : Entry) → (HasObjectBy Spells) c e → (HasObjectBy Spells) c f → f ≡ e
HasObject-same Spells alone c e f r s =
    entries_same e f (leaf_same Spells alone (named element.Key c) e.key f.key r.key s.key)
    (leaf_same SpellsNumber (λ text v w a b. SpellsNumber-same text w v b a)
    (named element.Size c) e.size f.size r.size s.size)
    (leaf_same (IsFormed element.ETag) (IsFormed-same element.ETag) (named element.ETag c) e.etag f.etag r.etag s.etag)
    (leaf_same SpellsTime (λ text v w a b. SpellsTime-same text w v b a)
    (named element.LastModified c) e.micros f.micros r.modified s.modified)
