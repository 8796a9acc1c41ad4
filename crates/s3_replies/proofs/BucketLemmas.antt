-- A bucket, as its parts are found.
use Rattle.std.proofs.Common.{◌≡◌, ◌∙◌, ℕ, true, false, List, [], Option, Some, None, sym, refl, subst}
use Rattle.std.specs.Option.{is_some}
use Rattle.std.proofs.lemmas.Bool.{false≢true}
use Rattle.s3_model.specs.Lists.{Reserved}
use Rattle.s3_model.specs.declared.places.Entry.{Entry}
use Rattle.reply_xml.specs.declared.elements.Element.TheVariants as element
use Rattle.reply_xml.specs.declared.tags.Child.{Child}
use Rattle.s3_replies.specs.Buckets.{BucketLeft, HasBucket, HasEachBucket, ListLeft}
use Rattle.reply_xml.specs.Contents.{Content, Only, is_the, named}
use Rattle.reply_xml.specs.Children.{IsFormed, IsLeafOf}
use Rattle.reply_xml.specs.Reading.{ReadsAs, ReadsNone, Advances, Stops, ReadsSome, OnceLeft, LeafLeft}
use Rattle.reply_values.specs.Times.{SpellsTime}
use Rattle.reply_xml.proofs.ChildLemmas.{is_other, once_here, once_bad, once_missing, leaf_same, IsFormed-same}
use Rattle.s3_replies.proofs.EachLemmas.{Each-same}
use Rattle.s3_replies.proofs.EntryLemmas.{entries_same}
use Rattle.reply_values.proofs.TimeValues.{SpellsTime-same}
use Rattle.reply_xml.proofs.TakeLemmas.{Passes, first_advanced, other_advanced, first_stopped, other_stopped, both_pass}
use Rattle.reply_xml.proofs.TakeLemmas.{part_advanced, part_stopped, skipped, named_passes}

abbrev NameLeft : Option (List ℕ) → Content → List ℕ × ℕ → Type 0
NameLeft name c v = LeafLeft (IsFormed element.Name) element.Name name c v.0

abbrev CreatedLeft : Option ℕ → Content → List ℕ × ℕ → Type 0
CreatedLeft created c v = LeafLeft SpellsTime element.CreationDate created c v.1

name_passes : (name : Option (List ℕ)) (child : Child) → is_the element.Name child.element ≡ false
    → Passes (NameLeft name) child
name_passes name child h = named_passes (λ cs v. OnceLeft (IsLeafOf (IsFormed element.Name)) name cs v.0) element.Name
    child h

created_passes : (created : Option ℕ) (child : Child) → is_the element.CreationDate child.element ≡ false
    → Passes (CreatedLeft created) child
created_passes created child h = named_passes (λ cs v. OnceLeft (IsLeafOf SpellsTime) created cs v.1)
    element.CreationDate child h

pub name_advanced : (name now : Option (List ℕ)) (created : Option ℕ) (child : Child) (bytes rest : List ℕ)
    → is_the element.Name child.element ≡ true
    → Advances (LeafLeft (IsFormed element.Name) element.Name name)
    (LeafLeft (IsFormed element.Name) element.Name now) child bytes rest
    → Advances (BucketLeft name created) (BucketLeft now created) child bytes rest
name_advanced name now created child bytes rest h a =
    first_advanced (NameLeft name) (NameLeft now) (CreatedLeft created) child bytes rest
    (part_advanced (λ v. v.0) (LeafLeft (IsFormed element.Name) element.Name name)
    (LeafLeft (IsFormed element.Name) element.Name now) child bytes rest a)
    (created_passes created child (is_other element.Name element.CreationDate child.element h refl))

pub name_stopped : (name : Option (List ℕ)) (created : Option ℕ) (child : Child) (bytes : List ℕ)
    → Stops (LeafLeft (IsFormed element.Name) element.Name name) child bytes
    → Stops (BucketLeft name created) child bytes
name_stopped name created child bytes s =
    first_stopped (NameLeft name) (CreatedLeft created) child bytes
    (part_stopped (λ v. v.0) (LeafLeft (IsFormed element.Name) element.Name name) child bytes s)

pub created_advanced : (name : Option (List ℕ)) (created now : Option ℕ) (child : Child) (bytes rest : List ℕ)
    → is_the element.Name child.element ≡ false → is_the element.CreationDate child.element ≡ true
    → Advances (LeafLeft SpellsTime element.CreationDate created)
    (LeafLeft SpellsTime element.CreationDate now) child bytes rest
    → Advances (BucketLeft name created) (BucketLeft name now) child bytes rest
created_advanced name created now child bytes rest other h a =
    other_advanced (NameLeft name) (CreatedLeft created) (CreatedLeft now) child bytes rest
    (part_advanced (λ v. v.1) (LeafLeft SpellsTime element.CreationDate created)
    (LeafLeft SpellsTime element.CreationDate now) child bytes rest a) (name_passes name child other)

pub created_stopped : (name : Option (List ℕ)) (created : Option ℕ) (child : Child) (bytes : List ℕ)
    → Stops (LeafLeft SpellsTime element.CreationDate created) child bytes → Stops (BucketLeft name created) child bytes
created_stopped name created child bytes s =
    other_stopped (NameLeft name) (CreatedLeft created) child bytes
    (part_stopped (λ v. v.1) (LeafLeft SpellsTime element.CreationDate created) child bytes s)

pub bucket_skipped : (name : Option (List ℕ)) (created : Option ℕ) (child : Child) (bytes rest : List ℕ)
    → is_the element.Name child.element ≡ false → is_the element.CreationDate child.element ≡ false
    → ReadsSome child bytes rest → Advances (BucketLeft name created) (BucketLeft name created) child bytes rest
bucket_skipped name created child bytes rest n d s =
    skipped (BucketLeft name created) child bytes rest
    (both_pass (NameLeft name) (CreatedLeft created) child (name_passes name child n)
    (created_passes created child d)) s

-- a bucket, by what is left to be found of it at first
pub bucket_opened : (child : Child) (bytes rest : List ℕ) (entry : Entry) → ReadsAs HasBucket child bytes rest entry
    → ReadsAs (BucketLeft None None) child bytes rest (entry.key, entry.micros)
bucket_opened child bytes rest entry r = (r.0, r.1, (r.2.name, r.2.created))

pub bucket_closed : (child : Child) (bytes rest : List ℕ) (entry : Entry) → entry.size ≡ 0 → entry.etag ≡ []
    → ReadsAs (BucketLeft None None) child bytes rest (entry.key, entry.micros)
    → ReadsAs HasBucket child bytes rest entry
bucket_closed child bytes rest entry size etag r =
    (r.0, r.1, record { name = r.2.0; created = r.2.1; size = size; etag = etag })

pub bucket_left : (name : List ℕ) (created : ℕ) (found : Option (List ℕ)) (made : Option ℕ) (text : List ℕ)
    → found ≡ Some name → made ≡ Some created → BucketLeft found made (Only text) (name, created)
bucket_left name created found made text e f =
    subst (λ (o : Option (List ℕ)). BucketLeft o made (Only text) (name, created)) (sym e)
    (subst (λ (o : Option ℕ). BucketLeft (Some name) o (Only text) (name, created)) (sym f)
    ((refl, refl), (refl, refl)))

pub no_bucket_name : (found : Option (List ℕ)) (made : Option ℕ) (text : List ℕ) (value : List ℕ × ℕ) → found ≡ None
    → BucketLeft found made (Only text) value → ⊥
no_bucket_name found made text value e h =
    once_missing (IsLeafOf (IsFormed element.Name)) value.0
    (subst (λ (o : Option (List ℕ)). OnceLeft (IsLeafOf (IsFormed element.Name)) o [] value.0) e h.0)

pub no_bucket_date : (found : Option (List ℕ)) (made : Option ℕ) (text : List ℕ) (value : List ℕ × ℕ) → made ≡ None
    → BucketLeft found made (Only text) value → ⊥
no_bucket_date found made text value e h = once_missing (IsLeafOf SpellsTime) value.1
    (subst (λ (o : Option ℕ). OnceLeft (IsLeafOf SpellsTime) o [] value.1) e h.1)

-- an element of a bucket is one bucket, and an element of buckets one list of them
pub HasBucket-same : (c : Content) (e f : Entry) → HasBucket c e → HasBucket c f → f ≡ e
HasBucket-same c e f r s =
    entries_same e f (leaf_same (IsFormed element.Name) (IsFormed-same element.Name)
    (named element.Name c) e.key f.key r.name s.name) (s.size ∙ sym r.size) (s.etag ∙ sym r.etag)
    (leaf_same SpellsTime (λ text v w a b. SpellsTime-same text w v b a)
    (named element.CreationDate c) e.micros f.micros r.created s.created)

pub HasEachBucket-same : (c : Content) (es fs : List Entry) → HasEachBucket c es → HasEachBucket c fs → fs ≡ es
HasEachBucket-same c es fs r s = Each-same HasBucket HasBucket-same (named element.Bucket c) es fs r s

-- the list of buckets, found for the first time or not at all
pub list_advanced : (found : Option (Reserved Entry)) (rows : Reserved Entry) (child : Child) (bytes rest : List ℕ)
    → is_some found ≡ false → is_the element.Buckets child.element ≡ true
    → ReadsAs HasEachBucket child bytes rest rows.items → Advances (ListLeft found)
    (ListLeft (Some rows)) child bytes rest
list_advanced None rows child bytes rest e h r = (
  r.0,
  r.1,
  λ text more values. once_here HasEachBucket element.Buckets text child.element r.0 more rows.items values h r.2
      (λ other s. HasEachBucket-same r.0 rows.items other r.2 s),
)
list_advanced (Some other) rows child bytes rest e h r = absurd (false≢true (sym e))

pub list_stopped : (found : Option (Reserved Entry)) (child : Child) (bytes : List ℕ) → is_some found ≡ false
    → is_the element.Buckets child.element ≡ true → ReadsNone HasEachBucket child bytes
    → Stops (ListLeft found) child bytes
list_stopped None child bytes e h none inner rest text more values r l =
    once_bad HasEachBucket element.Buckets text child.element inner more values h
    (λ other s. none rest other (inner, r, s)) l
list_stopped (Some other) child bytes e h none inner rest text more values r l = absurd (false≢true (sym e))

pub list_left : (found : Option (Reserved Entry)) (rows : Reserved Entry) (text : List ℕ) → found ≡ Some rows
    → ListLeft found (Only text) rows.items
list_left found rows text e = subst (λ (o : Option (Reserved Entry)). ListLeft o (Only text) rows.items) (sym e)
    (refl, refl)

pub no_list : (found : Option (Reserved Entry)) (text : List ℕ) (entries : List Entry) → found ≡ None
    → ListLeft found (Only text) entries → ⊥
no_list found text entries e h = once_missing HasEachBucket entries
    (subst (λ (o : Option (Reserved Entry)). ListLeft o (Only text) entries) e h)
