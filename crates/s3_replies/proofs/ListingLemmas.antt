-- A document is one page.
use Rattle.std.proofs.Common.{◌≡◌, ◌∙◌, ℕ, Bool, true, false, List, [], ◌∷◌, Option, Some, None, sym, refl, subst, ap}
use Rattle.std.proofs.Common.{codes}
use Rattle.s3_model.specs.declared.answers.Listed.{Listed}
use Rattle.s3_model.specs.declared.places.Entry.{Entry}
use Rattle.reply_xml.specs.declared.elements.Element.TheVariants as element
use Rattle.reply_xml.specs.Contents.{Content, named}
use Rattle.std.specs.List.{AllZip}
use Rattle.reply_xml.specs.Children.{AtMostOnce, Each, HasLeaf, HasOnly, IsFormed, IsLeafOf}
use Rattle.reply_values.specs.UrlText.{MeansText}
use Rattle.s3_replies.specs.Listing.{MeansEntry, MeansPage, HasEncoding, HasListing, HasObject, HasObjectBy, HasPage}
use Rattle.s3_replies.specs.Listing.{HasPageBy, IsListing, IsWritten, IsWrittenKey, IsWrittenPrefix, Page, SpellsKey}
use Rattle.s3_replies.specs.Listing.{SpellsPrefix, keys_of}
use Rattle.reply_values.specs.Numbers.{SpellsTruth}
use Rattle.reply_xml.proofs.ChildLemmas.{nothing_there, leaf_same, Once-same, IsLeafOf-same, IsFormed-same}
use Rattle.s3_replies.proofs.EachLemmas.{Each-same}
use Rattle.reply_values.proofs.NumberLemmas.{SpellsTruth-same}
use Rattle.s3_replies.proofs.ObjectLemmas.{HasObject-same}
use Rattle.s3_replies.proofs.PageLemmas.{HasLeaf-same}
use Rattle.s3_replies.proofs.PlainLemmas.{zip_parts}
use Rattle.reply_xml.specs.declared.tags.Tag.{Tag}
use Rattle.reply_xml.specs.Documents.{BeginsDocument}
use Rattle.reply_xml.specs.Reading.{HoldsAs}
use Rattle.reply_xml.proofs.LeafLemmas.{HoldsAs-same}
use Rattle.reply_xml.proofs.WholeLemmas.{IsOf-same, inside_root}

page_of : Bool → Option (List ℕ) → Bool → List Entry → List (List ℕ) → Page
page_of more token url entries prefixes =
    record { more = more; token = token; url = url; entries = entries; prefixes = prefixes }

page_is : (p : Page) → page_of p.more p.token p.url p.entries p.prefixes ≡ p
unfolding page_of
page_is p = refl

pages_same : (p q : Page) → q.more ≡ p.more → q.token ≡ p.token → q.url ≡ p.url → q.entries ≡ p.entries
    → q.prefixes ≡ p.prefixes → q ≡ p
pages_same p q more token url entries prefixes =
    sym (page_is q) ∙ ap (λ m. page_of m q.token q.url q.entries q.prefixes) more
    ∙ ap (λ t. page_of p.more t q.url q.entries q.prefixes) token
    ∙ ap (λ u. page_of p.more p.token u q.entries q.prefixes) url
    ∙ ap (λ es. page_of p.more p.token p.url es q.prefixes) entries
    ∙ ap (λ ps. page_of p.more p.token p.url p.entries ps) prefixes ∙ page_is p

pub at_most_same : {V : Type 0} (P : Content → V → Type 0) → ((c : Content) (v w : V) → P c v → P c w → w ≡ v)
    → (contents : List Content) (o p : Option V) → AtMostOnce P contents o → AtMostOnce P contents p → p ≡ o
at_most_same P alone contents None None r s = refl
at_most_same P alone contents None (Some w) r s = absurd (nothing_there s.0 [] (sym s.1 ∙ r))
at_most_same P alone contents (Some v) None r s = absurd (nothing_there r.0 [] (sym r.1 ∙ s))
at_most_same P alone contents (Some v) (Some w) r s = ap Some (Once-same P alone contents v w r s)

encoding_same : (contents : List Content) (u v : Bool) → HasEncoding contents u → HasEncoding contents v → v ≡ u
encoding_same contents false false r s = refl
encoding_same contents false true r s = absurd (nothing_there s.0 [] (sym s.1 ∙ r))
encoding_same contents true false r s = absurd (nothing_there r.0 [] (sym r.1 ∙ s))
encoding_same contents true true r s = refl

HasPage-same : (c : Content) (p q : Page) → HasPage c p → HasPage c q → q ≡ p
HasPage-same c p q r s =
    pages_same p q (leaf_same SpellsTruth (λ text v w a b. SpellsTruth-same text w v b a)
    (named element.IsTruncated c) p.more q.more r.more s.more)
    (
    at_most_same (IsLeafOf (IsFormed element.NextContinuationToken))
    (IsLeafOf-same (IsFormed element.NextContinuationToken) (IsFormed-same element.NextContinuationToken))
    (named element.NextContinuationToken c) p.token q.token r.token s.token
    )
    (encoding_same (named element.EncodingType c) p.url q.url r.encoding s.encoding)
    (Each-same HasObject (HasObject-same (IsFormed element.Key) (IsFormed-same element.Key))
    (named element.Contents c) p.entries q.entries r.entries s.entries)
    (Each-same (HasLeaf element.Prefix) (HasLeaf-same element.Prefix)
    (named element.CommonPrefixes c) p.prefixes q.prefixes r.prefixes s.prefixes)

pub IsWritten-same : (doc : List ℕ) (p q : Page) → IsWritten doc p → IsWritten doc q → q ≡ p
IsWritten-same doc p q r s = IsOf-same HasPage (codes "ListBucketResult") doc HasPage-same p q r s

-- what a page's entries and prefixes cannot mean, no listing says
pub no_listing : (doc from rest : List ℕ) (tag : Tag) (page : Page)
    → BeginsDocument (codes "ListBucketResult") doc tag.closed from → tag.room ≡ 15
    → tag.name.now ≡ codes "ListBucketResult"
    → HoldsAs HasPage tag from rest page → ((listed : Listed) → ¬ (MeansPage page listed)) → (listed : Listed)
    → ¬ (IsListing doc listed)
no_listing doc from rest tag page begins room name holds none listed l =
    let inside = inside_root HasPage (codes "ListBucketResult") doc from tag l.0 begins room name l.1 in
    let there = HoldsAs-same HasPage HasPage tag from rest inside.0 page l.0 holds inside.1 in
    none listed (subst (λ (p : Page). MeansPage p listed) (HasPage-same holds.0 page l.0 holds.2 there.0) l.2)

-- what a page that is found says, and where it ends
pub said_there : (from rest left : List ℕ) (tag : Tag) (page : Page) (listed : Listed)
    → HoldsAs HasPage tag from rest page → HoldsAs HasListing tag from left listed
    → MeansPage page listed × (left ≡ rest)
said_there from rest left tag page listed holds says =
    let there = HoldsAs-same HasPage HasListing tag from rest left page listed holds says in (
      subst (λ (p : Page). MeansPage p listed) (HasPage-same holds.0 page there.0.0 holds.2 there.0.1) there.0.2,
      there.1,
    )

-- keys and prefixes that are judged by the encoding
key_written : (url : Bool) (text value : List ℕ) → SpellsKey (keys_of url) text value → IsWrittenKey url text value
key_written false text value h = h
key_written true text value h = h

written_key : (url : Bool) (text value : List ℕ) → IsWrittenKey url text value → SpellsKey (keys_of url) text value
written_key false text value h = h
written_key true text value h = h

prefix_written : (url : Bool) (text value : List ℕ) → SpellsPrefix (keys_of url) text value
    → IsWrittenPrefix url text value
prefix_written false text value h = h
prefix_written true text value h = h

written_prefix : (url : Bool) (text value : List ℕ) → IsWrittenPrefix url text value
    → SpellsPrefix (keys_of url) text value
written_prefix false text value h = h
written_prefix true text value h = h

each_map : {V : Type 0} (P Q : Content → V → Type 0) → ((c : Content) (v : V) → P c v → Q c v)
    → (cs : List Content) (vs : List V) → Each P cs vs → Each Q cs vs
each_map P Q f [] [] h = tt
each_map P Q f [] (v ∷ vs) h = absurd h
each_map P Q f (c ∷ cs) [] h = absurd h
each_map P Q f (c ∷ cs) (v ∷ vs) h = (f c v h.0, each_map P Q f cs vs h.1)

-- what is judged is written
pub judged_page : (url : Bool) (c : Content) (page : Page)
    → HasPageBy (SpellsKey (keys_of url)) (SpellsPrefix (keys_of url)) c page → HasPage c page
judged_page url c page h = record {
  more = h.more;
  token = h.token;
  encoding = h.encoding;
  entries = each_map (HasObjectBy (SpellsKey (keys_of url))) HasObject object
      (named element.Contents c) page.entries h.entries;
  prefixes = each_map (HasOnly (SpellsPrefix (keys_of url)) element.Prefix) (HasLeaf element.Prefix) prefix
      (named element.CommonPrefixes c) page.prefixes h.prefixes;
}
  where
    object : (d : Content) (entry : Entry) → HasObjectBy (SpellsKey (keys_of url)) d entry → HasObject d entry
    object d entry o = record {
      key = (o.key.0, o.key.1, (o.key.2.0, o.key.2.1, ((key_written url o.key.2.0 entry.key o.key.2.2).0, tt)));
      modified = o.modified;
      etag = o.etag;
      size = o.size;
    }

    prefix : (d : Content) (text : List ℕ) → HasOnly (SpellsPrefix (keys_of url)) element.Prefix d text
        → HasLeaf element.Prefix d text
    prefix d text o = (o.0, o.1, (o.2.0, o.2.1, ((prefix_written url o.2.0 text o.2.2).0, tt)))

-- what is written and has a meaning is well judged
objects_judged : (url : Bool) (cs : List Content) (rows entries : List Entry) → Each HasObject cs rows
    → AllZip (MeansEntry url) rows entries
    → Each (HasObjectBy (SpellsKey (keys_of url))) cs rows
objects_judged url [] [] entries h z = tt
objects_judged url [] (row ∷ rows) entries h z = absurd h
objects_judged url (c ∷ cs) [] entries h z = absurd h
objects_judged url (c ∷ cs) (row ∷ rows) entries h z =
    let parts = zip_parts (MeansEntry url) row rows entries z in
    let text = h.0.key.2.0 in
    let same : row.key ≡ text = h.0.key.2.2.0 in (
      record {
        key = (
          h.0.key.0,
          h.0.key.1,
          (
            text,
            h.0.key.2.1,
            written_key url text row.key (
              same,
              (parts.0.key, subst (λ (w : List ℕ). MeansText url w parts.0.key) same parts.2.key, parts.2.form),
            ),
          ),
        );
        modified = h.0.modified;
        etag = h.0.etag;
        size = h.0.size;
      },
      objects_judged url cs rows parts.1 h.1 parts.3,
    )

prefixes_judged : (url : Bool) (cs : List Content) (rows texts : List (List ℕ)) → Each (HasLeaf element.Prefix) cs rows
    → AllZip (MeansText url) rows texts
    → Each (HasOnly (SpellsPrefix (keys_of url)) element.Prefix) cs rows
prefixes_judged url [] [] texts h z = tt
prefixes_judged url [] (row ∷ rows) texts h z = absurd h
prefixes_judged url (c ∷ cs) [] texts h z = absurd h
prefixes_judged url (c ∷ cs) (row ∷ rows) texts h z =
    let parts = zip_parts (MeansText url) row rows texts z in
    let text = h.0.2.0 in
    let same : row ≡ text = h.0.2.2.0 in (
      (
        h.0.0,
        h.0.1,
        (
          text,
          h.0.2.1,
          written_prefix url text row
              (same, (parts.0, subst (λ (w : List ℕ). MeansText url w parts.0) same parts.2)),
        ),
      ),
      prefixes_judged url cs rows parts.1 h.1 parts.3,
    )

pub page_judged : (url : Bool) (c : Content) (page : Page) (listed : Listed) → page.url ≡ url → HasPage c page
    → MeansPage page listed
    → HasPageBy (SpellsKey (keys_of url)) (SpellsPrefix (keys_of url)) c page
page_judged url c page listed e h m = record {
  more = h.more;
  token = h.token;
  encoding = h.encoding;
  entries = objects_judged url (named element.Contents c) page.entries listed.entries.items h.entries
      (subst (λ (u : Bool). AllZip (MeansEntry u) page.entries listed.entries.items) e m.entries);
  prefixes = prefixes_judged url (named element.CommonPrefixes c) page.prefixes listed.prefixes.items h.prefixes
      (subst (λ (u : Bool). AllZip (MeansText u) page.prefixes listed.prefixes.items) e m.prefixes);
}

-- and what is well judged has a meaning
objects_mean : (url : Bool) (cs : List Content) (rows : List Entry)
    → Each (HasObjectBy (SpellsKey (keys_of url))) cs rows
    → (entries : List Entry) × AllZip (MeansEntry url) rows entries
objects_mean url [] [] h = ([], tt)
objects_mean url [] (row ∷ rows) h = absurd h
objects_mean url (c ∷ cs) [] h = absurd h
objects_mean url (c ∷ cs) (row ∷ rows) h =
    let key = key_written url h.0.key.2.0 row.key h.0.key.2.2 in
    let later = objects_mean url cs rows h.1 in
    let entry : Entry = record { key = key.1.0; size = row.size; etag = row.etag; micros = row.micros } in (
      entry ∷ later.0,
      (
        record {
          key = subst (λ (w : List ℕ). MeansText url w key.1.0) (sym key.0) key.1.1;
          form =
              key.1.2;
          size = refl;
          etag = refl;
          micros = refl;
        },
        later.1,
      ),
    )

prefixes_mean : (url : Bool) (cs : List Content) (rows : List (List ℕ))
    → Each (HasOnly (SpellsPrefix (keys_of url)) element.Prefix) cs rows
    → (texts : List (List ℕ)) × AllZip (MeansText url) rows texts
prefixes_mean url [] [] h = ([], tt)
prefixes_mean url [] (row ∷ rows) h = absurd h
prefixes_mean url (c ∷ cs) [] h = absurd h
prefixes_mean url (c ∷ cs) (row ∷ rows) h =
    let prefix = prefix_written url h.0.2.0 row h.0.2.2 in
    let later = prefixes_mean url cs rows h.1 in
    (prefix.1.0 ∷ later.0, (subst (λ (w : List ℕ). MeansText url w prefix.1.0) (sym prefix.0) prefix.1.1, later.1))

pub page_means : (url : Bool) (c : Content) (page : Page) → page.url ≡ url
    → HasPageBy (SpellsKey (keys_of url)) (SpellsPrefix (keys_of url)) c page
    → (listed : Listed) × MeansPage page listed
page_means url c page e h =
    let entries = objects_mean url (named element.Contents c) page.entries h.entries in
    let prefixes = prefixes_mean url (named element.CommonPrefixes c) page.prefixes h.prefixes in (
      record {
        entries = record { items = entries.0; spare = 0 };
        prefixes = record { items = prefixes.0; spare = 0 };
        more = page.more;
        token = page.token;
      },
      record {
        more = refl;
        token = refl;
        entries = subst (λ (u : Bool). AllZip (MeansEntry u) page.entries entries.0) (sym e) entries.1;
        prefixes = subst (λ (u : Bool). AllZip (MeansText u) page.prefixes prefixes.0) (sym e) prefixes.1;
      },
    )
