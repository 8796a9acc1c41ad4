-- A page of a listing, as its parts are found.
use Rattle.std.proofs.Common.{◌≡◌, ◌∙◌, ◌↔◌, ℕ, Bool, true, false, List, [], ◌∷◌, Option, Some, None, sym, refl, subst}
use Rattle.std.proofs.Common.{ap, codes}
use Rattle.std.proofs.lemmas.Bool.{false≢true}
use Rattle.s3_model.specs.declared.places.Entry.{Entry}
use Rattle.reply_xml.specs.declared.elements.Element.{Element}
use Rattle.reply_xml.specs.declared.elements.Element.TheVariants as element
use Rattle.reply_xml.specs.declared.tags.Child.{Child}
use Rattle.reply_xml.specs.declared.tags.Tag.{Tag}
use Rattle.reply_xml.specs.Contents.{Content, Only, Then, is_the, named}
use Rattle.reply_xml.specs.Children.{HasLeaf, HasOnly, IsFormed, IsLeaf, IsLeafOf}
use Rattle.s3_replies.specs.Listing.{EncodingLeft, HasEncoding, HasObjectBy, HasPageBy, ObjectsLeft, Page, PageLeft}
use Rattle.s3_replies.specs.Listing.{PrefixesLeft}
use Rattle.reply_values.specs.Numbers.{SpellsTruth}
use Rattle.reply_xml.specs.Reading.{HoldsAs, ReadsAs, ReadsSome, Advances, Stops, OnceLeft, AtMostOnceLeft, LeafLeft}
use Rattle.reply_xml.specs.Reading.{AtMostLeft, EachLeft}
use Rattle.reply_xml.proofs.ChildLemmas.{is_other, named_here, nothing_there, content_same, leaf_same, IsFormed-same}
use Rattle.s3_replies.proofs.EachLemmas.{each_start, each_end}
use Rattle.reply_xml.proofs.TakeLemmas.{Both, Passes, first_advanced, other_advanced, first_stopped, other_stopped}
use Rattle.reply_xml.proofs.TakeLemmas.{both_pass, part_advanced, part_stopped, skipped, named_passes}

pub HasLeaf-same : (of : Element) (c : Content) (v w : List ℕ) → HasLeaf of c v → HasLeaf of c w → w ≡ v
HasLeaf-same of c v w r s = leaf_same (IsFormed of) (IsFormed-same of) (named of c) v w r s

encoding_here : (inner : Content) (contents all : List Content) (url : Bool) → all ≡ inner ∷ contents
    → IsLeaf inner (codes "url") → HasEncoding all url ↔ ((contents ≡ []) × (url ≡ true))
encoding_here inner contents all false e l =
    (λ h. absurd (nothing_there inner contents (sym e ∙ h)), λ h. absurd (false≢true h.1))
encoding_here inner contents all true e l =
    (λ h. ((content_same inner h.0 contents [] (sym e ∙ h.1)).1, refl), λ h. (inner, e ∙ ap (λ cs. inner ∷ cs) h.0, l))

pub encoding_advanced : (found : Bool) (child : Child) (bytes rest text : List ℕ) → found ≡ false
    → is_the element.EncodingType child.element ≡ true → text ≡ codes "url" → ReadsAs IsLeaf child bytes rest text
    → Advances (EncodingLeft found) (EncodingLeft true) child bytes rest
encoding_advanced true child bytes rest text e h u r = absurd (false≢true (sym e))
encoding_advanced false child bytes rest text e h u r = (
  r.0,
  r.1,
  λ before more url. encoding_here r.0 (named element.EncodingType more)
      (named element.EncodingType (Then before child.element r.0 more)) url
      (named_here element.EncodingType before child.element r.0 more h) (subst (IsLeaf r.0) u r.2),
)

pub encoding_is : (inner : Content) (contents all : List Content) (url : Bool) → all ≡ inner ∷ contents
    → HasEncoding all url → IsLeaf inner (codes "url")
encoding_is inner contents all false e h = absurd (nothing_there inner contents (sym e ∙ h))
encoding_is inner contents all true e h = subst (λ (c : Content). IsLeaf c (codes "url"))
    (sym (content_same inner h.0 contents [] (sym e ∙ h.1)).0) h.2

pub encoding_none : (found : Bool) (child : Child) (bytes : List ℕ) → found ≡ false
    → is_the element.EncodingType child.element ≡ true
    → ((rest : List ℕ) → ¬ (ReadsAs IsLeaf child bytes rest (codes "url")))
    → Stops (EncodingLeft found) child bytes
encoding_none true child bytes e h none inner rest text more url r l = absurd (false≢true (sym e))
encoding_none false child bytes e h none inner rest text more url r l =
    none rest (
      inner,
      r,
      encoding_is inner (named element.EncodingType more)
          (named element.EncodingType (Then text child.element inner more)) url
          (named_here element.EncodingType text child.element inner more h) l,
    )

pub encoding_twice : (found : Bool) (child : Child) (bytes : List ℕ) → found ≡ true
    → is_the element.EncodingType child.element ≡ true → Stops (EncodingLeft found) child bytes
encoding_twice false child bytes e h inner rest text more url r l = absurd (false≢true e)
encoding_twice true child bytes e h inner rest text more url r l =
    nothing_there inner (named element.EncodingType more)
    (sym (named_here element.EncodingType text child.element inner more h) ∙ l.0)

abbrev MoreLeft : Option Bool → Content → Page → Type 0
MoreLeft more content page = LeafLeft SpellsTruth element.IsTruncated more content page.more

abbrev TokenLeft : Option (List ℕ) → Content → Page → Type 0
TokenLeft token content page = AtMostLeft (IsFormed element.NextContinuationToken) element.NextContinuationToken token
    content page.token

abbrev UrlLeft : Bool → Content → Page → Type 0
UrlLeft url content page = EncodingLeft url content page.url

abbrev EntriesLeft : (List ℕ → List ℕ → Type 0) → List Entry → Content → Page → Type 0
EntriesLeft SpellsKey entries content page = ObjectsLeft SpellsKey entries content page.entries

abbrev PartsLeft : (List ℕ → List ℕ → Type 0) → List (List ℕ) → Content → Page → Type 0
PartsLeft SpellsPrefix prefixes content page = PrefixesLeft SpellsPrefix prefixes content page.prefixes

more_passes : (more : Option Bool) (child : Child) → is_the element.IsTruncated child.element ≡ false
    → Passes (MoreLeft more) child
more_passes more child h = named_passes (λ cs (page : Page). OnceLeft (IsLeafOf SpellsTruth) more cs page.more)
    element.IsTruncated child h

token_passes : (token : Option (List ℕ)) (child : Child) → is_the element.NextContinuationToken child.element ≡ false
    → Passes (TokenLeft token) child
token_passes token child h = named_passes
    (λ cs (page : Page). AtMostOnceLeft (IsLeafOf (IsFormed element.NextContinuationToken)) token cs page.token)
    element.NextContinuationToken child h

url_passes : (url : Bool) (child : Child) → is_the element.EncodingType child.element ≡ false
    → Passes (UrlLeft url) child
url_passes false child h = named_passes (λ cs (page : Page). HasEncoding cs page.url) element.EncodingType child h
url_passes true child h = named_passes (λ cs (page : Page). (cs ≡ []) × (page.url ≡ true)) element.EncodingType child h

entries_passes : (SpellsKey : List ℕ → List ℕ → Type 0) → (entries : List Entry) (child : Child)
    → is_the element.Contents child.element ≡ false → Passes (EntriesLeft SpellsKey entries) child
entries_passes SpellsKey entries child h = named_passes
    (λ cs (page : Page). EachLeft (HasObjectBy SpellsKey) entries cs page.entries) element.Contents child h

prefixes_passes : (SpellsPrefix : List ℕ → List ℕ → Type 0) → (prefixes : List (List ℕ)) (child : Child)
    → is_the element.CommonPrefixes child.element ≡ false → Passes (PartsLeft SpellsPrefix prefixes) child
prefixes_passes SpellsPrefix prefixes child h = named_passes
    (λ cs (page : Page). EachLeft (HasOnly SpellsPrefix element.Prefix) prefixes cs page.prefixes)
    element.CommonPrefixes child h

pub more_advanced : (SpellsKey SpellsPrefix : List ℕ → List ℕ → Type 0)
    → (more : Option Bool) (token : Option (List ℕ)) (url : Bool) (entries : List Entry) (prefixes : List (List ℕ))
    (now : Option Bool) (child : Child) (bytes rest : List ℕ) → is_the element.IsTruncated child.element ≡ true
    → Advances (LeafLeft SpellsTruth element.IsTruncated more)
    (LeafLeft SpellsTruth element.IsTruncated now) child bytes rest
    → Advances (PageLeft SpellsKey SpellsPrefix more token url entries prefixes)
    (PageLeft SpellsKey SpellsPrefix now token url entries prefixes) child bytes rest
more_advanced SpellsKey SpellsPrefix more token url entries prefixes now child bytes rest h a =
    first_advanced (Both (MoreLeft more) (TokenLeft token)) (Both (MoreLeft now) (TokenLeft token))
    (Both (UrlLeft url) (Both (EntriesLeft SpellsKey entries) (PartsLeft SpellsPrefix prefixes))) child bytes rest
    (first_advanced (MoreLeft more) (MoreLeft now) (TokenLeft token) child bytes rest
    (part_advanced (λ (page : Page). page.more) (LeafLeft SpellsTruth element.IsTruncated more)
    (LeafLeft SpellsTruth element.IsTruncated now) child bytes rest a)
    (token_passes token child (is_other element.IsTruncated element.NextContinuationToken child.element h refl)))
    (both_pass (UrlLeft url) (Both (EntriesLeft SpellsKey entries) (PartsLeft SpellsPrefix prefixes)) child
    (url_passes url child (is_other element.IsTruncated element.EncodingType child.element h refl))
    (both_pass (EntriesLeft SpellsKey entries) (PartsLeft SpellsPrefix prefixes) child
    (entries_passes SpellsKey entries child (is_other element.IsTruncated element.Contents child.element h refl))
    (prefixes_passes SpellsPrefix prefixes child
    (is_other element.IsTruncated element.CommonPrefixes child.element h refl))))

pub more_stopped : (SpellsKey SpellsPrefix : List ℕ → List ℕ → Type 0)
    → (more : Option Bool) (token : Option (List ℕ)) (url : Bool) (entries : List Entry) (prefixes : List (List ℕ))
    (child : Child) (bytes : List ℕ) → Stops (LeafLeft SpellsTruth element.IsTruncated more) child bytes
    → Stops (PageLeft SpellsKey SpellsPrefix more token url entries prefixes) child bytes
more_stopped SpellsKey SpellsPrefix more token url entries prefixes child bytes s =
    first_stopped (Both (MoreLeft more) (TokenLeft token))
    (Both (UrlLeft url) (Both (EntriesLeft SpellsKey entries) (PartsLeft SpellsPrefix prefixes))) child bytes
    (first_stopped (MoreLeft more) (TokenLeft token) child bytes
    (part_stopped (λ (page : Page). page.more) (LeafLeft SpellsTruth element.IsTruncated more) child bytes s))

pub token_advanced : (SpellsKey SpellsPrefix : List ℕ → List ℕ → Type 0)
    → (more : Option Bool) (token : Option (List ℕ)) (url : Bool) (entries : List Entry) (prefixes : List (List ℕ))
    (now : Option (List ℕ)) (child : Child) (bytes rest : List ℕ)
    → is_the element.NextContinuationToken child.element ≡ true
    → Advances (AtMostLeft (IsFormed element.NextContinuationToken) element.NextContinuationToken token)
    (AtMostLeft (IsFormed element.NextContinuationToken) element.NextContinuationToken now) child bytes rest
    → Advances (PageLeft SpellsKey SpellsPrefix more token url entries prefixes)
    (PageLeft SpellsKey SpellsPrefix more now url entries prefixes) child bytes rest
token_advanced SpellsKey SpellsPrefix more token url entries prefixes now child bytes rest h a =
    first_advanced (Both (MoreLeft more) (TokenLeft token)) (Both (MoreLeft more) (TokenLeft now))
    (Both (UrlLeft url) (Both (EntriesLeft SpellsKey entries) (PartsLeft SpellsPrefix prefixes))) child bytes rest
    (other_advanced (MoreLeft more) (TokenLeft token) (TokenLeft now) child bytes rest
    (part_advanced (λ (page : Page). page.token)
    (AtMostLeft (IsFormed element.NextContinuationToken) element.NextContinuationToken token)
    (AtMostLeft (IsFormed element.NextContinuationToken) element.NextContinuationToken now) child bytes rest a)
    (more_passes more child (is_other element.NextContinuationToken element.IsTruncated child.element h refl)))
    (both_pass (UrlLeft url) (Both (EntriesLeft SpellsKey entries) (PartsLeft SpellsPrefix prefixes)) child
    (url_passes url child (is_other element.NextContinuationToken element.EncodingType child.element h refl))
    (both_pass (EntriesLeft SpellsKey entries) (PartsLeft SpellsPrefix prefixes) child
    (entries_passes SpellsKey entries child
    (is_other element.NextContinuationToken element.Contents child.element h refl))
    (prefixes_passes SpellsPrefix prefixes child
    (is_other element.NextContinuationToken element.CommonPrefixes child.element h refl))))

pub token_stopped : (SpellsKey SpellsPrefix : List ℕ → List ℕ → Type 0)
    → (more : Option Bool) (token : Option (List ℕ)) (url : Bool) (entries : List Entry) (prefixes : List (List ℕ))
    (child : Child) (bytes : List ℕ) → Stops
    (AtMostLeft (IsFormed element.NextContinuationToken) element.NextContinuationToken token) child bytes
    → Stops (PageLeft SpellsKey SpellsPrefix more token url entries prefixes) child bytes
token_stopped SpellsKey SpellsPrefix more token url entries prefixes child bytes s =
    first_stopped (Both (MoreLeft more) (TokenLeft token))
    (Both (UrlLeft url) (Both (EntriesLeft SpellsKey entries) (PartsLeft SpellsPrefix prefixes))) child bytes
    (other_stopped (MoreLeft more) (TokenLeft token) child bytes
    (part_stopped (λ (page : Page). page.token)
    (AtMostLeft (IsFormed element.NextContinuationToken) element.NextContinuationToken token) child bytes s))

pub url_advanced : (SpellsKey SpellsPrefix : List ℕ → List ℕ → Type 0)
    → (more : Option Bool) (token : Option (List ℕ)) (url : Bool) (entries : List Entry) (prefixes : List (List ℕ))
    (now : Bool) (child : Child) (bytes rest : List ℕ) → is_the element.EncodingType child.element ≡ true
    → Advances (EncodingLeft url) (EncodingLeft now) child bytes rest
    → Advances (PageLeft SpellsKey SpellsPrefix more token url entries prefixes)
    (PageLeft SpellsKey SpellsPrefix more token now entries prefixes) child bytes rest
url_advanced SpellsKey SpellsPrefix more token url entries prefixes now child bytes rest h a =
    other_advanced (Both (MoreLeft more) (TokenLeft token))
    (Both (UrlLeft url) (Both (EntriesLeft SpellsKey entries) (PartsLeft SpellsPrefix prefixes)))
    (Both (UrlLeft now) (Both (EntriesLeft SpellsKey entries) (PartsLeft SpellsPrefix prefixes))) child bytes rest
    (first_advanced (UrlLeft url) (UrlLeft now) (Both (EntriesLeft SpellsKey entries) (PartsLeft SpellsPrefix prefixes))
    child bytes rest (part_advanced (λ (page : Page). page.url) (EncodingLeft url)
    (EncodingLeft now) child bytes rest a)
    (both_pass (EntriesLeft SpellsKey entries) (PartsLeft SpellsPrefix prefixes) child
    (entries_passes SpellsKey entries child (is_other element.EncodingType element.Contents child.element h refl))
    (prefixes_passes SpellsPrefix prefixes child
    (is_other element.EncodingType element.CommonPrefixes child.element h refl))))
    (both_pass (MoreLeft more) (TokenLeft token) child
    (more_passes more child (is_other element.EncodingType element.IsTruncated child.element h refl))
    (token_passes token child (is_other element.EncodingType element.NextContinuationToken child.element h refl)))

pub url_stopped : (SpellsKey SpellsPrefix : List ℕ → List ℕ → Type 0)
    → (more : Option Bool) (token : Option (List ℕ)) (url : Bool) (entries : List Entry) (prefixes : List (List ℕ))
    (child : Child) (bytes : List ℕ) → Stops (EncodingLeft url) child bytes
    → Stops (PageLeft SpellsKey SpellsPrefix more token url entries prefixes) child bytes
url_stopped SpellsKey SpellsPrefix more token url entries prefixes child bytes s =
    other_stopped (Both (MoreLeft more) (TokenLeft token))
    (Both (UrlLeft url) (Both (EntriesLeft SpellsKey entries) (PartsLeft SpellsPrefix prefixes))) child bytes
    (first_stopped (UrlLeft url) (Both (EntriesLeft SpellsKey entries) (PartsLeft SpellsPrefix prefixes)) child bytes
    (part_stopped (λ (page : Page). page.url) (EncodingLeft url) child bytes s))

pub entries_advanced : (SpellsKey SpellsPrefix : List ℕ → List ℕ → Type 0)
    → (more : Option Bool) (token : Option (List ℕ)) (url : Bool) (entries : List Entry) (prefixes : List (List ℕ))
    (now : List Entry) (child : Child) (bytes rest : List ℕ) → is_the element.Contents child.element ≡ true
    → Advances (ObjectsLeft SpellsKey entries) (ObjectsLeft SpellsKey now) child bytes rest
    → Advances (PageLeft SpellsKey SpellsPrefix more token url entries prefixes)
    (PageLeft SpellsKey SpellsPrefix more token url now prefixes) child bytes rest
entries_advanced SpellsKey SpellsPrefix more token url entries prefixes now child bytes rest h a =
    other_advanced (Both (MoreLeft more) (TokenLeft token))
    (Both (UrlLeft url) (Both (EntriesLeft SpellsKey entries) (PartsLeft SpellsPrefix prefixes)))
    (Both (UrlLeft url) (Both (EntriesLeft SpellsKey now) (PartsLeft SpellsPrefix prefixes))) child bytes rest
    (other_advanced (UrlLeft url) (Both (EntriesLeft SpellsKey entries) (PartsLeft SpellsPrefix prefixes))
    (Both (EntriesLeft SpellsKey now) (PartsLeft SpellsPrefix prefixes)) child bytes rest
    (first_advanced (EntriesLeft SpellsKey entries) (EntriesLeft SpellsKey now)
    (PartsLeft SpellsPrefix prefixes) child bytes rest
    (part_advanced (λ (page : Page). page.entries) (ObjectsLeft SpellsKey entries)
    (ObjectsLeft SpellsKey now) child bytes rest a)
    (prefixes_passes SpellsPrefix prefixes child
    (is_other element.Contents element.CommonPrefixes child.element h refl)))
    (url_passes url child (is_other element.Contents element.EncodingType child.element h refl)))
    (both_pass (MoreLeft more) (TokenLeft token) child
    (more_passes more child (is_other element.Contents element.IsTruncated child.element h refl))
    (token_passes token child (is_other element.Contents element.NextContinuationToken child.element h refl)))

pub entries_stopped : (SpellsKey SpellsPrefix : List ℕ → List ℕ → Type 0)
    → (more : Option Bool) (token : Option (List ℕ)) (url : Bool) (entries : List Entry) (prefixes : List (List ℕ))
    (child : Child) (bytes : List ℕ) → Stops (ObjectsLeft SpellsKey entries) child bytes
    → Stops (PageLeft SpellsKey SpellsPrefix more token url entries prefixes) child bytes
entries_stopped SpellsKey SpellsPrefix more token url entries prefixes child bytes s =
    other_stopped (Both (MoreLeft more) (TokenLeft token))
    (Both (UrlLeft url) (Both (EntriesLeft SpellsKey entries) (PartsLeft SpellsPrefix prefixes))) child bytes
    (other_stopped (UrlLeft url) (Both (EntriesLeft SpellsKey entries) (PartsLeft SpellsPrefix prefixes)) child bytes
    (first_stopped (EntriesLeft SpellsKey entries) (PartsLeft SpellsPrefix prefixes) child bytes
    (part_stopped (λ (page : Page). page.entries) (ObjectsLeft SpellsKey entries) child bytes s)))

pub prefixes_advanced : (SpellsKey SpellsPrefix : List ℕ → List ℕ → Type 0)
    → (more : Option Bool) (token : Option (List ℕ)) (url : Bool) (entries : List Entry) (prefixes : List (List ℕ))
    (now : List (List ℕ)) (child : Child) (bytes rest : List ℕ) → is_the element.CommonPrefixes child.element ≡ true
    → Advances (PrefixesLeft SpellsPrefix prefixes) (PrefixesLeft SpellsPrefix now) child bytes rest
    → Advances (PageLeft SpellsKey SpellsPrefix more token url entries prefixes)
    (PageLeft SpellsKey SpellsPrefix more token url entries now) child bytes rest
prefixes_advanced SpellsKey SpellsPrefix more token url entries prefixes now child bytes rest h a =
    other_advanced (Both (MoreLeft more) (TokenLeft token))
    (Both (UrlLeft url) (Both (EntriesLeft SpellsKey entries) (PartsLeft SpellsPrefix prefixes)))
    (Both (UrlLeft url) (Both (EntriesLeft SpellsKey entries) (PartsLeft SpellsPrefix now))) child bytes rest
    (other_advanced (UrlLeft url) (Both (EntriesLeft SpellsKey entries) (PartsLeft SpellsPrefix prefixes))
    (Both (EntriesLeft SpellsKey entries) (PartsLeft SpellsPrefix now)) child bytes rest
    (other_advanced (EntriesLeft SpellsKey entries) (PartsLeft SpellsPrefix prefixes)
    (PartsLeft SpellsPrefix now) child bytes rest
    (part_advanced (λ (page : Page). page.prefixes) (PrefixesLeft SpellsPrefix prefixes)
    (PrefixesLeft SpellsPrefix now) child bytes rest a)
    (entries_passes SpellsKey entries child (is_other element.CommonPrefixes element.Contents child.element h refl)))
    (url_passes url child (is_other element.CommonPrefixes element.EncodingType child.element h refl)))
    (both_pass (MoreLeft more) (TokenLeft token) child
    (more_passes more child (is_other element.CommonPrefixes element.IsTruncated child.element h refl))
    (token_passes token child (is_other element.CommonPrefixes element.NextContinuationToken child.element h refl)))

pub prefixes_stopped : (SpellsKey SpellsPrefix : List ℕ → List ℕ → Type 0)
    → (more : Option Bool) (token : Option (List ℕ)) (url : Bool) (entries : List Entry) (prefixes : List (List ℕ))
    (child : Child) (bytes : List ℕ) → Stops (PrefixesLeft SpellsPrefix prefixes) child bytes
    → Stops (PageLeft SpellsKey SpellsPrefix more token url entries prefixes) child bytes
prefixes_stopped SpellsKey SpellsPrefix more token url entries prefixes child bytes s =
    other_stopped (Both (MoreLeft more) (TokenLeft token))
    (Both (UrlLeft url) (Both (EntriesLeft SpellsKey entries) (PartsLeft SpellsPrefix prefixes))) child bytes
    (other_stopped (UrlLeft url) (Both (EntriesLeft SpellsKey entries) (PartsLeft SpellsPrefix prefixes)) child bytes
    (other_stopped (EntriesLeft SpellsKey entries) (PartsLeft SpellsPrefix prefixes) child bytes
    (part_stopped (λ (page : Page). page.prefixes) (PrefixesLeft SpellsPrefix prefixes) child bytes s)))

pub page_skipped : (SpellsKey SpellsPrefix : List ℕ → List ℕ → Type 0)
    → (more : Option Bool) (token : Option (List ℕ)) (url : Bool) (entries : List Entry) (prefixes : List (List ℕ))
    (child : Child) (bytes rest : List ℕ) → is_the element.IsTruncated child.element ≡ false
    → is_the element.NextContinuationToken child.element ≡ false → is_the element.EncodingType child.element ≡ false
    → is_the element.Contents child.element ≡ false → is_the element.CommonPrefixes child.element ≡ false
    → ReadsSome child bytes rest
    → Advances (PageLeft SpellsKey SpellsPrefix more token url entries prefixes)
    (PageLeft SpellsKey SpellsPrefix more token url entries prefixes) child bytes rest
page_skipped SpellsKey SpellsPrefix more token url entries prefixes child bytes rest h_more h_token h_url h_entries
    h_prefixes s =
    skipped (PageLeft SpellsKey SpellsPrefix more token url entries prefixes) child bytes rest
    (both_pass (Both (MoreLeft more) (TokenLeft token))
    (Both (UrlLeft url) (Both (EntriesLeft SpellsKey entries) (PartsLeft SpellsPrefix prefixes))) child
    (both_pass (MoreLeft more) (TokenLeft token) child (more_passes more child h_more)
    (token_passes token child h_token))
    (both_pass (UrlLeft url) (Both (EntriesLeft SpellsKey entries) (PartsLeft SpellsPrefix prefixes)) child
    (url_passes url child h_url) (both_pass (EntriesLeft SpellsKey entries) (PartsLeft SpellsPrefix prefixes) child
    (entries_passes SpellsKey entries child h_entries) (prefixes_passes SpellsPrefix prefixes child h_prefixes)))) s

-- at the start nothing of a page is found
pub page_started : (SpellsKey SpellsPrefix : List ℕ → List ℕ → Type 0)
    → (entries : List Entry) (prefixes : List (List ℕ)) (root : Tag) (bytes rest : List ℕ) (page : Page) → entries ≡ []
    → prefixes ≡ []
    → HoldsAs (HasPageBy SpellsKey SpellsPrefix) root bytes rest page ↔ HoldsAs
    (PageLeft SpellsKey SpellsPrefix None None false entries prefixes) root bytes rest page
page_started SpellsKey SpellsPrefix entries prefixes root bytes rest page e f = (
  λ r. (
    r.0,
    r.1,
    (
      (r.2.more, r.2.token),
      (
        r.2.encoding,
        (
          (each_start (HasObjectBy SpellsKey) entries (named element.Contents r.0) page.entries e).0 r.2.entries,
          (each_start (HasOnly SpellsPrefix element.Prefix) prefixes
              (named element.CommonPrefixes r.0) page.prefixes f).0 r.2.prefixes,
        ),
      ),
    ),
  ),
  λ r. (
    r.0,
    r.1,
    record {
      more = r.2.0.0;
      token = r.2.0.1;
      encoding = r.2.1.0;
      entries = (each_start (HasObjectBy SpellsKey) entries (named element.Contents r.0) page.entries e).1 r.2.1.1.0;
      prefixes = (each_start (HasOnly SpellsPrefix element.Prefix) prefixes
          (named element.CommonPrefixes r.0) page.prefixes f).1 r.2.1.1.1;
    },
  ),
)

token_left : (P : Content → List ℕ → Type 0) (token : Option (List ℕ)) → AtMostOnceLeft P token [] token
token_left P None = refl
token_left P (Some text) = (refl, refl)

url_left : (url : Bool) (text : List ℕ) → EncodingLeft url (Only text) url
url_left false text = refl
url_left true text = (refl, refl)

-- at the end it is what was found
pub page_left : (SpellsKey SpellsPrefix : List ℕ → List ℕ → Type 0)
    → (page : Page) (found : Option Bool) (text : List ℕ) → found ≡ Some page.more
    → PageLeft SpellsKey SpellsPrefix found page.token page.url page.entries page.prefixes (Only text) page
page_left SpellsKey SpellsPrefix page found text e = (
  (
    subst (λ (o : Option Bool). OnceLeft (IsLeafOf SpellsTruth) o [] page.more) (sym e) (refl, refl),
    token_left (IsLeafOf (IsFormed element.NextContinuationToken)) page.token,
  ),
  (
    url_left page.url text,
    (
      (each_end (HasObjectBy SpellsKey) page.entries page.entries).1 refl,
      (each_end (HasOnly SpellsPrefix element.Prefix) page.prefixes page.prefixes).1 refl,
    ),
  ),
)
