-- A page whose keys are judged by the encoding that it names.
use Rattle.std.proofs.Common.{◌≡◌, ◌≢◌, ◌∙◌, ◌↔◌, ℕ, Bool, true, false, List, [], length, codes, refl, sym, ap, subst}
use Rattle.std.proofs.Common.{arith, Result, Ok, Err}
use Rattle.std.proofs.lemmas.Bool.{false≢true}
use Rattle.s3_model.specs.declared.answers.Listed.{Listed}
use Rattle.reply_xml.specs.declared.elements.Element.TheVariants as element
use Rattle.std.specs.Result.{IsErrAnd, OnOk}
use Rattle.reply_xml.specs.declared.faults.DocFault.{DocFault}
use Rattle.reply_xml.specs.declared.faults.DocFault.TheVariants as fault
use Rattle.reply_xml.specs.declared.tags.Tag.{Tag}
use Rattle.reply_xml.specs.Breaks.{BehindRoot, BreaksIn, IfBroken, InRoot, OnBroken, Stands}
use Rattle.reply_xml.specs.Documents.{BeginsDocument, ReadsSpace}
use Rattle.reply_xml.specs.Faults.{IfRefused, IsFault, Tells}
use Rattle.reply_xml.specs.Fits.{HoldsWell}
use Rattle.reply_xml.specs.Reading.{HoldsAs, HoldsNone}
use Rattle.reply_xml.specs.Tables.{Table}
use Rattle.reply_xml.specs.Unfit.{AKey, APrefix}
use Rattle.reply_xml.proofs.DocumentLemmas.{BeginsDocument-same}
use Rattle.reply_xml.proofs.FaultLemmas.{untold}
use Rattle.reply_xml.proofs.WholeLemmas.{inside_root}
use Rattle.s3_replies.specs.Encodings.{BreaksPage, FirstIs, NamesUrl}
use Rattle.s3_replies.specs.Listing.{EncodingLeft, HasListing, HasPage, HasPageBy, IsListing, MeansPage, Page}
use Rattle.s3_replies.specs.Listing.{SpellsKey, SpellsPrefix, key_form, keys_of, page_table, prefix_form}
use Rattle.s3_replies.proofs.EncodingLemmas.{deeper_inner, root_within}
use Rattle.s3_replies.proofs.ListingLemmas.{judged_page, page_judged, page_means}

-- the root of a page, on whatever level elements may stand in it
abbrev pub deep : Tag → ℕ → Tag
deep root room = record {
  name = root.name;
  element = root.element;
  closed = root.closed;
  room = room;
  named = root.named;
}

-- the encoding that is found first is that of the page
abbrev pub TellsPage : Tag → List ℕ → Bool → Type 0
TellsPage root inside named = (rest : List ℕ) (url : Bool) → HoldsAs (EncodingLeft false) root inside rest url
    → url ≡ named

pub url_is : (doc inside rest : List ℕ) (root : Tag) (page : Page) (named : Bool)
    → BeginsDocument (codes "ListBucketResult") doc root.closed inside → root.room ≡ 15
    → TellsPage (deep root (length doc)) inside named → HoldsAs HasPage root inside rest page → page.url ≡ named
url_is doc inside rest root page named begins room tells h =
    let long = root_within (codes "ListBucketResult") doc inside root.closed begins in
    let name : length (codes "ListBucketResult") ≡ 16 = refl in
    tells rest page.url (
      h.0,
      deeper_inner root.closed h.0 root.room (length doc) root.name.now inside rest
          (omega (arith, long, name, room)) h.1,
      h.2.encoding,
    )

abbrev pub NamesFirst : Tag → List ℕ → Bool → Type 0
NamesFirst root inside named = (named ≡ true)
    ↔ ((root.closed ≡ false) × FirstIs element.EncodingType root.room (codes "url") inside)

pub names_page : (doc inside : List ℕ) (root : Tag) (named : Bool)
    → BeginsDocument (codes "ListBucketResult") doc root.closed inside
    → NamesFirst (deep root (length doc)) inside named → (named ≡ true) ↔ NamesUrl doc
names_page doc inside root named begins first = (
  λ h. let found = first.0 h in
      record {
        inside = inside;
        begins = subst (λ (b : Bool). BeginsDocument (codes "ListBucketResult") doc b inside)
            found.0 begins;
        first = found.1;
      },
  λ n. let same = BeginsDocument-same (codes "ListBucketResult") doc inside n.inside root.closed false begins
      n.begins in
      first.1 (
        sym same.0,
        subst (λ (t : List ℕ). FirstIs element.EncodingType (length doc) (codes "url") t) same.1
            n.first,
      ),
)

pub names_nothing : (doc : List ℕ) → ((closed : Bool) (rest : List ℕ)
    → ¬ (BeginsDocument (codes "ListBucketResult") doc closed rest)) → (false ≡ true) ↔ NamesUrl doc
names_nothing doc none = (λ h. absurd (false≢true h), λ n. absurd (none false n.inside n.begins))

-- what a page that is judged says
pub judged_holds : (url : Bool) (root : Tag) (inside rest : List ℕ) (page : Page)
    → HoldsAs (HasPageBy (SpellsKey (keys_of url)) (SpellsPrefix (keys_of url))) root inside rest page
    → HoldsAs HasPage root inside rest page
judged_holds url root inside rest page h = (h.0, h.1, judged_page url h.0 page h.2)

pub no_judged : (url : Bool) (doc inside : List ℕ) (root : Tag)
    → BeginsDocument (codes "ListBucketResult") doc root.closed inside → root.room ≡ 15
    → root.name.now ≡ codes "ListBucketResult" → TellsPage (deep root (length doc)) inside url
    → HoldsNone (HasPageBy (SpellsKey (keys_of url)) (SpellsPrefix (keys_of url))) root inside → (listed : Listed)
    → ¬ (IsListing doc listed)
no_judged url doc inside root begins room name tells none listed l =
    let held = inside_root HasPage (codes "ListBucketResult") doc inside root l.0 begins room name l.1 in
    let same = url_is doc inside held.0 root l.0 url begins room tells held.1 in
    none held.0 l.0 (held.1.0, held.1.1, page_judged url held.1.0 l.0 listed same held.1.2 l.2)

pub no_judged_behind : (url : Bool) (doc inside rest : List ℕ) (root : Tag) (listed : Listed)
    → BeginsDocument (codes "ListBucketResult") doc root.closed inside → root.room ≡ 15
    → TellsPage (deep root (length doc)) inside url
    → HoldsNone (HasPageBy (SpellsKey (keys_of url)) (SpellsPrefix (keys_of url))) root inside
    → HoldsAs HasListing root inside rest listed → ⊥
no_judged_behind url doc inside rest root listed begins room tells none l =
    let has = l.2 in
    let held : HoldsAs HasPage root inside rest has.0 = (l.0, l.1, has.1) in
    let same = url_is doc inside rest root has.0 url begins room tells held in
    none rest has.0 (l.0, l.1, page_judged url l.0 has.0 listed same has.1 has.2)

pub judged_means : (url : Bool) (doc inside rest : List ℕ) (root : Tag) (page : Page)
    → BeginsDocument (codes "ListBucketResult") doc root.closed inside → root.room ≡ 15
    → TellsPage (deep root (length doc)) inside url
    → HoldsAs (HasPageBy (SpellsKey (keys_of url)) (SpellsPrefix (keys_of url))) root inside rest page
    → ((listed : Listed) → ¬ (MeansPage page listed)) → ⊥
judged_means url doc inside rest root page begins room tells h none =
    let same = url_is doc inside rest root page url begins room tells (judged_holds url root inside rest page h) in
    let says = page_means url h.0 page same h.2 in
    none says.0 says.1

-- the table of the encoding
table_of : (url : Bool) → page_table (key_form (keys_of url)) (prefix_form (keys_of url)) ≡ page_table (AKey url)
    (APrefix url)
table_of false = refl
table_of true = refl

pub breaks_inside : (url : Bool) (doc inside : List ℕ) (root : Tag) (reason : DocFault)
    → BeginsDocument (codes "ListBucketResult") doc root.closed inside → root.room ≡ 15
    → root.name.now ≡ codes "ListBucketResult" → NamesFirst (deep root (length doc)) inside url
    → BreaksIn (length doc) reason (page_table (key_form (keys_of url)) (prefix_form (keys_of url))) [] root inside
    → BreaksPage doc reason
breaks_inside url doc inside root reason begins room name first b = (
  url,
  names_page doc inside root url begins first,
  InRoot root inside (record { begins = begins; room = room; name = name })
      (subst (λ (t : Table). BreaksIn (length doc) reason t [] root inside) (table_of url) b),
)

pub breaks_behind : (url : Bool) (doc inside at more : List ℕ) (root : Tag) (reason : DocFault)
    → BeginsDocument (codes "ListBucketResult") doc root.closed inside → root.room ≡ 15
    → root.name.now ≡ codes "ListBucketResult" → NamesFirst (deep root (length doc)) inside url
    → HoldsWell (page_table (key_form (keys_of url)) (prefix_form (keys_of url))) root inside at → ReadsSpace at more
    → more ≢ [] → Stands (length doc) (length more) reason
    → BreaksPage doc reason
breaks_behind url doc inside at more root reason begins room name first well space some stands = (
  url,
  names_page doc inside root url begins first,
  BehindRoot root inside at more (record { begins = begins; room = room; name = name })
      (subst (λ (t : Table). HoldsWell t root inside at) (table_of url) well) space some stands,
)

-- a fault, with what it says of the bytes
pub broken_with : {P : Type 0} {Q R : DocFault → Type 0} (e : DocFault)
    → ((reason : DocFault) → P → Q reason → R reason) → Tells e P → OnBroken e Q → OnBroken e R
broken_with fault.Memory f p q = tt
broken_with (fault.NotADocument n) f p q = f (fault.NotADocument n) p q
broken_with (fault.Missing of) f p q = f (fault.Missing of) p q
broken_with (fault.Twice of) f p q = f (fault.Twice of) p q
broken_with fault.BadNumber f p q = f fault.BadNumber p q
broken_with fault.BadTime f p q = f fault.BadTime p q
broken_with fault.BadEscape f p q = f fault.BadEscape p q
broken_with fault.TooDeep f p q = f fault.TooDeep p q
broken_with (fault.BadText of) f p q = f (fault.BadText of) p q

-- want of memory, handed on
memory_is : {U : Type 0} (r : Result U DocFault) (e : DocFault) → IsErrAnd r (λ d. d ≡ e) → e ≡ fault.Memory
    → r ≡ Err fault.Memory
memory_is (Ok x) e h m = absurd h
memory_is (Err d) e h m = ap Err (h ∙ m)

pub memory_refused : {U : Type 0} (P : Type 0) (r : Result U DocFault) (e : DocFault) → IsErrAnd r (λ d. d ≡ e)
    → e ≡ fault.Memory → IfRefused r P
memory_refused {U} P r e h m = subst (λ (x : Result U DocFault). IfRefused x P) (sym (memory_is r e h m)) tt

pub memory_broken : {U : Type 0} (P : DocFault → Type 0) (r : Result U DocFault) (e : DocFault)
    → IsErrAnd r (λ d. d ≡ e) → e ≡ fault.Memory → IfBroken r P
memory_broken {U} P r e h m = subst (λ (x : Result U DocFault). IfBroken x P) (sym (memory_is r e h m)) tt

pub memory_fault : {U : Type 0} (wanted : DocFault) (r : Result U DocFault) (e : DocFault) → IsErrAnd r (λ d. d ≡ e)
    → e ≡ fault.Memory → IsFault r wanted
memory_fault {U} wanted r e h m = subst (λ (x : Result U DocFault). IsFault x wanted) (sym (memory_is r e h m)) tt

-- a fault that cannot be is any
pub no_fault : {U : Type 0} (r : Result U DocFault) (e wanted : DocFault) → IsErrAnd r (λ d. d ≡ e) → IfRefused r ⊥
    → IsFault r wanted
no_fault (Ok x) e wanted h n = absurd h
no_fault (Err d) e wanted h n = untold d wanted n

-- what holds, holds where there is an answer
pub on_ok : {T E P : Type 0} (r : Result T E) → P → OnOk r P
on_ok (Ok x) h = h
on_ok (Err e) h = tt
