-- What a listing has: the names under a prefix in byte order, and the pages of it.
use Rattle.std.specs.Prelude.{◌≡◌, ◌⊎◌, ◌+◌, ◌≤◌, ◌++◌, ◌==◌, ℕ, Bool, true, false, List, [], ◌∷◌, Option, Some, None}
use Rattle.std.specs.Prelude.{map, filter, length, drop, take, IsNone, nat_eq, position, if◌then◌else◌}
use Rattle.std.specs.Str.{bytes_eq}
use Rattle.std.specs.List.{starts_with}
use Rattle.std.specs.Ordering.{nat_cmp, is_lt}
use Rattle.std.specs.Cmp.Lexicographic.{slice_cmp}
use Rattle.std.specs.FinMap.{get, entries, keys}
use Rattle.s3_model.specs.declared.answers.Listed.{Listed}
use Rattle.s3_model.specs.declared.places.Entry.{Entry}
use Rattle.s3_service.specs.ServiceState.{State, Object, objects_in, with_token}

-- a name of a listing: a key with its object, or a text that stands for all keys that begin with it
pub data Name : Type 0 where
  Key : (text : List ℕ) → (object : Object) → Name
  Prefix : (text : List ℕ) → Name

abbrev pub text_of : Name → List ℕ
text_of (Key text object) = text
text_of (Prefix text) = text

abbrev pub cut_at : ℕ → List ℕ × Object → Option ℕ → Name
cut_at n entry None = Key entry.0 entry.1
cut_at n entry (Some at) = Prefix (take (n + at + 1) entry.0)

-- the name of a key: where the listing is delimited, what stands up to the first `/` after the prefix
abbrev pub name_of : List ℕ → Bool → List ℕ × Object → Name
name_of prefix false entry = Key entry.0 entry.1
name_of prefix true entry = cut_at (length prefix) entry (position (λ byte. byte == 47) (drop (length prefix) entry.0))

-- each text once, where equal ones are neighbours
abbrev pub once : List Name → List Name
once [] = []
once (name ∷ []) = name ∷ []
once (name ∷ next ∷ names) =
    if bytes_eq (text_of name) (text_of next) then once (next ∷ names) else name ∷ once (next ∷ names)

-- the names of a bucket under a prefix, in byte order
abbrev pub listing : State → List ℕ → List ℕ → Bool → List Name
listing t bucket prefix delimited =
    once (map (name_of prefix delimited)
    (filter (λ entry. starts_with nat_eq entry.0 prefix) (entries (objects_in t bucket))))

-- those after a text
abbrev pub after : Option (List ℕ) → List Name → List Name
after None names = names
after (Some last) names = filter (λ name. is_lt (slice_cmp nat_cmp last (text_of name))) names

abbrev pub IsEntryOf : List ℕ → Object → Entry → Type 0
IsEntryOf text object entry =
    (entry.key ≡ text) × (entry.size ≡ length object.bytes) × (entry.etag ≡ object.etag)
    × (entry.micros ≡ object.micros)

-- the keys among the names are these entries, and the rest are these prefixes, each in order
abbrev pub IsSplit : List Name → List Entry → List (List ℕ) → Type 0
IsSplit [] listed prefixes = (listed ≡ []) × (prefixes ≡ [])
IsSplit (Key text object ∷ names) [] prefixes = ⊥
IsSplit (Key text object ∷ names) (entry ∷ listed) prefixes =
    IsEntryOf text object entry × IsSplit names listed prefixes
IsSplit (Prefix text ∷ names) listed [] = ⊥
IsSplit (Prefix text ∷ names) listed (prefix ∷ prefixes) = (prefix ≡ text) × IsSplit names listed prefixes

-- the text after which a listing goes on, by the token that it was given
abbrev pub GoesOnAfter : State → Option (List ℕ) → Option (List ℕ) → Type 0
GoesOnAfter t None last = last ≡ None
GoesOnAfter t (Some token) last = (text : List ℕ) × (get t.tokens token ≡ Some text) × (last ≡ Some text)

-- A page says that there are more exactly where names are left, and then has a token, which is new or stood for the
-- same place before.
abbrev pub Remembers : State → List Name → List Name → Bool → Option (List ℕ) → State → Type 0
Remembers old page [] more token new = (more ≡ false) × (new ≡ old)
Remembers old page (next ∷ rest) more token new =
    (more ≡ true) × (before : List Name) × (last : Name) × (fresh : List ℕ) × (page ≡ before ++ last ∷ [])
    × (token ≡ Some fresh)
    × (IsNone (get old.tokens fresh) ⊎ (get old.tokens fresh ≡ Some (text_of last)))
    × (new ≡ with_token old fresh (text_of last))

-- a page of a listing: the next 1 to 1,000 names, or none where none is left
abbrev pub IsPage : State → List ℕ → List ℕ → Bool → Option (List ℕ) → Listed → State → Type 0
IsPage old bucket prefix delimited token listed new =
    (last : Option (List ℕ)) × (page : List Name) × (rest : List Name) × GoesOnAfter old token last
    × (page ++ rest ≡ after last (listing old bucket prefix delimited))
    × (length page ≤ 1000) × (page ≡ [] → rest ≡ []) × IsSplit page listed.entries.items listed.prefixes.items
    × Remembers old page rest listed.more listed.token new

abbrev pub AreBucketsOf : State → List Entry → Type 0
AreBucketsOf t buckets = map (λ (entry : Entry). entry.key) buckets ≡ keys t.objects
