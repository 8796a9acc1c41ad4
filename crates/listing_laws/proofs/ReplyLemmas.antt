-- What is left of a listing behind a page, and what the pages make of it.
use Rattle.std.proofs.Common.{◌≡◌, ◌∙◌, ℕ, Bool, true, false, cond, List, [], ◌∷◌, ◌++◌, Option, Some, None, refl, sym, ap, append_assoc, subst, flat_map, map, nat_eq, unwrap_or}
use Rattle.std.specs.Cmp.Lexicographic.{slice_cmp, nat_list_cmp_total}
use Rattle.std.specs.FinMap.{empty, entries, get}
use Rattle.std.specs.List.{AllByRecursion, filter, starts_with}
use Rattle.std.specs.Ordering.{is_lt, nat_cmp, ordering_reverse}
use Rattle.std.specs.declared.cmp.Ordering.{Ordering}
use Rattle.std.specs.declared.cmp.Ordering.TheVariants.{Less, Equal, Greater}
use Rattle.s3_model.specs.Maps.{MapOf}
use Rattle.s3_model.specs.declared.answers.Listed.{Listed}
use Rattle.s3_model.specs.declared.places.Entry.{Entry}
use Rattle.s3_service.specs.ServiceState.{Object, State, with_token}
use Rattle.s3_service.specs.Listing.{GoesOnAfter, IsSplit, Key, Name, Prefix, Remembers, after, listing, name_of, once, text_of}
use Rattle.shared_lemmas.proofs.Clashes.{some_is}
use Rattle.shared_lemmas.proofs.Maps.{get-insert_same, text_exact}
use Rattle.shared_lemmas.proofs.Members.{Has, has_middle, passes}
use Rattle.list_walk.specs.Pages.{gathered_from}
use Rattle.list_walk.proofs.LawLemmas.{gathers_in_order}
use Rattle.listing_laws.specs.Replies.{AreReplies, PagesMakeListing}
use Rattle.listing_laws.proofs.CutLemmas.{IsBelow}
use Rattle.listing_laws.proofs.NameLemmas.{Rise, all_kept, listing_rises}

clash : true ≡ false → ⊥
clash e = cc

-- ---- what is behind a name

abbrev is_behind : List ℕ → Name → Bool
is_behind text name = is_lt (slice_cmp nat_cmp text (text_of name))

rise_kept : (test : Name → Bool) (names : List Name) → Rise names → Rise (filter test names)
rise_kept test [] h = tt
rise_kept test (name ∷ names) h = which (test name) (all_kept (λ (n : Name). IsBelow (text_of name) (text_of n)) test names h.0) (rise_kept test names h.1)
  where
    which : (b : Bool) → AllByRecursion (λ (n : Name). IsBelow (text_of name) (text_of n)) (filter test names) → Rise (filter test names) → Rise (cond b (name ∷ filter test names) (filter test names))
    which true first rest = (first, rest)
    which false first rest = rest

all_stay : (text : List ℕ) (names : List Name) → AllByRecursion (λ (n : Name). IsBelow text (text_of n)) names → filter (is_behind text) names ≡ names
all_stay text [] all = refl
all_stay text (name ∷ names) all =
    ap (λ (o : Ordering). cond (is_lt o) (name ∷ filter (is_behind text) names) (filter (is_behind text) names)) all.0 ∙ ap (λ (ns : List Name). name ∷ ns) (all_stay text names all.1)

is_less : (o : Ordering) → is_lt o ≡ true → o ≡ Less
is_less Less e = refl
is_less Equal e = absurd cc
is_less Greater e = absurd cc

not_behind : (text other : List ℕ) → IsBelow text other → is_lt (slice_cmp nat_cmp other text) ≡ false
not_behind text other below = ap is_lt (nat_list_cmp_total.antisymm other text ∙ ap ordering_reverse below)

not_itself : (text : List ℕ) → is_lt (slice_cmp nat_cmp text text) ≡ false
not_itself text = which (slice_cmp nat_cmp text text) (nat_list_cmp_total.antisymm text text)
  where
    which : (o : Ordering) → o ≡ ordering_reverse o → is_lt o ≡ false
    which Less e = absurd cc
    which Equal e = refl
    which Greater e = refl

middle : (P : Name → Type 0) (front : List Name) (last : Name) (rest : List Name) → AllByRecursion P (front ++ last ∷ rest) → P last
middle P [] last rest all = all.0
middle P (name ∷ front) last rest all = middle P front last rest all.1

behind_last : (front : List Name) (last : Name) (rest : List Name) → Rise (front ++ last ∷ rest) → filter (is_behind (text_of last)) (front ++ last ∷ rest) ≡ rest
behind_last [] last rest rise =
    ap (λ (b : Bool). cond b (last ∷ filter (is_behind (text_of last)) rest) (filter (is_behind (text_of last)) rest)) (not_itself (text_of last)) ∙ all_stay (text_of last) rest rise.0
behind_last (name ∷ front) last rest rise =
    let before = middle (λ (n : Name). IsBelow (text_of name) (text_of n)) front last rest rise.0 in
    ap (λ (b : Bool). cond b (name ∷ filter (is_behind (text_of last)) (front ++ last ∷ rest)) (filter (is_behind (text_of last)) (front ++ last ∷ rest))) (not_behind (text_of name) (text_of last) before)
    ∙ behind_last front last rest rise.1

-- what passes one test passes the other, so that this one may be asked first
filter_first : (p q : Name → Bool) → ((n : Name) → p n ≡ true → q n ≡ true) → (names : List Name) → filter p (filter q names) ≡ filter p names
filter_first p q f [] = refl
filter_first p q f (name ∷ names) = which (q name) refl (filter_first p q f names)
  where
    drops : (b : Bool) → p name ≡ b → q name ≡ false → filter p names ≡ cond b (name ∷ filter p names) (filter p names)
    drops true e other = absurd (clash (sym (f name e) ∙ other))
    drops false e other = refl

    which : (b : Bool) → q name ≡ b → filter p (filter q names) ≡ filter p names → filter p (cond b (name ∷ filter q names) (filter q names)) ≡ filter p (name ∷ names)
    which true e same = ap (λ (ns : List Name). cond (p name) (name ∷ ns) ns) same
    which false e same = same ∙ drops (p name) refl e

left_behind : (last_text : Option (List ℕ)) (names front : List Name) (last : Name) (rest : List Name) → Rise names → front ++ last ∷ rest ≡ after last_text names → after (Some (text_of last)) names ≡ rest
left_behind None names front last rest rise e =
    ap (filter (is_behind (text_of last))) (sym e) ∙ behind_last front last rest (subst Rise (sym e) rise)
left_behind (Some text) names front last rest rise e =
    let behind : is_behind text last ≡ true = passes (is_behind text) names last (subst (λ (ns : List Name). Has ns last) e (has_middle front last rest)) in
    sym (filter_first (is_behind (text_of last)) (is_behind text) (λ n h. ap is_lt (nat_list_cmp_total.trans text (text_of last) (text_of n) (is_less _ behind) (is_less _ h))) names)
    ∙ ap (filter (is_behind (text_of last))) (sym e)
    ∙ behind_last front last rest (subst Rise (sym e) (rise_kept (is_behind text) names rise))

-- ---- keys and prefixes

splits : (a b : List Name) (es fs : List Entry) (ps qs : List (List ℕ)) → IsSplit a es ps → IsSplit b fs qs → IsSplit (a ++ b) (es ++ fs) (ps ++ qs)
splits [] b es fs ps qs s t =
    subst (λ (xs : List Entry). IsSplit b (xs ++ fs) (ps ++ qs)) (sym s.0) (subst (λ (xs : List (List ℕ)). IsSplit b fs (xs ++ qs)) (sym s.1) t)
splits (Key text object ∷ a) b [] fs ps qs s t = absurd s
splits (Key text object ∷ a) b (e ∷ es) fs ps qs s t = (s.0, splits a b es fs ps qs s.1 t)
splits (Prefix text ∷ a) b es fs [] qs s t = absurd s
splits (Prefix text ∷ a) b es fs (p ∷ ps) qs s t = (s.0, splits a b es fs ps qs s.1 t)

-- ---- pages

abbrev listing_of : MapOf (MapOf Object) → List ℕ → List ℕ → Bool → List Name
listing_of objects bucket prefix delimited =
    once (map (name_of prefix delimited) (filter (λ entry. starts_with nat_eq entry.0 prefix) (entries (unwrap_or (get objects bucket) empty))))

no_rest : (old : State) (page rest : List Name) (more : Bool) (token : Option (List ℕ)) (new : State) → Remembers old page rest more token new → more ≡ false → rest ≡ []
no_rest old page [] more token new r e = refl
no_rest old page (next ∷ rest) more token new r e = absurd (clash (sym r.0 ∙ e))

-- the last name of a page that has more behind it, and what its token stands for
record Left (old : State) (page : List Name) (token : Option (List ℕ)) (new : State) : Type 0 where
  before : List Name
  last : Name
  fresh : List ℕ
  is : page ≡ before ++ last ∷ []
  named : token ≡ Some fresh
  state : new ≡ with_token old fresh (text_of last)

has_left : (old : State) (page rest : List Name) (more : Bool) (token : Option (List ℕ)) (new : State) → Remembers old page rest more token new → more ≡ true → Left old page token new
has_left old page [] more token new r e = absurd (clash (sym e ∙ r.0))
has_left old page (next ∷ rest) more token new r e = record { before = r.1; last = r.2; fresh = r.3; is = r.4; named = r.5; state = r.7 }

abbrev entries_in : List Listed → List Entry
entries_in pages = flat_map (λ (page : Listed). page.entries.items) pages

abbrev prefixes_in : List Listed → List (List ℕ)
prefixes_in pages = flat_map (λ (page : Listed). page.prefixes.items) pages

read_on : (pages : List Listed) (old : State) (bucket prefix : List ℕ) (delimited : Bool) (token : Option (List ℕ)) → AreReplies old bucket prefix delimited token pages
    → (last : Option (List ℕ)) × GoesOnAfter old token last × IsSplit (after last (listing old bucket prefix delimited)) (entries_in pages) (prefixes_in pages)
read_on [] old bucket prefix delimited token h = absurd h
read_on (page ∷ []) old bucket prefix delimited token h =
    let is = h.1 in
    let rest = no_rest old is.1 is.2 page.more page.token h.0 is.8 h.2 in
    let names = ap (λ (ns : List Name). is.1 ++ ns) (sym rest) ∙ is.4 in
    (is.0, is.3, subst (λ (ns : List Name). IsSplit ns (entries_in (page ∷ [])) (prefixes_in (page ∷ []))) names (splits is.1 [] page.entries.items [] page.prefixes.items [] is.7 (refl, refl)))
read_on (page ∷ next ∷ pages) old bucket prefix delimited token h =
    let new = h.0 in
    let later = h.1 in
    let is = h.2 in
    let keeps = h.4 in
    let names = listing old bucket prefix delimited in
    let left = has_left old is.1 is.2 page.more page.token new is.8 h.3 in
    let read = read_on (next ∷ pages) later bucket prefix delimited page.token h.5 in
    let goes = subst (λ (t : Option (List ℕ)). GoesOnAfter later t read.0) left.named read.1 in
    let stored : get new.tokens left.fresh ≡ Some (text_of left.last) =
    ap (λ (s : State). get s.tokens left.fresh) left.state ∙ get-insert_same nat_list_cmp_total text_exact old.tokens left.fresh (text_of left.last) in
    let text : goes.0 ≡ text_of left.last = some_is _ _ (sym goes.1 ∙ keeps.tokens left.fresh (text_of left.last) stored) in
    let last : read.0 ≡ Some (text_of left.last) = goes.2 ∙ ap Some text in
    let same : listing later bucket prefix delimited ≡ names =
    ap (λ (objects : MapOf (MapOf Object)). listing_of objects bucket prefix delimited) (keeps.objects ∙ ap (λ (s : State). s.objects) left.state) in
    let whole : left.before ++ left.last ∷ is.2 ≡ after is.0 names =
    sym (append_assoc left.before (left.last ∷ []) is.2) ∙ ap (λ (ns : List Name). ns ++ is.2) (sym left.is) ∙ is.4 in
    let behind : after read.0 (listing later bucket prefix delimited) ≡ is.2 =
    ap (λ (l : Option (List ℕ)). after l (listing later bucket prefix delimited)) last ∙ ap (after (Some (text_of left.last))) same
    ∙ left_behind is.0 names left.before left.last is.2 (listing_rises old bucket prefix delimited) whole in
    let rest = subst (λ (ns : List Name). IsSplit ns (entries_in (next ∷ pages)) (prefixes_in (next ∷ pages))) behind read.2 in (
      is.0,
      is.3,
      subst (λ (ns : List Name). IsSplit ns (entries_in (page ∷ next ∷ pages)) (prefixes_in (page ∷ next ∷ pages))) is.4
          (splits is.1 is.2 page.entries.items (entries_in (next ∷ pages)) page.prefixes.items (prefixes_in (next ∷ pages)) is.7 rest),
    )

pub pages_make_listing : PagesMakeListing
pages_make_listing t bucket prefix delimited pages h =
    let read = read_on pages t bucket prefix delimited None h in
    let names = listing t bucket prefix delimited in
    let has = gathers_in_order pages in
    let all = ap (λ (l : Option (List ℕ)). after l names) read.1 in
    subst (λ (es : List Entry). IsSplit names es (gathered_from pages).prefixes) (sym has.0)
    (subst (λ (ps : List (List ℕ)). IsSplit names (entries_in pages) ps) (sym has.1)
    (subst (λ (ns : List Name). IsSplit ns (entries_in pages) (prefixes_in pages)) all read.2))
