-- Bytes begin with one run of a sort.
use Rattle.std.proofs.Common.{◌≡◌, ◌≢◌, ◌<◌, ◌≤◌, ◌++◌, ◌∙◌, ℕ, Bool, true, false, List, [], ◌∷◌, refl, sym, ap, subst}
use Rattle.std.proofs.Common.{length, get_or, drop, take, drop-cons, arith, ◌==◌, not}
use Rattle.std.specs.List.{AllPass}
use Rattle.std.proofs.lemmas.Bool.{false≢true, or_left, or_right}
use Rattle.std.proofs.lemmas.List.{take-append-drop, append-nil, length-append, take_all}
use Rattle.std.proofs.lemmas.List.Elements.{All-from_get_or, All-head, All-tail}
use Rattle.std.proofs.lemmas.List.{get_or-take, length-take-le}
use Rattle.memchr.specs.Find.{Nowhere, Passes, is_byte, is_byte2}
use Rattle.reply_xml.specs.declared.runs.Sort.TheVariants as sort
use Rattle.reply_xml.specs.declared.runs.Sort.{Sort}
use Rattle.reply_xml.specs.Runs.{is_of, BeginsOutside, HasNoReference, ReadsRun}
use Rattle.shared_lemmas.proofs.Lists.{cons_is, cons_parts}

outside : (test : ℕ → Bool) (a : List ℕ) (y : ℕ) (ys : List ℕ) → BeginsOutside test a → a ≡ y ∷ ys → test y ≡ true → ⊥
outside test a y ys ends e h =
    let first : test y ≡ false = subst (BeginsOutside test) e ends in
    false≢true (sym first ∙ h)

-- a list is cut in one way where a test first fails
pub runs_same : (test : ℕ → Bool) (xs ys a b : List ℕ) → AllPass test xs → AllPass test ys → BeginsOutside test a
    → BeginsOutside test b → xs ++ a ≡ ys ++ b → (xs ≡ ys) × (a ≡ b)
runs_same test [] [] a b p q f g e = (refl, e)
runs_same test [] (y ∷ ys) a b p q f g e =
    absurd (outside test a y (ys ++ b) f e (All-head (λ x. test x ≡ true) y ys q))
runs_same test (x ∷ xs) [] a b p q f g e =
    absurd (outside test b x (xs ++ a) g (sym e) (All-head (λ x. test x ≡ true) x xs p))
runs_same test (x ∷ xs) (y ∷ ys) a b p q f g e =
    let same = cons_parts x y (xs ++ a) (ys ++ b) e in
    let more = runs_same test xs ys a b (All-tail (λ x. test x ≡ true) x xs p) (All-tail (λ x. test x ≡ true) y ys q) f
    g same.1 in
    (cons_is x y xs ys same.0 more.0, more.1)

pub ReadsRun-same : (of : Sort) (run other bytes rest left : List ℕ) → ReadsRun of run bytes rest
    → ReadsRun of other bytes left → (other ≡ run) × (left ≡ rest)
ReadsRun-same of run other bytes rest left r s =
    runs_same (is_of of) other run left rest s.inside r.inside s.ends r.ends (sym s.split ∙ r.split)

-- where a test fails at a place, what stands from there on begins outside
begins_at : (test : ℕ → Bool) (bytes : List ℕ) (i : ℕ) → i < length bytes → test (get_or bytes i 0) ≡ false
    → BeginsOutside test (drop i bytes)
begins_at test bytes i h fails = subst (BeginsOutside test) (sym (drop-cons bytes i 0 h)) fails

pub ReadsRun-to : (of : Sort) (bytes run rest : List ℕ) (i : ℕ) → i < length bytes → run ≡ take i bytes
    → rest ≡ drop i bytes → AllPass (is_of of) (take i bytes) → is_of of (get_or bytes i 0) ≡ false
    → ReadsRun of run bytes rest
ReadsRun-to of bytes run rest i h e f inside fails = record {
  split = sym (take-append-drop i bytes) ∙ ap (λ r. r ++ drop i bytes) (sym e) ∙ ap (λ r. run ++ r) (sym f);
  inside = subst (AllPass (is_of of)) (sym e) inside;
  ends = subst (BeginsOutside (is_of of)) (sym f) (begins_at (is_of of) bytes i h fails);
}

pub ReadsRun-whole : (of : Sort) (bytes : List ℕ) (i : ℕ) → length bytes ≤ i → AllPass (is_of of) (take i bytes)
    → ReadsRun of bytes bytes []
ReadsRun-whole of bytes i h inside = record {
  split = sym (append-nil bytes);
  inside = subst (AllPass (is_of of)) (take_all i bytes h) inside;
  ends = tt;
}

-- where the first byte is of another sort, the run is empty
pub empty_run : (of : Sort) (bytes : List ℕ) → BeginsOutside (is_of of) bytes → ReadsRun of [] bytes bytes
empty_run of bytes ends = record {
  split = refl;
  inside = All-from_get_or (λ b. is_of of b ≡ true) [] 0 (λ i h. absurd (omega (arith, h)));
  ends = ends;
}

pub no_run : (of : Sort) (bytes run rest : List ℕ) → BeginsOutside (is_of of) bytes → ReadsRun of run bytes rest
    → (run ≡ []) × (rest ≡ bytes)
no_run of bytes run rest ends r = ReadsRun-same of [] run bytes bytes rest (empty_run of bytes ends) r

-- where the run is empty, the first byte is of another sort
pub no_run_begins : (of : Sort) (bytes run rest : List ℕ) → ReadsRun of run bytes rest → run ≡ []
    → BeginsOutside (is_of of) bytes
no_run_begins of bytes run rest r none =
    subst (BeginsOutside (is_of of)) (sym (r.split ∙ ap (λ front. front ++ rest) none)) r.ends

-- where a byte was found nowhere, each byte is another
is_false : (b : Bool) → (b ≡ true → ⊥) → not b ≡ true
is_false true f = absurd (f refl)
is_false false f = refl

lacks_byte : (byte : ℕ) (bytes : List ℕ) (i : ℕ) → i ≤ length bytes → Nowhere (Passes (is_byte byte) bytes) 0 i
    → AllPass (λ b. not (b == byte)) (take i bytes)
lacks_byte byte bytes i within none =
    All-from_get_or (λ b. not (b == byte) ≡ true) (take i bytes) 0
    (
    λ k h.
    let size = length-take-le i bytes within in
    let less : k < i = omega (arith, size) in
    is_false (get_or (take i bytes) k 0 == byte)
    (λ e. none k (omega arith) less (ap (λ b. b == byte) (sym (get_or-take i bytes k 0 less)) ∙ e))
    )

text_before : (bytes : List ℕ) (i : ℕ) → i ≤ length bytes → Nowhere (Passes (is_byte 60) bytes) 0 i
    → AllPass (is_of sort.Text) (take i bytes)
text_before bytes i within none = lacks_byte 60 bytes i within none

pub text_to : (bytes text rest : List ℕ) (i : ℕ) → i < length bytes → text ≡ take i bytes → rest ≡ drop i bytes
    → Nowhere (Passes (is_byte 60) bytes) 0 i → Passes (is_byte 60) bytes i
    → ReadsRun sort.Text text bytes rest
text_to bytes text rest i h e f none there =
    ReadsRun-to sort.Text bytes text rest i h e f (text_before bytes i (omega arith) none) (ap not there)

pub text_whole : (bytes : List ℕ) → Nowhere (Passes (is_byte 60) bytes) 0 (length bytes)
    → ReadsRun sort.Text bytes bytes []
text_whole bytes none =
    ReadsRun-whole sort.Text bytes (length bytes) (omega arith) (text_before bytes (length bytes) (omega arith) none)

-- where neither of two bytes was found, neither stands there
no_first : (one other : ℕ) (bytes : List ℕ) (i : ℕ) → Nowhere (Passes (is_byte2 one other) bytes) 0 i
    → Nowhere (Passes (is_byte one) bytes) 0 i
no_first one other bytes i none k low high e =
    none k low high (or_left (get_or bytes k 0 == one) (get_or bytes k 0 == other) e)

no_second : (one other : ℕ) (bytes : List ℕ) (i : ℕ) → Nowhere (Passes (is_byte2 one other) bytes) 0 i
    → Nowhere (Passes (is_byte other) bytes) 0 i
no_second one other bytes i none k low high e =
    none k low high (or_right (get_or bytes k 0 == one) (get_or bytes k 0 == other) e)

-- where neither `<` nor `&` was found, all is text without a reference
pub plain_to : (bytes text rest : List ℕ) (i : ℕ) → i < length bytes → text ≡ take i bytes → rest ≡ drop i bytes
    → Nowhere (Passes (is_byte2 60 38) bytes) 0 i → get_or bytes i 0 ≡ 60 → ReadsRun sort.Text text bytes rest
plain_to bytes text rest i h e f none there =
    text_to bytes text rest i h e f (no_first 60 38 bytes i none) (ap (λ b. b == 60) there)

pub plain_whole : (bytes : List ℕ) → Nowhere (Passes (is_byte2 60 38) bytes) 0 (length bytes)
    → ReadsRun sort.Text bytes bytes []
plain_whole bytes none = text_whole bytes (no_first 60 38 bytes (length bytes) none)

pub no_reference_to : (bytes text : List ℕ) (i : ℕ) → i ≤ length bytes → text ≡ take i bytes
    → Nowhere (Passes (is_byte2 60 38) bytes) 0 i → HasNoReference text
no_reference_to bytes text i h e none =
    subst HasNoReference (sym e) (lacks_byte 38 bytes i h (no_second 60 38 bytes i none))

-- how long a run is, and what follows it
pub run_within : (of : Sort) (run bytes rest : List ℕ) → ReadsRun of run bytes rest → length run ≤ length bytes
run_within of run bytes rest r = let sizes = ap length r.split ∙ length-append run rest in omega (arith, sizes)

pub shorter_behind : (of : Sort) (run bytes rest : List ℕ) → ReadsRun of run bytes rest → run ≢ []
    → length rest < length bytes
shorter_behind of [] bytes rest r some = absurd (some refl)
shorter_behind of (byte ∷ run) bytes rest r some =
    let sizes = ap length r.split ∙ length-append (byte ∷ run) rest in omega (arith, sizes)
