-- What a text is that breaks no rule of S3 URIs.
use Rattle.std.proofs.Common.{◌≡◌, ◌<◌, ◌≤◌, ◌⊎◌, ℕ, Bool, true, false, not, cond, List, [], ◌∷◌, ◌++◌, Option, Some, None, length, get_or, drop, position, codes, nat_eq, refl, sym, ap, ◌∙◌, inl, inr, arith, option_map}
use Rattle.std.specs.List.{AllPass, Contains, list_any, starts_with, position_or_len}
use Rattle.std.proofs.lemmas.Bool.{cases_lt, ltb-false, eqb-true, eq-eqb, not-false, ltb-true}
use Rattle.std.proofs.lemmas.Bool.Decides.{Decides-eqb}
use Rattle.std.proofs.lemmas.List.{take_all, append_assoc}
use Rattle.std.proofs.lemmas.List.Folds.{list_any_at}
use Rattle.std.proofs.lemmas.Slice.Eq.{starts_is}
use Rattle.s3_paths.specs.Uris.{is_slash, bucket_in, key_in, is_bucket_byte, bad_place, bucket_fault, key_fault, uri_fault, uri_text, IsUri}
use Rattle.s3_paths.proofs.FirstPlace.{All-none, before-after, before_none}
use Rattle.shared_lemmas.proofs.Options.{neither}
use Rattle.shared_lemmas.proofs.Places.{list_any-position}

map_none : {T U : Type 0} (f : T → U) (o : Option T) → option_map f o ≡ None → o ≡ None
map_none f None e = refl
map_none f (Some x) e = absurd cc

-- a choice that gives None did not give a value
cond_none : {T : Type 0} (b : Bool) (x : T) → cond b (Some x) None ≡ None → b ≡ false
cond_none true x e = absurd cc
cond_none false x e = refl

-- no element passes where no place is found
position_none : {X : Type 0} (p : X → Bool) (xs : List X) → position p xs ≡ None → length xs ≤ position_or_len p xs
position_none p xs e = ltb-false _ _ (cond_none _ _ e)

good_place : (bucket : List ℕ) → bad_place bucket ≡ None → (length bucket ≤ 255) × AllPass is_bucket_byte bucket
good_place bucket e =
    let parts = neither _ _ e in
    let short : length bucket ≤ 255 = ltb-false _ _ (cond_none _ _ parts.1) in
    let front = take_all 255 bucket short in
    let none : position (λ byte. not (is_bucket_byte byte)) bucket ≡ None = sym (ap (position (λ byte. not (is_bucket_byte byte))) front) ∙ parts.0 in
    (short, λ k d l. not-false _ (All-none (λ byte. not (is_bucket_byte byte)) bucket (position_none _ bucket none) k d l))

good_bucket : (bucket : List ℕ) → bucket_fault bucket ≡ None → (1 ≤ length bucket) × (length bucket ≤ 255) × AllPass is_bucket_byte bucket
good_bucket [] e = absurd cc
good_bucket (x ∷ xs) e = let good = good_place (x ∷ xs) (map_none _ _ e) in (omega arith, good.0, good.1)

-- a text that begins with `s3://` is that and the rest
begins : (text : List ℕ) → starts_with nat_eq text (codes "s3://") ≡ true → text ≡ codes "s3://" ++ drop 5 text
begins text e = (starts_is Decides-eqb text (codes "s3://") _ refl).0 e

first_fault : {T : Type 0} (b : Bool) (o : Option T) (x : T) → cond b o (Some x) ≡ None → (b ≡ true) × (o ≡ None)
first_fault true o x e = (refl, e)
first_fault false o x e = absurd cc

no_fault : (text : List ℕ) → uri_fault text ≡ None → (text ≡ codes "s3://" ++ drop 5 text) × (bucket_fault (bucket_in text) ≡ None) × (key_fault (key_in text) ≡ None)
no_fault text e =
    let scheme = first_fault _ _ _ e in
    let parts = neither _ _ scheme.1 in
    (begins text scheme.0, parts.0, parts.1)

with_slash : (text : List ℕ) → text ≡ codes "s3://" ++ drop 5 text → position_or_len is_slash (drop 5 text) < length (drop 5 text) → text ≡ uri_text (bucket_in text) (key_in text)
with_slash text e h =
    let rest = drop 5 text in
    let split = before-after is_slash 0 rest h in
    let slash : get_or rest (position_or_len is_slash rest) 0 ≡ 47 = eqb-true _ _ split.0 in
    let parts : rest ≡ bucket_in text ++ 47 ∷ key_in text = split.1 ∙ ap (λ byte. bucket_in text ++ byte ∷ key_in text) slash in
    e ∙ ap (λ ys. codes "s3://" ++ ys) parts ∙ sym (simp append_assoc)

no_slash : (text : List ℕ) → text ≡ codes "s3://" ++ drop 5 text → length (drop 5 text) ≤ position_or_len is_slash (drop 5 text) → (text ≡ codes "s3://" ++ bucket_in text) × (key_in text ≡ [])
no_slash text e h =
    let none = before_none is_slash (drop 5 text) h in
    (e ∙ ap (λ ys. codes "s3://" ++ ys) (sym none.0), none.1)

written : (text : List ℕ) → text ≡ codes "s3://" ++ drop 5 text → (text ≡ uri_text (bucket_in text) (key_in text)) ⊎ ((text ≡ codes "s3://" ++ bucket_in text) × (key_in text ≡ []))
written text e = elim (cases_lt (position_or_len is_slash (drop 5 text)) (length (drop 5 text))) [ inl h ↦ inl (with_slash text e h) | inr h ↦ inr (no_slash text e h) ]

-- a text that breaks no rule names its bucket and its key
pub IsUri-from_fault : (text : List ℕ) → uri_fault text ≡ None → IsUri text (bucket_in text) (key_in text)
IsUri-from_fault text e =
    let good = no_fault text e in
    let bucket = good_bucket _ good.1 in
    record {
      written = written text good.0;
      named = bucket.0;
      short_name = bucket.1;
      plain_name = bucket.2;
      short_key = ltb-false _ _ (cond_none _ _ good.2);
    }

-- and one with a `/` is how they are written
pub printed : (text : List ℕ) → uri_fault text ≡ None → Contains (drop 5 text) 47 → uri_text (bucket_in text) (key_in text) ≡ text
printed text e h =
    let rest = drop 5 text in
    let found : list_any is_slash rest ≡ true = list_any_at is_slash rest h.0 47 h.1 (eq-eqb _ _ h.2) in
    sym (with_slash text (no_fault text e).0 (ltb-true _ _ (sym (list_any-position is_slash rest) ∙ found)))

-- the same of a bucket and a key that were read from the text
pub IsUri-read : (text bucket key : List ℕ) → uri_fault text ≡ None → bucket ≡ bucket_in text → key ≡ key_in text → IsUri text bucket key
IsUri-read text bucket key e b k = rw (b, k) (IsUri-from_fault text e)

pub printed_read : (text bucket key : List ℕ) → uri_fault text ≡ None → bucket ≡ bucket_in text → key ≡ key_in text → Contains (drop 5 text) 47 → uri_text bucket key ≡ text
printed_read text bucket key e b k h = rw (b, k) (printed text e h)
