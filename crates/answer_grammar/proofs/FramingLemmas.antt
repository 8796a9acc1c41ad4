-- What the lines say of framing.
use Rattle.std.proofs.Common.{◌≡◌, ℕ, Bool, true, false, cond, List, [], ◌∷◌, reverse, Option, Some, None, sym, refl, ap, ◌∙◌}
use Rattle.std.specs.Prelude.{codes}
use Rattle.std.specs.List.{list_all}
use Rattle.std.proofs.lemmas.Bool.{false≢true}
use Rattle.std.proofs.lemmas.List.{reverse-reverse}
use Rattle.http1.specs.declared.fields.ContentLength.TheVariants as Length
use Rattle.http1.specs.declared.fields.TransferEncoding.TheVariants as Coding
use Rattle.http1.specs.Fields.{Header, known_fields, content_length, transfer_encoding, codings_from_last, may_lead, is_chunked, is_blank, has_option, has_other_coding, elements_named}
use Rattle.httparse.specs.Grammar.{is_token}
use Rattle.answer_grammar.specs.Head.{lengths, codings, IsCoded, StatesLength, is_short_number}
use Rattle.answer_grammar.specs.Parts.{IsCodedBy}

pub known_length : (headers : List Header) → (known_fields headers).content_length ≡ content_length (lengths headers)
unfolding known_fields
known_length headers = refl

pub known_coding : (headers : List Header) → (known_fields headers).transfer_encoding ≡ transfer_encoding (codings headers)
unfolding known_fields
known_coding headers = refl

pub known_close : (headers : List Header) → (known_fields headers).close ≡ has_option (codes "close") (elements_named (codes "connection") headers)
unfolding known_fields
known_close headers = refl

a_length : (b : Bool) (n : ℕ) → cond b (Length.Value n) Length.Invalid ≡ Length.Absent → ⊥
a_length true n e = cc
a_length false n e = cc

-- no length is stated where there are no values
pub no_values : (values : List (List ℕ)) → content_length values ≡ Length.Absent → values ≡ []
no_values [] absent = refl
no_values (e ∷ es) absent = absurd (a_length _ _ absent)

pub no_length : (values : List (List ℕ)) (stated : Option ℕ) → content_length values ≡ Length.Invalid → StatesLength values stated → ⊥
no_length values None invalid states = let absent = ap content_length states in absent_is_valid (sym invalid ∙ absent)
  where
    absent_is_valid : Length.Invalid ≡ Length.Absent → ⊥
    absent_is_valid e = cc
no_length values (Some n) invalid states = value_is_valid (sym invalid ∙ states.0)
  where
    value_is_valid : Length.Invalid ≡ Length.Value n → ⊥
    value_is_valid e = cc

pub long_length : (values : List (List ℕ)) (n : ℕ) (stated : Option ℕ) → content_length values ≡ Length.Value n → list_all is_short_number values ≡ false → StatesLength values stated → ⊥
long_length values n None value long states = value_is_there (sym value ∙ ap content_length states)
  where
    value_is_there : Length.Value n ≡ Length.Absent → ⊥
    value_is_there e = cc
long_length values n (Some m) value long states = false≢true (sym long ∙ states.1)

a_coding : (ordered chunked token blank : Bool) → cond ordered (cond chunked Coding.Chunked (cond token Coding.Other (cond blank Coding.Blank Coding.Invalid))) Coding.Invalid ≡ Coding.Absent → ⊥
a_coding false chunked token blank e = cc
a_coding true true token blank e = cc
a_coding true false true blank e = cc
a_coding true false false true e = cc
a_coding true false false false e = cc

from_last : (names : List (List ℕ)) → codings_from_last names ≡ Coding.Absent → names ≡ []
from_last [] absent = refl
from_last (last ∷ earlier) absent = absurd (a_coding (list_all may_lead earlier) (is_chunked last) (is_token last) (is_blank last) absent)

-- no coding is named where there are no names
pub no_codings : (names : List (List ℕ)) → transfer_encoding names ≡ Coding.Absent → names ≡ []
no_codings names absent = sym (reverse-reverse names) ∙ ap reverse (from_last (reverse names) absent)

pub known_other : (headers : List Header) → (known_fields headers).other_coding ≡ has_other_coding (codings headers)
unfolding known_fields
known_other headers = refl

-- the known fields and the codings say the same
pub coded_by : (headers : List Header) (chunked : Bool) → IsCodedBy (known_fields headers) chunked → IsCoded (codings headers) chunked
coded_by headers true is = (sym (known_coding headers) ∙ is.0, sym (known_other headers) ∙ is.1)
coded_by headers false is = no_codings (codings headers) (sym (known_coding headers) ∙ is)

pub codes_by : (headers : List Header) (chunked : Bool) → IsCoded (codings headers) chunked → IsCodedBy (known_fields headers) chunked
codes_by headers true is = (known_coding headers ∙ is.0, known_other headers ∙ is.1)
codes_by headers false is = known_coding headers ∙ ap transfer_encoding is
