-- The parts of a document, one more at a time.
use Rattle.std.proofs.Common.{◌≡◌, ◌<◌, ◌+◌, ◌++◌, ◌∷◌, ℕ, List, [], ap, refl, codes, length, get_or, take, append_assoc, append-nil, arith}
use Rattle.std.specs.Prelude.{decimal}
use Rattle.std.specs.List.{enumerate_from, flat_map}
use Rattle.std.proofs.lemmas.List.{length-take-le, take_more}
use Rattle.std.proofs.lemmas.List.Concat.{flat_map-append}
use Rattle.s3_model.specs.declared.requests.Ask.{Ask}
use Rattle.s3_model.specs.declared.requests.Ask.TheVariants as ask
use Rattle.s3_requests.specs.Requests.{request_of}
use Rattle.s3_model.specs.Documents.{completion, document_of, etag_element, markup, number_element, part_element, part_elements}

enumerate_from-append : {X : Type 0} (n : ℕ) (xs ys : List X) → enumerate_from n (xs ++ ys) ≡ enumerate_from n xs ++ enumerate_from (n + length xs) ys
enumerate_from-append n [] ys = ap (λ k. enumerate_from k ys) (omega arith)
enumerate_from-append n (x ∷ xs) ys =
    let same : n + 1 + length xs ≡ n + length (x ∷ xs) = omega arith in
    ap (λ rest. (n, x) ∷ rest) (rw same at (enumerate_from-append (n + 1) xs ys))

part_elements-append : (xs ys : List (List ℕ)) → part_elements (xs ++ ys) ≡ part_elements xs ++ flat_map part_element (enumerate_from (1 + length xs) ys)
unfolding part_elements
part_elements-append xs ys = rw (enumerate_from-append 1 xs ys, flat_map-append)

part_elements_more : (etags : List (List ℕ)) (i : ℕ) (etag : List ℕ) → i < length etags → etag ≡ get_or etags i etag → part_elements (take (i + 1) etags) ≡ part_elements (take i etags) ++ part_element (i + 1, etag)
part_elements_more etags i etag h e =
    let long : length (take i etags) ≡ i = length-take-le i etags (omega arith) in
    let place : 1 + i ≡ i + 1 = omega arith in
    rw (take_more etags i etag h, ← e, part_elements-append, long, place, append-nil) refl

-- a text that ends in the first parts, after one more part
pub part_elements_step : (etags : List (List ℕ)) (i : ℕ) (etag : List ℕ) (before after old : List ℕ) → i < length etags → before ≡ old ++ part_elements (take i etags) → after ≡ before ++ part_element (i + 1, etag) → etag ≡ get_or etags i etag → after ≡ old ++ part_elements (take (i + 1) etags)
part_elements_step etags i etag before after old h b a e = rw (a, b, part_elements_more etags i etag h e, append_assoc)

-- the elements and the document, as the code writes them
pub etag_element_is : (etag : List ℕ) → etag_element etag ≡ codes "<ETag>" ++ markup etag ++ codes "</ETag>"
unfolding etag_element
etag_element_is etag = refl

pub number_element_is : (number : ℕ) → number_element number ≡ codes "<PartNumber>" ++ decimal number ++ codes "</PartNumber>"
unfolding number_element
number_element_is number = refl

pub part_element_is : (part : ℕ × List ℕ) → part_element part ≡ codes "<Part>" ++ etag_element part.1 ++ number_element part.0 ++ codes "</Part>"
unfolding part_element
part_element_is part = refl

pub completion_is : (etags : List (List ℕ)) → completion etags ≡ codes "<CompleteMultipartUpload xmlns=\"http://s3.amazonaws.com/doc/2006-03-01/\">" ++ part_elements etags ++ codes "</CompleteMultipartUpload>"
unfolding completion
completion_is etags = refl

pub ruleset documents = (append_assoc, etag_element_is, number_element_is, part_element_is, completion_is)

-- the document is the body of the request
pub document_of_is : (a : Ask) → document_of a ≡ (request_of a).body
unfolding document_of
document_of_is (ask.Complete _ _ _ _ _) = refl
document_of_is _ = refl
