-- A reader after one word more.
use Rattle.std.proofs.Common.{◌≡◌, ◌∙◌, ◌+◌, ◌++◌, ℕ, Bool, true, false, List, [], ◌∷◌, map, length, Option, None, Some, refl, sym, ap, append_assoc, length-append, arith, ◌==◌}
use Rattle.std.specs.Option.{option_or}
use Rattle.std.proofs.lemmas.Bool.{ne_eqb}
use Rattle.std.proofs.lemmas.List.{map-append}
use Rattle.std.proofs.lemmas.List.Elements.{filter_map-append}
use Rattle.s3_model.specs.declared.faults.WordFault.{WordFault}
use Rattle.s3_model.specs.declared.places.Endpoint.{Endpoint}
use Rattle.s3_words.specs.declared.commands.Verb.{Verb}
use Rattle.s3_words.specs.declared.options.OptionName.TheVariants.{EndpointUrl}
use Rattle.s3_words.specs.declared.reader.Reader.{Reader}
use Rattle.s3_words.specs.declared.roles.Expected.{Expected}
use Rattle.s3_words.specs.Endpoints.{IsEndpoint}
use Rattle.s3_words.specs.Faults.{first_fault, no_more, role_fault}
use Rattle.s3_words.specs.Places.{place_of, places_in}
use Rattle.s3_words.specs.Given.{path_in, paths_in, value_in, value_of}
use Rattle.s3_words.specs.Roles.{Role, next, role_of, roles}
use Rattle.s3_words.specs.Shown.{EndpointAfter, Follows, IsReader, read}
use Rattle.s3_words.proofs.GivenLemmas.{value_of_more}

pub places_in_more : (words : List Role) (word : Role) → places_in (words ++ word ∷ []) ≡ places_in words ++ places_in (word ∷ [])
places_in_more words word = ap (map place_of) (filter_map-append path_in words (word ∷ [])) ∙ map-append place_of (paths_in words) (paths_in (word ∷ []))

endpoint_more : (given more : Option (List ℕ)) (old new : Option Endpoint) → IsEndpoint given old → EndpointAfter more old new → IsEndpoint (option_or more given) new
endpoint_more given None old new is e = rw e is
endpoint_more given (Some url) old new is after = after

pub IsReader-more : (word : Role) (old new : Reader) → IsReader old → Follows word old new → IsReader new
IsReader-more word old new is follows = record {
  places = follows.places ∙ ap (λ places. places ++ places_in (word ∷ [])) is.places ∙ sym (places_in_more (read old) word) ∙ ap places_in (sym follows.words);
  endpoint = rw (follows.words, value_of_more EndpointUrl (read old) word) (endpoint_more (value_of EndpointUrl (read old)) (value_in EndpointUrl word) old.endpoint new.endpoint is.endpoint follows.endpoint);
}

abbrev pub no_text : List (List ℕ) → Bool
no_text [] = true
no_text (text ∷ texts) = false

-- no word follows where no text does
no_more_texts : (expected : Expected) (texts : List (List ℕ)) → no_more (roles expected texts) ≡ no_text texts
no_more_texts expected [] = refl
no_more_texts expected (text ∷ texts) = refl

pub no_text_map : {X : Type 0} (f : X → List ℕ) (xs : List X) → (length xs == 0) ≡ no_text (map f xs)
no_text_map f [] = refl
no_text_map f (x ∷ xs) = ne_eqb (length (x ∷ xs)) 0 (λ (e : length (x ∷ xs) ≡ 0). omega arith)

module _ (verb : Verb) (expected : Expected) (old : List Role) (text : List ℕ) (texts left : List (List ℕ)) (last : Bool) (parts : left ≡ text ∷ texts) (ends : last ≡ no_text texts) where
  ending : no_more (roles (next expected (role_of expected text)) texts) ≡ last
  ending = no_more_texts _ texts ∙ sym ends

  -- the first fault is that of the next word, where it has one
  pub fault_here : (fault : WordFault) → role_fault verb (length old + 1) old last (role_of expected text) ≡ Some fault → first_fault verb (length old + 1) old (roles expected left) ≡ Some fault
  fault_here fault wrong = rw (parts, ending, wrong) refl

  -- and else that of the words behind it
  pub fault_later : role_fault verb (length old + 1) old last (role_of expected text) ≡ None
      → first_fault verb (length old + 1) old (roles expected left) ≡ first_fault verb (length (old ++ role_of expected text ∷ []) + 1) (old ++ role_of expected text ∷ []) (roles (next expected (role_of expected text)) texts)
  fault_later right = rw (parts, ending, right, length-append old (role_of expected text ∷ [])) refl

  pub words_more : old ++ roles expected left ≡ (old ++ role_of expected text ∷ []) ++ roles (next expected (role_of expected text)) texts
  words_more = rw parts (sym (append_assoc old (role_of expected text ∷ []) (roles (next expected (role_of expected text)) texts)))
