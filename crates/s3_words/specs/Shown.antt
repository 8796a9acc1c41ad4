-- The words' roles and the reader of the code, and what they are to the definitions.
use Rattle.std.specs.Prelude.{◌≡◌, ◌++◌, ℕ, List, [], ◌∷◌, Option, Some, None, map}
use Rattle.s3_model.specs.declared.places.Endpoint.{Endpoint}
use Rattle.path_filters.specs.declared.filters.Filter.{Filter}
use Rattle.s3_words.specs.declared.given.Given as code_given
use Rattle.s3_words.specs.declared.options.OptionName.TheVariants.{EndpointUrl}
use Rattle.s3_words.specs.declared.reader.Reader.{Reader}
use Rattle.s3_words.specs.declared.roles.Role as code
use Rattle.s3_words.specs.declared.roles.Role.TheVariants as code_role
use Rattle.s3_words.specs.Commands.{IsFilter}
use Rattle.s3_words.specs.Endpoints.{IsEndpoint, IsSomeEndpoint}
use Rattle.s3_words.specs.Places.{places_in}
use Rattle.s3_words.specs.Given.{Given, value_in, value_of}
use Rattle.s3_words.specs.Roles as is

abbrev pub shown : code.Role → is.Role
shown code_role.Separator = is.Separator
shown (code_role.Path text) = is.Path text.now
shown code_role.Unknown = is.Unknown
shown (code_role.Named option) = is.Named option
shown (code_role.Assigned option text) = is.Assigned option text.now
shown (code_role.Value option text) = is.Value option text.now

abbrev pub all_shown : List code.Role → List is.Role
all_shown roles = map shown roles

abbrev pub given_shown : code_given.Given → Given
given_shown given = record { keep = given.keep; pattern = given.pattern.now }

-- one filter more, at the end
abbrev pub IsOneMore : Given → List Filter → List Filter → Type 0
IsOneMore given old new = (filter : Filter) × IsFilter given filter × (new ≡ old ++ filter ∷ [])

-- the filters after a word that gives this one, or none
abbrev pub FiltersAfter : Option Given → List Filter → List Filter → Type 0
FiltersAfter None old new = new ≡ old
FiltersAfter (Some given) old new = IsOneMore given old new

-- the endpoint after a word that gives this URL, or none
abbrev pub EndpointAfter : Option (List ℕ) → Option Endpoint → Option Endpoint → Type 0
EndpointAfter None old new = new ≡ old
EndpointAfter (Some url) old new = IsSomeEndpoint url new

-- the words that were read
abbrev pub read : Reader → List is.Role
read reader = all_shown reader.roles.items

-- the places and the endpoint after one word more
pub record Keeps (role : is.Role) (old new : Reader) : Type 0 where
  pub verb : new.verb ≡ old.verb
  pub expected : new.expected ≡ old.expected
  pub words : read new ≡ read old
  pub places : new.places.items ≡ old.places.items ++ places_in (role ∷ [])
  pub endpoint : EndpointAfter (value_in EndpointUrl role) old.endpoint new.endpoint

-- a reader after one word more
pub record Follows (role : is.Role) (old new : Reader) : Type 0 where
  pub verb : new.verb ≡ old.verb
  pub expected : new.expected ≡ is.next old.expected role
  pub words : read new ≡ read old ++ role ∷ []
  pub places : new.places.items ≡ old.places.items ++ places_in (role ∷ [])
  pub endpoint : EndpointAfter (value_in EndpointUrl role) old.endpoint new.endpoint

-- the reader has the places and the endpoint of the words that it read
pub record IsReader (reader : Reader) : Type 0 where
  pub places : reader.places.items ≡ places_in (read reader)
  pub endpoint : IsEndpoint (value_of EndpointUrl (read reader)) reader.endpoint
