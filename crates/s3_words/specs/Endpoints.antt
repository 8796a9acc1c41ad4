-- The endpoint that a URL names.
use Rattle.std.specs.Prelude.{◌≡◌, ℕ, List, Option, Some, None}
use Rattle.s3_model.specs.declared.places.Endpoint.{Endpoint}
use Rattle.s3_paths.specs.Endpoints.{authority_in, host_of, port_of}
use Rattle.s3_words.specs.declared.options.ValueKind.{ValueKind}
use Rattle.s3_words.specs.declared.options.ValueKind.TheVariants.{Url}

pub record IsEndpointOf (url : List ℕ) (endpoint : Endpoint) : Type 0 where
  pub written : endpoint.written ≡ authority_in url
  pub host : endpoint.host ≡ host_of (authority_in url)
  pub port : Some endpoint.port ≡ port_of (authority_in url)

-- there is an endpoint, that of the URL
abbrev pub IsSomeEndpoint : List ℕ → Option Endpoint → Type 0
IsSomeEndpoint url None = ⊥
IsSomeEndpoint url (Some endpoint) = IsEndpointOf url endpoint

-- the endpoint of a URL, where there is a URL
abbrev pub IsEndpoint : Option (List ℕ) → Option Endpoint → Type 0
IsEndpoint None endpoint = endpoint ≡ None
IsEndpoint (Some url) endpoint = IsSomeEndpoint url endpoint

-- a value that is a URL gives an endpoint, and any other gives none
abbrev pub IsRead : ValueKind → List ℕ → Option Endpoint → Type 0
IsRead Url text endpoint = IsSomeEndpoint text endpoint
IsRead kind text endpoint = endpoint ≡ None
