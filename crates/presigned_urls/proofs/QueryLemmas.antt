-- The query of a presigned URL, as it is written.
use Rattle.std.proofs.Common.{◌≡◌, ◌++◌, ◌∷◌, ℕ, List, [], Option, Some, None, sym, codes, append_assoc, append-nil}
use Rattle.std.specs.Prelude.{decimal}
use Rattle.s3_model.specs.declared.settings.Keys.{Keys}
use Rattle.s3_signing.specs.Pairs.{Pair, insert_pair, optional, sort_pairs}
use Rattle.s3_signing.specs.Signing.{canonical_query, credential, encode_query, parameters}
use Rattle.s3_signing.specs.Times.{basic_time}
use Rattle.presigned_urls.specs.Parts.{first_parameters, token_parameter}
use Rattle.presigned_urls.specs.Presigned.{presigned_query}

-- five parameters and a token, whose names stand in ascending order
abbrev in_order : (credential date expires : List ℕ) (token : Option (List ℕ)) → List Pair
in_order credential date expires token =
    (codes "X-Amz-Algorithm", codes "AWS4-HMAC-SHA256") ∷ (codes "X-Amz-Credential", credential)
    ∷ (codes "X-Amz-Date", date) ∷ (codes "X-Amz-Expires", expires)
    ∷ (optional (codes "X-Amz-Security-Token") token ++ (codes "X-Amz-SignedHeaders", codes "host") ∷ [])

-- pieces as one chain, and one by one
no_token : (a b c d e : List ℕ) → a ++ (b ++ (c ++ (d ++ e))) ≡ a ++ b ++ c ++ d ++ [] ++ e
no_token a b c d e = simp (append_assoc, append-nil)

with_token : (a b c d t e : List ℕ) → a ++ (b ++ (c ++ (d ++ (t ++ e)))) ≡ a ++ b ++ c ++ d ++ t ++ e
with_token a b c d t e = simp append_assoc

in_order_written : (credential date expires : List ℕ) (token : Option (List ℕ)) → canonical_query (in_order credential date expires token) ≡ first_parameters credential date expires ++ token_parameter token ++ codes "&X-Amz-SignedHeaders=host"
unfolding canonical_query encode_query parameters sort_pairs insert_pair first_parameters
in_order_written credential date expires None =
    no_token (codes "X-Amz-Algorithm=AWS4-HMAC-SHA256") (codes "&X-Amz-Credential=" ++ encode_query credential)
    (codes "&X-Amz-Date=" ++ encode_query date) (codes "&X-Amz-Expires=" ++ encode_query expires) (codes "&X-Amz-SignedHeaders=host")
in_order_written credential date expires (Some token) =
    with_token (codes "X-Amz-Algorithm=AWS4-HMAC-SHA256") (codes "&X-Amz-Credential=" ++ encode_query credential)
    (codes "&X-Amz-Date=" ++ encode_query date) (codes "&X-Amz-Expires=" ++ encode_query expires)
    (codes "&X-Amz-Security-Token=" ++ encode_query token) (codes "&X-Amz-SignedHeaders=host")

-- what is left of an empty text after the first parameters, the token and the last parameter
pub query_written : (keys : Keys) (moment seconds : ℕ) (empty credential_text date expires first both all : List ℕ) → empty ≡ [] → credential_text ≡ credential keys moment → date ≡ basic_time moment → expires ≡ decimal seconds → first ≡ empty ++ first_parameters credential_text date expires → both ≡ first ++ token_parameter keys.token → all ≡ both ++ codes "&X-Amz-SignedHeaders=host" → all ≡ presigned_query keys moment seconds
query_written keys moment seconds empty credential_text date expires first both all e c d x f b a =
    rw (a, b, f, e, c, d, x) (sym (in_order_written (credential keys moment) (basic_time moment) (decimal seconds) keys.token))

-- seven pieces as one chain
pub seven_joined : (a b c d e f g : List ℕ) → a ++ (b ++ (c ++ (d ++ (e ++ (f ++ (g ++ [])))))) ≡ a ++ b ++ c ++ d ++ e ++ f ++ g
seven_joined a b c d e f g = simp (append_assoc, append-nil)
