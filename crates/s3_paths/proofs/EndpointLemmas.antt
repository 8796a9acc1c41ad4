-- What a text is that breaks no rule of endpoints.
use Rattle.std.proofs.Common.{◌≡◌, ◌<◌, ◌≤◌, ◌⊎◌, ℕ, Bool, true, false, cond, List, [], ◌∷◌, ◌++◌, Option, Some, None, length, get_or, drop, codes, refl, sym, ap, ◌∙◌, inl, inr, arith}
use Rattle.std.specs.List.{position_or_len, after_first}
use Rattle.std.specs.Str.Parse.{digits_value}
use Rattle.std.proofs.lemmas.Bool.{cases_lt, and_parts, ltb-true, ltb-false, lt-ltb, le-ltb, cond-true, cond-false, not-false, eqb-true}
use Rattle.std.proofs.lemmas.Bool.Decides.{Decides-eqb}
use Rattle.std.proofs.lemmas.List.{append_assoc}
use Rattle.std.proofs.lemmas.List.Sums.{AllPass-from_list_all}
use Rattle.std.proofs.lemmas.Slice.Eq.{starts_is}
use Rattle.std.proofs.lemmas.Option.{cond_some}
use Rattle.s3_paths.specs.Uris.{is_slash}
use Rattle.s3_paths.specs.Endpoints.{is_colon, is_host_byte, is_host, host_of, port_number, port_of, authority_in, path_in, endpoint_fault, IsDecimal, IsEndpoint}
use Rattle.s3_paths.proofs.FirstPlace.{before-after, before_none}
use Rattle.shared_lemmas.proofs.Places.{list_any-position}
use Rattle.shared_lemmas.proofs.Lists.{none_from_most}

guarded : {T : Type 0} (b : Bool) (o : Option T) (x : T) → cond b (Some x) o ≡ None → (b ≡ false) × (o ≡ None)
guarded true o x e = absurd cc
guarded false o x e = (refl, e)

-- a port's digits write its number
port_written : (digits : List ℕ) (port : ℕ) → Some port ≡ port_number digits → IsDecimal digits port × (1 ≤ port) × (port ≤ 65535)
port_written digits port e =
    let read = cond_some _ _ _ (sym e) in
    let outer = and_parts _ _ read.0 in
    let inner = and_parts _ _ outer.0 in
    let some : 0 < digits_value 10 digits = ltb-true _ _ inner.1 in
    let small : digits_value 10 digits < 65536 = ltb-true _ _ outer.1 in
    let value = read.1 in
    ((inner.0, value), omega arith, omega arith)

-- the authority is the host, or the host, a colon and the port
authority_parts : (authority : List ℕ) (port : ℕ) → Some port ≡ port_of authority → (((authority ≡ host_of authority) × (port ≡ 80)) ⊎ ((digits : List ℕ) × (authority ≡ host_of authority ++ codes ":" ++ digits) × IsDecimal digits port)) × (1 ≤ port) × (port ≤ 65535)
authority_parts authority port e =
    elim (cases_lt (position_or_len is_colon authority) (length authority)) [
      | inl h ↦
          let split = before-after is_colon 0 authority h in
          let colon : get_or authority (position_or_len is_colon authority) 0 ≡ 58 = eqb-true _ _ split.0 in
          let any = list_any-position is_colon authority ∙ lt-ltb _ _ h in
          let digits = after_first is_colon authority in
          let read = port_written digits port (e ∙ cond-true _ _ _ any) in
          let whole : authority ≡ host_of authority ++ 58 ∷ digits = split.1 ∙ ap (λ byte. host_of authority ++ byte ∷ digits) colon in
          (inr (digits, whole ∙ sym (simp append_assoc), read.0), read.1, read.2)
      | inr h ↦
          let none = before_none is_colon authority h in
          let any = list_any-position is_colon authority ∙ le-ltb _ _ h in
          let eighty : port ≡ 80 = let known : Some port ≡ Some 80 = e ∙ cond-false _ _ _ any in cc in
          (inl (sym none.0, eighty), omega arith, omega arith)
    ]

no_fault : (text : List ℕ) → endpoint_fault text ≡ None → (text ≡ codes "http://" ++ drop 7 text) × (path_in text ≡ []) × (is_host (host_of (authority_in text)) ≡ true)
no_fault text e =
    let tls = guarded _ _ _ e in
    let http = guarded _ _ _ tls.1 in
    let path = guarded _ _ _ http.1 in
    let host = guarded _ _ _ path.1 in
    let empty : length (path_in text) ≤ 0 = ltb-false _ _ path.0 in
    ((starts_is Decides-eqb text (codes "http://") _ refl).0 (not-false _ http.0), none_from_most _ empty, not-false _ host.0)

whole_text : (text : List ℕ) → text ≡ codes "http://" ++ drop 7 text → path_in text ≡ [] → (text ≡ codes "http://" ++ authority_in text) ⊎ (text ≡ codes "http://" ++ authority_in text ++ codes "/")
whole_text text e p =
    let rest = drop 7 text in
    elim (cases_lt (position_or_len is_slash rest) (length rest)) [
      | inl h ↦
          let split = before-after is_slash 0 rest h in
          let slash : get_or rest (position_or_len is_slash rest) 0 ≡ 47 = eqb-true _ _ split.0 in
          let parts : rest ≡ authority_in text ++ 47 ∷ [] = split.1 ∙ ap (λ byte. authority_in text ++ byte ∷ path_in text) slash ∙ ap (λ ys. authority_in text ++ 47 ∷ ys) p in
          inr (e ∙ ap (λ ys. codes "http://" ++ ys) parts ∙ sym (simp append_assoc))
      | inr h ↦ inl (e ∙ ap (λ ys. codes "http://" ++ ys) (sym (before_none is_slash rest h).0))
    ]

-- the endpoint that a text names which breaks no rule
IsEndpoint-from_fault : (text : List ℕ) (port : ℕ) → endpoint_fault text ≡ None → Some port ≡ port_of (authority_in text) → IsEndpoint text (host_of (authority_in text)) (authority_in text) port
IsEndpoint-from_fault text port e p =
    let good = no_fault text e in
    let host = and_parts _ _ good.2 in
    let parts = authority_parts (authority_in text) port p in
    record {
      whole = whole_text text good.0 good.1;
      authority = parts.0;
      named = ltb-true _ _ host.0;
      plain = AllPass-from_list_all is_host_byte _ host.1;
      least = parts.1;
      most = parts.2;
    }

pub IsEndpoint-read : (text host written : List ℕ) (port : ℕ) → endpoint_fault text ≡ None → written ≡ authority_in text → host ≡ host_of (authority_in text) → Some port ≡ port_of (authority_in text) → IsEndpoint text host written port
IsEndpoint-read text host written port e w h p = rw (w, h) (IsEndpoint-from_fault text port e p)
