-- Endpoints of plain HTTP, and which rule a text that is none breaks.
use Rattle.std.specs.Prelude.{◌≡◌, ◌≤◌, ◌==◌, ◌&&◌, ◌||◌, ◌++◌, ◌⊎◌, ℕ, Bool, true, not, List, Option, Some, None}
use Rattle.std.specs.Prelude.{is_none, length, drop, codes, nat_eq, nat_lt, if◌then◌else◌}
use Rattle.std.specs.Char.{is_ascii_alphanumeric}
use Rattle.std.specs.List.{AllPass, list_any, list_all, starts_with, before_first, after_first}
use Rattle.std.specs.Str.{all_ascii_digits}
use Rattle.std.specs.Str.Parse.{digits_value}
use Rattle.s3_model.specs.declared.faults.EndpointFault.{EndpointFault}
use Rattle.s3_model.specs.declared.faults.EndpointFault.TheVariants.{Tls, NotHttp, NoHost, BadPort, HasPath}
use Rattle.s3_paths.specs.Uris.{is_slash}

abbrev pub is_colon : ℕ → Bool
is_colon byte = byte == 58

-- what stands between `http://` and the next `/`
abbrev pub authority_in : List ℕ → List ℕ
authority_in text = before_first is_slash (drop 7 text)

-- what follows that `/`
abbrev pub path_in : List ℕ → List ℕ
path_in text = after_first is_slash (drop 7 text)

abbrev pub host_of : List ℕ → List ℕ
host_of authority = before_first is_colon authority

-- letters, digits, `.` and `-`
abbrev pub is_host_byte : ℕ → Bool
is_host_byte byte = is_ascii_alphanumeric byte || byte == 46 || byte == 45

abbrev pub is_host : List ℕ → Bool
is_host host = nat_lt 0 (length host) && list_all is_host_byte host

-- the number that decimal digits write, where it is 1 to 65,535; zeros may come first
abbrev pub port_number : List ℕ → Option ℕ
port_number digits =
    if all_ascii_digits digits && nat_lt 0 (digits_value 10 digits) && nat_lt (digits_value 10 digits) 65536
    then Some (digits_value 10 digits) else None

-- the port that is written, and else 80
abbrev pub port_of : List ℕ → Option ℕ
port_of authority = if list_any is_colon authority then port_number (after_first is_colon authority) else Some 80

-- the first rule that a text breaks
abbrev pub endpoint_fault : List ℕ → Option EndpointFault
endpoint_fault text =
    if starts_with nat_eq text (codes "https://") then Some Tls
    else if not (starts_with nat_eq text (codes "http://")) then Some NotHttp
    else if nat_lt 0 (length (path_in text)) then Some HasPath
    else if not (is_host (host_of (authority_in text))) then Some NoHost
    else if is_none (port_of (authority_in text)) then Some BadPort
    else None

-- decimal digits write a number; zeros may come first
abbrev pub IsDecimal : List ℕ → ℕ → Type 0
IsDecimal digits number = (all_ascii_digits digits ≡ true) × (digits_value 10 digits ≡ number)

-- a text names a host and a port as `http://host:port`, or as `http://host` with the port 80; one `/` may follow
pub record IsEndpoint (text host written : List ℕ) (port : ℕ) : Type 0 where
  pub whole : (text ≡ codes "http://" ++ written) ⊎ (text ≡ codes "http://" ++ written ++ codes "/")
  pub authority : ((written ≡ host) × (port ≡ 80))
      ⊎ ((digits : List ℕ) × (written ≡ host ++ codes ":" ++ digits) × IsDecimal digits port)
  pub named : 1 ≤ length host
  pub plain : AllPass is_host_byte host
  pub least : 1 ≤ port
  pub most : port ≤ 65535
