-- What follows a part of a text that is UTF-8 is UTF-8.
use Rattle.std.proofs.Common.{◌≡◌, ◌≢◌, ◌==◌, not, nat_lt, ◌<◌, ◌+◌, ◌++◌, ◌⊎◌, ⊎_elim, ℕ, zero, suc, Bool, true, false}
use Rattle.std.proofs.Common.{List, [], ◌∷◌}
use Rattle.std.proofs.Common.{refl, sym, subst, length, get_or, arith, inl, inr, codes}
use Rattle.std.specs.List.{AllPass}
use Rattle.std.specs.Str.{IsCharBoundary}
use Rattle.std.proofs.lemmas.List.Sums.{AllPass-from_list_all}
use Rattle.std.specs.Str.{IsAscii, IsUtf8, is_utf8}
use Rattle.std.proofs.Math.Seq.{drop-append_seam, take-append_seam}
use Rattle.std.proofs.lemmas.Bool.Decides.{nat_tests}
use Rattle.std.proofs.lemmas.List.{length-append}
use Rattle.std.proofs.lemmas.List.Elements.{All-head, All-tail}
use Rattle.std.proofs.lemmas.Str.{IsCharBoundary-after_ascii, IsCharBoundary-before_ascii, IsCharBoundary-from_take}
use Rattle.std.proofs.lemmas.Str.{IsUtf8-drop, IsUtf8-from_ascii, IsUtf8-from_is_utf8, IsUtf8-take, is_utf8-from_IsUtf8}
use Rattle.reply_xml.specs.declared.runs.Sort.TheVariants as sort
use Rattle.reply_xml.specs.Documents.{BeginsDocument, MayDeclare, ReadsDeclaration}
use Rattle.reply_xml.specs.Runs.{ReadsRun, is_name_byte, is_space}
use Rattle.reply_xml.specs.Tags.{NamesTag, ReadsAttribute, ReadsAttributes, ReadsEndTag, ReadsName, ReadsTag}
use Rattle.reply_xml.specs.Tags.{ReadsTagEnd, ReadsValue, tag_close}

-- bytes of a sort that has ASCII alone
ascii_run : (test : ℕ → Bool) → ((byte : ℕ) → test byte ≡ true → byte < 128) → (run : List ℕ) → AllPass test run
    → IsAscii run
ascii_run test small [] inside i = omega arith
ascii_run test small (byte ∷ run) inside zero = small byte (All-head (λ b. test b ≡ true) byte run inside)
ascii_run test small (byte ∷ run) inside (suc i) =
    ascii_run test small run (All-tail (λ b. test b ≡ true) byte run inside) i

name_small : (byte : ℕ) → is_name_byte byte ≡ true → byte < 128
name_small byte h = grind (arith, nat_tests)

space_small : (byte : ℕ) → is_space byte ≡ true → byte < 128
space_small byte h = grind (arith, nat_tests)

-- behind a front that is UTF-8
pub utf8_behind : (bytes front rest : List ℕ) → bytes ≡ front ++ rest → IsUtf8 front → IsUtf8 bytes → IsUtf8 rest
utf8_behind bytes front rest e f u =
    let all = subst IsUtf8 e u in
    let size = length-append front rest in
    let cut = IsCharBoundary-from_take (front ++ rest) (length front) all (omega (arith, size))
    (subst IsUtf8 (sym (take-append_seam front rest)) f) in
    subst IsUtf8 (drop-append_seam front rest) (IsUtf8-drop (front ++ rest) (length front) all cut)

utf8_byte : (bytes rest : List ℕ) (byte : ℕ) → byte < 128 → bytes ≡ byte ∷ rest → IsUtf8 bytes → IsUtf8 rest
utf8_byte bytes rest byte small e u =
    utf8_behind bytes (byte ∷ []) rest e (IsUtf8-from_ascii (byte ∷ []) (ascii_one byte small)) u
  where
    ascii_one : (b : ℕ) → b < 128 → IsAscii (b ∷ [])
    ascii_one b h zero = h
    ascii_one b h (suc i) = omega arith

pub utf8_name : (name bytes rest : List ℕ) → ReadsName name bytes rest → IsUtf8 name
utf8_name name bytes rest r = IsUtf8-from_ascii name (ascii_run is_name_byte name_small name r.run.inside)

behind_name : (name bytes rest : List ℕ) → ReadsName name bytes rest → IsUtf8 bytes → IsUtf8 rest
behind_name name bytes rest r u = utf8_behind bytes name rest r.run.split (utf8_name name bytes rest r) u

behind_space : (space bytes rest : List ℕ) → ReadsRun sort.Space space bytes rest → IsUtf8 bytes → IsUtf8 rest
behind_space space bytes rest r u =
    utf8_behind bytes space rest r.split (IsUtf8-from_ascii space (ascii_run is_space space_small space r.inside)) u

quote_small : (byte : ℕ) → (byte ≡ 34) ⊎ (byte ≡ 39) → byte < 128
quote_small byte q = ⊎_elim (λ e. omega (arith, e)) (λ e. omega (arith, e)) q

behind_value : (bytes rest : List ℕ) → ReadsValue bytes rest → IsUtf8 bytes → IsUtf8 rest
behind_value bytes rest r u =
    let small = quote_small r.quote r.is_quote in
    utf8_byte r.at_quote rest r.quote small r.closes
    (utf8_behind r.at_value r.value r.at_quote r.valued.split r.characters
    (utf8_byte bytes r.at_value r.quote small r.opens u))

behind_attribute : (bytes rest : List ℕ) → ReadsAttribute bytes rest → IsUtf8 bytes → IsUtf8 rest
behind_attribute bytes rest r u =
    behind_value r.at_value rest r.value
    (utf8_byte r.at_equals r.at_value 61 (omega arith) r.equals (behind_name r.name bytes r.at_equals r.named u))

behind_attributes : (count : ℕ) (bytes rest : List ℕ) → ReadsAttributes count bytes rest → IsUtf8 bytes → IsUtf8 rest
behind_attributes zero bytes rest r u = subst IsUtf8 (sym r) u
behind_attributes (suc n) bytes rest r u =
    behind_attributes n r.1 rest r.4 (behind_attribute r.0 r.1 r.3 (behind_space r.2.space bytes r.0 r.2.run u))

behind_close : (closed : Bool) (bytes rest : List ℕ) → bytes ≡ tag_close closed ++ rest → IsUtf8 bytes → IsUtf8 rest
behind_close true bytes rest e u =
    utf8_byte (62 ∷ rest) rest 62 (omega arith) refl (utf8_byte bytes (62 ∷ rest) 47 (omega arith) e u)
behind_close false bytes rest e u = utf8_byte bytes rest 62 (omega arith) e u

pub behind_tag_end : (closed : Bool) (bytes rest : List ℕ) → ReadsTagEnd closed bytes rest → IsUtf8 bytes → IsUtf8 rest
behind_tag_end closed bytes rest r u =
    behind_close closed r.at_close rest r.closes
    (behind_space r.space r.at_space r.at_close r.run (behind_attributes r.count bytes r.at_space r.attributes u))

pub behind_end_tag : (name bytes rest : List ℕ) → ReadsEndTag name bytes rest → IsUtf8 bytes → IsUtf8 rest
behind_end_tag name bytes rest r u =
    let at_name = utf8_byte (47 ∷ r.at_name) r.at_name 47 (omega arith) refl
    (utf8_byte bytes (47 ∷ r.at_name) 60 (omega arith) r.opens u) in
    utf8_byte r.at_close rest 62 (omega arith) r.closes
    (behind_space r.space r.at_space r.at_close r.run (behind_name name r.at_name r.at_space r.named at_name))

pub behind_tag_name : (name bytes rest : List ℕ) → NamesTag name bytes rest → IsUtf8 bytes → IsUtf8 rest
behind_tag_name name bytes rest r u =
    behind_name name r.at_name rest r.named (utf8_byte bytes r.at_name 60 (omega arith) r.opens u)

pub utf8_tag_name : (name bytes rest : List ℕ) → NamesTag name bytes rest → IsUtf8 name
utf8_tag_name name bytes rest r = utf8_name name r.at_name rest r.named

-- the bytes up to the content of the root
opening_utf8 : IsUtf8 (codes "<?xml")
opening_utf8 =
    IsUtf8-from_ascii (codes "<?xml")
    (ascii_run (λ b. nat_lt b 128) (λ b h. grind (arith, nat_tests)) (codes "<?xml")
    (AllPass-from_list_all (λ b. nat_lt b 128) (codes "<?xml") refl))

behind_declaration : (bytes rest : List ℕ) → ReadsDeclaration bytes rest → IsUtf8 bytes → IsUtf8 rest
behind_declaration bytes rest r u =
    let after = utf8_behind bytes (codes "<?xml") r.after r.opens opening_utf8 u in
    let greater = r.ends.greater in
    let cut = IsCharBoundary-after_ascii r.after (r.place + 1) after r.ends.inside (omega (arith, greater)) in
    let same : r.place + 1 + 1 ≡ r.place + 2 = omega arith in
    subst IsUtf8 (sym r.behind) (IsUtf8-drop r.after (r.place + 2) after (subst (IsCharBoundary r.after) same cut))

may_behind : (bytes rest : List ℕ) → MayDeclare bytes rest → IsUtf8 bytes → IsUtf8 rest
may_behind bytes rest (inl d) u = behind_declaration bytes rest d u
may_behind bytes rest (inr none) u = subst IsUtf8 (sym none.0) u

behind_tag : (closed : Bool) (name bytes rest : List ℕ) → ReadsTag closed name bytes rest → IsUtf8 bytes → IsUtf8 rest
behind_tag closed name bytes rest r u =
    behind_tag_end closed r.at_attributes rest r.ends
    (behind_name name r.at_name r.at_attributes r.named (utf8_byte bytes r.at_name 60 (omega arith) r.opens u))

pub behind_begin : (root bytes rest : List ℕ) (closed : Bool) → BeginsDocument root bytes closed rest → IsUtf8 bytes
    → IsUtf8 rest
behind_begin root bytes rest closed r u =
    behind_tag closed root r.at_root rest r.tag
    (behind_space r.between.0 r.at_space r.at_root r.between.1
    (may_behind r.at_declaration r.at_space r.declared (behind_space r.before.0 bytes r.at_declaration r.before.1 u)))

-- a text that `<` follows, and what stands from there on
is_less : (byte : ℕ) → not (byte == 60) ≡ false → byte < 128
is_less byte h = grind (arith, nat_tests)

pub text_parts : (text bytes rest : List ℕ) → ReadsRun sort.Text text bytes rest → rest ≢ [] → IsUtf8 bytes
    → IsUtf8 text × IsUtf8 rest
text_parts text bytes [] r some u = absurd (some refl)
text_parts text bytes (byte ∷ more) r some u =
    let all = subst IsUtf8 r.split u in
    let size = length-append text (byte ∷ more) in
    let at = at_seam text in
    let small = is_less byte r.ends in
    let cut = IsCharBoundary-before_ascii (text ++ (byte ∷ more)) (length text) (omega (arith, size))
    (omega (arith, at, small)) in
    let front = subst IsUtf8 (take-append_seam text (byte ∷ more))
    (IsUtf8-take (text ++ (byte ∷ more)) (length text) all cut) in
    (front, utf8_behind bytes text (byte ∷ more) r.split front u)
  where
    at_seam : (xs : List ℕ) → get_or (xs ++ (byte ∷ more)) (length xs) 0 ≡ byte
    at_seam [] = refl
    at_seam (x ∷ xs) = at_seam xs

-- what is known of the bytes at one place of a document is known at a later one
pub judged_on : (sound : Bool) (bytes rest : List ℕ) → (sound ≡ true → is_utf8 bytes ≡ true)
    → (IsUtf8 bytes → IsUtf8 rest)
    → sound ≡ true → is_utf8 rest ≡ true
judged_on sound bytes rest known go h = is_utf8-from_IsUtf8 rest (go (IsUtf8-from_is_utf8 bytes (known h)))

pub judged : (sound : Bool) (bytes : List ℕ) → (sound ≡ true → is_utf8 bytes ≡ true) → sound ≡ true → IsUtf8 bytes
judged sound bytes known h = IsUtf8-from_is_utf8 bytes (known h)
