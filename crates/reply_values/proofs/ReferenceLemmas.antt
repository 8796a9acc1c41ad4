-- References in character data.
use Rattle.std.proofs.Common.{◌≡◌, ◌≢◌, ◌<◌, ◌≤◌, ◌^◌, ◌++◌, ◌∷◌, ◌∙◌, ℕ, suc, true, not, eqb, List, [], length, get_or}
use Rattle.std.proofs.Common.{inl, inr, sym, ap, refl, arith, lit≤, eq-eqb}
use Rattle.std.specs.Char.{IsScalar, digit_value}
use Rattle.std.specs.Prelude.{codes, encode_utf8}
use Rattle.std.specs.Str.Parse.{AllDigits}
use Rattle.std.proofs.Math.Utf8.{scalar_fits}
use Rattle.std.specs.List.{list_all}
use Rattle.std.proofs.lemmas.Bool.{and_from, and_parts}
use Rattle.std.proofs.lemmas.Bool.Decides.{nat_tests}
use Rattle.std.proofs.lemmas.List.{append_assoc}
use Rattle.reply_values.specs.Numbers.{Writes}
use Rattle.reply_values.specs.Spelling.{StartsPiece, StartsNoPiece}
use Rattle.reply_values.proofs.SpellingLemmas.{heads, tails}
use Rattle.reply_values.specs.References.{IsNumbered, Names, IsReference}
use Rattle.shared_lemmas.proofs.Tests.{is_other}

pub scalar_small : (char : ℕ) → IsScalar char → char < 2 ^ 64
scalar_small char h = let small = scalar_fits char h in omega arith

-- no decimal digits begin with x
pub no_decimal_x : {text hex : List ℕ} {number : ℕ} → text ≡ 120 ∷ hex → Writes 10 text number → ⊥
no_decimal_x e h = let digits = rw e at h.digits.1 in let small : digit_value 120 < 10 = digits.0 in omega arith

pub no_hash : (name : List ℕ) → ((rest : List ℕ) → name ≢ 35 ∷ rest) → (char : ℕ) → IsNumbered name char → ⊥
no_hash name none char (scalar, inl (digits, e, h)) = none digits e
no_hash name none char (scalar, inr (digits, e, h)) = none (120 ∷ digits) e

pub no_hex : (name digits hex : List ℕ) → name ≡ 35 ∷ digits → digits ≡ 120 ∷ hex
    → ((number : ℕ) → number < 2 ^ 64 → ¬ (Writes 16 hex number)) → (char : ℕ) → IsNumbered name char → ⊥
no_hex name digits hex a b none char (scalar, inl (decimal, e, h)) = no_decimal_x (tails (sym e ∙ a) ∙ b) h
no_hex name digits hex a b none char (scalar, inr (own, e, h)) =
    let same : own ≡ hex = tails (tails (sym e ∙ a) ∙ b) in
    none char (scalar_small char scalar) (rw same at h)

pub no_decimal : (name digits : List ℕ) → name ≡ 35 ∷ digits → ((hex : List ℕ) → digits ≢ 120 ∷ hex)
    → ((number : ℕ) → number < 2 ^ 64 → ¬ (Writes 10 digits number)) → (char : ℕ) → IsNumbered name char → ⊥
no_decimal name digits a plain none char (scalar, inl (own, e, h)) =
    let same : own ≡ digits = tails (sym e ∙ a) in
    none char (scalar_small char scalar) (rw same at h)
no_decimal name digits a plain none char (scalar, inr (hex, e, h)) = plain hex (sym (tails (sym e ∙ a)))

-- a text without this byte
abbrev pub Lacks : ℕ → List ℕ → Type 0
Lacks byte text = list_all (λ b. not (eqb b byte)) text ≡ true

pub differs : (b byte : ℕ) → not (eqb b byte) ≡ true → b ≢ byte
differs b byte h e = let same = eq-eqb b byte e in grind (arith, nat_tests)

pub lacks_from : (byte : ℕ) (text : List ℕ) → ((i : ℕ) → i < length text → get_or text i 0 ≢ byte) → Lacks byte text
lacks_from byte [] none = refl
lacks_from byte (b ∷ text) none =
    and_from _ _ (is_other b byte (none 0 (omega arith))) (lacks_from byte text (λ i inside. none (suc i) (omega arith)))

-- the parts before the first such byte
pub first_cut : (byte : ℕ) (xs ys r s : List ℕ) → Lacks byte xs → Lacks byte ys → xs ++ (byte ∷ r) ≡ ys ++ (byte ∷ s)
    → xs ≡ ys
first_cut byte [] [] r s h k e = refl
first_cut byte [] (y ∷ ys) r s h k e = absurd (differs y byte (and_parts _ _ k).0 (sym (heads e)))
first_cut byte (x ∷ xs) [] r s h k e = absurd (differs x byte (and_parts _ _ h).0 (heads e))
first_cut byte (x ∷ xs) (y ∷ ys) r s h k e =
    ap (λ b. b ∷ xs) (heads e) ∙ ap (λ t. y ∷ t)
    (first_cut byte xs ys r s (and_parts _ _ h).1 (and_parts _ _ k).1 (tails e))

pub lacks_at : (byte : ℕ) (xs r : List ℕ) → Lacks byte (xs ++ (byte ∷ r)) → ⊥
lacks_at byte [] r h = differs byte byte (and_parts _ _ h).0 refl
lacks_at byte (x ∷ xs) r h = lacks_at byte xs r (and_parts _ _ h).1

-- names have no `;`
digits_lack : (radix : ℕ) (digits : List ℕ) → radix ≤ 36 → AllDigits radix digits → Lacks 59 digits
digits_lack radix [] small h = refl
digits_lack radix (d ∷ digits) small h = and_from _ _ (is_other d 59 (λ e. let value = rw e at h.0 in omega arith))
    (digits_lack radix digits small h.1)

pub names_lack : (name : List ℕ) (char : ℕ) → Names name char → Lacks 59 name
names_lack name char (inl (inl h)) = rw h.0 refl
names_lack name char (inl (inr (inl h))) = rw h.0 refl
names_lack name char (inl (inr (inr (inl h)))) = rw h.0 refl
names_lack name char (inl (inr (inr (inr (inl h))))) = rw h.0 refl
names_lack name char (inl (inr (inr (inr (inr h))))) = rw h.0 refl
names_lack name char (inr (scalar, inl (digits, e, h))) = rw e (digits_lack 10 digits (lit≤ tt) h.digits.1)
names_lack name char (inr (scalar, inr (digits, e, h))) = rw e (digits_lack 16 digits (lit≤ tt) h.digits.1)

-- `&`, a name, `;` and what follows
pub reference_split : (text piece meant more : List ℕ) (h : IsReference piece meant) → text ≡ piece ++ more
    → text ≡ 38 ∷ (h.name ++ (59 ∷ more))
reference_split text piece meant more h e = e ∙ rw h.written (ap (λ t. 38 ∷ t) (append_assoc h.name (59 ∷ []) more))

pub no_end : (text : List ℕ) → Lacks 59 text → StartsNoPiece IsReference (38 ∷ text)
no_end text none piece meant more e h =
    let split = tails (reference_split (38 ∷ text) piece meant more h e) in
    lacks_at 59 h.name more (rw split at none)

pub no_name : (text name rest : List ℕ) → text ≡ name ++ (59 ∷ rest) → Lacks 59 name
    → ((char : ℕ) → ¬ (Names name char)) → StartsNoPiece IsReference (38 ∷ text)
no_name text name rest e lacks none piece meant more start h =
    let split = tails (reference_split (38 ∷ text) piece meant more h start) in
    let same = first_cut 59 h.name name more rest (names_lack h.name h.char h.named) lacks (sym split ∙ e) in
    none h.char (rw same at h.named)

pub reference_stands : (text name rest : List ℕ) (char : ℕ) → text ≡ name ++ (59 ∷ rest) → Names name char
    → StartsPiece IsReference (38 ∷ text) (encode_utf8 char) rest
reference_stands text name rest char e h = record {
  piece = codes "&" ++ name ++ codes ";";
  split = ap (λ t. 38 ∷ t) (e ∙ sym (append_assoc name (59 ∷ []) rest));
  stands = record { name = name; char = char; written = refl; named = h; meant = refl };
}
