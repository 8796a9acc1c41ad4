-- Where bytes leave a production, from its parts.
use Rattle.std.proofs.Common.{◌≡◌, ◌≢◌, ◌≤◌, ℕ, suc, List, [], Result, Ok, Err, IfErr, subst, sym, ap, ◌∙◌, length}
use Rattle.std.proofs.Common.{arith, ◌-◌, ⊎_elim, refl}
use Rattle.std.specs.Str.{IsUtf8, is_utf8}
use Rattle.std.proofs.lemmas.Bool.{cases_Bool, false≢true}
use Rattle.std.proofs.lemmas.Str.{IsUtf8-from_is_utf8, is_utf8-from_IsUtf8}
use Rattle.std.proofs.lemmas.List.{append-nil}
use Rattle.std.specs.Result.{IsErrAnd}
use Rattle.reply_values.specs.References.{GoesOn, IsUnescaped}
use Rattle.reply_xml.specs.declared.runs.Sort.TheVariants as sort
use Rattle.reply_xml.specs.declared.texts.TextFault.{TextFault}
use Rattle.reply_xml.specs.declared.texts.TextFault.TheVariants as text_fault
use Rattle.reply_xml.specs.Faults.{EndsIn, OnBad, OnEnds, TextTells}
use Rattle.reply_xml.specs.Leaves.{IsAtFault, IsSound, LeavesTagEnd, LeavesText, NoTagBehind, NotUtf8}
use Rattle.reply_xml.specs.Runs.{ReadsRun}
use Rattle.reply_xml.specs.Tags.{ReadsAttribute, ReadsName}

-- the place of a part is handed on
pub leaves_past : {T : Type 0} {P Q : ℕ → Type 0} (r : Result T ℕ) (e : ℕ) → IsErrAnd r (λ d. d ≡ e)
    → ((left : ℕ) → P left → Q left)
    → P e → IfErr r Q
leaves_past {T} {P} {Q} (Ok x) e h f p = absurd h
leaves_past {T} {P} {Q} (Err d) e h f p = subst Q (sym h) (f e p)

pub leaves_so : {T : Type 0} {P Q : ℕ → Type 0} (r : Result T ℕ) → ((left : ℕ) → P left → Q left) → IfErr r P
    → IfErr r Q
leaves_so (Ok x) f h = tt
leaves_so (Err d) f h = f d h

-- an attribute was read
pub tag_leaves_before : (here space at next : List ℕ) (left : ℕ) → ReadsRun sort.Space space here at → space ≢ []
    → ReadsAttribute at next
    → LeavesTagEnd next left → LeavesTagEnd here left
tag_leaves_before here space at next left run some a l = record {
  count = suc l.count;
  at = l.at;
  attributes = (at, next, record { space = space; run = run; some = some }, a, l.attributes);
  leaves = l.leaves;
}

-- the place of a text
pub OnEnds-any : {P : ℕ → Type 0} (e : TextFault) → ((place : ℕ) → P place) → OnEnds e P
OnEnds-any (text_fault.Ends place) f = f place
OnEnds-any text_fault.BadReference f = tt
OnEnds-any text_fault.Memory f = tt

pub OnEnds-both : {P Q S : ℕ → Type 0} (e : TextFault) → ((place : ℕ) → P place → Q place → S place) → OnEnds e P
    → OnEnds e Q → OnEnds e S
OnEnds-both (text_fault.Ends place) f p q = f place p q
OnEnds-both text_fault.BadReference f p q = tt
OnEnds-both text_fault.Memory f p q = tt

pub TextTells-any : {P : Type 0} (e : TextFault) → P → TextTells e P
TextTells-any (text_fault.Ends place) h = h
TextTells-any text_fault.BadReference h = h
TextTells-any text_fault.Memory h = tt

pub ends_at : (P : ℕ → Type 0) (e : TextFault) (place : ℕ) → e ≡ text_fault.Ends place → OnEnds e P → P place
ends_at P e place same h = subst (λ (f : TextFault). OnEnds f P) same h

pub ends_within : (e : TextFault) (place size : ℕ) → e ≡ text_fault.Ends place → EndsIn e size → place ≤ size
ends_within e place size same h = subst (λ (f : TextFault). EndsIn f size) same h

pub bad_at : (P : Type 0) (e : TextFault) → e ≡ text_fault.BadReference → OnBad e P → P
bad_at P e same h = subst (λ (f : TextFault). OnBad f P) same h

-- a text that ends with the bytes, and a name that is this one
pub text_ends : (text bytes rest : List ℕ) → ReadsRun sort.Text text bytes rest → rest ≡ []
    → ReadsRun sort.Text text bytes []
text_ends text bytes rest run none = subst (λ (r : List ℕ). ReadsRun sort.Text text bytes r) none run

pub same_name : (found name bytes rest : List ℕ) → found ≡ name → ReadsName found bytes rest → ReadsName name bytes rest
same_name found name bytes rest same named = subst (λ (n : List ℕ). ReadsName n bytes rest) same named

-- a text whose references are sound goes on, with nothing behind it
pub sound_goes_on : (raw text : List ℕ) → IsUnescaped raw text → GoesOn raw
sound_goes_on raw text h = ([], text, subst (λ (t : List ℕ). IsUnescaped t text) (sym (append-nil raw)) h)

-- the text at the end of the bytes goes on, or is not UTF-8
pub last_text_leaves : (text bytes : List ℕ) (size : ℕ) → ReadsRun sort.Text text bytes []
    → (IsUtf8 text → (size ≡ length text) × GoesOn text)
    → (¬ (IsUtf8 text) → IsSound text × IsAtFault text size) → LeavesText bytes (length bytes - size)
last_text_leaves text bytes size run whole other =
    ⊎_elim
    (
    λ yes. let utf8 = IsUtf8-from_is_utf8 text yes in
    let at = (whole utf8).0 in
    let all : length bytes ≡ length text = ap length (run.split ∙ append-nil text) in
    NoTagBehind text run utf8 (whole utf8).1 (omega (arith, at, all))
    )
    (
    λ no. let bad : ¬ (IsUtf8 text) = λ utf8. false≢true (sym no ∙ is_utf8-from_IsUtf8 text utf8) in
    NotUtf8 size text [] run bad (other bad).0 (other bad).1 refl
    )
    (cases_Bool (is_utf8 text))
