-- What a fault says, through what it implies.
use Rattle.std.proofs.Common.{◌≡◌, ◌≢◌, ◌∙◌, ℕ, IfOk, Result, Ok, Err, ap, refl, subst, sym}
use Rattle.std.specs.Result.{IsErrAnd, OnOk}
use Rattle.reply_xml.specs.declared.faults.DocFault.{DocFault}
use Rattle.reply_xml.specs.declared.faults.DocFault.TheVariants as fault
use Rattle.reply_xml.specs.declared.texts.TextFault.{TextFault}
use Rattle.reply_xml.specs.declared.texts.TextFault.TheVariants as text_fault
use Rattle.reply_xml.specs.Faults.{Tells, IfRefused, IsFault, IsSameFault, TextTells}

pub Tells-map : {P Q : Type 0} (e : DocFault) → (P → Q) → Tells e P → Tells e Q
Tells-map fault.Memory f h = tt
Tells-map (fault.NotADocument n) f h = f h
Tells-map (fault.Missing element) f h = f h
Tells-map (fault.Twice element) f h = f h
Tells-map fault.BadNumber f h = f h
Tells-map fault.BadTime f h = f h
Tells-map fault.BadEscape f h = f h
Tells-map fault.TooDeep f h = f h
Tells-map (fault.BadText element) f h = f h

-- the fault of a step is handed on
pub refused_past : {U P Q : Type 0} (r : Result U DocFault) (e : DocFault) → IsErrAnd r (λ f. f ≡ e) → (P → Q)
    → Tells e P → IfRefused r Q
refused_past {U} {P} {Q} (Ok x) e h f t = absurd h
refused_past {U} {P} {Q} (Err other) e h f t = subst (λ (d : DocFault). Tells d Q) (sym h) (Tells-map e f t)

-- the same at an answer that is handed on whole
pub refused_so : {T P Q : Type 0} (r : Result T DocFault) → (P → Q) → IfRefused r P → IfRefused r Q
refused_so (Ok x) f h = tt
refused_so (Err e) f h = Tells-map e f h

-- what holds where there is an answer
pub OnOk-map : {T E P Q : Type 0} (r : Result T E) → (P → Q) → OnOk r P → OnOk r Q
OnOk-map (Ok x) f h = f h
OnOk-map (Err e) f h = h

pub OnOk-all : {T E P Q S X : Type 0} (r : Result T E) → (P → Q → S → X) → OnOk r P → OnOk r Q → OnOk r S → OnOk r X
OnOk-all (Ok x) f p q s = f p q s
OnOk-all (Err e) f p q s = p

-- what holds is told by any fault
pub Tells-any : {P : Type 0} (e : DocFault) → P → Tells e P
Tells-any fault.Memory h = tt
Tells-any (fault.NotADocument n) h = h
Tells-any (fault.Missing element) h = h
Tells-any (fault.Twice element) h = h
Tells-any fault.BadNumber h = h
Tells-any fault.BadTime h = h
Tells-any fault.BadEscape h = h
Tells-any fault.TooDeep h = h
Tells-any (fault.BadText element) h = h

-- what the fault of a text tells
pub ends_told : {P : Type 0} (e : TextFault) (place : ℕ) → e ≡ text_fault.Ends place → TextTells e P → P
ends_told {P} e place same h = subst (λ (f : TextFault). TextTells f P) same h

pub bad_told : {P : Type 0} (e : TextFault) → e ≡ text_fault.BadReference → TextTells e P → P
bad_told {P} e same h = subst (λ (f : TextFault). TextTells f P) same h

-- what holds of a value
pub IfOk-map : {T E : Type 0} {P Q : T → Type 0} (r : Result T E) → ((x : T) → P x → Q x) → IfOk r P → IfOk r Q
IfOk-map (Ok x) f h = f x h
IfOk-map (Err e) f h = h

-- a fault that is told instead of another one
pub told_instead : (P : Type 0) (e f : DocFault) → (e ≡ fault.Memory → f ≡ fault.Memory) → Tells e P → Tells f P
told_instead P fault.Memory f kept h = subst (λ (d : DocFault). Tells d P) (sym (kept refl)) tt
told_instead P (fault.NotADocument n) f kept h = Tells-any f h
told_instead P (fault.Missing element) f kept h = Tells-any f h
told_instead P (fault.Twice element) f kept h = Tells-any f h
told_instead P fault.BadNumber f kept h = Tells-any f h
told_instead P fault.BadTime f kept h = Tells-any f h
told_instead P fault.BadEscape f kept h = Tells-any f h
told_instead P fault.TooDeep f kept h = Tells-any f h
told_instead P (fault.BadText element) f kept h = Tells-any f h

pub not_err : {T E : Type 0} (x : T) (e : E) → ◌≡◌ {A = Result T E} (Ok x) (Err e) → ⊥
not_err x e same = cc

-- a fault that is handed on is the same one
pub err_past : {U : Type 0} (r : Result U DocFault) (e f : DocFault) → IsErrAnd r (λ d. d ≡ e) → e ≡ f → r ≡ Err f
err_past (Ok x) e f h same = absurd h
err_past (Err d) e f h same = ap Err (h ∙ same)

-- a fault that cannot be told is memory that ran out
pub untold : (e f : DocFault) → Tells e ⊥ → IsSameFault f e
untold fault.Memory f h = tt
untold (fault.NotADocument n) f h = absurd h
untold (fault.Missing element) f h = absurd h
untold (fault.Twice element) f h = absurd h
untold fault.BadNumber f h = absurd h
untold fault.BadTime f h = absurd h
untold fault.BadEscape f h = absurd h
untold fault.TooDeep f h = absurd h
untold (fault.BadText element) f h = absurd h

pub same_fault : (e f : DocFault) → e ≡ f → IsSameFault f e
same_fault fault.Memory f h = tt
same_fault (fault.NotADocument n) f h = h
same_fault (fault.Missing element) f h = h
same_fault (fault.Twice element) f h = h
same_fault fault.BadNumber f h = h
same_fault fault.BadTime f h = h
same_fault fault.BadEscape f h = h
same_fault fault.TooDeep f h = h
same_fault (fault.BadText element) f h = h

-- the same of a fault that is handed on
pub fault_past : {U : Type 0} (r : Result U DocFault) (e f : DocFault) → IsErrAnd r (λ d. d ≡ e) → IsSameFault f e
    → IsFault r f
fault_past (Ok x) e f h same = absurd h
fault_past (Err d) e f h same = subst (λ (k : DocFault). IsSameFault f k) (sym h) same

-- a fault that is not want of memory tells what it says
pub told : {P : Type 0} (e : DocFault) → e ≢ fault.Memory → Tells e P → P
told fault.Memory other h = absurd (other refl)
told (fault.NotADocument n) other h = h
told (fault.Missing element) other h = h
told (fault.Twice element) other h = h
told fault.BadNumber other h = h
told fault.BadTime other h = h
told fault.BadEscape other h = h
told fault.TooDeep other h = h
told (fault.BadText element) other h = h
