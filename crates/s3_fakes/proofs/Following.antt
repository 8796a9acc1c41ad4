-- What happens to a service, one after the other.
use Rattle.std.proofs.Common.{◌≡◌, ◌∙◌, List, [], ◌∷◌, refl, sym, ap, subst}
use Rattle.s3_model.specs.declared.answers.Reply.{Reply}
use Rattle.s3_model.specs.declared.settings.Limits.{Limits}
use Rattle.std.specs.Prelude.{ℕ, Result, Ok, Err, IsErr, OnOk, OnErr, false}
use Rattle.shared_lemmas.proofs.Clashes.{false_true}
use Rattle.s3_model.specs.declared.requests.Ask.{Ask}
use Rattle.object_table.specs.Refused.{IsNotRefused}
use Rattle.object_table.specs.declared.fault.Refusal.{Refusal}
use Rattle.object_table.specs.declared.fault.TableFault.{TableFault}
use Rattle.object_table.specs.declared.fault.TableFault.TheVariants.{Refused, Memory}
use Rattle.s3_service.specs.Willing.{HasRange, IsWholeObject, SaysIfThere}
use Rattle.service_answers.specs.Statuses.{refusal_code}
use Rattle.service_answers.specs.declared.gained.Gained.{Gained}
use Rattle.table_service.specs.Served.{IsServed, reply_of}
use Rattle.s3_service.specs.ServiceState.{State}
use Rattle.s3_service.specs.Serves.{Deletes, Puts, Succeeds, Removes as RemovesObject, Writes as WritesObject}
use Rattle.s3_fakes.specs.Holdings.{Follows, Happened, Happening, Happens, Holdings, IsAnswered, Misreads, Refuses, Serves, Writes}

abbrev Reaches : Limits → State → State → Type 0
Reaches limits old new = (happenings : List Happening) × Happened limits old happenings new

reaches_on : (limits : Limits) (a b c : State) → Reaches limits a b → (more : List Happening) → Happened limits b more c → Reaches limits a c
reaches_on limits a b c one [] same = subst (λ (s : State). Reaches limits a s) (sym same) one
reaches_on limits a b c one (last ∷ before) more =
    let front = reaches_on limits a b more.0 one before more.1 in (last ∷ front.0, (more.0, front.1, more.2))

-- nothing happened
pub follows_same : (old new : Holdings) → new ≡ old → Follows old new
follows_same old new same = record {
  limits = ap (λ (h : Holdings). h.limits) same;
  scripted = ap (λ (h : Holdings). h.is_scripted) same;
  state = ([], ap (λ (h : Holdings). h.state) same);
}

-- one thing happened
pub follows_once : (old new : Holdings) (happening : Happening) → new.limits ≡ old.limits → new.is_scripted ≡ old.is_scripted → Happens old.limits old.state happening new.state → Follows old new
follows_once old new happening kept still happens = record {
  limits = kept;
  scripted = still;
  state = (happening ∷ [], (old.state, refl, happens));
}

-- one thing after the other
pub follows_both : (a b c : Holdings) → Follows a b → Follows b c → Follows a c
follows_both a b c one two = record {
  limits = two.limits ∙ one.limits;
  scripted = two.scripted ∙ one.scripted;
  state =
      reaches_on a.limits a.state b.state c.state one.state two.state.0
      (subst (λ (l : Limits). Happened l b.state two.state.0 c.state) one.limits two.state.1);
}

-- one request was answered
pub follows_answer : (old new : Holdings) → IsAnswered old new → Follows old new
follows_answer old new answered = follows_once old new answered.happening answered.limits answered.scripted answered.happens

-- somebody else put an object, or could not
pub follows_put : {V E : Type 0} (r : Result V E) (old new : Holdings) (bucket key bytes : List ℕ) → new.limits ≡ old.limits → new.is_scripted ≡ old.is_scripted → OnOk r (Puts old.state bucket key false bytes new.state) → OnErr r (new ≡ old)
    → Follows old new
follows_put (Ok done) old new bucket key bytes kept still put same =
    follows_once old new (Writes (WritesObject bucket key put.2.0)) kept still (put.0, put.2.2)
follows_put (Err fault) old new bucket key bytes kept still put same = follows_same old new same

-- the same but for the state
abbrev pub with_state : Holdings → State → Holdings
with_state held new = record held { state = new }

removed : {V E : Type 0} (r : Result V E) (old : Holdings) (new : State) (bucket key : List ℕ) → OnOk r (Deletes old.state bucket key new) → OnErr r (new ≡ old.state) → Follows old (with_state old new)
removed (Ok done) old new bucket key gone same =
    follows_once old (with_state old new) (Writes (RemovesObject bucket key)) refl refl (gone.0, gone.1)
removed (Err fault) old new bucket key gone same =
    follows_same old (with_state old new) (ap (λ (s : State). with_state old s) same)

-- somebody else took an object away, or could not
pub follows_removal : {V E : Type 0} (r : Result V E) (old before : Holdings) (new : State) (bucket key : List ℕ) → before ≡ old → OnOk r (Deletes before.state bucket key new) → OnErr r (new ≡ before.state) → Follows old (with_state before new)
follows_removal r old before new bucket key is gone same =
    subst (λ (h : Holdings). Follows h (with_state before new)) is (removed r before new bucket key gone same)

-- the same seen in another way
pub follows_from : (a b c : Holdings) → a ≡ b → Follows a c → Follows b c
follows_from a b c is went = subst (λ (h : Holdings). Follows h c) is went

pub follows_to : (a b c : Holdings) → c ≡ b → Follows a b → Follows a c
follows_to a b c is went = subst (λ (h : Holdings). Follows a h) (sym is) went

-- ---- one request

answered_from : (old before new : Holdings) → before ≡ old → IsAnswered before new → IsAnswered old new
answered_from old before new is answered = subst (λ (h : Holdings). IsAnswered h new) is answered

-- it was served
pub answered_served : (old before : Holdings) (new : State) (asked : Ask) (body : List ℕ) (got : Gained) → before ≡ old → IsServed before.limits before.state asked body got new → (HasRange asked → ¬ (IsWholeObject (reply_of got)))
    → IsAnswered old (with_state before new)
answered_served old before new asked body got is served ranged =
    answered_from old before (with_state before new) is
    (record { limits = refl; scripted = refl; happening = Serves asked body got; request = tt; happens = (served, ranged) })

-- it was refused
pub answered_refused : (old before : Holdings) (new : State) (asked : Ask) (body : List ℕ) (why : Refusal) → before ≡ old → new ≡ before.state
    → ((given : Reply) (bytes : List ℕ) (made : State) → ¬ (Succeeds before.limits before.state asked body given bytes made)) → SaysIfThere before.state asked (refusal_code why) → IsAnswered old (with_state before new)
answered_refused old before new asked body why is same cannot says =
    answered_from old before (with_state before new) is
    (record { limits = refl; scripted = refl; happening = Refuses asked body why; request = tt; happens = (same, record { cannot = cannot; says = says }) })

-- it was not understood
pub answered_misread : (old new : Holdings) → new ≡ old → IsAnswered old new
answered_misread old new same = record {
  limits = ap (λ (h : Holdings). h.limits) same;
  scripted = ap (λ (h : Holdings). h.is_scripted) same;
  happening = Misreads;
  request = tt;
  happens = ap (λ (h : Holdings). h.state) same;
}

pub on_ok : {V E P : Type 0} (r : Result V E) → P → OnOk r P
on_ok (Ok value) p = p
on_ok (Err fault) p = tt

pub misread_ok : {V E : Type 0} (r : Result V E) (held : Holdings) → OnOk r (IsAnswered held held)
misread_ok r held = on_ok r (answered_misread held held refl)

pub on_ok_from : {V E : Type 0} (r : Result V E) (old before new : Holdings) → before ≡ old → OnOk r (IsAnswered before new) → OnOk r (IsAnswered old new)
on_ok_from r old before new is answered = subst (λ (h : Holdings). OnOk r (IsAnswered h new)) is answered

none_came : {V E : Type 0} (P : Type 0) (r : Result V E) → IsErr r → OnOk r P
none_came P (Ok value) e = absurd (false_true e)
none_came P (Err fault) e = tt

-- it was refused, or memory ran out
pub answered_fault : {V E : Type 0} (r : Result V E) (fault : TableFault) (old before : Holdings) (new : State) (asked : Ask) (body : List ℕ) → before ≡ old → new ≡ before.state
    → ((given : Reply) (bytes : List ℕ) (made : State) → Succeeds before.limits before.state asked body given bytes made → IsNotRefused {A = Gained} (Err fault))
    → ((why : Refusal) → fault ≡ Refused why → SaysIfThere before.state asked (refusal_code why)) → (fault ≡ Memory → IsErr r) → OnOk r (IsAnswered old (with_state before new))
answered_fault r (Refused why) old before new asked body is same cannot says none =
    on_ok r (answered_refused old before new asked body why is same cannot (says why refl))
answered_fault r Memory old before new asked body is same cannot says none =
    none_came (IsAnswered old (with_state before new)) r (none refl)

pub follows_state : (old before : Holdings) (new : State) → before ≡ old → new ≡ before.state → Follows old (with_state before new)
follows_state old before new is same =
    follows_from before old (with_state before new) is
    (follows_same before (with_state before new) (ap (λ (s : State). with_state before s) same))
