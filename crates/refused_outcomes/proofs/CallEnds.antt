-- What files tell of the calls that they tell: the last of these calls, and what it made of the files.
use Rattle.std.proofs.Common.{◌≡◌, ◌++◌, List, [], ◌∷◌, refl, sym, subst, map, Contains}
use Rattle.s3_model.specs.Files.{HeldFile}
use Rattle.s3_model.specs.Maps.{MapOf}
use Rattle.local_files.specs.Calls.{Call, IsCallRun, Leads}
use Rattle.run_promise.specs.FileCalls.{TaskCall, files_after, steps_of}
use Rattle.shared_lemmas.proofs.Lists.{head_is, no_cons, no_nil, tail_is}
use Rattle.shared_lemmas.proofs.Members.{has, has-map, mapped}
use Rattle.promise_examples.proofs.Concrete.{Has, contains_of, each_has, Each}

abbrev pub called : List TaskCall → List Call
called calls = map (λ (c : TaskCall). c.step.call) calls

-- calls up to this last one, from the files at the start to these
pub record EndsWith (old : MapOf HeldFile) (front : List Call) (last : Call) (new : MapOf HeldFile) : Type 0 where
  pub earlier : List TaskCall
  pub told : called earlier ≡ front
  pub runs : IsCallRun old (steps_of earlier)
  pub leads : Leads last (files_after old earlier) new

pub ends_with : (old : MapOf HeldFile) (calls : List TaskCall) (front : List Call) (last : Call) → called calls ≡ front ++ last ∷ [] → IsCallRun old (steps_of calls) → EndsWith old front last (files_after old calls)
ends_with old [] [] last e runs = absurd (no_nil _ _ e)
ends_with old [] (k ∷ front) last e runs = absurd (no_nil _ _ e)
ends_with old (c ∷ []) [] last e runs = record {
  earlier = [];
  told = refl;
  runs = tt;
  leads = subst (λ (k : Call). Leads k old c.step.held) (head_is c.step.call last [] [] e) runs.0;
}
ends_with old (c ∷ d ∷ calls) [] last e runs = absurd (no_cons _ _ (tail_is c.step.call last (called (d ∷ calls)) [] e))
ends_with old (c ∷ calls) (k ∷ front) last e runs =
    let before = ends_with c.step.held calls front last (tail_is c.step.call k (called calls) (front ++ last ∷ []) e) runs.1 in
    record {
      earlier = c ∷ before.earlier;
      told = subst (λ (x : Call). c.step.call ∷ called before.earlier ≡ x ∷ front) (head_is c.step.call k (called calls) (front ++ last ∷ []) e) (subst (λ (xs : List Call). c.step.call ∷ called before.earlier ≡ c.step.call ∷ xs) before.told refl);
      runs = (runs.0, before.runs);
      leads = before.leads;
    }

-- where none of the calls is such a one, none of those that tell them is
pub none_is : (P : Call → Type 0) (told : List Call) (calls : List TaskCall) → called calls ≡ told → Each (λ (k : Call). P k → ⊥) told → (c : TaskCall) → Contains calls c → P c.step.call → ⊥
none_is P told calls e none c known is =
    each_has (λ (k : Call). P k → ⊥) told none c.step.call
    (subst (λ (ks : List Call). Has ks c.step.call) e (has-map (λ (x : TaskCall). x.step.call) calls c (has calls c known))) is

-- a call that is told was made
pub made_as : (told : List Call) (calls : List TaskCall) → called calls ≡ told → (k : Call) → Has told k → (c : TaskCall) × Contains calls c × (c.step.call ≡ k)
made_as told calls e k known =
    let found = mapped (λ (x : TaskCall). x.step.call) calls k (subst (λ (ks : List Call). Has ks k) (sym e) known) in
    (found.0, contains_of calls found.0 found.1, found.2)
