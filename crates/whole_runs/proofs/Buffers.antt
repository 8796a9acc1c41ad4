-- The parts that are out by the journal of a whole run.
use Rattle.std.proofs.Common.{◌≡◌, ◌≤◌, ◌++◌, ◌⊎◌, Bool, false, List, [], ◌∷◌, refl, sym, subst, ap, inl, inr, arith}
use Rattle.std.proofs.lemmas.List.{append-nil}
use Rattle.std.specs.Prelude.{count_by}
use Rattle.job_terms.specs.Buffers.{buffers_out, gives_buffer_back, takes_buffer}
use Rattle.manager_moves.proofs.JournalLaws.{journals_keep_buffers}
use Rattle.manager_moves.specs.Runs.{journal_of}
use Rattle.s3_model.specs.declared.outcomes.Event.{Event as Entry}
use Rattle.shared_lemmas.proofs.Lists.{head_is, tail_is}
use Rattle.shared_lemmas.proofs.Members.{Has, contains_of, has-append_left}
use Rattle.whole_runs.specs.Buffers.{JournalsKeepParts}

-- ---- entries that pass no test

module _ (test : Entry → Bool) where
  abbrev PassNone : List Entry → Type 0
  PassNone planning = (event : Entry) → Has planning event → test event ≡ false

  none_counted : (planning rest : List Entry) → PassNone planning
      → count_by test (planning ++ rest) ≡ count_by test rest
  none_counted [] rest none = refl
  none_counted (e ∷ planning) rest none =
      let here = none e (inl refl) in
      let more = none_counted planning rest (λ event known. none event (inr known)) in
      grind (arith, here, more)

-- ---- a beginning of two lists

-- it is one of the first, or all of the first with one of the second
pub front_of : {X : Type 0} (xs ys front back : List X) → xs ++ ys ≡ front ++ back
    → ((r : List X) × (xs ≡ front ++ r)) ⊎ ((r : List X) × (front ≡ xs ++ r) × (ys ≡ r ++ back))
front_of [] ys front back e = inr (front, refl, e)
front_of (x ∷ xs) ys [] back e = inl (x ∷ xs, refl)
front_of (x ∷ xs) ys (z ∷ front) back e =
    let first = head_is x z (xs ++ ys) (front ++ back) e in
    elim (front_of xs ys front back (tail_is x z (xs ++ ys) (front ++ back) e)) [
      | inl inside ↦ inl (inside.0, joined first inside.1)
      | inr past ↦ inr (past.0, joined (sym first) past.1, past.2)
    ]
  where
    joined : {X : Type 0} {a b : X} {us vs : List X} → a ≡ b → us ≡ vs → a ∷ us ≡ b ∷ vs
    joined p q = cc

pub journals_keep_parts : JournalsKeepParts
journals_keep_parts s planning events some run none front back e =
    by (front_of planning (journal_of events) front back e)
  where
    takes : (xs : List Entry) → ((event : Entry) → Has xs event → Has planning event) → (rest : List Entry)
        → count_by takes_buffer (xs ++ rest) ≡ count_by takes_buffer rest
    takes xs within rest = none_counted takes_buffer xs rest
        (λ event known. (none event (contains_of planning event (within event known))).0)

    gives : (xs : List Entry) → ((event : Entry) → Has xs event → Has planning event) → (rest : List Entry)
        → count_by gives_buffer_back (xs ++ rest) ≡ count_by gives_buffer_back rest
    gives xs within rest = none_counted gives_buffer_back xs rest
        (λ event known. (none event (contains_of planning event (within event known))).1)

    same_out : (xs : List Entry) → ((event : Entry) → Has xs event → Has planning event) → (rest : List Entry)
        → buffers_out (xs ++ rest) ≡ buffers_out rest
    same_out xs within rest = let a = takes xs within rest in let b = gives xs within rest in omega (arith, a, b)

    by : ((r : List Entry) × (planning ≡ front ++ r))
        ⊎ ((r : List Entry) × (front ≡ planning ++ r) × (journal_of events ≡ r ++ back)) → buffers_out front ≤ s.buffers
    by (inl inside) =
        let same = same_out front (λ event known. subst (λ (z : List Entry). Has z event) (sym inside.1)
        (has-append_left front inside.0 event known)) [] in
        let whole : buffers_out front ≡ buffers_out (front ++ []) = ap buffers_out (sym (append-nil front)) in
        omega (arith, same, whole)
    by (inr past) =
        let few = journals_keep_buffers s events some run past.0 back past.2 in
        let same = same_out planning (λ event known. known) past.0 in
        let whole = ap buffers_out past.1 in
        omega (arith, few, same, whole)
