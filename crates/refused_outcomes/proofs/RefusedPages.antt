-- A planning whose second page is out of order.
use Rattle.std.proofs.Common.{◌≡◌, ◌∙◌, ◌⊎◌, ◌++◌, ℕ, List, [], ◌∷◌, Option, Some, None, refl, sym, subst, inl, inr, map}
use Rattle.std.specs.declared.cmp.Ordering.TheVariants.{Less, Equal, Greater}
use Rattle.s3_model.specs.declared.answers.Listed.{Listed}
use Rattle.s3_model.specs.declared.answers.Reply.TheVariants as reply
use Rattle.s3_model.specs.declared.places.Entry.{Entry}
use Rattle.job_terms.specs.Dispatches.{Dispatched}
use Rattle.run_promise.specs.Planning.{AreAsked, IsAnsweredBy}
use Rattle.shared_lemmas.proofs.Clashes.{false_true as never}
use Rattle.shared_lemmas.proofs.Lists.{no_cons}
use Rattle.promise_examples.specs.Pages.{entry_of, first_key, last_key, talk_of, token}
use Rattle.promise_examples.specs.Reading.{Reads}
use Rattle.promise_examples.proofs.Concrete.{none_is_some}
use Rattle.promise_examples.proofs.Readings.{reads}
use Rattle.refused_outcomes.specs.RefusedPages.{AreAscending, AreNeeded, IsOutOfOrder, PagesAreRefused, both_and, first_job, keys_of, last_job, paged}

greater_less : Greater ≡ Less → ⊥
greater_less e = cc

equal_less : Equal ≡ Less → ⊥
equal_less e = cc

some_none : (n : ℕ) → ◌≡◌ {A = Option ℕ} (Some n) None → ⊥
some_none n e = cc

zero_one : ◌≡◌ {A = Option ℕ} (Some 0) (Some 1) → ⊥
zero_one e = cc

-- 99 stands behind 97
descends : AreAscending (last_key ∷ first_key ∷ []) → ⊥
descends ascends = greater_less ascends.0

ascends : AreAscending (first_key ∷ last_key ∷ [])
ascends = (refl, tt)

module _ (first last : List ℕ) (refused_page : Option ℕ) where
  abbrev Ends : List Dispatched → Type 0
  Ends later = AreAsked (Reads (paged first last)) IsOutOfOrder ⊥ refused_page later [] [] None

  abbrev Said : Dispatched → Listed → Type 0
  Said c page = IsAnsweredBy (Reads (paged first last)) IsOutOfOrder ⊥ refused_page c (reply.Listed page)

  first_said : Said first_job (paged first last token)
  first_said = (refl, [], reads (paged first last) first_job.ask first_job.limit (talk_of 5 token))

  last_said : Said last_job (paged first last [])
  last_said = (refl, [], reads (paged first last) last_job.ask last_job.limit (talk_of 6 []))

  abbrev key_list : List Entry → List (List ℕ)
  key_list items = map (λ (entry : Entry). entry.key) items

  keys_are : (page next : Listed) → Said first_job page → Said last_job next → keys_of (page ∷ next ∷ []) ≡ first ∷ last ∷ []
  keys_are page next said also =
      subst (λ (items : List Entry). key_list page.entries.items ++ (key_list items ++ []) ≡ first ∷ last ∷ []) also.2.0.0
      (subst (λ (items : List Entry). key_list items ++ (key_list (entry_of last ∷ []) ++ []) ≡ first ∷ last ∷ []) said.2.0.0 refl)

  -- the last page is refused, or planning goes on behind it
  split : (later : List Dispatched) → AreNeeded first last refused_page (both_and later)
      → (¬ (AreAscending (first ∷ last ∷ [])) × (later ≡ []) × (refused_page ≡ Some 1)) ⊎ (¬ (¬ (AreAscending (first ∷ last ∷ []))) × Ends later)
  split later (needs, inr unanswered) = absurd (unanswered.0 (reply.Listed (paged first last token)) first_said)
  split later (needs, inl (page, said, inl refused)) = absurd (no_cons _ _ refused.1)
  split later (needs, inl (page, said, inr (inr whole))) = absurd (never (sym whole.1 ∙ sym said.2.0.2))
  split later (needs, inl (page, said, inr (inl (fine, more, (asks, inr unanswered))))) = absurd (unanswered.0 (reply.Listed (paged first last [])) last_said)
  split later (needs, inl (page, said, inr (inl (fine, more, (asks, inl (next, also, inl refused)))))) =
      inl ((λ up. refused.0 (subst (λ keys. AreAscending keys) (sym (keys_are page next said also)) up)), refused.1, refused.2)
  split later (needs, inl (page, said, inr (inl (fine, more, (asks, inl (next, also, inr (inl further))))))) = absurd (never (also.2.0.2 ∙ further.1))
  split later (needs, inl (page, said, inr (inl (fine, more, (asks, inl (next, also, inr (inr whole))))))) =
      inr ((λ down. whole.0 (λ up. down (subst (λ keys. AreAscending keys) (keys_are page next said also) up))), whole.2)

pages : PagesAreRefused
pages = record {
  out_of_order = (
    refl,
    inl (
      paged last_key first_key token,
      first_said last_key first_key (Some 1),
      inr (inl (
        (λ refused. refused tt),
        refl,
        (refl, inl (paged last_key first_key [], last_said last_key first_key (Some 1), inl (descends, refl, refl))),
      )),
    ),
  );
  none_refused = λ needed. elim (split last_key first_key None [] needed) [ inl refused ↦ none_is_some 1 refused.2 | inr whole ↦ whole.0 descends ];
  first_refused = λ needed. elim (split last_key first_key (Some 0) [] needed) [ inl refused ↦ zero_one refused.2 | inr whole ↦ whole.0 descends ];
  asked_behind = λ refused_page c later needed. elim (split last_key first_key refused_page (c ∷ later) needed) [ inl refused ↦ no_cons _ _ refused.1 | inr whole ↦ whole.1 ];
  in_order = (
    refl,
    inl (
      paged first_key last_key token,
      first_said first_key last_key None,
      inr (inl (
        (λ refused. refused tt),
        refl,
        (refl, inl (paged first_key last_key [], last_said first_key last_key None, inr (inr ((λ refused. refused ascends), refl, (refl, inl refl))))),
      )),
    ),
  );
  refused_in_order = λ number needed. elim (split first_key last_key (Some number) [] needed) [ inl refused ↦ refused.0 ascends | inr whole ↦ some_none number whole.1.0 ];
  no_need = (refl, inl refl);
  needless = λ refused_page c later needed. needed;
  needless_page = λ number needed. some_none number needed.0;
}

-- a key that stands on both pages
pub repeated : AreNeeded first_key first_key (Some 1) (both_and [])
repeated = (
  refl,
  inl (
    paged first_key first_key token,
    first_said first_key first_key (Some 1),
    inr (inl (
      (λ refused. refused tt),
      refl,
      (refl, inl (paged first_key first_key [], last_said first_key first_key (Some 1), inl ((λ up. equal_less up.0), refl, refl))),
    )),
  ),
)

pub pages_are_refused : PagesAreRefused
pages_are_refused = pages
