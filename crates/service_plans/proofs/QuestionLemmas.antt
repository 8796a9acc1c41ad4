-- Questions behind questions, and what the walk of a listing keeps.
use Rattle.std.proofs.Common.{◌≡◌, ◌∙◌, ◌+◌, ◌++◌, ℕ, suc, List, [], ◌∷◌, sym, ap, subst, arith, append_assoc, append-nil, length, Bool, inl, inr}
use Rattle.std.proofs.lemmas.List.{length-append}
use Rattle.std.specs.Prelude.{Result, Ok, Err}
use Rattle.list_walk.specs.Pages.{Walk, new_walk, with_page}
use Rattle.run_traces.specs.Exchanges.{AreExchangesOf}
use Rattle.run_traces.specs.Traces.{Gave, RunTrace, Took, journal_of}
use Rattle.run_traces.proofs.Steps.{journal-append}
use Rattle.s3_model.specs.declared.outcomes.Event.{Event}
use Rattle.planning_questions.specs.Listings.{Lists}
use Rattle.planning_questions.specs.Questions.{GoesOnBy, HasQuestions, Progress, Question, question_job, trace_of}
use Rattle.planning_questions.specs.declared.halt.Halt.{Halt}

-- ---- what was done

made_both : (s t : RunTrace) (a b c : Progress) → GoesOnBy s a b → GoesOnBy t b c → GoesOnBy (t ++ s) a c
made_both s t a b c first second = record {
  exchanged = λ trace are. subst (λ (all : RunTrace). AreExchangesOf all c.lanes) (sym (append_assoc t s trace)) (second.exchanged (s ++ trace) (first.exchanged trace are));
  journaled = second.journaled ∙ ap (λ (all : List Event). all ++ journal_of t) first.journaled ∙ append_assoc a.journal (journal_of s) (journal_of t)
      ∙ ap (λ (all : List Event). a.journal ++ all) (sym (journal-append t s));
}

trace_more : (number : ℕ) (qs later : List Question) → trace_of number (qs ++ later) ≡ trace_of (number + length qs) later ++ trace_of number qs
trace_more number [] later =
    let same : number ≡ number + 0 = omega arith in
    ap (λ (n : ℕ). trace_of n later) same ∙ sym (append-nil (trace_of (number + 0) later))
trace_more number (q ∷ qs) later =
    let steps = Took 0 q.carried ∷ Gave 0 (question_job number q.asked) ∷ [] in
    let same : (number + 1) + length qs ≡ number + suc (length qs) = omega arith in
    ap (λ (all : RunTrace). all ++ steps) (trace_more (number + 1) qs later)
    ∙ append_assoc (trace_of ((number + 1) + length qs) later) (trace_of (number + 1) qs) steps
    ∙ ap (λ (n : ℕ). trace_of n later ++ (trace_of (number + 1) qs ++ steps)) same

module _ (first between next : ℕ) (before mid after : Progress) (P Q R : List Question → Type 0) where
  -- questions behind questions
  pub asked_both : ((qs later : List Question) → between ≡ first + length qs → P qs → Q later → R (qs ++ later))
      → HasQuestions first between before mid P → HasQuestions between next mid after Q → HasQuestions first next before after R
  asked_both both h k = record {
    questions = h.questions ++ k.questions;
    made = subst (λ (steps : RunTrace). GoesOnBy steps before after) (sym (trace_more first h.questions k.questions))
        (made_both (trace_of first h.questions) (trace_of (first + length h.questions) k.questions) before mid after h.made
        (subst (λ (n : ℕ). GoesOnBy (trace_of n k.questions) mid after) h.next_is k.made));
    next_is = let from = h.next_is in let to = k.next_is in omega (arith, length-append h.questions k.questions);
    comes_to = both h.questions k.questions h.next_is h.comes_to k.comes_to;
  }

-- ---- the prefix of a listing

ok_walk : (a b : Walk) → ◌≡◌ {A = Result Walk Halt} (Ok a) (Ok b) → a ≡ b
ok_walk a b e = cc

ok_not_err : (a : Walk) (h : Halt) → ◌≡◌ {A = Result Walk Halt} (Ok a) (Err h) → ⊥
ok_not_err a h e = cc

prefix_kept : (number : ℕ) (start : Walk) (qs : List Question) (walk : Walk) → Lists number start qs (Ok walk) → walk.prefix ≡ start.prefix
prefix_kept number start [] walk lists = absurd (ok_not_err walk _ lists)
prefix_kept number start (q ∷ later) walk lists = elim lists.1 [
  | inl (page, brings, goes) ↦ elim goes [
    | inl more ↦ prefix_kept (number + 1) (with_page start page) later walk more.2
    | inr last ↦ elim last.0 [
      | inl fits ↦ ap (λ (w : Walk). w.prefix) (ok_walk walk (with_page start page) fits.2)
      | inr other ↦ elim other [
        | inl bad ↦ absurd (ok_not_err walk _ bad.2)
        | inr ran_out ↦ absurd (ok_not_err walk _ ran_out)
      ]
    ]
  ]
  | inr (why, answers, none, e) ↦ absurd (ok_not_err walk why e)
]

-- the pages of a listing have its prefix
pub listed_prefix : (number next : ℕ) (before after : Progress) (bucket prefix : List ℕ) (delimited : Bool) (r : Result Walk Halt) (walk : Walk) → r ≡ Ok walk
    → HasQuestions number next before after (λ qs. Lists number (new_walk bucket prefix delimited) qs r) → walk.prefix ≡ prefix
listed_prefix number next before after bucket prefix delimited r walk is h =
    prefix_kept number (new_walk bucket prefix delimited) h.questions walk (subst (λ (o : Result Walk Halt). Lists number (new_walk bucket prefix delimited) h.questions o) is h.comes_to)
