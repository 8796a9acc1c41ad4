-- A trace as steps that are added one after the other, the oldest first.
use Rattle.std.proofs.Common.{◌≡◌, ◌∙◌, ◌++◌, List, [], ◌∷◌, refl, sym, ap, append_assoc, append-nil}
use Rattle.std.proofs.lemmas.List.{append_cancel_left}
use Rattle.s3_model.specs.declared.outcomes.Event.{Event as Entry}
use Rattle.s3_model.specs.declared.outcomes.Event.TheVariants as entry
use Rattle.run_traces.specs.Traces.{Called, Gave, Lined, Made, RunStep, RunTrace, Stopped, Took, journal_of}
use Rattle.run_traces.proofs.Steps.{journal-append}

-- the trace with these steps behind it
abbrev pub onto : List RunStep → RunTrace → RunTrace
onto [] t = t
onto (x ∷ steps) t = onto steps (x ∷ t)

-- their entries of the journal
abbrev pub entries_of : List RunStep → List Entry
entries_of [] = []
entries_of (Gave lane job ∷ steps) = entry.Given job.id lane ∷ entries_of steps
entries_of (Took lane carried ∷ steps) = entry.Came carried.job.id lane carried.tries ∷ entries_of steps
entries_of (step ∷ steps) = entries_of steps

onto_last : (steps : List RunStep) (x : RunStep) (t : RunTrace) → onto (steps ++ x ∷ []) t ≡ x ∷ onto steps t
onto_last [] x t = refl
onto_last (y ∷ steps) x t = onto_last steps x (y ∷ t)

-- each trace is that of its steps
pub steps_of : (t : RunTrace) → (steps : List RunStep) × (onto steps [] ≡ t)
steps_of [] = ([], refl)
steps_of (x ∷ t) = let rest = steps_of t in (rest.0 ++ x ∷ [], onto_last rest.0 x [] ∙ ap (λ (s : RunTrace). x ∷ s) rest.1)

-- the steps, the newest first
pub newer_of : (steps : List RunStep) (t : RunTrace) → (newer : RunTrace) × (onto steps t ≡ newer ++ t)
newer_of [] t = ([], refl)
newer_of (x ∷ steps) t = let rest = newer_of steps (x ∷ t) in (rest.0 ++ x ∷ [], rest.1 ∙ sym (append_assoc rest.0 (x ∷ []) t))

with_first : (older : List Entry) (x : Entry) (newer all : List Entry) → all ≡ (older ++ x ∷ []) ++ newer → all ≡ older ++ x ∷ newer
with_first older x newer all e = e ∙ append_assoc older (x ∷ []) newer

pub journal-onto : (steps : List RunStep) (t : RunTrace) → journal_of (onto steps t) ≡ journal_of t ++ entries_of steps
journal-onto [] t = sym (append-nil (journal_of t))
journal-onto (Gave lane job ∷ steps) t = with_first (journal_of t) (entry.Given job.id lane) (entries_of steps) _ (journal-onto steps (Gave lane job ∷ t))
journal-onto (Took lane c ∷ steps) t = with_first (journal_of t) (entry.Came c.job.id lane c.tries) (entries_of steps) _ (journal-onto steps (Took lane c ∷ t))
journal-onto (Called task called result steps_made notes ∷ steps) t = journal-onto steps (Called task called result steps_made notes ∷ t)
journal-onto (Made fits ∷ steps) t = journal-onto steps (Made fits ∷ t)
journal-onto (Lined ∷ steps) t = journal-onto steps (Lined ∷ t)
journal-onto (Stopped reason ∷ steps) t = journal-onto steps (Stopped reason ∷ t)

pub entries_newer : (steps : List RunStep) (t newer : RunTrace) → onto steps t ≡ newer ++ t → entries_of steps ≡ journal_of newer
entries_newer steps t newer e =
    append_cancel_left (journal_of t) (entries_of steps) (journal_of newer) (sym (journal-onto steps t) ∙ ap (λ (s : RunTrace). journal_of s) e ∙ journal-append newer t)
