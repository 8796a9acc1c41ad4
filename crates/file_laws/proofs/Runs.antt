-- Runs of calls: their beginnings, and what holds all along them.
use Rattle.std.proofs.Common.{append_assoc, ◌≡◌, ◌∙◌, ◌++◌, List, [], ◌∷◌, refl, sym, subst}
use Rattle.std.proofs.lemmas.List.{append-nil}
use Rattle.s3_model.specs.Files.{HeldFile}
use Rattle.s3_model.specs.Maps.{MapOf}
use Rattle.local_files.specs.Calls.{IsCallRun, Leads}
use Rattle.run_promise.specs.FileCalls.{TaskCall, files_after, steps_of}

pub after_last : (front : List TaskCall) (c : TaskCall) (held : MapOf HeldFile) → files_after held (front ++ c ∷ []) ≡ c.step.held
after_last [] c held = refl
after_last (d ∷ front) c held = after_last front c d.step.held

pub leads_at : (front : List TaskCall) (c : TaskCall) (back : List TaskCall) (held : MapOf HeldFile) → IsCallRun held (steps_of (front ++ c ∷ back)) → Leads c.step.call (files_after held front) c.step.held
leads_at [] c back held runs = runs.0
leads_at (d ∷ front) c back held runs = leads_at front c back d.step.held runs.1

module _ (held : MapOf HeldFile) (calls : List TaskCall) (P : List TaskCall → MapOf HeldFile → Type 0)
    (step : (front : List TaskCall) (c : TaskCall) (back : List TaskCall) → calls ≡ front ++ c ∷ back → P front (files_after held front) → P (front ++ c ∷ []) c.step.held) where
  onwards : (rest front late : List TaskCall) → calls ≡ front ++ (rest ++ late) → P front (files_after held front) → P (front ++ rest) (files_after held (front ++ rest))
  onwards [] front late is h = subst (λ (part : List TaskCall). P part (files_after held part)) (sym (append-nil front)) h
  onwards (c ∷ rest) front late is h =
      let next : P (front ++ c ∷ []) (files_after held (front ++ c ∷ [])) = subst (P (front ++ c ∷ [])) (sym (after_last front c held)) (step front c (rest ++ late) is h) in
      let joined : (more : List TaskCall) → (front ++ c ∷ []) ++ more ≡ front ++ c ∷ more = append_assoc front (c ∷ []) in
      subst (λ (part : List TaskCall). P part (files_after held part)) (joined rest) (onwards rest (front ++ c ∷ []) late (is ∙ sym (joined (rest ++ late))) next)

  -- what holds at the start and is kept by each call holds after each beginning
  pub through : P [] held → (part late : List TaskCall) → calls ≡ part ++ late → P part (files_after held part)
  through first part late is = onwards part [] late is first
