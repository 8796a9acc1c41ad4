-- What the wire of a lane noted: before each attempt its pause and a moment, and pauses that no attempt follows where memory ran out.
use Rattle.shared_lemmas.proofs.Members.{Has, has, has-append_cases}
use Rattle.std.proofs.Common.{◌≡◌, ◌∙◌, ◌⊎◌, ◌+◌, ◌-◌, ◌≤◌, ◌++◌, ℕ, Bool, true, false, List, [], ◌∷◌, Option, refl, sym, ap, subst, inl, inr, map, length, append_assoc, append-nil, arith}
use Rattle.std.specs.Prelude.{filter_map, count_by, cond, flat_map, min, nat_le, unwrap_or, ◌^◌, if◌then◌else◌}
use Rattle.std.proofs.lemmas.List.{length-append}
use Rattle.std.proofs.lemmas.List.Elements.{filter_map-append}
use Rattle.std.proofs.lemmas.List.Sums.{sum_by-cons}
use Rattle.s3_model.specs.declared.answers.Class.{Class}
use Rattle.s3_model.specs.declared.places.Endpoint.{Endpoint}
use Rattle.s3_model.specs.declared.settings.Keys.{Keys}
use Rattle.s3_model.specs.Talks.{Talk, Note, Moment, Pause, Began}
use Rattle.answer_classes.specs.Showing.{Shows}
use Rattle.attempts.specs.Attempts.{SignedRequest, text_of}
use Rattle.attempts.proofs.SaidLemmas.{said}
use Rattle.jobs.specs.declared.ending.Ending.{Ending}
use Rattle.jobs.specs.declared.ending.Ending.TheVariants as ending
use Rattle.lane_jobs.specs.Lanes.{AreBehind, AreMade, IsWithoutTalk, noted_before}
use Rattle.job_terms.specs.Attempts.{AreNoted, Numbered, mark_of, numbered_from, pause_of, pauses_before}
use Rattle.job_terms.specs.Dispatches.{Attempt, Dispatched}
use Rattle.run_promise.specs.Schedule.{Setting, most_body}
use Rattle.lane_laws.specs.Runs.{AreCarriedJobs, Giving, RanOut, dispatched_of}
use Rattle.lane_laws.proofs.AttemptLaw.{attempts_are, attempts_of}

abbrev pauses : List Note → List ℕ
pauses notes = filter_map pause_of notes

pauses_both : (xs ys : List Note) → length (pauses (xs ++ ys)) ≡ length (pauses xs) + length (pauses ys)
pauses_both xs ys = ap (λ (ps : List ℕ). length ps) (filter_map-append pause_of xs ys) ∙ length-append (pauses xs) (pauses ys)

pauses_noted : (seconds : List ℕ) → pauses (map Pause seconds) ≡ seconds
pauses_noted [] = refl
pauses_noted (s ∷ seconds) = ap (λ (ps : List ℕ). s ∷ ps) (pauses_noted seconds)

pause_is_began : (s : ℕ) → Pause s ≡ Began → ⊥
pause_is_began s e = cc

moment_is_began : (s : ℕ) → Moment s ≡ Began → ⊥
moment_is_began s e = cc

-- no talk begins in these notes
abbrev IsQuiet : List Note → Type 0
IsQuiet notes = Has notes Began → ⊥

quiet_pauses : (seconds : List ℕ) → IsQuiet (map Pause seconds)
quiet_pauses [] h = h
quiet_pauses (s ∷ seconds) (inl e) = pause_is_began s e
quiet_pauses (s ∷ seconds) (inr h) = quiet_pauses seconds h

quiet_both : (xs ys : List Note) → IsQuiet xs → IsQuiet ys → IsQuiet (xs ++ ys)
quiet_both xs ys none nor h = elim (has-append_cases xs ys Began h) [ inl a ↦ none a | inr b ↦ nor b ]

few_before : (number : ℕ) → length (pauses_before number) ≤ 1
few_before number = by_test (nat_le number 1) (min 20 (2 ^ (number - 2)))
  where
    by_test : (b : Bool) (x : ℕ) → length (if b then [] else x ∷ []) ≤ 1
    by_test true x = omega arith
    by_test false x = omega arith

-- what stands behind the attempts of a job: quiet, with at most one pause, and with none unless memory ran out
record IsLeft (ended : Ending) (behind : List Note) : Type 0 where
  quiet : IsQuiet behind
  few : (length (pauses behind) ≡ 0) ⊎ ((ended ≡ ending.Memory) × (length (pauses behind) ≤ 1))

silent_notes : (number : ℕ) (behind : List Note) → IsWithoutTalk number [] behind → IsQuiet behind × (length (pauses behind) ≤ 1)
silent_notes number behind (own, is, silent) = elim silent.idle [
  | inl none ↦ subst (λ (ns : List Note). IsQuiet ns × (length (pauses ns) ≤ 1)) (sym (is ∙ ap (λ (ns : List Note). noted_before number ++ ns) none)) (with_own [] (λ h. h) refl)
  | inr one ↦ subst (λ (ns : List Note). IsQuiet ns × (length (pauses ns) ≤ 1)) (sym (is ∙ ap (λ (ns : List Note). noted_before number ++ ns) one.1))
      (with_own (Moment one.0 ∷ []) (λ h. elim h [ inl e ↦ moment_is_began one.0 e | inr further ↦ further ]) refl)
]
  where
    with_own : (own : List Note) → IsQuiet own → length (pauses own) ≡ 0 → IsQuiet (noted_before number ++ own) × (length (pauses (noted_before number ++ own)) ≤ 1)
    with_own own none empty =
        let both = pauses_both (noted_before number) own in
        let before = ap (λ (ps : List ℕ). length ps) (pauses_noted (pauses_before number)) in
        let few = few_before number in
        (quiet_both (noted_before number) own (quiet_pauses (pauses_before number)) none, omega arith)

nothing_left : (ended : Ending) (behind : List Note) → behind ≡ [] → IsLeft ended behind
nothing_left ended behind is = subst (λ (ns : List Note). IsLeft ended ns) (sym is) (record { quiet = λ h. h; few = inl refl })

left_by : (ended : Ending) (number : ℕ) (behind : List Note) → AreBehind ended number behind → IsLeft ended behind
left_by ending.Memory number behind (inl none) = nothing_left ending.Memory behind none
left_by ending.Memory number behind (inr silent) = let h = silent_notes number behind silent in record { quiet = h.0; few = inr (refl, h.1) }
left_by (ending.Gained said) number behind none = nothing_left (ending.Gained said) behind none
left_by (ending.Refused status code message) number behind none = nothing_left (ending.Refused status code message) behind none
left_by (ending.Uncertain reason) number behind none = nothing_left (ending.Uncertain reason) behind none
left_by (ending.Cancelled reason) number behind none = nothing_left (ending.Cancelled reason) behind none

module _ (endpoint : Endpoint) (keys : Keys) where
  abbrev pub Noted : ℕ → List Numbered → List Note → Type 0
  Noted unused attempts notes = AreNoted Shows (text_of endpoint keys) endpoint.host endpoint.port unused attempts notes

  more_unused : (few many : ℕ) (attempts : List Numbered) (notes : List Note) → few ≤ many → Noted few attempts notes → Noted many attempts notes
  more_unused few many [] notes below (none, free) = (none, elim free [ inl e ↦ inl e | inr within ↦ inr (omega arith) ])
  more_unused few many (a ∷ attempts) notes below (front, seconds, rest, extra, e, none, p, free, is_said, later) = (
    front,
    seconds,
    rest,
    extra,
    e,
    none,
    p,
    elim free [ inl empty ↦ inl empty | inr within ↦ inr (omega arith) ],
    is_said,
    more_unused (few - length extra) (many - length extra) attempts rest (omega arith) later,
  )

  -- the attempts of a job, behind notes that are left from the jobs before it
  module _ (c : Dispatched) (limit : Option ℕ) (limit_is : unwrap_or limit most_body ≡ c.limit) (place : List ℕ) where
    abbrev request : SignedRequest
    request = record { endpoint = endpoint; keys = keys; asked = c.ask; body = c.body; limit = limit }

    made_noted : (classes : List Class) (k : ℕ) (left : List Note) (talks : List Talk) (own tail : List Note) (rest : List Numbered) (unused : ℕ) → IsQuiet left
        → AreMade request (c.dispatch.earlier + k + 1) place classes talks own
        → ((l : List Note) → IsQuiet l → Noted (length (pauses l) + unused) rest (l ++ tail))
        → Noted (length (pauses left) + unused) (numbered_from c k (attempts_of request place classes talks) ++ rest) (left ++ (own ++ tail))
    made_noted [] k left talks own tail rest unused quiet made behind =
        subst (λ (ns : List Note). Noted (length (pauses left) + unused) rest (left ++ (ns ++ tail))) (sym made.1) (behind left quiet)
    made_noted (shown ∷ classes) k left talks own tail rest unused quiet (first, more, noted, others, t, n, one, following) behind =
        let number = c.dispatch.earlier + k + 1 in
        let m = one.made.moment in
        let attempt : Attempt = record { mark = mark_of shown; talk = one.made.talk } in
        let front = left ++ noted_before number in
        let own_is : own ≡ noted_before number ++ Moment m ∷ Began ∷ others =
        n ∙ ap (λ (ns : List Note). ns ++ others) (one.paused ∙ ap (λ (ns : List Note). noted_before number ++ ns) one.made.noted)
        ∙ append_assoc (noted_before number) (Moment m ∷ Began ∷ []) others in
        let whole : left ++ (own ++ tail) ≡ front ++ Moment m ∷ Began ∷ (others ++ tail) =
        ap (λ (ns : List Note). left ++ (ns ++ tail)) own_is
        ∙ ap (λ (ns : List Note). left ++ ns) (append_assoc (noted_before number) (Moment m ∷ Began ∷ others) tail)
        ∙ sym (append_assoc left (noted_before number) (Moment m ∷ Began ∷ (others ++ tail))) in
        let none = quiet_both left (noted_before number) quiet (quiet_pauses (pauses_before number)) in
        let before : pauses front ≡ pauses left ++ pauses_before number =
        filter_map-append pause_of left (noted_before number) ∙ ap (λ (ps : List ℕ). pauses left ++ ps) (pauses_noted (pauses_before number)) in
        let next : number + 1 ≡ c.dispatch.earlier + (k + 1) + 1 = omega arith in
        let free : 0 + unused ≡ length (pauses left) + unused - length (pauses left) = omega arith in
        let within : length (pauses left) ≤ length (pauses left) + unused = omega arith in
        let further = subst (λ (u : ℕ). Noted u (numbered_from c (k + 1) (attempts_of request place classes more) ++ rest) (others ++ tail)) free
        (made_noted classes (k + 1) [] more others tail rest unused (λ h. h) (subst (λ (at : ℕ). AreMade request at place classes more others) next following) behind) in
        let all : Noted (length (pauses left) + unused) (numbered_from c k (attempt ∷ attempts_of request place classes more) ++ rest) (left ++ (own ++ tail)) = (
          front,
          m,
          others ++ tail,
          pauses left,
          whole,
          (λ h. none (has front Began h)),
          before,
          inr within,
          said endpoint keys c limit limit_is shown place number (mark_of shown) first one.own one.made,
          further,
        ) in
        subst (λ (xs : List Attempt). Noted (length (pauses left) + unused) (numbered_from c k xs ++ rest) (left ++ (own ++ tail)))
        (sym (attempts_are request place number shown classes talks first more noted t one)) all

  module _ (s : Setting) where
    abbrev wanted : Dispatched → Bool
    wanted c = s.wanted_memory c.dispatch.job.task

    abbrev numbered : List Giving → List Numbered
    numbered givings = flat_map (λ (c : Dispatched). numbered_from c 0 c.dispatch.attempts) (dispatched_of givings)

    abbrev AllWant : List Giving → Type 0
    AllWant givings = (g : Giving) → Has givings g → RanOut g.ended → wanted g.of ≡ true

    within_wanted : (g : Giving) (behind : List Note) → (RanOut g.ended → wanted g.of ≡ true) → IsLeft g.ended behind → length (pauses behind) ≤ cond (wanted g.of) 1 0
    within_wanted g behind wants is = elim is.few [
      | inl none ↦ omega arith
      | inr one ↦ let wanting = wants (inl one.0) in subst (λ (b : Bool). length (pauses behind) ≤ cond b 1 0) (sym wanting) one.1
    ]

    pub run_noted : (givings : List Giving) (left : List Note) (talks : List Talk) (notes : List Note) → IsQuiet left → AreCarriedJobs endpoint keys s.config.attempts givings talks notes → AllWant givings
        → Noted (length (pauses left) + count_by wanted (dispatched_of givings)) (numbered givings) (left ++ notes)
    run_noted [] left talks notes quiet all want =
        subst (λ (ns : List Note). Noted (length (pauses left) + 0) [] ns) (sym (ap (λ (ns : List Note). left ++ ns) all.1 ∙ append-nil left))
        ((λ h. quiet (has left Began h)), inr (omega arith))
    run_noted (g ∷ givings) left talks notes quiet (first, more, noted, others, t, n, job, rest) want =
        let (own, behind, noted_is, made, is_behind, status) = job.shared in
        let is_left = left_by g.ended _ behind is_behind in
        let count = sum_by-cons (λ (c : Dispatched). cond (wanted c) 1 0) g.of (dispatched_of givings) in
        let few = within_wanted g behind (want g (inl refl)) is_left in
        let unused = length (pauses behind) + count_by wanted (dispatched_of givings) in
        let from = c_zero g.of.dispatch.earlier in
        let goes_on = made_noted g.of job.limit job.limit_is job.place g.classes 0 left first own (behind ++ others) (numbered givings) unused quiet
        (subst (λ (at : ℕ). AreMade (request g.of job.limit job.limit_is job.place) at job.place g.classes first own) from made)
        (λ l none. after givings behind others l (run_noted givings (l ++ behind) more others (quiet_both l behind none is_left.quiet) rest (λ x known. want x (inr known)))) in
        let enough : length (pauses left) + unused ≤ length (pauses left) + count_by wanted (dispatched_of (g ∷ givings)) = omega arith in
        let shown = numbered_from g.of 0 (attempts_of (request g.of job.limit job.limit_is job.place) job.place g.classes first) ++ numbered givings in
        let placed = subst (λ (ns : List Note). Noted (length (pauses left) + unused) shown (left ++ ns)) (sym (n ∙ ap (λ (ns : List Note). ns ++ others) noted_is ∙ append_assoc own behind others)) goes_on in
        more_unused _ _ _ _ enough (subst (λ (xs : List Attempt). Noted (length (pauses left) + unused) (numbered_from g.of 0 xs ++ numbered givings) (left ++ notes)) (sym job.attempts_are) placed)
      where
        c_zero : (earlier : ℕ) → earlier + 1 ≡ earlier + 0 + 1
        c_zero earlier = omega arith

        after : (givings : List Giving) (behind others l : List Note)
            → Noted (length (pauses (l ++ behind)) + count_by wanted (dispatched_of givings)) (numbered givings) ((l ++ behind) ++ others)
            → Noted (length (pauses l) + (length (pauses behind) + count_by wanted (dispatched_of givings))) (numbered givings) (l ++ (behind ++ others))
        after givings behind others l noted =
            let both = pauses_both l behind in
            let sum : length (pauses (l ++ behind)) + count_by wanted (dispatched_of givings) ≡ length (pauses l) + (length (pauses behind) + count_by wanted (dispatched_of givings)) = omega arith in
            subst (λ (ns : List Note). Noted (length (pauses l) + (length (pauses behind) + count_by wanted (dispatched_of givings))) (numbered givings) ns) (append_assoc l behind others)
            (subst (λ (u : ℕ). Noted u (numbered givings) ((l ++ behind) ++ others)) sum noted)
