-- What a task keeps of its history stands after each happening.
use Rattle.std.proofs.Common.{◌≡◌, ◌∙◌, ◌&&◌, ◌||◌, ◌+◌, ◌-◌, ◌<◌, ◌==◌, ℕ, suc, Bool, true, false, not, List, [], ◌∷◌, Option, Some, None, IfSome, IsSome, is_some, get_or, map, set, length, length-set, sym, ap, subst, refl, arith, inl, inr, if◌then◌else◌}
use Rattle.std.proofs.Math.Path.{fun_ext}
use Rattle.std.specs.List.{list_any}
use Rattle.std.specs.Option.{option_or}
use Rattle.jobs.specs.Endings.{SeenCarried}
use Rattle.kept_jobs.specs.Slots.{SeenKept, job_at}
use Rattle.kept_jobs.specs.Tags.{HasPart, SeenTags, tag_at}
use Rattle.s3_model.specs.declared.outcomes.Cause.{Cause}
use Rattle.s3_model.specs.declared.outcomes.Outcome.{Outcome}
use Rattle.s3_model.specs.declared.outcomes.Outcome.TheVariants as outcome
use Rattle.s3_model.specs.declared.outcomes.Reason.{Reason}
use Rattle.s3_model.specs.declared.requests.Op.{Op}
use Rattle.task_acts.specs.declared.acts.Act.{Act}
use Rattle.task_acts.specs.declared.acts.Act.TheVariants as act
use Rattle.task_acts.specs.declared.acts.FileCame.{FileCame}
use Rattle.task_acts.specs.declared.acts.Stage.{Stage}
use Rattle.task_acts.specs.declared.work.Work.{Work}
use Rattle.task_acts.specs.Ends.{cancel_cause, copied_for, decides, failed_for, has_tries, has_uncertain, is_uncertain, last_cause, outcome_of, removal, settled, unknown_for, unless_memory}
use Rattle.task_acts.specs.Failures.{carried_cause, failure_by, file_cause, first_failure, first_reason, is_cut_short, is_memory, is_stopped, wanted_memory}
use Rattle.task_acts.specs.Histories.{Came, Cancelled, Gave, Happening, History, Returned, Taken, is_act, sent}
use Rattle.task_acts.specs.Kept.{etag_in, etag_of, is_kept, kept_job, upload_in, upload_of}
use Rattle.task_acts.specs.Rule.{first_ready, first_ready_in, is_decided, is_idle}
use Rattle.task_acts.specs.Stages.{carried_stage, file_stage, given_stage, has_done, is_out, stage}
use Rattle.task_acts.specs.Work.{piece_op}
use Rattle.task_ends.specs.Causes.{SeenCauses, failure_of, is_stopped_by}
use Rattle.task_stages.specs.Stages.{SeenStages, stage_by}
use Rattle.task_core.specs.Machine.{IsSettled, SeenTask, Stands, part_act, ready_by, settled_by}
use Rattle.job_terms.specs.Ops.{is_op, op_number}
use Rattle.std.proofs.lemmas.Bool.{cases_eq, eq-eqb, eqb-true, ne_eqb}
use Rattle.std.proofs.lemmas.List.{get_or-set_same, get_or-set_other}
use Rattle.std.specs.List.{range_with_len}
use Rattle.std.proofs.lemmas.List.{get_or-replicate, length-replicate}
use Rattle.std.proofs.lemmas.Bool.{and_parts}
use Rattle.jobs.specs.Jobs.{SeenJob}
use Rattle.kept_jobs.proofs.SlotLemmas.{same_op}
use Rattle.task_acts.specs.declared.acts.Stage.TheVariants as at
use Rattle.task_acts.specs.Kept.{etags_of, part_back}
use Rattle.task_acts.specs.Work.{first_number}
use Rattle.task_ends.specs.Causes.{no_causes}
use Rattle.s3_model.specs.declared.tasks.Kind.{Kind}
use Rattle.s3_model.specs.declared.tasks.Kind.TheVariants as kind
use Rattle.task_readiness.specs.Readiness.{has_parts}
use Rattle.task_stages.specs.Stages.{piece_count, removes}
use Rattle.task_core.specs.Machine.{HasTags, IsSound, tags_in}
use Rattle.task_core.specs.Shown.{kept_if}
use Rattle.task_core.specs.Steps.{tagged, is_part, IsCame, IsCancelled, IsGiven, IsMarked, IsReturned, IsTaken}

clash : {P : Type 0} {X : Type 0} {x : X} → Some x ≡ None → P
clash e = cc

or_none : {X : Type 0} (o : Option X) → option_or o None ≡ o
or_none None = refl
or_none (Some x) = refl

some_or : {X : Type 0} (a b : Option X) → (is_some a || is_some b) ≡ is_some (option_or a b)
some_or None b = refl
some_or (Some x) b = refl

first_or : {X : Type 0} (f first g : Option X) → first ≡ f → (if is_some f then first else g) ≡ option_or f g
first_or None first g e = refl
first_or (Some x) first g e = e

or_false : (b : Bool) → (b || false) ≡ b
or_false true = refl
or_false false = refl

-- ---- how a task ends, by all that it depends on

abbrev ends_at : Work → (Act → Stage) → (stopped uncertain memory : Bool) → (first last : Option Cause) → Option Reason → Option Outcome
ends_at w f stopped uncertain memory first last reason =
    if is_some (first_ready w f stopped) || not (is_idle w f stopped) then None
    else if is_decided w f stopped && (not w.moves || has_done (f (removal w.of_kind))) then Some outcome.Done
    else if uncertain && not (is_decided w f stopped) then unknown_for (unless_memory memory last)
    else if is_decided w f stopped then copied_for (unless_memory memory (option_or first (cancel_cause reason)))
    else failed_for (unless_memory memory (option_or first (cancel_cause reason)))

-- ---- a task in a history, but that its outcome is to be settled

record Pending (w : Work) (event : Happening) (before : History) (m : SeenTask) : Type 0 where
  work_is : m.stages.work ≡ w
  stages : (a : Act) → stage w (event ∷ before) a ≡ stage_by m.stages a
  failing_is : m.causes.failing ≡ is_some (first_failure w (event ∷ before))
  reason_is : m.causes.reason ≡ first_reason (event ∷ before)
  memory_is : m.causes.memory ≡ wanted_memory w (event ∷ before)
  uncertain_is : m.causes.uncertain ≡ has_uncertain w (event ∷ before)
  first_is : m.outcome ≡ None → m.causes.first ≡ first_failure w (event ∷ before)
  last_is : m.outcome ≡ None → m.causes.last ≡ last_cause w (event ∷ before)
  outcome_is : m.outcome ≡ outcome_of w before
  kept_are : (o : Op) (n : ℕ) → job_at m.kept o n ≡ kept_job w (event ∷ before) (act.Send o n)
  upload_is : m.upload ≡ upload_of (event ∷ before)
  tags_are : IfSome m.tags (λ tags. (n : ℕ) → HasPart tags n → tag_at tags n ≡ etag_of (event ∷ before) (part_act w n))

module _ (w : Work) (event : Happening) (before : History) (m : SeenTask) (p : Pending w event before m) where
  abbrev H : History
  H = event ∷ before

  stopped : is_stopped w H ≡ is_stopped_by m.causes
  stopped = ap (λ (b : Bool). b || is_some (first_reason H)) (sym p.failing_is) ∙ ap (λ (r : Option Reason). m.causes.failing || is_some r) (sym p.reason_is)

  same_end : m.outcome ≡ None → settled_by m ≡ settled w H
  same_end none =
      let c = m.causes in
      let f = stage_by m.stages in
      ap (λ (v : Work). ends_at v f (is_stopped_by c) c.uncertain c.memory c.first c.last c.reason) p.work_is
      ∙ ap (λ (g : Act → Stage). ends_at w g (is_stopped_by c) c.uncertain c.memory c.first c.last c.reason) (sym (fun_ext p.stages))
      ∙ ap (λ (b : Bool). ends_at w (stage w H) b c.uncertain c.memory c.first c.last c.reason) (sym stopped)
      ∙ ap (λ (b : Bool). ends_at w (stage w H) (is_stopped w H) b c.memory c.first c.last c.reason) p.uncertain_is
      ∙ ap (λ (b : Bool). ends_at w (stage w H) (is_stopped w H) (has_uncertain w H) b c.first c.last c.reason) p.memory_is
      ∙ ap (λ (o : Option Cause). ends_at w (stage w H) (is_stopped w H) (has_uncertain w H) (wanted_memory w H) o c.last c.reason) (p.first_is none)
      ∙ ap (λ (o : Option Cause). ends_at w (stage w H) (is_stopped w H) (has_uncertain w H) (wanted_memory w H) (first_failure w H) o c.reason) (p.last_is none)
      ∙ ap (λ (o : Option Reason). ends_at w (stage w H) (is_stopped w H) (has_uncertain w H) (wanted_memory w H) (first_failure w H) (last_cause w H) o) p.reason_is

  settles_to : (o : Option Outcome) → m.outcome ≡ o → option_or m.outcome (settled_by m) ≡ option_or (outcome_of w before) (settled w H)
  settles_to None e =
      ap (λ (x : Option Outcome). option_or x (settled_by m)) e ∙ same_end e
      ∙ ap (λ (x : Option Outcome). option_or x (settled w H)) (sym e ∙ p.outcome_is)
  settles_to (Some x) e =
      ap (λ (y : Option Outcome). option_or y (settled_by m)) e ∙ ap (λ (y : Option Outcome). option_or y (settled w H)) (sym e ∙ p.outcome_is)

  none_before : (o s n : Option Outcome) → n ≡ option_or o s → n ≡ None → o ≡ None
  none_before None s n e none = refl
  none_before (Some x) s n e none = clash (sym e ∙ none)

  settles : (new : SeenTask) → IsSettled m new → Stands w H new
  settles new s = record {
    work_is = ap (λ (x : SeenStages). x.work) s.stages ∙ p.work_is;
    stages = λ a. p.stages a ∙ ap (λ (x : SeenStages). stage_by x a) (sym s.stages);
    failing_is = s.failing ∙ p.failing_is;
    reason_is = s.reason ∙ p.reason_is;
    memory_is = s.memory ∙ p.memory_is;
    uncertain_is = s.uncertain ∙ p.uncertain_is;
    first_is = λ none. s.first none ∙ p.first_is (none_before m.outcome (settled_by m) new.outcome s.outcome none);
    last_is = λ none. s.last none ∙ p.last_is (none_before m.outcome (settled_by m) new.outcome s.outcome none);
    outcome_is = s.outcome ∙ settles_to m.outcome refl;
    kept_are = λ o n. ap (λ (k : SeenKept). job_at k o n) s.kept ∙ p.kept_are o n;
    upload_is = s.upload ∙ p.upload_is;
    tags_are = subst (λ (x : Option SeenTags). IfSome x (λ tags. (n : ℕ) → HasPart tags n → tag_at tags n ≡ etag_of H (part_act w n))) (sym s.tags) p.tags_are;
  }

-- ---- entity tags

same_either_way : (a b : ℕ) → (a == b) ≡ (b == a)
same_either_way a b = elim (cases_eq a b) [
  | inl e ↦ eq-eqb a b e ∙ sym (eq-eqb b a (sym e))
  | inr other ↦ ne_eqb a b other ∙ sym (ne_eqb b a (λ e. other (sym e)))
]

module _ (pop op : Op) (number : ℕ) (tag : Option (List ℕ)) (before : ℕ → Option (List ℕ)) where
  -- the tag of each part, where that one came
  abbrev after : ℕ → Option (List ℕ)
  after n = if is_op pop op && (n == number) then tag else before n

  abbrev Told : (ℕ → Option (List ℕ)) → Option SeenTags → Type 0
  Told told tags = IfSome tags (λ x. (n : ℕ) → HasPart x n → tag_at x n ≡ told n)

  one_tag : (x : SeenTags) → HasPart x number → is_op pop op ≡ true → ((n : ℕ) → HasPart x n → tag_at x n ≡ before n)
      → (n : ℕ) → HasPart x n → get_or (set x.tags (number - x.first) tag) (n - x.first) None ≡ after n
  one_tag x has is told n here = elim (cases_eq n number) [
    | inl e ↦ ap (λ (k : ℕ). get_or (set x.tags (number - x.first) tag) (k - x.first) None) e
        ∙ get_or-set_same x.tags (number - x.first) tag None (omega (arith, has.0, has.1))
        ∙ sym (ap (λ (b : Bool). if b && (n == number) then tag else before n) is ∙ ap (λ (b : Bool). if b then tag else before n) (eq-eqb n number e))
    | inr other ↦ get_or-set_other x.tags (number - x.first) (n - x.first) tag None (λ e. other (omega (arith, has.0, here.0)))
        ∙ told n here
        ∙ sym (ap (λ (b : Bool). if b && (n == number) then tag else before n) is ∙ ap (λ (b : Bool). if b then tag else before n) (ne_eqb n number other))
  ]

  pub tags_after : (t : Option SeenTags) (b : Bool) → is_op op pop ≡ b → IfSome t (λ x. is_op op pop ≡ true → HasPart x number) → Told before t
      → Told after (tagged b number tag t)
  tags_after None b is has told = tt
  tags_after (Some x) true is has told = λ n here. one_tag x (has is) (same_either_way (op_number pop) (op_number op) ∙ is) told n
      (here.0, subst (λ (k : ℕ). n < x.first + k) (length-set x.tags (number - x.first) tag) here.1)
  tags_after (Some x) false is has told = λ n here. told n here
      ∙ sym (ap (λ (b : Bool). if b && (n == number) then tag else before n) (same_either_way (op_number pop) (op_number op) ∙ is))

-- ---- small facts

same_act : (a b : Op) (n k : ℕ) → is_act (act.Send a n) (act.Send b k) ≡ true → act.Send a n ≡ act.Send b k
same_act a b n k e =
    let each = and_parts (is_op a b) (n == k) e in
    ap (λ (o : Op). act.Send o n) (same_op a b each.0) ∙ ap (act.Send b) (eqb-true n k each.1)

listed : {X : Type 0} (f : ℕ → Option X) (xs : List (Option X)) (first : ℕ) → ((k : ℕ) → k < length xs → get_or xs k None ≡ f (first + k)) → xs ≡ map f (range_with_len first (length xs))
listed f [] first told = refl
listed f (x ∷ xs) first told =
    ap (λ (y : Option _). y ∷ xs) (told 0 (omega arith) ∙ ap f (omega arith))
    ∙ ap (λ (ys : List (Option _)). f first ∷ ys) (listed f xs (first + 1) (λ k below. told (suc k) (omega arith) ∙ ap f (omega arith)))

-- ---- what each happening makes of it

both : (b : Bool) (x y u v : Stage) → x ≡ y → u ≡ v → (if b then x else u) ≡ (if b then y else v)
both b x y u v e f = ap (λ (s : Stage). if b then s else u) e ∙ ap (λ (s : Stage). if b then y else s) f

module _ (w : Work) (h : History) (t : SeenTask) (s : Stands w h t) where
  same_stop : is_stopped w h ≡ is_stopped_by t.causes
  same_stop = ap (λ (b : Bool). b || is_some (first_reason h)) (sym s.failing_is) ∙ ap (λ (r : Option Reason). t.causes.failing || is_some r) (sym s.reason_is)

  marked : (a : Act) (how same : Stage) (m : SeenStages) → IsMarked a same t.stages m → how ≡ same → (b : Act)
      → (if is_act b a then how else stage w h b) ≡ stage_by m b
  marked a how same m is e b = both (is_act b a) how same _ _ e (s.stages b) ∙ sym (is.stages b)

  none_is : (m : SeenTask) → m.outcome ≡ t.outcome → m.outcome ≡ None → t.outcome ≡ None
  none_is m same none = sym same ∙ none

  same_tags : (m : SeenTask) → m.tags ≡ t.tags → IfSome m.tags (λ tags. (n : ℕ) → HasPart tags n → tag_at tags n ≡ etag_of h (part_act w n))
  same_tags m same = subst (λ (x : Option SeenTags). IfSome x (λ tags. (n : ℕ) → HasPart tags n → tag_at tags n ≡ etag_of h (part_act w n))) (sym same) s.tags_are

  pub gave : (a : Act) (m new : SeenTask) → IsGiven a t m → IsSettled m new → Stands w (Gave a ∷ h) new
  gave a m new g settled = settles w (Gave a) h m (record {
    work_is = g.marked.work ∙ s.work_is;
    stages = marked a (given_stage (stage w h a)) (given_stage (stage_by t.stages a)) m.stages g.marked (ap given_stage (s.stages a));
    failing_is = ap (λ (c : SeenCauses). c.failing) g.causes ∙ s.failing_is ∙ ap is_some (sym (or_none (first_failure w h)));
    reason_is = ap (λ (c : SeenCauses). c.reason) g.causes ∙ s.reason_is ∙ sym (or_none (first_reason h));
    memory_is = ap (λ (c : SeenCauses). c.memory) g.causes ∙ s.memory_is ∙ sym (or_false (wanted_memory w h));
    uncertain_is = ap (λ (c : SeenCauses). c.uncertain) g.causes ∙ s.uncertain_is;
    first_is = λ none. ap (λ (c : SeenCauses). c.first) g.causes ∙ s.first_is (none_is m g.outcome none) ∙ sym (or_none (first_failure w h));
    last_is = λ none. ap (λ (c : SeenCauses). c.last) g.causes ∙ s.last_is (none_is m g.outcome none);
    outcome_is = g.outcome ∙ s.outcome_is;
    kept_are = λ o n. g.kept o n ∙ ap (λ (k : Option _). if is_act (act.Send o n) a then None else k) (s.kept_are o n);
    upload_is = g.upload ∙ s.upload_is;
    tags_are = same_tags m g.tags;
  }) new settled

  pub returned : (a : Act) (result : FileCame) (m new : SeenTask) → IsReturned a result t m → IsSettled m new → Stands w (Returned a result ∷ h) new
  returned a result m new g settled = settles w (Returned a result) h m (record {
    work_is = g.marked.work ∙ s.work_is;
    stages = marked a (file_stage result) (file_stage result) m.stages g.marked refl;
    failing_is = g.failing ∙ ap (λ (b : Bool). b || is_some (file_cause a result)) s.failing_is ∙ some_or (first_failure w h) (file_cause a result);
    reason_is = g.reason ∙ s.reason_is ∙ sym (or_none (first_reason h));
    memory_is = g.memory ∙ ap (λ (b : Bool). b || is_memory (file_cause a result)) s.memory_is;
    uncertain_is = g.uncertain ∙ s.uncertain_is;
    first_is = λ none. g.first ∙ ap (λ (b : Bool). if b then t.causes.first else file_cause a result) s.failing_is
        ∙ first_or (first_failure w h) t.causes.first (file_cause a result) (s.first_is (none_is m g.outcome none));
    last_is = λ none. g.last ∙ s.last_is (none_is m g.outcome none);
    outcome_is = g.outcome ∙ s.outcome_is;
    kept_are = λ o n. ap (λ (k : SeenKept). job_at k o n) g.kept ∙ s.kept_are o n;
    upload_is = g.upload ∙ s.upload_is;
    tags_are = same_tags m g.tags;
  }) new settled

  pub cancelled : (reason : Reason) (m new : SeenTask) → IsCancelled reason t m → IsSettled m new → Stands w (Cancelled reason ∷ h) new
  cancelled reason m new g settled = settles w (Cancelled reason) h m (record {
    work_is = ap (λ (x : SeenStages). x.work) g.stages ∙ s.work_is;
    stages = λ a. s.stages a ∙ ap (λ (x : SeenStages). stage_by x a) (sym g.stages);
    failing_is = g.failing ∙ s.failing_is ∙ ap is_some (sym (or_none (first_failure w h)));
    reason_is = g.reason ∙ ap (λ (r : Option Reason). option_or r (Some reason)) s.reason_is;
    memory_is = g.memory ∙ s.memory_is ∙ sym (or_false (wanted_memory w h));
    uncertain_is = g.uncertain ∙ s.uncertain_is;
    first_is = λ none. g.first ∙ s.first_is (none_is m g.outcome none) ∙ sym (or_none (first_failure w h));
    last_is = λ none. g.last ∙ s.last_is (none_is m g.outcome none);
    outcome_is = g.outcome ∙ s.outcome_is;
    kept_are = λ o n. ap (λ (k : SeenKept). job_at k o n) g.kept ∙ s.kept_are o n;
    upload_is = g.upload ∙ s.upload_is;
    tags_are = same_tags m g.tags;
  }) new settled

  pub taken : (of_op : Op) (number : ℕ) (m new : SeenTask) → IsTaken of_op number t m → IsSettled m new → Stands w (Taken of_op number ∷ h) new
  taken of_op number m new g settled = settles w (Taken of_op number) h m (record {
    work_is = ap (λ (x : SeenStages). x.work) g.stages ∙ s.work_is;
    stages = λ a. s.stages a ∙ ap (λ (x : SeenStages). stage_by x a) (sym g.stages);
    failing_is = ap (λ (c : SeenCauses). c.failing) g.causes ∙ s.failing_is ∙ ap is_some (sym (or_none (first_failure w h)));
    reason_is = ap (λ (c : SeenCauses). c.reason) g.causes ∙ s.reason_is ∙ sym (or_none (first_reason h));
    memory_is = ap (λ (c : SeenCauses). c.memory) g.causes ∙ s.memory_is ∙ sym (or_false (wanted_memory w h));
    uncertain_is = ap (λ (c : SeenCauses). c.uncertain) g.causes ∙ s.uncertain_is;
    first_is = λ none. ap (λ (c : SeenCauses). c.first) g.causes ∙ s.first_is (none_is m g.outcome none) ∙ sym (or_none (first_failure w h));
    last_is = λ none. ap (λ (c : SeenCauses). c.last) g.causes ∙ s.last_is (none_is m g.outcome none);
    outcome_is = g.outcome ∙ s.outcome_is;
    kept_are = λ o n. g.kept o n ∙ ap (λ (k : Option _). if is_act (act.Send o n) (act.Send of_op number) then None else k) (s.kept_are o n);
    upload_is = g.upload ∙ s.upload_is;
    tags_are = same_tags m g.tags;
  }) new settled

  pub came : (c : SeenCarried) (m new : SeenTask) → IsCame c t m → IsSettled m new → Stands w (Came c ∷ h) new
  came c m new g settled =
      let why = carried_cause t.stages.work c in
      let fails = failure_of (is_cut_short t.stages.work c) why in
      let same = s.work_is in
      let failure : fails ≡ failure_by w (Came c) = ap (λ (v : Work). failure_of (is_cut_short v c) (carried_cause v c)) same in
      settles w (Came c) h m (record {
        work_is = g.marked.work ∙ s.work_is;
        stages = marked (sent c) (carried_stage w (is_stopped w h) c) (carried_stage t.stages.work (is_stopped_by t.causes) c) m.stages g.marked
            (ap (λ (b : Bool). carried_stage w b c) same_stop ∙ ap (λ (v : Work). carried_stage v (is_stopped_by t.causes) c) (sym same));
        failing_is = g.failing ∙ ap (λ (b : Bool). b || is_some fails) s.failing_is ∙ ap (λ (o : Option Cause). is_some (first_failure w h) || is_some o) failure
            ∙ some_or (first_failure w h) (failure_by w (Came c));
        reason_is = g.reason ∙ s.reason_is ∙ sym (or_none (first_reason h));
        memory_is = g.memory ∙ ap (λ (b : Bool). b || is_memory fails) s.memory_is ∙ ap (λ (o : Option Cause). wanted_memory w h || is_memory o) failure;
        uncertain_is = g.uncertain ∙ ap (λ (b : Bool). b || (decides t.stages.work c && list_any is_uncertain c.tries)) s.uncertain_is
            ∙ ap (λ (v : Work). has_uncertain w h || (decides v c && list_any is_uncertain c.tries)) same;
        first_is = λ none. g.first ∙ ap (λ (b : Bool). if b then t.causes.first else fails) s.failing_is
            ∙ first_or (first_failure w h) t.causes.first fails (s.first_is (none_is m g.outcome none)) ∙ ap (λ (o : Option Cause). option_or (first_failure w h) o) failure;
        last_is = λ none. g.last ∙ ap (λ (o : Option Cause). if decides t.stages.work c && has_tries c then why else o) (s.last_is (none_is m g.outcome none))
            ∙ ap (λ (v : Work). if decides v c && has_tries c then carried_cause v c else last_cause w h) same;
        outcome_is = g.outcome ∙ s.outcome_is;
        kept_are = λ o n. g.kept o n
            ∙ ap (λ (k : Option _). if is_act (act.Send o n) (sent c) then kept_if (is_kept t.stages.work (is_stopped_by t.causes) c) c.job (length c.tries) else k) (s.kept_are o n)
            ∙ ap (λ (b : Bool). if is_act (act.Send o n) (sent c) then kept_if b c.job (length c.tries) else kept_job w h (act.Send o n))
            (ap (λ (v : Work). is_kept v (is_stopped_by t.causes) c) same ∙ ap (λ (b : Bool). is_kept w b c) (sym same_stop));
        upload_is = g.upload ∙ ap (λ (o : Option (List ℕ)). option_or (upload_in c) o) s.upload_is;
        tags_are = subst (λ (x : Option SeenTags). IfSome x (λ tags. (n : ℕ) → HasPart tags n → tag_at tags n ≡ etag_of (Came c ∷ h) (part_act w n))) (sym g.tags)
            (subst (λ (v : Work). IfSome t.tags (λ x. is_part v c.job.id.op ≡ true → HasPart x c.job.id.number)
            → IfSome (tagged (is_part v c.job.id.op) c.job.id.number (etag_in c.ending) t.tags) (λ tags. (n : ℕ) → HasPart tags n → tag_at tags n ≡ etag_of (Came c ∷ h) (part_act w n))) (sym same)
            (λ has. told_came c has) g.part);
      }) new settled
    where
      told_came : (c : SeenCarried) → IfSome t.tags (λ x. is_part w c.job.id.op ≡ true → HasPart x c.job.id.number)
          → IfSome (tagged (is_part w c.job.id.op) c.job.id.number (etag_in c.ending) t.tags) (λ tags. (n : ℕ) → HasPart tags n → tag_at tags n ≡ etag_of (Came c ∷ h) (part_act w n))
      told_came c has = tags_after (piece_op w.of_kind w.small) c.job.id.op c.job.id.number (etag_in c.ending) (λ n. etag_of h (part_act w n)) t.tags (is_part w c.job.id.op) refl has s.tags_are

  -- ---- what is asked of it

  pub ready : ready_by t ≡ first_ready_in w h
  ready =
      ap (λ (v : Work). first_ready v (stage_by t.stages) (is_stopped_by t.causes)) s.work_is
      ∙ ap (λ (f : Act → Stage). first_ready w f (is_stopped_by t.causes)) (sym (fun_ext s.stages))
      ∙ ap (λ (b : Bool). first_ready w (stage w h) b) (sym same_stop)

  pub part : (c : SeenCarried) → part_back t.stages.work (is_stopped_by t.causes) c ≡ part_back w (is_stopped w h) c
  part c = ap (λ (v : Work). part_back v (is_stopped_by t.causes) c) s.work_is ∙ ap (λ (b : Bool). part_back w b c) (sym same_stop)

  -- a job that is not kept cannot be taken
  stays : (b : Bool) (x : Option SeenJob) → (b ≡ true → x ≡ None) → (if b then None else x) ≡ x
  stays true x e = sym (e refl)
  stays false x e = refl

  pub untaken : (o : Op) (n : ℕ) (m : SeenTask) → IsTaken o n t m → job_at t.kept o n ≡ None → Stands w h m
  untaken o n m g none = record {
    work_is = ap (λ (x : SeenStages). x.work) g.stages ∙ s.work_is;
    stages = λ a. s.stages a ∙ ap (λ (x : SeenStages). stage_by x a) (sym g.stages);
    failing_is = ap (λ (c : SeenCauses). c.failing) g.causes ∙ s.failing_is;
    reason_is = ap (λ (c : SeenCauses). c.reason) g.causes ∙ s.reason_is;
    memory_is = ap (λ (c : SeenCauses). c.memory) g.causes ∙ s.memory_is;
    uncertain_is = ap (λ (c : SeenCauses). c.uncertain) g.causes ∙ s.uncertain_is;
    first_is = λ e. ap (λ (c : SeenCauses). c.first) g.causes ∙ s.first_is (none_is m g.outcome e);
    last_is = λ e. ap (λ (c : SeenCauses). c.last) g.causes ∙ s.last_is (none_is m g.outcome e);
    outcome_is = g.outcome ∙ s.outcome_is;
    kept_are = λ other at. g.kept other at
        ∙ stays (is_act (act.Send other at) (act.Send o n)) (job_at t.kept other at) (λ same. ap (λ (a : Act). job_of a) (same_act other o at n same) ∙ none)
        ∙ s.kept_are other at;
    upload_is = g.upload ∙ s.upload_is;
    tags_are = same_tags m g.tags;
  }
    where
      job_of : Act → Option SeenJob
      job_of (act.Send a k) = job_at t.kept a k
      job_of a = None

  -- the tags of all parts
  pub tags_listed : (x : SeenTags) → t.tags ≡ Some x → x.first ≡ first_number w → length x.tags ≡ w.count → x.tags ≡ etags_of w h
  tags_listed x is first long =
      listed (λ n. etag_of h (part_act w n)) x.tags (first_number w) (λ k below. told k below)
      ∙ ap (λ (n : ℕ). map (λ k. etag_of h (part_act w k)) (range_with_len (first_number w) n)) long
    where
      told : (k : ℕ) → k < length x.tags → get_or x.tags k None ≡ etag_of h (part_act w (first_number w + k))
      told k below =
          ap (λ (i : ℕ). get_or x.tags i None) (omega (arith, first))
          ∙ (subst (λ (o : Option SeenTags). IfSome o (λ tags. (n : ℕ) → HasPart tags n → tag_at tags n ≡ etag_of h (part_act w n))) is s.tags_are) (first_number w + k)
          (omega (arith, first), omega (arith, first, below))

  pub untagged : (x : Option SeenTags) → x ≡ None
      → Stands w h (record { stages = t.stages; causes = t.causes; outcome = t.outcome; kept = t.kept; tags = x; upload = t.upload })
  untagged x none = record {
    work_is = s.work_is;
    stages = s.stages;
    failing_is = s.failing_is;
    reason_is = s.reason_is;
    memory_is = s.memory_is;
    uncertain_is = s.uncertain_is;
    first_is = s.first_is;
    last_is = s.last_is;
    outcome_is = s.outcome_is;
    kept_are = s.kept_are;
    upload_is = s.upload_is;
    tags_are = subst (λ (y : Option SeenTags). IfSome y (λ tags. (n : ℕ) → HasPart tags n → tag_at tags n ≡ etag_of h (part_act w n))) (sym none) tt;
  }

  parts_count : (k : Kind) (n : ℕ) → has_parts k ≡ true → (if removes k then 0 else n) ≡ n
  parts_count kind.Upload n has = refl
  parts_count kind.Download n has = refl
  parts_count kind.Copy n has = refl
  parts_count k n has = absurd (no_true has)
    where
      no_true : false ≡ true → ⊥
      no_true e = cc

  pub tags_given : IsSound t.stages t.kept t.tags → length t.stages.pieces ≡ piece_count t.stages.work → IsSome t.tags → tags_in t.tags ≡ etags_of w h
  tags_given sound long there = by t.tags refl sound.tags_are there
    where
      never : false ≡ true → ⊥
      never e = cc

      by : (o : Option SeenTags) → t.tags ≡ o
          → IfSome o (λ x. (has_parts t.stages.work.of_kind ≡ true) × (x.first ≡ first_number t.stages.work) × (length x.tags ≡ length t.stages.pieces))
          → IsSome o → tags_in o ≡ etags_of w h
      by None e are some = absurd (never some)
      by (Some x) e are some = tags_listed x e (are.1 ∙ ap first_number s.work_is)
          (are.2 ∙ long ∙ parts_count t.stages.work.of_kind t.stages.work.count are.0 ∙ ap (λ (v : Work). v.count) s.work_is)

-- ---- at the start

module _ (w : Work) (m new : SeenTask) (work_is : m.stages.work ≡ w) (waits : (a : Act) → stage_by m.stages a ≡ at.Waiting) (causes : m.causes ≡ no_causes) (none : m.outcome ≡ None)
    (kept : (o : Op) (n : ℕ) → job_at m.kept o n ≡ None) (upload : m.upload ≡ None) (tags : HasTags w m.tags) (settled_is : IsSettled m new) where
  start_end : settled_by m ≡ settled w []
  start_end =
      ap (λ (c : SeenCauses). ends_at m.stages.work (stage_by m.stages) (is_stopped_by c) c.uncertain c.memory c.first c.last c.reason) causes
      ∙ ap (λ (v : Work). ends_at v (stage_by m.stages) false false false None None None) work_is
      ∙ ap (λ (f : Act → Stage). ends_at w f false false false None None None) (fun_ext waits)

  empty_tags : (t : Option SeenTags) → HasTags w t → IfSome t (λ x. (n : ℕ) → HasPart x n → tag_at x n ≡ None)
  empty_tags None has = tt
  empty_tags (Some x) has = λ n here. ap (λ (ts : List (Option (List ℕ))). get_or ts (n - x.first) None) has.2
      ∙ get_or-replicate w.count (n - x.first) None None (let long : length x.tags ≡ w.count = ap length has.2 ∙ length-replicate w.count None in omega (arith, here.0, here.1, long))

  pub starts : Stands w [] new
  starts = record {
    work_is = ap (λ (x : SeenStages). x.work) settled_is.stages ∙ work_is;
    stages = λ a. sym (waits a) ∙ ap (λ (x : SeenStages). stage_by x a) (sym settled_is.stages);
    failing_is = settled_is.failing ∙ ap (λ (c : SeenCauses). c.failing) causes;
    reason_is = settled_is.reason ∙ ap (λ (c : SeenCauses). c.reason) causes;
    memory_is = settled_is.memory ∙ ap (λ (c : SeenCauses). c.memory) causes;
    uncertain_is = settled_is.uncertain ∙ ap (λ (c : SeenCauses). c.uncertain) causes;
    first_is = λ e. settled_is.first e ∙ ap (λ (c : SeenCauses). c.first) causes;
    last_is = λ e. settled_is.last e ∙ ap (λ (c : SeenCauses). c.last) causes;
    outcome_is = settled_is.outcome ∙ ap (λ (o : Option Outcome). option_or o (settled_by m)) none ∙ start_end;
    kept_are = λ o n. ap (λ (k : SeenKept). job_at k o n) settled_is.kept ∙ kept o n;
    upload_is = settled_is.upload ∙ upload;
    tags_are = subst (λ (x : Option SeenTags). IfSome x (λ y. (n : ℕ) → HasPart y n → tag_at y n ≡ None)) (sym settled_is.tags) (empty_tags m.tags tags);
  }

-- ---- an act that was given is out

both_true : (x y : Bool) → x ≡ true → y ≡ true → (x && y) ≡ true
both_true true y e f = f
both_true false y e f = cc

itself : (a : Act) → is_act a a ≡ true
itself (act.Send a n) = both_true (is_op a a) (n == n) (eq-eqb (op_number a) (op_number a) refl) (eq-eqb n n refl)
itself (act.Read n) = eq-eqb n n refl
itself act.Assemble = refl
itself (act.Place n) = eq-eqb n n refl
itself act.Rename = refl
itself act.DropTemp = refl
itself act.Remove = refl
itself act.Stamp = refl

out_once_given : (how : Stage) → is_out (given_stage how) ≡ true
out_once_given at.Waiting = refl
out_once_given at.Out = refl
out_once_given at.Kept = refl
out_once_given at.Again = refl
out_once_given at.Fine = refl
out_once_given at.Failed = refl

chosen_out : (b : Bool) (x y : Stage) → b ≡ true → is_out (if b then given_stage x else y) ≡ true
chosen_out true x y e = out_once_given x
chosen_out false x y e = cc

pub gave_out : (t : SeenTask) (a : Act) (given new : SeenTask) → IsGiven a t given → IsSettled given new → is_out (stage_by new.stages a) ≡ true
gave_out t a given new is settled =
    subst (λ (s : SeenStages). is_out (stage_by s a) ≡ true) (sym settled.stages)
    (subst (λ (how : Stage). is_out how ≡ true) (sym (is.marked.stages a)) (chosen_out (is_act a a) (stage_by t.stages a) (stage_by t.stages a) (itself a)))

-- settling changes no act
pub still_marked : (a : Act) (how : Stage) (s given : SeenStages) (t new : SeenTask) → t.stages ≡ given → IsMarked a how s given → IsSettled t new → IsMarked a how s new.stages
still_marked a how s given t new is marked settled =
    subst (λ (x : SeenStages). IsMarked a how s x) (sym (settled.stages ∙ is)) marked

-- ---- the entity tags stay until they are given away

same_some : (is_part : Bool) (n : ℕ) (tag : Option (List ℕ)) (tags : Option SeenTags) → is_some (tagged is_part n tag tags) ≡ is_some tags
same_some is_part n tag None = refl
same_some true n tag (Some x) = refl
same_some false n tag (Some x) = refl

pub came_tags : (c : SeenCarried) (t m new : SeenTask) → IsCame c t m → IsSettled m new → is_some new.tags ≡ is_some t.tags
came_tags c t m new came settled =
    ap is_some settled.tags ∙ ap is_some came.tags
    ∙ same_some (is_part t.stages.work c.job.id.op) c.job.id.number (etag_in c.ending) t.tags
