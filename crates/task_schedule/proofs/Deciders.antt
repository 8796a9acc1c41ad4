-- The act that decides a task: once it was given, each act before it has done what it was to do.
use Rattle.std.proofs.Common.{append_assoc, ◌≡◌, ◌∙◌, ◌==◌, ◌&&◌, ◌⊎◌, ◌+◌, ◌++◌, ◌<◌, ◌≤◌, ℕ, Bool, true, false, [], ◌∷◌, refl, sym, subst, ap, inl, inr, arith, not}
use Rattle.std.proofs.lemmas.Bool.{and_parts, eqb-true, ltb-true}
use Rattle.std.specs.Prelude.{if◌then◌else◌, is_some, nat_lt}
use Rattle.jobs.specs.Endings.{SeenCarried}
use Rattle.job_terms.specs.Ops.{deciding}
use Rattle.s3_model.specs.declared.requests.Op.{Op}
use Rattle.s3_model.specs.declared.requests.Op.TheVariants as op
use Rattle.s3_model.specs.declared.tasks.Kind.{Kind}
use Rattle.s3_model.specs.declared.tasks.Kind.TheVariants as kind
use Rattle.task_acts.specs.declared.acts.Act.{Act}
use Rattle.task_acts.specs.declared.acts.Act.TheVariants as act
use Rattle.task_acts.specs.declared.acts.FileCame.{FileCame}
use Rattle.task_acts.specs.declared.acts.FileCame.TheVariants as file
use Rattle.task_acts.specs.declared.acts.Stage.{Stage}
use Rattle.task_acts.specs.declared.acts.Stage.TheVariants as at
use Rattle.task_acts.specs.declared.work.Work.{Work}
use Rattle.task_acts.specs.Failures.{carried_cause, file_cause, is_cut_short, is_stopped}
use Rattle.task_acts.specs.Histories.{Came, Gave, History, Returned, is_act, sent}
use Rattle.task_acts.specs.Kept.{IsHistory}
use Rattle.task_acts.specs.Laws.{IsTidying}
use Rattle.task_acts.specs.Rule.{is_decided, is_decided_by, is_due, is_each_done, is_named, is_ready_in}
use Rattle.task_acts.specs.Stages.{carried_stage, file_stage, has_done, has_ended, may_be_given, stage}
use Rattle.task_acts.specs.Work.{deciding_op, first_number, is_piece, numbers}
use Rattle.shared_lemmas.proofs.Members.{Has, split_of}
use Rattle.task_progress.specs.Progress.{HasPiece}
use Rattle.task_progress.proofs.Begun.{has_begun, has_number, is_false, out_has_begun}
use Rattle.task_progress.proofs.Endings.{chosen, no}
use Rattle.task_progress.proofs.Progress.{IsCounted, all_has, both, in_range, less_is}
use Rattle.task_progress.proofs.Quiet.{done_has_begun}
use Rattle.task_schedule.proofs.Givings.{stopped_is_abort}
use Rattle.task_schedule.proofs.Sources.{ended_has_begun}
use Rattle.task_schedule.proofs.Standing.{WasGiven, act_itself, begun_stays, done_stays, earlier, ended_stays, was_given}

-- the act by which a task of that kind is decided
abbrev pub decider_of : Work → Kind → Act
decider_of w kind.Download = act.Rename
decider_of w kind.RemoveFile = act.Remove
decider_of w k = act.Send (deciding_op w) 0

abbrev pub decider : Work → Act
decider w = decider_of w w.of_kind

-- it is given only after that act, or tidies up
abbrev pub Follows : Kind → Act → Type 0
Follows k (act.Send op.Abort n) = Unit {0}
Follows k act.DropTemp = Unit {0}
Follows k act.Stamp = Unit {0}
Follows kind.Upload act.Remove = Unit {0}
Follows kind.Download (act.Send op.Delete n) = n ≡ 0
Follows kind.Copy (act.Send op.Delete n) = n ≡ 0
Follows k a = ⊥

abbrev pub IsNoAbort : Act → Type 0
IsNoAbort (act.Send op.Abort n) = ⊥
IsNoAbort a = Unit {0}

deciding_no_abort : (k : Kind) (small : Bool) → deciding k small ≡ op.Abort → ⊥
deciding_no_abort kind.Upload true e = cc
deciding_no_abort kind.Upload false e = cc
deciding_no_abort kind.Copy true e = cc
deciding_no_abort kind.Copy false e = cc
deciding_no_abort kind.Download small e = cc
deciding_no_abort kind.RemoveObject small e = cc
deciding_no_abort kind.RemoveFile small e = cc

part_no_abort : op.Part ≡ op.Abort → ⊥
part_no_abort e = cc

part_copy_no_abort : op.PartCopy ≡ op.Abort → ⊥
part_copy_no_abort e = cc

get_no_abort : op.Get ≡ op.Abort → ⊥
get_no_abort e = cc

delete_no_abort : op.Delete ≡ op.Abort → ⊥
delete_no_abort e = cc

module _ (w : Work) where
  -- what is named is due, or tidies up
  pub named_is : (f : Act → Stage) (stopped : Bool) (a : Act) → is_named w f stopped a ≡ true → (is_due w f false w.of_kind a ≡ true) ⊎ IsTidying a
  named_is f stopped act.Stamp e = inr tt
  named_is f true (act.Send op.Abort n) e = inr tt
  named_is f true act.DropTemp e = inr tt
  named_is f true a e = no e
  named_is f false a e = inl e

  module _ (piece : HasPiece w) where
    -- a small task has one piece
    only_piece : w.small ≡ true → (n : ℕ) → is_piece w n ≡ true → n ≡ 0
    only_piece small n e = by (chosen w.small 0 1 small) (piece.one small) (ltb-true n (first_number w + w.count) (and_parts (nat_lt n (first_number w + w.count)) _ e).0)
      where
        by : first_number w ≡ 0 → w.count ≡ 1 → n < first_number w + w.count → n ≡ 0
        by f c l = omega arith

    -- ---- an act, in a history in which that act was given

    module _ (h : History) (is : IsHistory w h) (begun : has_begun (stage w h (decider w)) ≡ true) where
      given : WasGiven w h (decider w)
      given = was_given w h is (decider w) begun

      abbrev then_ : History
      then_ = given.before

      abbrev Prior : Act → Type 0
      Prior a = (a ≡ decider w) ⊎ (has_done (stage w h a) ≡ true) ⊎ Follows w.of_kind a

      -- what was done then is done now
      still : (later before : History) → h ≡ later ++ before → (a : Act) → has_done (stage w before a) ≡ true → has_done (stage w h a) ≡ true
      still later before at a e = subst (λ (x : History). has_done (stage w x a) ≡ true) (sym at) (done_stays w later before a (subst (IsHistory w) at is) e)

      since_then : h ≡ (given.later ++ Gave (decider w) ∷ []) ++ given.before
      since_then = given.is ∙ sym (append_assoc given.later (Gave (decider w) ∷ []) given.before)

      done_then : (a : Act) → has_done (stage w then_ a) ≡ true → has_done (stage w h a) ≡ true
      done_then a e = still (given.later ++ Gave (decider w) ∷ []) then_ since_then a e

      -- a job that was done then was due earlier
      module _ (o : Op) (n : ℕ) (apart : o ≡ op.Abort → ⊥) (done : has_done (stage w then_ (act.Send o n)) ≡ true) where
        first : WasGiven w then_ (act.Send o n)
        first = was_given w then_ given.holds (act.Send o n) (done_has_begun (stage w then_ (act.Send o n)) done)

        was_due : is_due w (stage w first.before) false w.of_kind (act.Send o n) ≡ true
        was_due = by (is_stopped w first.before) refl (and_parts (may_be_given (stage w first.before (act.Send o n))) _ first.ready).1
          where
            by : (b : Bool) → is_stopped w first.before ≡ b → is_named w (stage w first.before) b (act.Send o n) ≡ true → is_due w (stage w first.before) false w.of_kind (act.Send o n) ≡ true
            by true e so_named = absurd (apart (stopped_is_abort w first.before o n first.ready e))
            by false e so_named = so_named

        done_earlier : (a : Act) → has_done (stage w first.before a) ≡ true → has_done (stage w h a) ≡ true
        done_earlier a e = done_then a (subst (λ (x : History). has_done (stage w x a) ≡ true)
            (append_assoc first.later (Gave (act.Send o n) ∷ []) first.before ∙ sym first.is)
            (done_stays w (first.later ++ Gave (act.Send o n) ∷ []) first.before a
            (subst (IsHistory w) (first.is ∙ sym (append_assoc first.later (Gave (act.Send o n) ∷ []) first.before)) given.holds) e))

      -- ---- by the kinds

      module _ (k : Kind) (so : w.of_kind ≡ k) where
        as_kind : (f : Act → Stage) (a : Act) → is_due w f false w.of_kind a ≡ true → is_due w f false k a ≡ true
        as_kind f a e = subst (λ (x : Kind). is_due w f false x a ≡ true) so e

        decider_is : decider w ≡ decider_of w k
        decider_is = ap (decider_of w) so

        named : is_named w (stage w then_) (is_stopped w then_) (decider_of w k) ≡ true
        named = subst (λ (a : Act). is_named w (stage w then_) (is_stopped w then_) a ≡ true) decider_is (and_parts (may_be_given (stage w then_ (decider w))) _ given.ready).1

      -- a job decides it
      job_due : (k : Kind) (so : w.of_kind ≡ k) → decider_of w k ≡ act.Send (deciding_op w) 0 → (o : Op) → deciding k w.small ≡ o → is_due w (stage w then_) false k (act.Send o 0) ≡ true
      job_due k so job o is_op = by (is_stopped w then_) refl
          (subst (λ (a : Act). is_named w (stage w then_) (is_stopped w then_) a ≡ true) (job ∙ ap (λ (p : Op). act.Send p 0) its_op) (named k so))
        where
          its_op : deciding_op w ≡ o
          its_op = ap (λ (x : Kind). deciding x w.small) so ∙ is_op

          ready : is_ready_in w then_ (act.Send o 0) ≡ true
          ready = subst (λ (a : Act). is_ready_in w then_ a ≡ true) (decider_is k so ∙ job ∙ ap (λ (p : Op). act.Send p 0) its_op) given.ready

          by : (b : Bool) → is_stopped w then_ ≡ b → is_named w (stage w then_) b (act.Send o 0) ≡ true → is_due w (stage w then_) false k (act.Send o 0) ≡ true
          by true e so_named = absurd (deciding_no_abort k w.small (is_op ∙ stopped_is_abort w then_ o 0 ready e))
          by false e so_named = as_kind k so (stage w then_) (act.Send o 0) so_named

      job_decides : (k : Kind) (so : w.of_kind ≡ k) → decider_of w k ≡ act.Send (deciding_op w) 0 → (o : Op) (small : Bool) → w.small ≡ small → deciding k small ≡ o → act.Send o 0 ≡ decider w
      job_decides k so job o small e f = sym (decider_is k so ∙ job ∙ ap (λ (p : Op). act.Send p 0) (ap (λ (x : Kind). deciding x w.small) so ∙ ap (deciding k) e ∙ f))

      -- of an upload
      module _ (so : w.of_kind ≡ kind.Upload) where
        put_due : w.small ≡ true → is_due w (stage w then_) false kind.Upload (act.Send op.Put 0) ≡ true
        put_due small = job_due kind.Upload so refl op.Put (ap (deciding kind.Upload) small)

        complete_due : w.small ≡ false → is_due w (stage w then_) false kind.Upload (act.Send op.Complete 0) ≡ true
        complete_due small = job_due kind.Upload so refl op.Complete (ap (deciding kind.Upload) small)

        module _ (small : w.small ≡ false) where
          both_done : (has_done (stage w then_ (act.Send op.Create 0)) ≡ true) × (is_each_done w (stage w then_) false (act.Send op.Part) ≡ true)
          both_done =
              let two = and_parts ((not w.small && (0 == 0)) && has_done (stage w then_ (act.Send op.Create 0))) _ (complete_due small) in
              ((and_parts (not w.small && (0 == 0)) _ two.0).1, two.1)

          part_then : (n : ℕ) → is_piece w n ≡ true → has_done (stage w then_ (act.Send op.Part n)) ≡ true
          part_then n e = all_has (λ m. has_done (stage w then_ (act.Send op.Part m))) (numbers w) both_done.1 n (has_number w n e)

          read_then : (n : ℕ) → is_piece w n ≡ true → has_done (stage w h (act.Read n)) ≡ true
          read_then n e =
              let done = part_then n e in
              done_earlier op.Part n part_no_abort done (act.Read n)
              (and_parts (not w.small && is_piece w n) _ (as_kind kind.Upload so (stage w (first op.Part n part_no_abort done).before) (act.Send op.Part n) (was_due op.Part n part_no_abort done))).1

        of_upload : (f : Act → Stage) (a : Act) → is_due w f false kind.Upload a ≡ true → Prior a
        of_upload f act.Remove e = inr (inr (subst (λ (k : Kind). Follows k act.Remove) (sym so) tt))
        of_upload f (act.Read n) e = by w.small refl
          where
            its_piece : is_piece w n ≡ true
            its_piece = (and_parts (is_piece w n) _ e).0

            by : (b : Bool) → w.small ≡ b → Prior (act.Read n)
            by true small = inr (inl (subst (λ (m : ℕ). has_done (stage w h (act.Read m)) ≡ true) (sym (only_piece small n its_piece))
                (done_then (act.Read 0) (and_parts (w.small && is_piece w 0) _ (put_due small)).1)))
            by false small = inr (inl (read_then small n its_piece))
        of_upload f (act.Send op.Put n) e =
            let two = and_parts w.small (is_piece w n) (and_parts (w.small && is_piece w n) _ e).0 in
            inl (ap (act.Send op.Put) (only_piece two.0 n two.1) ∙ job_decides kind.Upload so refl op.Put true two.0 refl)
        of_upload f (act.Send op.Create n) e =
            let two = and_parts (not w.small) (n == 0) e in
            inr (inl (subst (λ (m : ℕ). has_done (stage w h (act.Send op.Create m)) ≡ true) (sym (eqb-true n 0 two.1)) (done_then (act.Send op.Create 0) (both_done (is_false w.small two.0)).0)))
        of_upload f (act.Send op.Part n) e =
            let two = and_parts (not w.small) (is_piece w n) (and_parts (not w.small && is_piece w n) _ e).0 in
            inr (inl (done_then (act.Send op.Part n) (part_then (is_false w.small two.0) n two.1)))
        of_upload f (act.Send op.Complete n) e =
            let three = and_parts ((not w.small && (n == 0)) && has_done (f (act.Send op.Create 0))) _ e in
            let two = and_parts (not w.small) (n == 0) (and_parts (not w.small && (n == 0)) _ three.0).0 in
            inl (ap (act.Send op.Complete) (eqb-true n 0 two.1) ∙ job_decides kind.Upload so refl op.Complete false (is_false w.small two.0) refl)
        of_upload f a e = no e

      -- of a copy
      module _ (so : w.of_kind ≡ kind.Copy) where
        module _ (small : w.small ≡ false) where
          copies_done : (has_done (stage w then_ (act.Send op.Create 0)) ≡ true) × (is_each_done w (stage w then_) false (act.Send op.PartCopy) ≡ true)
          copies_done =
              let due = job_due kind.Copy so refl op.Complete (ap (deciding kind.Copy) small) in
              let two = and_parts ((not w.small && (0 == 0)) && has_done (stage w then_ (act.Send op.Create 0))) _ due in
              ((and_parts (not w.small && (0 == 0)) _ two.0).1, two.1)

        of_copy : (f : Act → Stage) (a : Act) → is_due w f false kind.Copy a ≡ true → Prior a
        of_copy f (act.Send op.Copy n) e =
            let two = and_parts w.small (is_piece w n) e in
            inl (ap (act.Send op.Copy) (only_piece two.0 n two.1) ∙ job_decides kind.Copy so refl op.Copy true two.0 refl)
        of_copy f (act.Send op.Create n) e =
            let two = and_parts (not w.small) (n == 0) e in
            inr (inl (subst (λ (m : ℕ). has_done (stage w h (act.Send op.Create m)) ≡ true) (sym (eqb-true n 0 two.1)) (done_then (act.Send op.Create 0) (copies_done (is_false w.small two.0)).0)))
        of_copy f (act.Send op.PartCopy n) e =
            let two = and_parts (not w.small) (is_piece w n) (and_parts (not w.small && is_piece w n) _ e).0 in
            inr (inl (done_then (act.Send op.PartCopy n)
            (all_has (λ m. has_done (stage w then_ (act.Send op.PartCopy m))) (numbers w) (copies_done (is_false w.small two.0)).1 n (has_number w n two.1))))
        of_copy f (act.Send op.Complete n) e =
            let three = and_parts ((not w.small && (n == 0)) && has_done (f (act.Send op.Create 0))) _ e in
            let two = and_parts (not w.small) (n == 0) (and_parts (not w.small && (n == 0)) _ three.0).0 in
            inl (ap (act.Send op.Complete) (eqb-true n 0 two.1) ∙ job_decides kind.Copy so refl op.Complete false (is_false w.small two.0) refl)
        of_copy f (act.Send op.Delete n) e =
            let two = and_parts w.moves (n == 0) (and_parts (w.moves && (n == 0)) _ e).0 in
            inr (inr (subst (λ (k : Kind). Follows k (act.Send op.Delete n)) (sym so) (eqb-true n 0 two.1)))
        of_copy f a e = no e

      -- of a download
      module _ (so : w.of_kind ≡ kind.Download) where
        rename_due : is_due w (stage w then_) false kind.Download act.Rename ≡ true
        rename_due = by (is_stopped w then_) (named kind.Download so)
          where
            by : (b : Bool) → is_named w (stage w then_) b act.Rename ≡ true → is_due w (stage w then_) false kind.Download act.Rename ≡ true
            by true so_named = no so_named
            by false so_named = as_kind kind.Download so (stage w then_) act.Rename so_named

        place_then : (n : ℕ) → is_piece w n ≡ true → has_done (stage w then_ (act.Place n)) ≡ true
        place_then n e = all_has (λ m. has_done (stage w then_ (act.Place m))) (numbers w) (and_parts (has_done (stage w then_ act.Assemble)) _ rename_due).1 n (has_number w n e)

        got_then : (n : ℕ) → is_piece w n ≡ true → has_done (stage w h (act.Send op.Get n)) ≡ true
        got_then n e = done_then (act.Send op.Get n) (by place.before place.later place.is (is_stopped w place.before) (and_parts (may_be_given (stage w place.before (act.Place n))) _ place.ready).1)
          where
            place : WasGiven w then_ (act.Place n)
            place = was_given w then_ given.holds (act.Place n) (done_has_begun (stage w then_ (act.Place n)) (place_then n e))

            by : (before later : History) → then_ ≡ later ++ Gave (act.Place n) ∷ before → (b : Bool) → is_named w (stage w before) b (act.Place n) ≡ true → has_done (stage w then_ (act.Send op.Get n)) ≡ true
            by before later at true so_named = no so_named
            by before later at false so_named =
                let whole = at ∙ sym (append_assoc later (Gave (act.Place n) ∷ []) before) in
                subst (λ (x : History). has_done (stage w x (act.Send op.Get n)) ≡ true) (sym whole)
                (done_stays w (later ++ Gave (act.Place n) ∷ []) before (act.Send op.Get n) (subst (IsHistory w) whole given.holds)
                (and_parts (is_piece w n) _ (as_kind kind.Download so (stage w before) (act.Place n) so_named)).1)

        of_download : (f : Act → Stage) (a : Act) → is_due w f false kind.Download a ≡ true → Prior a
        of_download f act.Assemble e = inr (inl (done_then act.Assemble (and_parts (has_done (stage w then_ act.Assemble)) _ rename_due).0))
        of_download f (act.Send op.Get n) e = inr (inl (got_then n (and_parts (is_piece w n) _ e).0))
        of_download f (act.Place n) e = inr (inl (done_then (act.Place n) (place_then n (and_parts (is_piece w n) _ e).0)))
        of_download f act.Rename e = inl (sym (decider_is kind.Download so))
        of_download f (act.Send op.Delete n) e =
            let two = and_parts w.moves (n == 0) (and_parts (w.moves && (n == 0)) _ e).0 in
            inr (inr (subst (λ (k : Kind). Follows k (act.Send op.Delete n)) (sym so) (eqb-true n 0 two.1)))
        of_download f a e = no e

      -- of a removal
      of_removed_object : w.of_kind ≡ kind.RemoveObject → (f : Act → Stage) (a : Act) → is_due w f false kind.RemoveObject a ≡ true → Prior a
      of_removed_object so f (act.Send op.Delete n) e = inl (ap (act.Send op.Delete) (eqb-true n 0 e) ∙ job_decides kind.RemoveObject so refl op.Delete w.small refl refl)
      of_removed_object so f a e = no e

      of_removed_file : w.of_kind ≡ kind.RemoveFile → (f : Act → Stage) (a : Act) → is_due w f false kind.RemoveFile a ≡ true → Prior a
      of_removed_file so f act.Remove e = inl (sym (decider_is kind.RemoveFile so))
      of_removed_file so f a e = no e

      of_kinds : (k : Kind) → w.of_kind ≡ k → (f : Act → Stage) (a : Act) → is_due w f false k a ≡ true → Prior a
      of_kinds kind.Upload so f a e = of_upload so f a e
      of_kinds kind.Copy so f a e = of_copy so f a e
      of_kinds kind.Download so f a e = of_download so f a e
      of_kinds kind.RemoveObject so f a e = of_removed_object so f a e
      of_kinds kind.RemoveFile so f a e = of_removed_file so f a e

      tidying_follows : (k : Kind) (a : Act) → IsTidying a → Follows k a
      tidying_follows k (act.Send op.Abort n) t = tt
      tidying_follows k act.DropTemp t = tt
      tidying_follows k act.Stamp t = tt
      tidying_follows k a t = absurd t

      -- an act that has begun is that act, did what it was to do, or follows it
      pub prior : (a : Act) → has_begun (stage w h a) ≡ true → Prior a
      prior a e =
          let g = was_given w h is a e in
          elim (named_is (stage w g.before) (is_stopped w g.before) a (and_parts (may_be_given (stage w g.before a)) _ g.ready).1) [
            | inl due ↦ of_kinds w.of_kind refl (stage w g.before) a due
            | inr tidies ↦ inr (inr (tidying_follows w.of_kind a tidies))
          ]

  -- ---- what follows it

  -- what follows that act, and does not tidy up, was given when it had done what it was to do
  module _ (h : History) (is : IsHistory w h) where
    pub decided_then : (later before : History) → h ≡ later ++ before → (stopped : Bool) → is_decided w (stage w before) stopped ≡ true → has_done (stage w h (decider w)) ≡ true
    decided_then later before at stopped e = subst (λ (x : History). has_done (stage w x (decider w)) ≡ true) (sym at) (done_stays w later before (decider w) (subst (IsHistory w) at is) (by w.of_kind e))
      where
        by : (k : Kind) → is_decided_by w (stage w before) stopped k ≡ true → has_done (stage w before (decider_of w k)) ≡ true
        by kind.Upload f = f
        by kind.Download f = f
        by kind.Copy f = f
        by kind.RemoveObject f = f
        by kind.RemoveFile f = f

    pub follows_done : (k : Kind) → w.of_kind ≡ k → (a : Act) → Follows k a → IsCounted a → IsNoAbort a → has_begun (stage w h a) ≡ true → has_done (stage w h (decider w)) ≡ true
    follows_done kind.Upload so act.Remove f c o e = remove_done so (was_given w h is act.Remove e)
      where
        remove_done : w.of_kind ≡ kind.Upload → WasGiven w h act.Remove → has_done (stage w h (decider w)) ≡ true
        remove_done so g = by (is_stopped w g.before) (and_parts (may_be_given (stage w g.before act.Remove)) _ g.ready).1
          where
            by : (b : Bool) → is_named w (stage w g.before) b act.Remove ≡ true → has_done (stage w h (decider w)) ≡ true
            by true so_named = no so_named
            by false so_named =
                let due : is_due w (stage w g.before) false kind.Upload act.Remove ≡ true = subst (λ (x : Kind). is_due w (stage w g.before) false x act.Remove ≡ true) so so_named in
                decided_then (g.later ++ Gave act.Remove ∷ []) g.before (g.is ∙ sym (append_assoc g.later (Gave act.Remove ∷ []) g.before)) false (and_parts w.moves (is_decided w (stage w g.before) false) due).1
    follows_done kind.Download so (act.Send op.Delete n) f c o e = stamped so n (was_given w h is (act.Send op.Delete n) e)
      where
        stamped : w.of_kind ≡ kind.Download → (n : ℕ) → WasGiven w h (act.Send op.Delete n) → has_done (stage w h (decider w)) ≡ true
        stamped so n g = by (is_stopped w g.before) refl (and_parts (may_be_given (stage w g.before (act.Send op.Delete n))) _ g.ready).1
          where
            renamed : has_ended (stage w g.before act.Stamp) ≡ true → has_done (stage w h (decider w)) ≡ true
            renamed e =
                let stamp = was_given w g.before g.holds act.Stamp (ended_has_begun (stage w g.before act.Stamp) e) in
                let is_renamed : has_done (stage w stamp.before act.Rename) ≡ true = (and_parts (may_be_given (stage w stamp.before act.Stamp)) _ stamp.ready).1 in
                let front = (g.later ++ Gave (act.Send op.Delete n) ∷ []) ++ (stamp.later ++ Gave act.Stamp ∷ []) in
                let whole : h ≡ front ++ stamp.before =
                g.is ∙ sym (append_assoc g.later (Gave (act.Send op.Delete n) ∷ []) g.before)
                ∙ ap (λ (x : History). (g.later ++ Gave (act.Send op.Delete n) ∷ []) ++ x) (stamp.is ∙ sym (append_assoc stamp.later (Gave act.Stamp ∷ []) stamp.before))
                ∙ sym (append_assoc (g.later ++ Gave (act.Send op.Delete n) ∷ []) (stamp.later ++ Gave act.Stamp ∷ []) stamp.before) in
                decided_then front stamp.before whole false (subst (λ (x : Kind). is_decided_by w (stage w stamp.before) false x ≡ true) (sym so) is_renamed)

            by : (b : Bool) → is_stopped w g.before ≡ b → is_named w (stage w g.before) b (act.Send op.Delete n) ≡ true → has_done (stage w h (decider w)) ≡ true
            by true e so_named = absurd (delete_no_abort (stopped_is_abort w g.before op.Delete n g.ready e))
            by false e so_named = renamed (and_parts (w.moves && (n == 0)) _ (subst (λ (x : Kind). is_due w (stage w g.before) false x (act.Send op.Delete n) ≡ true) so so_named)).1
    follows_done kind.Copy so (act.Send op.Delete n) f c o e = copied so n (was_given w h is (act.Send op.Delete n) e)
      where
        copied : w.of_kind ≡ kind.Copy → (n : ℕ) → WasGiven w h (act.Send op.Delete n) → has_done (stage w h (decider w)) ≡ true
        copied so n g = by (is_stopped w g.before) refl (and_parts (may_be_given (stage w g.before (act.Send op.Delete n))) _ g.ready).1
          where
            by : (b : Bool) → is_stopped w g.before ≡ b → is_named w (stage w g.before) b (act.Send op.Delete n) ≡ true → has_done (stage w h (decider w)) ≡ true
            by true e so_named = absurd (delete_no_abort (stopped_is_abort w g.before op.Delete n g.ready e))
            by false e so_named =
                decided_then (g.later ++ Gave (act.Send op.Delete n) ∷ []) g.before (g.is ∙ sym (append_assoc g.later (Gave (act.Send op.Delete n) ∷ []) g.before)) false
                (and_parts (w.moves && (n == 0)) _ (subst (λ (x : Kind). is_due w (stage w g.before) false x (act.Send op.Delete n) ≡ true) so so_named)).1
    follows_done k so (act.Send op.Abort n) f c o e = absurd o
    follows_done k so act.DropTemp f c o e = absurd c
    follows_done k so act.Stamp f c o e = absurd c
    follows_done k so a f c o e = absurd f

  -- ---- what failed

  fails_so : (cut stopped cause : Bool) → cut ≡ false → cause ≡ true → (if cut then (if stopped then at.Failed else at.Kept) else if cause then at.Failed else at.Fine) ≡ at.Failed
  fails_so true stopped cause e f = no (sym e)
  fails_so false stopped true e f = refl
  fails_so false stopped false e f = no f

  now_failed : (later before : History) (a : Act) → IsHistory w (later ++ before) → stage w before a ≡ at.Failed → stage w (later ++ before) a ≡ at.Failed
  now_failed later before a is e = ended_stays w later before a is (subst (λ (how : Stage). has_ended how ≡ true) (sym e) refl) ∙ e

  -- a job that came back so
  pub came_failed : (h later before : History) (c : SeenCarried) → IsHistory w h → h ≡ later ++ Came c ∷ before → carried_stage w (is_stopped w before) c ≡ at.Failed → stage w h (sent c) ≡ at.Failed
  came_failed h later before c is whole e =
      subst (λ (x : History). stage w x (sent c) ≡ at.Failed) (sym whole) (now_failed later (Came c ∷ before) (sent c) (subst (IsHistory w) whole is)
      (chosen (is_act (sent c) (sent c)) (carried_stage w (is_stopped w before) c) (stage w before (sent c)) (act_itself c.job.id.op c.job.id.number) ∙ e))

  -- a job that failed
  pub job_failed : (h : History) → IsHistory w h → (c : SeenCarried) → Has h (Came c) → is_cut_short w c ≡ false → is_some (carried_cause w c) ≡ true → stage w h (sent c) ≡ at.Failed
  job_failed h is c known not_cut cause =
      let split = split_of h (Came c) known in
      came_failed h split.front split.back c is split.is (fails_so (is_cut_short w c) (is_stopped w split.back) (is_some (carried_cause w c)) not_cut cause)

  not_fine : (a : Act) (r : FileCame) → is_some (file_cause a r) ≡ true → file_stage r ≡ at.Failed
  not_fine act.Stamp file.Fine e = no e
  not_fine act.DropTemp file.Fine e = no e
  not_fine a file.Fine e = no e
  not_fine a file.Short e = refl
  not_fine a (file.Fault fault) e = refl

  same_number : (n : ℕ) → (n == n) ≡ true
  same_number n = grind arith

  pub itself : (a : Act) → is_act a a ≡ true
  itself (act.Send o k) = act_itself o k
  itself (act.Read n) = same_number n
  itself act.Assemble = refl
  itself (act.Place n) = same_number n
  itself act.Rename = refl
  itself act.DropTemp = refl
  itself act.Remove = refl
  itself act.Stamp = refl

  -- a call on files that failed
  pub call_failed : (h : History) → IsHistory w h → (a : Act) (r : FileCame) → Has h (Returned a r) → is_some (file_cause a r) ≡ true → stage w h a ≡ at.Failed
  call_failed h is a r known cause =
      let split = split_of h (Returned a r) known in
      subst (λ (x : History). stage w x a ≡ at.Failed) (sym split.is) (now_failed split.front (Returned a r ∷ split.back) a (subst (IsHistory w) split.is is)
      (chosen (is_act a a) (file_stage r) (stage w split.back a) (itself a) ∙ not_fine a r cause))

  -- ---- what came back was given

  pub came_begun : (h : History) → IsHistory w h → (c : SeenCarried) → Has h (Came c) → has_begun (stage w h (sent c)) ≡ true
  came_begun h is c known =
      let split = split_of h (Came c) known in
      let holds = subst (IsHistory w) split.is is in
      subst (λ (x : History). has_begun (stage w x (sent c)) ≡ true) (sym split.is) (subst (λ (x : History). has_begun (stage w x (sent c)) ≡ true) (append_assoc split.front (Came c ∷ []) split.back)
      (begun_stays w (split.front ++ Came c ∷ []) split.back (sent c) (out_has_begun (stage w split.back (sent c)) (earlier w split.front (Came c ∷ split.back) holds).0.0)))

  pub returned_begun : (h : History) → IsHistory w h → (a : Act) (r : FileCame) → Has h (Returned a r) → has_begun (stage w h a) ≡ true
  returned_begun h is a r known =
      let split = split_of h (Returned a r) known in
      let holds = subst (IsHistory w) split.is is in
      subst (λ (x : History). has_begun (stage w x a) ≡ true) (sym split.is) (subst (λ (x : History). has_begun (stage w x a) ≡ true) (append_assoc split.front (Returned a r ∷ []) split.back)
      (begun_stays w (split.front ++ Returned a r ∷ []) split.back a (out_has_begun (stage w split.back a) (earlier w split.front (Returned a r ∷ split.back) holds).0.1)))

  failed_begun : (how : Stage) → how ≡ at.Failed → has_begun how ≡ true
  failed_begun how e = subst (λ (x : Stage). has_begun x ≡ true) (sym e) refl

  failed_not_done : (how : Stage) → how ≡ at.Failed → has_done how ≡ true → false ≡ true
  failed_not_done how e d = subst (λ (x : Stage). has_done x ≡ true) e d

  -- an act that failed once the deciding act was given is that act, or follows it
  pub failed_late : HasPiece w → (h : History) → IsHistory w h → has_begun (stage w h (decider w)) ≡ true → (a : Act) → stage w h a ≡ at.Failed → (a ≡ decider w) ⊎ Follows w.of_kind a
  failed_late piece h is begun a failed = elim (prior piece h is begun a (failed_begun (stage w h a) failed)) [
    | inl same ↦ inl same
    | inr rest ↦ elim rest [ inl done ↦ no (failed_not_done (stage w h a) failed done) | inr follows ↦ inr follows ]
  ]

  -- each Get of a renamed file came with success
  pub gets_done : HasPiece w → (h : History) → IsHistory w h → w.of_kind ≡ kind.Download → Has h (Returned act.Rename file.Fine) → (k : ℕ) → Has (numbers w) k → has_done (stage w h (act.Send op.Get k)) ≡ true
  gets_done piece h is so renamed k known =
      got_then piece h is (subst (λ (a : Act). has_begun (stage w h a) ≡ true) (sym (ap (decider_of w) so)) (returned_begun h is act.Rename file.Fine renamed)) so k (number_of (in_range (first_number w) w.count k known))
    where
      number_of : (first_number w ≤ k) × (k < first_number w + w.count) → is_piece w k ≡ true
      number_of range = both (nat_lt k (first_number w + w.count)) (nat_lt (first_number w) (k + 1)) (less_is k (first_number w + w.count) range.1) (less_is (first_number w) (k + 1) (omega arith))
