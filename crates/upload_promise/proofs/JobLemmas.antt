-- The one job of an upload, or none: how it is read from the journal, that it keeps the schedule, and its buffer.
use Rattle.std.proofs.Common.{◌≡◌, ◌∙◌, ◌++◌, ◌<◌, ◌≤◌, ℕ, zero, suc, Bool, true, false, List, [], ◌∷◌, Option, Some, None, refl, sym, ap, subst, inl, inr, map, Contains, length, slice_get, arith}
use Rattle.std.specs.Prelude.{IsPermutation, nat_lt}
use Rattle.std.proofs.lemmas.Option.{slice_get_within}
use Rattle.std.proofs.lemmas.List.Sorted.{Contains-permutation, IsPermutation-refl, length_permutation}
use Rattle.s3_model.specs.declared.requests.Ask.{Ask}
use Rattle.s3_model.specs.declared.requests.Ask.TheVariants as ask
use Rattle.s3_model.specs.declared.requests.Op.{Op}
use Rattle.s3_model.specs.declared.requests.Op.TheVariants as op
use Rattle.s3_model.specs.declared.answers.Class.{Class}
use Rattle.s3_model.specs.declared.tasks.Task.{Task}
use Rattle.s3_model.specs.declared.tasks.Kind.TheVariants as kind
use Rattle.s3_model.specs.declared.tries.Mark.{Mark}
use Rattle.s3_model.specs.declared.outcomes.Event.{Event}
use Rattle.s3_model.specs.declared.outcomes.Event.TheVariants as entry
use Rattle.s3_model.specs.declared.outcomes.Outcome.{Outcome}
use Rattle.s3_model.specs.declared.settings.Config.{Config}
use Rattle.s3_model.specs.declared.settings.Limits.{Limits}
use Rattle.s3_model.specs.Talks.{Talk}
use Rattle.s3_model.specs.Parts.{HasPieces}
use Rattle.job_terms.specs.Buffers.{KeepsBuffers, buffers_out}
use Rattle.job_terms.specs.Dispatches.{Attempt, Dispatch, Dispatched}
use Rattle.run_promise.specs.Schedule.{Setting, Gained, Known, IsTaskAsk, IsSchedule, IsBefore, limit_of, most_body, source_bytes, gained_before, is_small}
use Rattle.job_terms.specs.Jobs.{job_of}
use Rattle.s3_outside.specs.Files.{SeenFiles}
use Rattle.shared_lemmas.proofs.Clashes.{none_is_some, some_is}
use Rattle.shared_lemmas.proofs.Lists.{head_is, no_cons, tail_is}
use Rattle.shared_lemmas.proofs.Members.{contains_of, Has, has}
use Rattle.upload_promise.specs.Puts.{put_job}
use Rattle.run_promise.specs.Settled.{lanes_of, setting_by}
use Rattle.upload_promise.specs.Shown.{end_of, start_of}
use Rattle.upload_promise.specs.Uploads.{put_events, upload_ask, upload_task}

-- ---- lists of one

pub only : {X : Type 0} (y x : X) → Contains (y ∷ []) x → y ≡ x
only y x h = elim (has (y ∷ []) x h) [ inl e ↦ e | inr none ↦ absurd none ]

pub in_none : {X : Type 0} (x : X) → Contains [] x → ⊥
in_none x h = has [] x h

pub in_one : {X : Type 0} (x : X) → Contains (x ∷ []) x
in_one x = contains_of (x ∷ []) x (inl refl)

-- what is said of the one is said of each
pub each : {X : Type 0} (P : X → Type 0) (y : X) → P y → (x : X) → Contains (y ∷ []) x → P x
each P y p x known = subst P (only y x known) p

pub first_only : {A : Type 0} (at : A) (k : ℕ) (a : A) → slice_get (at ∷ []) k ≡ Some a → (k ≡ 0) × (at ≡ a)
first_only at zero a e = (refl, some_is at a e)
first_only at (suc k) a e = absurd (none_is_some a e)

nil_cons : {X : Type 0} (x : X) (rest : List X) → [] ≡ x ∷ rest → ⊥
nil_cons x rest e = cc

-- one or none, in any order
one_coming : {X : Type 0} (x : X) (ys : List X) → IsPermutation (x ∷ []) ys → ys ≡ x ∷ []
one_coming {X} x ys p = go ys (length_permutation (x ∷ []) ys p) (has ys x (Contains-permutation (x ∷ []) ys x p (in_one x)))
  where
    go : (zs : List X) → length zs ≡ 1 → Has zs x → zs ≡ x ∷ []
    go [] e h = absurd h
    go (y ∷ []) e (inl same) = ap (λ (z : X). z ∷ []) same
    go (y ∷ []) e (inr h) = absurd h
    go (y ∷ z ∷ zs) e h = absurd (omega arith)

none_coming : {X : Type 0} (ys : List X) → IsPermutation [] ys → ys ≡ []
none_coming {X} ys p = go ys (length_permutation [] ys p)
  where
    go : (zs : List X) → length zs ≡ 0 → zs ≡ []
    go [] e = refl
    go (y ∷ zs) e = absurd (omega arith)

-- ---- how the jobs are read

-- the list whose dispatches are this one alone, or none
single : (xs : List Dispatched) (d : Dispatch) → map (λ (c : Dispatched). c.dispatch) xs ≡ d ∷ [] → (c : Dispatched) × (xs ≡ c ∷ []) × (c.dispatch ≡ d)
single [] d e = absurd (nil_cons d [] e)
single (c ∷ []) d e = (c, refl, head_is _ _ _ _ e)
single (a ∷ b ∷ rest) d e = absurd (no_cons _ _ (tail_is _ _ _ _ e))

none_dispatched : (xs : List Dispatched) → map (λ (c : Dispatched). c.dispatch) xs ≡ [] → xs ≡ []
none_dispatched [] e = refl
none_dispatched (x ∷ xs) e = absurd (no_cons _ _ e)

dispatched_is : (d e : Dispatch) (p q : Ask) (a b : List ℕ) (l m x y : ℕ) → d ≡ e → p ≡ q → a ≡ b → l ≡ m → x ≡ y
    → ◌≡◌ {A = Dispatched} (record { dispatch = d; ask = p; body = a; limit = l; size = x }) (record { dispatch = e; ask = q; body = b; limit = m; size = y })
dispatched_is d e p q a b l m x y s t u v w = cc

-- ---- the upload

-- an upload that was planned: what its run began with, and how it ended
pub record Planned : Type 0 where
  pub config : Config
  pub limits : Limits
  pub wires : ℕ
  pub has_lane : 1 ≤ lanes_of config wires
  pub status : ℕ
  pub bucket : List ℕ
  pub key : List ℕ
  pub path : List ℕ
  pub content : Option (List ℕ)
  pub size : ℕ
  pub micros : ℕ
  pub is_below : size < config.threshold
  pub how : Outcome
  pub was : SeenFiles

abbrev pub task_of : Planned → Task
task_of u = upload_task u.path u.bucket u.key u.content u.size u.micros

abbrev pub setting_of : Planned → Setting
setting_of u = setting_by (start_of u.config u.limits u.wires (task_of u ∷ []) u.was) (end_of u.status (u.how ∷ []) [] [] [] [] u.was u.was) None

-- the job's dispatch, with its attempts
abbrev pub put_dispatch : List Attempt → Dispatch
put_dispatch attempts = record { job = put_job; lane = 0; given_at = 0; came_at = Some 1; earlier = 0; is_second = false; attempts = attempts }

-- and with what it asks
abbrev pub put_with : Planned → List Attempt → Dispatched
put_with u attempts = record {
  dispatch = put_dispatch attempts;
  ask = upload_ask u.bucket u.key u.content;
  body = source_bytes u.was.store.held (task_of u).source;
  limit = most_body;
  size = u.size;
}

pub below : (a b : ℕ) → a < b → nat_lt a b ≡ true
below a b h = grind arith

put_same : (content : Option (List ℕ)) (fresh : Bool) (b k bucket key : List ℕ) → bucket ≡ b → key ≡ k → ask.Put b k content fresh ≡ ask.Put bucket key content fresh
put_same content fresh b k bucket key e f = cc

-- ---- the schedule

true_is_false : false ≡ true → ⊥
true_is_false e = cc

put_abort : op.Put ≡ op.Abort → ⊥
put_abort e = cc

put_delete : op.Put ≡ op.Delete → ⊥
put_delete e = cc

put_create : op.Put ≡ op.Create → ⊥
put_create e = cc

none_before : (came : Option ℕ) → IsBefore came 0 → ⊥
none_before None h = h
none_before (Some at) h = absurd (omega arith)

module _ (Shows : Ask → ℕ → Talk → Class → List ℕ → Type 0) (Plans : List Dispatched → Type 0) where
  pub no_jobs : (s : Setting) (dispatched coming : List Dispatched) → IsSchedule Shows s Plans dispatched coming → map (λ (c : Dispatched). c.dispatch) dispatched ≡ []
      → (dispatched ≡ []) × (coming ≡ [])
  no_jobs s dispatched coming scheduled are =
      let none = none_dispatched dispatched are in
      (none, none_coming coming (subst (λ (all : List Dispatched). IsPermutation all coming) none scheduled.is_coming))

  module _ (u : Planned) where
    -- what a job is to ask
    abbrev Asks : List Dispatched → Dispatched → ℕ → Type 0
    Asks dispatched c n =
        (task : Task) × (piece : ℕ) × (count : ℕ) × (slice_get (setting_of u).tasks n ≡ Some task) × HasPieces (setting_of u).config (setting_of u).limits task.kind task.size piece count
        × (c.size ≡ task.size) × (c.limit ≡ limit_of task.size piece c.dispatch.job.number c.ask)
        × IsTaskAsk (gained_before Shows dispatched c.dispatch.given_at) task
        (record { number = n; bytes = source_bytes (setting_of u).held task.source; piece = piece; count = count })
        task.kind (is_small (setting_of u) task) c.dispatch.job.op c.dispatch.job.number c.ask c.body

    is_small_upload : is_small (setting_of u) (task_of u) ≡ true
    is_small_upload = below u.size u.config.threshold u.is_below

    put_asks : (gained : Gained) (known : Known) → IsTaskAsk gained (task_of u) known kind.Upload (is_small (setting_of u) (task_of u)) op.Put 0 (upload_ask u.bucket u.key u.content) known.bytes
    put_asks gained known =
        subst (λ (b : Bool). IsTaskAsk gained (task_of u) known kind.Upload b op.Put 0 (upload_ask u.bucket u.key u.content) known.bytes) (sym is_small_upload)
        (record { bucket = u.bucket; key = u.key; is_dest = (refl, refl) }, refl, refl, refl)

    -- a Put of such a task asks nothing else
    put_asked : (gained : Gained) (known : Known) (small : Bool) (of_op : Op) (number : ℕ) (asked : Ask) (body : List ℕ) → small ≡ true → of_op ≡ op.Put
        → IsTaskAsk gained (task_of u) known kind.Upload small of_op number asked body → (asked ≡ upload_ask u.bucket u.key u.content) × (body ≡ known.bytes)
    put_asked gained known small of_op number asked body is_small is_put h =
        let here : IsTaskAsk gained (task_of u) known kind.Upload true op.Put number asked body = subst (λ (o : Op). IsTaskAsk gained (task_of u) known kind.Upload true o number asked body) is_put
        (subst (λ (b : Bool). IsTaskAsk gained (task_of u) known kind.Upload b of_op number asked body) is_small h) in
        (here.2 ∙ put_same (task_of u).content false here.0.bucket here.0.key u.bucket u.key here.0.is_dest.0 here.0.is_dest.1, here.3)

    -- the only job is the Put, however the run is read
    pub put_alone : (dispatched coming : List Dispatched) (attempts : List Attempt) → IsSchedule Shows (setting_of u) Plans dispatched coming
        → map (λ (c : Dispatched). c.dispatch) dispatched ≡ put_dispatch attempts ∷ [] → (dispatched ≡ put_with u attempts ∷ []) × (coming ≡ put_with u attempts ∷ [])
    put_alone dispatched coming attempts scheduled are =
        let found = single dispatched (put_dispatch attempts) are in
        let c = found.0 in
        let asks : Asks dispatched c 0 = scheduled.asks c 0 (subst (λ (all : List Dispatched). Contains all c) (sym found.1) (in_one c)) (ap (λ (d : Dispatch). d.job.task) found.2) in
        let same : task_of u ≡ asks.0 = (first_only (task_of u) 0 asks.0 asks.3).1 in
        let known : Known = record { number = 0; bytes = source_bytes u.was.store.held (task_of u).source; piece = asks.1; count = asks.2 } in
        let of_task : IsTaskAsk (gained_before Shows dispatched c.dispatch.given_at) (task_of u) known kind.Upload (is_small (setting_of u) (task_of u)) c.dispatch.job.op c.dispatch.job.number c.ask c.body =
        subst (λ (t : Task). IsTaskAsk (gained_before Shows dispatched c.dispatch.given_at) t
        (record { number = 0; bytes = source_bytes (setting_of u).held t.source; piece = asks.1; count = asks.2 })
        t.kind (is_small (setting_of u) t) c.dispatch.job.op c.dispatch.job.number c.ask c.body) (sym same) asks.7 in
        let asked = put_asked (gained_before Shows dispatched c.dispatch.given_at) known (is_small (setting_of u) (task_of u)) c.dispatch.job.op c.dispatch.job.number c.ask c.body is_small_upload
        (ap (λ (d : Dispatch). d.job.op) found.2) of_task in
        let is : c ≡ put_with u attempts = dispatched_is c.dispatch (put_dispatch attempts) c.ask (upload_ask u.bucket u.key u.content) c.body known.bytes c.limit most_body c.size u.size
        found.2 asked.0 asked.1 (asks.6 ∙ ap (λ (a : Ask). limit_of asks.0.size asks.1 c.dispatch.job.number a) asked.0) (asks.5 ∙ sym (ap (λ (t : Task). t.size) same)) in
        let one : dispatched ≡ put_with u attempts ∷ [] = found.1 ∙ ap (λ (d : Dispatched). d ∷ []) is in
        (one, one_coming (put_with u attempts) coming (subst (λ (all : List Dispatched). IsPermutation all coming) one scheduled.is_coming))

    module _ (nothing : Plans []) (attempts : List Attempt) where
      abbrev put : Dispatched
      put = put_with u attempts

      asks_first : Asks (put ∷ []) put 0
      asks_first = (
        task_of u,
        u.size,
        1,
        refl,
        inl (u.is_below, refl, refl),
        refl,
        refl,
        put_asks (gained_before Shows (put ∷ []) 0) (record { number = 0; bytes = source_bytes u.was.store.held (task_of u).source; piece = u.size; count = 1 }),
      )

      gains_no : (n : ℕ) (of_op : Op) (c : Dispatched) → (op.Put ≡ of_op → ⊥) → Contains (put ∷ []) c → c.dispatch.job ≡ job_of n of_op 0 → ⊥
      gains_no n of_op c other known is =
          other (ap (λ job. job.op) (each (λ (d : Dispatched). d.dispatch.job ≡ job_of n of_op 0 → put_job ≡ job_of n of_op 0) put (λ e. e) c known is))

      of_a_task : (c : Dispatched) → Contains (put ∷ []) c → c.dispatch.job.task ≡ None → ⊥
      of_a_task = each (λ (d : Dispatched). d.dispatch.job.task ≡ None → ⊥) put (λ e. none_is_some 0 (sym e))

      pub put_schedule : IsSchedule Shows (setting_of u) Plans (put ∷ []) (put ∷ [])
      put_schedule = record {
        is_coming = IsPermutation-refl (put ∷ []);
        in_order = λ i j d before inside. absurd (omega arith);
        asks = λ c n known of_task.
            each (λ (d : Dispatched). d.dispatch.job.task ≡ Some n → Asks (put ∷ []) d n) put
            (λ e. subst (λ (k : ℕ). Asks (put ∷ []) put k) (some_is 0 n e) asks_first) c known of_task;
        plans = nothing;
        planned = λ c known of_none. absurd (of_a_task c known of_none);
        numbered = λ k c at. absurd (none_is_some c at);
        one_by_one = λ i j d before inside. absurd (omega arith);
        dry = λ c is_dry known. absurd (true_is_false is_dry);
        twice = λ i j d before inside. absurd (omega arith);
        no_third = λ a b c i j k before later at_i at_j at_k. absurd (let inside = slice_get_within (put ∷ []) k c at_k in omega arith);
        stops = λ failed c is_failed of_task no_abort known same after.
            absurd (each (λ (d : Dispatched). IsBefore failed.dispatch.came_at d.dispatch.given_at → ⊥) put (none_before failed.dispatch.came_at) c known after);
        abort_last = λ a c known_a known_c is_abort same other. absurd (put_abort (each (λ (d : Dispatched). d.dispatch.job.op ≡ op.Abort → op.Put ≡ op.Abort) put (λ e. e) a known_a is_abort));
        aborts = λ n id end at_end is_upload. absurd (gains_no n op.Create is_upload.0 put_create is_upload.1 is_upload.2);
        completed_stays = λ n end a known is_abort completed. gains_no n op.Abort a put_abort known is_abort;
        moves_last = λ c n t known of_task at moves is_delete. absurd (put_delete (each (λ (d : Dispatched). d.dispatch.job.op ≡ op.Delete → op.Put ≡ op.Delete) put (λ e. e) c known is_delete));
      }

  pub no_schedule : (s : Setting) → Plans [] → IsSchedule Shows s Plans [] []
  no_schedule s nothing = record {
    is_coming = IsPermutation-refl [];
    in_order = λ i j d before inside. absurd (omega arith);
    asks = λ c n known of_task. absurd (in_none c known);
    plans = nothing;
    planned = λ c known of_none. absurd (in_none c known);
    numbered = λ k c at. absurd (none_is_some c at);
    one_by_one = λ i j d before inside. absurd (omega arith);
    dry = λ c is_dry known. absurd (in_none c known);
    twice = λ i j d before inside. absurd (omega arith);
    no_third = λ a b c i j k before later at_i at_j at_k. absurd (none_is_some a at_i);
    stops = λ failed c is_failed of_task no_abort known same after. absurd (in_none c known);
    abort_last = λ a c known_a known_c is_abort same other. absurd (in_none a known_a);
    aborts = λ n id end at_end is_upload. absurd (in_none is_upload.0 is_upload.1);
    completed_stays = λ n end a known is_abort completed. in_none a known;
    moves_last = λ c n t known of_task at moves is_delete. absurd (in_none c known);
  }

-- ---- buffers

too_long : {X : Type 0} (a b x y z : X) (xs ys : List X) → a ∷ b ∷ [] ≡ (x ∷ y ∷ z ∷ xs) ++ ys → ⊥
too_long a b x y z xs ys e = nil_cons _ _ (tail_is _ _ _ _ (tail_is _ _ _ _ e))

pub put_buffers : (buffers : ℕ) (tries : List Mark) → 1 ≤ buffers → KeepsBuffers buffers (put_events tries)
put_buffers buffers tries some [] back e = omega arith
put_buffers buffers tries some (x ∷ []) back e = subst (λ (event : Event). buffers_out (event ∷ []) ≤ buffers) (head_is _ _ _ _ e) some
put_buffers buffers tries some (x ∷ y ∷ []) back e =
    subst (λ (first : Event). buffers_out (first ∷ y ∷ []) ≤ buffers) (head_is _ _ _ _ e)
    (subst (λ (second : Event). buffers_out (entry.Given put_job 0 ∷ second ∷ []) ≤ buffers) (head_is _ _ _ _ (tail_is _ _ _ _ e)) (omega arith))
put_buffers buffers tries some (x ∷ y ∷ z ∷ rest) back e = absurd (too_long _ _ x y z rest back e)

pub no_buffers : (buffers : ℕ) → KeepsBuffers buffers []
no_buffers buffers [] back e = omega arith
no_buffers buffers (x ∷ rest) back e = absurd (nil_cons _ _ e)
