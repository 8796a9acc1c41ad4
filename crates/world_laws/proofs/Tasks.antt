-- What a run that keeps to the clauses on given and carried jobs leaves of each task whose destination is an object.
use Rattle.std.proofs.Common.{◌≡◌, ◌∙◌, ℕ, suc, Bool, true, false, List, [], ◌∷◌, Option, Some, None, refl, sym, ap, subst, inl, inr, Contains, slice_get}
use Rattle.std.specs.Prelude.{is_some, not}
use Rattle.s3_model.specs.declared.requests.Ask.{Ask}
use Rattle.s3_model.specs.declared.requests.Ask.TheVariants as ask
use Rattle.s3_model.specs.declared.requests.Op.{Op}
use Rattle.s3_model.specs.declared.requests.Op.TheVariants as op
use Rattle.s3_model.specs.declared.answers.Reply.{Reply}
use Rattle.s3_model.specs.declared.answers.Reply.TheVariants as reply
use Rattle.s3_model.specs.declared.answers.Class.{Class}
use Rattle.s3_model.specs.declared.outcomes.JobId.{JobId}
use Rattle.s3_model.specs.declared.outcomes.Event.{Event}
use Rattle.s3_model.specs.declared.places.Place.{Place}
use Rattle.s3_model.specs.declared.places.Place.TheVariants as place
use Rattle.s3_model.specs.declared.tasks.Kind.{Kind}
use Rattle.s3_model.specs.declared.tasks.Kind.TheVariants as kind
use Rattle.s3_model.specs.declared.tasks.Task.{Task}
use Rattle.s3_model.specs.Talks.{Talk}
use Rattle.s3_model.specs.Parts.{HasPieces, piece_of}
use Rattle.s3_service.specs.Serves.{MayChange}
use Rattle.job_terms.specs.Dispatches.{Attempt, Dispatched, last_of}
use Rattle.run_promise.specs.Schedule.{Setting, asked_range, IsTaskAsk, IsUpload, Known, is_small, source_bytes, HasReply, gained_before, is_planning, planning_of}
use Rattle.job_terms.specs.Jobs.{IsObject, IsSource, job_of}
use Rattle.shared_lemmas.proofs.Clashes.{some_is}
use Rattle.shared_lemmas.proofs.Members.{contains_of, found_or_not, has, has-filter}
use Rattle.world_laws.specs.Premises.{HasSucceeded}
use Rattle.world_laws.specs.Destinations.{AllThatChange}
use Rattle.world_laws.specs.SmallTransfers.{AsksPut, AsksCopy, AsksDelete}
use Rattle.world_laws.specs.Multipart.{IsCreated, CompletesHere, AreParts, AreCopiedParts}
use Rattle.world_laws.specs.Tasks.{IsScheduled}
use Rattle.job_terms.specs.Ops.{deciding, IsPlanning}
use Rattle.job_terms.proofs.SameJobs.{job_is}
use Rattle.job_terms.proofs.PieceCounts.{pieces_are_one}
use Rattle.world_laws.proofs.Rows as rows
use Rattle.world_laws.proofs.Rows.{ChangesAs, CompletesAt}

pub planning_changes_nothing : (asked : Ask) (bucket key : List ℕ) → IsPlanning asked → MayChange asked bucket key → ⊥
planning_changes_nothing (ask.Head b k) bucket key plans may = may
planning_changes_nothing (ask.List b prefix delimited token) bucket key plans may = may
planning_changes_nothing ask.Buckets bucket key plans may = may
planning_changes_nothing asked bucket key plans may = absurd plans

pub planning_is_no_part : (asked : Ask) (bucket key id : List ℕ) (n : ℕ) → IsPlanning asked → asked ≡ ask.Part bucket key id n → ⊥
planning_is_no_part asked bucket key id n plans is = subst IsPlanning is plans

pub planning_is_no_copy : (asked : Ask) (bucket key id : List ℕ) (n : ℕ) (b k under : List ℕ) (range : ℕ × ℕ) → IsPlanning asked → asked ≡ ask.PartCopy bucket key id n b k under range → ⊥
planning_is_no_copy asked bucket key id n b k under range plans is = subst IsPlanning is plans

-- a planning job is of no task
pub planned_none : (t : Option ℕ) → not (is_some t) ≡ true → t ≡ None
planned_none None e = refl
planned_none (Some m) e = absurd (other e)
  where
    other : false ≡ true → ⊥
    other f = cc

-- the last of some stands at a place
pub last_place : (attempts : List Attempt) (last : Attempt) → last_of attempts ≡ Some last → (k : ℕ) × (slice_get attempts k ≡ Some last)
last_place [] last e = absurd (nothing last e)
  where
    nothing : (a : Attempt) → ◌≡◌ {A = Option Attempt} None (Some a) → ⊥
    nothing a e = cc
last_place (first ∷ []) last e = (0, e)
last_place (first ∷ next ∷ rest) last e = let found = last_place (next ∷ rest) last e in (suc found.0, found.1)

module _ (Shows : Ask → ℕ → Talk → Class → List ℕ → Type 0) where
  -- a success that a dispatch was gained by
  pub replied : (c : Dispatched) (answered : Reply) → HasReply Shows c (last_of c.dispatch.attempts) answered → (succeeded : HasSucceeded Shows c) × (succeeded.reply ≡ answered)
  replied c answered h = elim (found_or_not (last_of c.dispatch.attempts)) [
    | inl none ↦ absurd (subst (λ (o : Option Attempt). HasReply Shows c o answered) none h)
    | inr last ↦
        let says = subst (λ (o : Option Attempt). HasReply Shows c o answered) last.1 h in
        let at = last_place c.dispatch.attempts last.0 last.1 in
        (record { place = at.0; attempt = last.0; reply = answered; bytes = says.1; is_attempt = at.1; shows = says.2 }, refl)
  ]

  module _ (s : Setting) (journal : List Event) (dispatched coming : List Dispatched) (r : IsScheduled Shows s journal dispatched coming) where
    -- a request of a task, by its row
    pub record IsRow (n : ℕ) (task : Task) (c : Dispatched) : Type 0 where
      pub piece : ℕ
      pub count : ℕ
      pub pieces : HasPieces s.config s.limits task.kind task.size piece count
      pub row : IsTaskAsk (gained_before Shows dispatched c.dispatch.given_at) task (record { number = n; bytes = source_bytes s.held task.source; piece = piece; count = count })
          task.kind (is_small s task) c.dispatch.job.op c.dispatch.job.number c.ask c.body

    pub row_of : (c : Dispatched) (m : ℕ) → Contains dispatched c → c.dispatch.job.task ≡ Some m → (task : Task) × (slice_get s.tasks m ≡ Some task) × IsRow m task c
    row_of c m known is = let says = r.schedule.asks c m known is in (says.0, says.3, record { piece = says.1; count = says.2; pieces = says.4; row = says.7 })

    -- a planning job changes nothing
    pub asks_only : (c : Dispatched) → Contains dispatched c → c.dispatch.job.task ≡ None → IsPlanning c.ask
    asks_only c known none = r.schedule.plans c (contains_of (planning_of dispatched) c (has-filter is_planning dispatched c (ap (λ (t : Option ℕ). not (is_some t)) none) (has dispatched c known)))

    module _ (n : ℕ) (task : Task) (bucket key : List ℕ) (is_task : slice_get s.tasks n ≡ Some task) (is_dest : task.dest ≡ place.Object bucket key) where
      pub here : IsObject task.dest bucket key
      here = subst (λ (p : Place). IsObject p bucket key) (sym is_dest) (refl, refl)

      abbrev pub known_by : ℕ → ℕ → Known
      known_by piece count = record { number = n; bytes = source_bytes s.held task.source; piece = piece; count = count }

      -- a row of this number is of this task
      row_here : (c : Dispatched) (m : ℕ) (other : Task) → m ≡ n → slice_get s.tasks m ≡ Some other → IsRow m other c → IsRow n task c
      row_here c m other same at o =
          let is : other ≡ task = some_is other task (sym at ∙ ap (slice_get s.tasks) same ∙ is_task) in
          subst (λ (t : Task). IsRow n t c) is (subst (λ (k : ℕ). IsRow k other c) same o)

      -- a request that goes to this destination is of this task
      is_of_this : (m : ℕ) (other : Task) → slice_get s.tasks m ≡ Some other → IsObject other.dest bucket key → m ≡ n
      is_of_this m other at there = r.apart.destinations m n other task bucket key at is_task there here

      pub record IsChangeOf (c : Dispatched) : Type 0 where
        pub row : IsRow n task c
        pub changes : ChangesAs (gained_before Shows dispatched c.dispatch.given_at) task (known_by row.piece row.count) task.kind (is_small s task) c.ask c.body bucket key
        pub is_job : c.dispatch.job ≡ job_of n (deciding task.kind (is_small s task)) 0

      change_of : (c : Dispatched) (m : ℕ) (other : Task) → c.dispatch.job.task ≡ Some m → slice_get s.tasks m ≡ Some other → IsRow m other c → MayChange c.ask bucket key → IsChangeOf c
      change_of c m other of_task at o may =
          elim (rows.row_changes (gained_before Shows dispatched c.dispatch.given_at) other (record { number = m; bytes = source_bytes s.held other.source; piece = o.piece; count = o.count }) bucket key
          other.kind (is_small s other) c.dispatch.job.op c.dispatch.job.number c.ask c.body o.row may) [
            | inr source ↦ absurd (r.apart.sources m n other task bucket key at is_task source.moves source.is_source here)
            | inl there ↦
                let same = is_of_this m other at there.is_dest in
                again c (of_task ∙ ap Some same) (row_here c m other same at o) may
          ]
        where
          again : (d : Dispatched) → d.dispatch.job.task ≡ Some n → IsRow n task d → MayChange d.ask bucket key → IsChangeOf d
          again d of_this own changes =
              elim (rows.row_changes (gained_before Shows dispatched d.dispatch.given_at) task (known_by own.piece own.count) bucket key
              task.kind (is_small s task) d.dispatch.job.op d.dispatch.job.number d.ask d.body own.row changes) [
                | inr source ↦ absurd (r.apart.sources n n task task bucket key is_task is_task source.moves source.is_source here)
                | inl decides ↦ record {
                  row = own;
                  changes = decides.changes;
                  is_job = job_is d.dispatch.job (job_of n (deciding task.kind (is_small s task)) 0) of_this decides.is_op decides.is_first;
                }
              ]

      -- what may change the destination is the request that decides this task
      pub changes : (c : Dispatched) → Contains dispatched c → MayChange c.ask bucket key → IsChangeOf c
      changes c known may = elim (found_or_not c.dispatch.job.task) [
        | inl none ↦ absurd (planning_changes_nothing c.ask bucket key (asks_only c known none) may)
        | inr some ↦ let found = row_of c some.0 known some.1 in change_of c some.0 found.0 some.1 found.1 found.2 may
      ]

      -- a job of this task's number has its row here
      pub row_of_job : (c : Dispatched) (of_op : Op) (number : ℕ) → Contains dispatched c → c.dispatch.job ≡ job_of n of_op number → IsRow n task c
      row_of_job c of_op number known is =
          let found = row_of c n known (ap (λ (j : JobId). j.task) is) in
          row_here c n found.0 refl found.1 found.2

      -- an id that was gained was created for this destination
      pub created : (place : ℕ) (id : List ℕ) → IsUpload (gained_before Shows dispatched place) n id → IsCreated Shows bucket key journal dispatched id
      created place id gained =
          let own = row_of_job gained.0 op.Create 0 gained.1 gained.2 in
          let says = replied gained.0 (reply.Created id) gained.4 in
          let made = rows.row_create (gained_before Shows dispatched gained.0.dispatch.given_at) task (known_by own.piece own.count) task.kind (is_small s task) gained.0.dispatch.job.number gained.0.ask gained.0.body
          (subst (λ (o : Op). IsTaskAsk (gained_before Shows dispatched gained.0.dispatch.given_at) task (known_by own.piece own.count) task.kind (is_small s task) o gained.0.dispatch.job.number gained.0.ask gained.0.body)
          (ap (λ (j : JobId). j.op) gained.2) own.row) in
          let at = rows.same_place task.dest made.to.bucket made.to.key bucket key made.to.is_dest here in
          record {
            create = gained.0;
            known = gained.1;
            content = made.content;
            is_create = rows.create_moved gained.0.ask made.to.bucket made.to.key bucket key made.content made.creates at.0 at.1;
            has_come = r.come gained.0 gained.1;
            succeeded = says.0;
            names = says.1;
          }

      -- ---- its requests, by its kind

      module _ (piece count : ℕ) (pieces : HasPieces s.config s.limits task.kind task.size piece count) where
        level : (c : Dispatched) (o : IsRow n task c) → (o.piece ≡ piece) × (o.count ≡ count)
        level c o = pieces_are_one s.config s.limits task.kind task.size o.piece piece o.count count o.pieces pieces

        -- a change, where the kind and the size are known
        changes_as : (of_kind : Kind) (small : Bool) → task.kind ≡ of_kind → is_small s task ≡ small → (c : Dispatched) → Contains dispatched c → MayChange c.ask bucket key
            → (o : IsRow n task c) × ChangesAs (gained_before Shows dispatched c.dispatch.given_at) task (known_by o.piece o.count) of_kind small c.ask c.body bucket key
        changes_as of_kind small is_kind is_size c known may =
            let change = changes c known may in
            let own = change.row in (
              own,
              subst (λ (b : Bool). ChangesAs (gained_before Shows dispatched c.dispatch.given_at) task (known_by own.piece own.count) of_kind b c.ask c.body bucket key) is_size
                  (subst (λ (k : Kind). ChangesAs (gained_before Shows dispatched c.dispatch.given_at) task (known_by own.piece own.count) k (is_small s task) c.ask c.body bucket key) is_kind change.changes),
            )

        pub puts_alone : task.kind ≡ kind.Upload → is_small s task ≡ true → AllThatChange bucket key (AsksPut bucket key (source_bytes s.held task.source)) dispatched
        puts_alone is_kind is_size c known may = (changes_as kind.Upload true is_kind is_size c known may).1

        pub copies_alone : (from_bucket from_key : List ℕ) → task.kind ≡ kind.Copy → is_small s task ≡ true → task.source ≡ Some (place.Object from_bucket from_key)
            → AllThatChange bucket key (AsksCopy bucket key from_bucket from_key task.etag) dispatched
        copies_alone from_bucket from_key is_kind is_size is_source c known may =
            let change = changes_as kind.Copy true is_kind is_size c known may in
            let from = change.1.0 in
            let at = subst (λ (o : Option Place). IsSource o from.bucket from.key) is_source from.is_source in
            change.1.1 ∙ ap (λ (b : List ℕ). ask.Copy bucket key b from.key task.etag) (sym at.0) ∙ ap (λ (k : List ℕ). ask.Copy bucket key from_bucket k task.etag) (sym at.1)

        pub deletes_alone : (small : Bool) → task.kind ≡ kind.RemoveObject → is_small s task ≡ small → AllThatChange bucket key (AsksDelete bucket key) dispatched
        deletes_alone small is_kind is_size c known may = (changes_as kind.RemoveObject small is_kind is_size c known may).1

        completes : (c : Dispatched) (o : IsRow n task c) → CompletesAt (gained_before Shows dispatched c.dispatch.given_at) (known_by o.piece o.count) c.ask bucket key
            → CompletesHere Shows bucket key count journal dispatched c
        completes c o says = record {
          id = says.id;
          etags = says.etags;
          fresh = says.fresh;
          is_complete = says.is_complete;
          counted = says.counted ∙ (level c o).1;
          created = created c.dispatch.given_at says.id says.created;
        }

        pub parts_alone : task.kind ≡ kind.Upload → is_small s task ≡ false → AreParts Shows bucket key (piece_of (source_bytes s.held task.source) piece) count journal dispatched
        parts_alone is_kind is_size = record {
          completes = λ c known may. let change = changes_as kind.Upload false is_kind is_size c known may in completes c change.0 change.1;
          parts = λ c id number known is. elim (found_or_not c.dispatch.job.task) [
            | inl none ↦ absurd (planning_is_no_part c.ask bucket key id number (asks_only c known none) is)
            | inr some ↦ let found = row_of c some.0 known some.1 in part_of c id number some.0 found.0 found.1 found.2 is
          ];
          no_copies = λ c id number b k under range known is. elim (found_or_not c.dispatch.job.task) [
            | inl none ↦ planning_is_no_copy c.ask bucket key id number b k under range (asks_only c known none) is
            | inr some ↦ let found = row_of c some.0 known some.1 in not_upload (sym is_kind ∙ copy_of c id number b k under range some.0 found.0 found.1 found.2 is)
          ];
        }
          where
            not_upload : kind.Upload ≡ kind.Copy → ⊥
            not_upload e = cc

            part_of : (c : Dispatched) (id : List ℕ) (number m : ℕ) (other : Task) → slice_get s.tasks m ≡ Some other → IsRow m other c → c.ask ≡ ask.Part bucket key id number
                → c.body ≡ piece_of (source_bytes s.held task.source) piece number
            part_of c id number m other at o is =
                let there = rows.row_part (gained_before Shows dispatched c.dispatch.given_at) other (record { number = m; bytes = source_bytes s.held other.source; piece = o.piece; count = o.count }) bucket key id number
                other.kind (is_small s other) c.dispatch.job.op c.dispatch.job.number c.ask c.body o.row is in
                let own = row_here c m other (is_of_this m other at there.is_dest) at o in
                let mine = rows.row_part (gained_before Shows dispatched c.dispatch.given_at) task (known_by own.piece own.count) bucket key id number
                task.kind (is_small s task) c.dispatch.job.op c.dispatch.job.number c.ask c.body own.row is in
                mine.is_piece ∙ ap (λ (p : ℕ). piece_of (source_bytes s.held task.source) p number) (level c own).0

            copy_of : (c : Dispatched) (id : List ℕ) (number : ℕ) (b k under : List ℕ) (range : ℕ × ℕ) (m : ℕ) (other : Task) → slice_get s.tasks m ≡ Some other → IsRow m other c
                → c.ask ≡ ask.PartCopy bucket key id number b k under range → task.kind ≡ kind.Copy
            copy_of c id number b k under range m other at o is =
                let there = rows.row_copy (gained_before Shows dispatched c.dispatch.given_at) other (record { number = m; bytes = source_bytes s.held other.source; piece = o.piece; count = o.count }) bucket key id number b k under range
                other.kind (is_small s other) c.dispatch.job.op c.dispatch.job.number c.ask c.body o.row is in
                let own = row_here c m other (is_of_this m other at there.is_dest) at o in
                (rows.row_copy (gained_before Shows dispatched c.dispatch.given_at) task (known_by own.piece own.count) bucket key id number b k under range
                task.kind (is_small s task) c.dispatch.job.op c.dispatch.job.number c.ask c.body own.row is).is_copy

        pub copied_parts_alone : (from_bucket from_key : List ℕ) → task.kind ≡ kind.Copy → is_small s task ≡ false → task.source ≡ Some (place.Object from_bucket from_key)
            → AreCopiedParts Shows bucket key from_bucket from_key task.etag (asked_range task.size piece) count journal dispatched
        copied_parts_alone from_bucket from_key is_kind is_size is_source = record {
          completes = λ c known may. let change = changes_as kind.Copy false is_kind is_size c known may in completes c change.0 change.1;
          no_parts = λ c id number known is. elim (found_or_not c.dispatch.job.task) [
            | inl none ↦ planning_is_no_part c.ask bucket key id number (asks_only c known none) is
            | inr some ↦ let found = row_of c some.0 known some.1 in not_copy (sym is_kind ∙ part_of c id number some.0 found.0 found.1 found.2 is)
          ];
          copies = λ c id number b k under range known is. elim (found_or_not c.dispatch.job.task) [
            | inl none ↦ absurd (planning_is_no_copy c.ask bucket key id number b k under range (asks_only c known none) is)
            | inr some ↦ let found = row_of c some.0 known some.1 in copy_of c id number b k under range some.0 found.0 found.1 found.2 is
          ];
        }
          where
            not_copy : kind.Copy ≡ kind.Upload → ⊥
            not_copy e = cc

            part_of : (c : Dispatched) (id : List ℕ) (number m : ℕ) (other : Task) → slice_get s.tasks m ≡ Some other → IsRow m other c → c.ask ≡ ask.Part bucket key id number → task.kind ≡ kind.Upload
            part_of c id number m other at o is =
                let there = rows.row_part (gained_before Shows dispatched c.dispatch.given_at) other (record { number = m; bytes = source_bytes s.held other.source; piece = o.piece; count = o.count }) bucket key id number
                other.kind (is_small s other) c.dispatch.job.op c.dispatch.job.number c.ask c.body o.row is in
                let own = row_here c m other (is_of_this m other at there.is_dest) at o in
                (rows.row_part (gained_before Shows dispatched c.dispatch.given_at) task (known_by own.piece own.count) bucket key id number
                task.kind (is_small s task) c.dispatch.job.op c.dispatch.job.number c.ask c.body own.row is).is_upload

            copy_of : (c : Dispatched) (id : List ℕ) (number : ℕ) (b k under : List ℕ) (range : ℕ × ℕ) (m : ℕ) (other : Task) → slice_get s.tasks m ≡ Some other → IsRow m other c
                → c.ask ≡ ask.PartCopy bucket key id number b k under range → (b ≡ from_bucket) × (k ≡ from_key) × (under ≡ task.etag) × (range ≡ asked_range task.size piece number)
            copy_of c id number b k under range m other at o is =
                let there = rows.row_copy (gained_before Shows dispatched c.dispatch.given_at) other (record { number = m; bytes = source_bytes s.held other.source; piece = o.piece; count = o.count }) bucket key id number b k under range
                other.kind (is_small s other) c.dispatch.job.op c.dispatch.job.number c.ask c.body o.row is in
                let own = row_here c m other (is_of_this m other at there.is_dest) at o in
                let mine = rows.row_copy (gained_before Shows dispatched c.dispatch.given_at) task (known_by own.piece own.count) bucket key id number b k under range
                task.kind (is_small s task) c.dispatch.job.op c.dispatch.job.number c.ask c.body own.row is in
                let from = mine.from in
                let from_here = subst (λ (p : Option Place). IsSource p from.bucket from.key) is_source from.is_source in
                (mine.bucket_is ∙ sym from_here.0, mine.key_is ∙ sym from_here.1, mine.etag_is, mine.range_is ∙ ap (λ (p : ℕ). asked_range task.size p number) (level c own).0)
