-- Runs with a Get, of the whole and of a range that is all there is; and runs whose planning is told of an object.
use Rattle.std.proofs.Common.{true, cond, filter, map, nat_eq, ◌≡◌, ◌∙◌, ◌+◌, ◌-◌, ◌*◌, ◌/◌, ◌<◌, ◌≤◌, ℕ, false, List, [], ◌∷◌, Some, None, refl, sym, ap, subst, inl, inr, length, arith}
use Rattle.std.proofs.lemmas.Nat.{div-mul-add}
use Rattle.s3_model.specs.declared.requests.Ask.TheVariants as ask
use Rattle.s3_model.specs.declared.requests.Op.TheVariants as op
use Rattle.s3_model.specs.declared.settings.Limits.{Limits}
use Rattle.s3_model.specs.Parts.{piece_count}
use Rattle.s3_service.specs.ServiceState.{HasBucket, Object, objects_in, State, with_object}
use Rattle.s3_service.specs.Serves.{Succeeds, IsThere, LiesWithin, bytes_within}
use Rattle.run_promise.specs.Traces.{states}
use Rattle.run_promise.specs.Schedule.{asked_range}
use Rattle.job_terms.specs.Jobs.{job_of}
use Rattle.std.specs.List.{starts_with}
use Rattle.std.specs.Ordering.{nat_cmp}
use Rattle.std.specs.Cmp.Lexicographic.{slice_cmp, nat_list_cmp_total}
use Rattle.std.specs.FinMap.{insert, empty, entries, entries-insert}
use Rattle.std.specs.FinMap.Entries.{put}
use Rattle.std.proofs.lemmas.Bool.Decides.{Decides-eqb}
use Rattle.std.proofs.lemmas.Slice.Eq.{starts_is}
use Rattle.std.proofs.lemmas.List.{append-nil}
use Rattle.s3_model.specs.declared.requests.Ask.{Ask}
use Rattle.s3_model.specs.declared.requests.Op.{Op}
use Rattle.s3_model.specs.declared.outcomes.JobId.{JobId}
use Rattle.s3_model.specs.Maps.{MapOf}
use Rattle.s3_service.specs.Listing.{Name, Key, IsPage, listing, name_of, once}
use Rattle.shared_lemmas.proofs.Maps.{entries-empty}
use Rattle.shared_lemmas.proofs.Members.{has}
use Rattle.world_laws.specs.ExampleTasks.{removal}
use Rattle.world_laws.specs.SmallTransfers.{HasSize}
use Rattle.world_laws.specs.Downloads.{AreGotInParts, IsGot, IsPartial}
use Rattle.world_laws.specs.Sources.{TellsOf, IsFound}
use Rattle.world_laws.specs.Rounds.{body_by, page_of, reply_to, Told, Round, dispatch_at, dispatched_from, journal_of, steps_from, AreServed}
use Rattle.world_laws.specs.Premises.{IsNoPlace}
use Rattle.run_promise.specs.Runs.{Run}
use Rattle.run_promise.specs.Truthful.{IsDest}
use Rattle.world_laws.proofs.ScheduleWitness.{setting_of, the_limits}
use Rattle.world_laws.specs.Witnesses.{HeadIsMet, IsFoundMet, PageIsMet, AreRangesGot, IsMet, GetIsMet, RangesAreMet}
use Rattle.world_laws.proofs.Objects.{objects_in_same, object_at-with_object}
use Rattle.world_laws.proofs.Rounds.{AreApart, rounds_come}
use Rattle.world_laws.proofs.Faithful.{bare_objects, has_bucket_after, IsFaithful, object_of, bare, bare_is_faithful, faithful_with, run_by, states_faithful, rounds_fitting}
use Rattle.world_laws.proofs.Witnesses.{round, succeeds}
use Rattle.shared_lemmas.proofs.Clashes.{none_is_some}

-- ---- what planning is told

planning_job : Op → JobId
planning_job of_op = record { task = None; op = of_op; number = 0 }

-- the names of a bucket with these entries
abbrev names_of : List ℕ → List (List ℕ × Object) → List Name
names_of prefix es = once (map (name_of prefix false) (filter (λ (entry : List ℕ × Object). starts_with nat_eq entry.0 prefix) es))

-- of a bucket with one object, whose ETag is its content
module _ (bucket key etag : List ℕ) where
  abbrev holding : State
  holding = with_object (bare (bucket ∷ [])) bucket key (object_of etag)

  there : IsThere holding bucket key etag (object_of etag)
  there = record { held = object_at-with_object (bare (bucket ∷ [])) bucket key (object_of etag); etag = refl }

  holding_is_faithful : IsFaithful holding
  holding_is_faithful = faithful_with (bare (bucket ∷ [])) bucket key etag (bare_is_faithful (bucket ∷ []))

  -- a question that tells of it
  found_met : (asked : Ask) (of_op : Op) (size : ℕ) → Succeeds the_limits holding asked [] (reply_to asked etag 0) (body_by asked etag) holding
      → TellsOf asked (reply_to asked etag 0) bucket key etag size → IsFoundMet bucket key etag asked
  found_met asked of_op size answered tells = (
    setting_of (removal bucket key),
    record {
      run = run_by holding (question ∷ []);
      fitting = rounds_fitting the_limits holding (question ∷ []) (answered, tt) ((λ other h. absurd h), tt) holding_is_faithful (holding_is_faithful, tt) (IsDest (removal bucket key ∷ []));
      such = (size, (found, refl));
    },
  )
    where
      question : Round
      question = round (planning_job of_op) asked [] etag holding

      found : IsFound Told (run_by holding (question ∷ [])) bucket key etag size
      found = record {
        request = dispatch_at 0 question;
        known = (0, omega arith, refl);
        come = rounds_come (question ∷ []) holding ((λ other h. absurd h), tt) (dispatch_at 0 question) (inl refl);
        taken = λ page. none_is_some question.job.number page.2;
        succeeded = succeeds 0 question refl;
        tells = tells;
      }

  entries_are : entries (objects_in holding bucket) ≡ (key, object_of etag) ∷ []
  entries_are = ap entries (objects_in_same (bare (bucket ∷ [])) bucket (insert (objects_in (bare (bucket ∷ [])) bucket) key (object_of etag)) ∙ ap (λ (m : MapOf Object). insert m key (object_of etag)) (bare_objects bucket []))
      ∙ entries-insert nat_list_cmp_total empty key (object_of etag) ∙ ap (put (slice_cmp nat_cmp) key (object_of etag)) (entries-empty (slice_cmp nat_cmp))

  -- its listing, under its own key
  names_are : listing holding bucket key false ≡ Key key (object_of etag) ∷ []
  names_are = ap (names_of key) entries_are ∙ ap (λ b. once (map (name_of key false) (cond b ((key, object_of etag) ∷ []) []))) starts
    where
      starts : starts_with nat_eq key key ≡ true
      starts = (starts_is Decides-eqb key key (starts_with nat_eq key key) refl).1 [] (sym (append-nil key))

  its_page : IsPage holding bucket key false None (page_of key etag) holding
  its_page = (None, Key key (object_of etag) ∷ [], [], refl, sym names_are, omega arith, (λ none. refl), ((refl, refl, refl, refl), (refl, refl)), (refl, refl))

pub head_is_met : HeadIsMet
head_is_met bucket key etag = found_met bucket key etag (ask.Head bucket key) op.Head (length etag) (object_of etag, there bucket key etag, refl, refl, refl) (refl, refl, refl, refl)

pub page_is_met : PageIsMet
page_is_met bucket key etag =
    found_met bucket key etag (ask.List bucket key false None) op.List (length etag) (there_is_bucket, its_page bucket key etag) (_, (0, omega arith, refl), refl, refl, refl, refl)
  where
    there_is_bucket : HasBucket (holding bucket key etag) bucket
    there_is_bucket = has_bucket_after (bare (bucket ∷ [])) bucket (insert (objects_in (bare (bucket ∷ [])) bucket) key (object_of etag))

-- ---- a Get

-- what has bytes has one piece of all its length
one_piece : (size : ℕ) → 1 ≤ size → piece_count size size ≡ 1
one_piece size some =
    let sum : size + size - 1 ≡ 1 * size + (size - 1) = omega arith in
    let below : size - 1 < size = omega arith in
    ap (λ n. n / size) sum ∙ div-mul-add 1 size (size - 1) below

module _ (limits : Limits) (bucket key etag : List ℕ) where
  abbrev start : State
  start = holding bucket key etag

  abbrev get_all : Round
  get_all = round (job_of 0 op.Get 0) (ask.Get bucket key etag None) [] etag start

  alone : (r : Round) → AreApart (r ∷ [])
  alone r = (λ other h. absurd h, tt)

  got_all : IsGot Told (journal_of (get_all ∷ [])) (dispatched_from 0 (get_all ∷ [])) bucket key etag None etag
  got_all = record {
    get = dispatch_at 0 get_all;
    known = (0, omega arith, refl);
    is_get = refl;
    come = rounds_come (get_all ∷ []) start (alone get_all) (dispatch_at 0 get_all) (inl refl);
    succeeded = succeeds 0 get_all refl;
    is_body = refl;
  }

  get_met : IsMet limits IsNoPlace (λ (run : Run). (bytes : List ℕ) × IsGot Told run.journal run.dispatched bucket key etag None bytes)
  get_met = record {
    run = run_by start (get_all ∷ []);
    fitting = rounds_fitting limits start (get_all ∷ []) ((object_of etag, there bucket key etag, (refl, refl, refl), refl), tt) (alone get_all) (holding_is_faithful bucket key etag) (holding_is_faithful bucket key etag, tt) IsNoPlace;
    such = (etag, got_all);
  }

  module _ (some : 1 ≤ length etag) where
    abbrev range : ℕ × ℕ
    range = asked_range (length etag) (length etag) 1

    abbrev get_range : Round
    get_range = record {
      job = job_of 0 op.Get 1;
      ask = ask.Get bucket key etag (Some range);
      body = [];
      refused = false;
      got = bytes_within range etag;
      size = length etag;
      after = start;
    }

    inside : LiesWithin range etag
    inside = (omega arith, omega arith)

    range_served : AreServed limits start (get_range ∷ [])
    range_served = ((object_of etag, there bucket key etag, (inside, inr (refl, refl, refl, refl)), refl), tt)

    got_range : IsGot Told (journal_of (get_range ∷ [])) (dispatched_from 0 (get_range ∷ [])) bucket key etag (Some range) (bytes_within range etag)
    got_range = record {
      get = dispatch_at 0 get_range;
      known = (0, omega arith, refl);
      is_get = refl;
      come = rounds_come (get_range ∷ []) start (alone get_range) (dispatch_at 0 get_range) (inl refl);
      succeeded = succeeds 0 get_range refl;
      is_body = refl;
    }

    size_known : HasSize (states start (steps_from 0 start (get_range ∷ []))) bucket key etag (length etag)
    size_known bytes had =
        let faithful = states_faithful (get_range ∷ []) 0 start (holding_is_faithful bucket key etag) (holding_is_faithful bucket key etag, tt) had.0 (has (states start (steps_from 0 start (get_range ∷ []))) had.0 had.2) bucket key had.1 had.3.held in
        ap length (sym had.4 ∙ sym faithful ∙ had.3.etag)

    abbrev GotPart : ℕ → Type 0
    GotPart k = (get : IsGot Told (journal_of (get_range ∷ [])) (dispatched_from 0 (get_range ∷ [])) bucket key etag (Some (asked_range (length etag) (length etag) k)) (bytes_within range etag)) × IsPartial get.succeeded.reply

    each_got : AreGotInParts Told (journal_of (get_range ∷ [])) (dispatched_from 0 (get_range ∷ [])) bucket key etag (length etag) (length etag) (λ k. bytes_within range etag)
    unfolding got_range
    each_got k low high =
        let one = one_piece (length etag) some in
        let first : 1 ≡ k = omega arith in
        subst GotPart first (got_range, refl)

    ranges_met : IsMet limits IsNoPlace (AreRangesGot bucket key etag (length etag) (length etag))
    ranges_met = record {
      run = run_by start (get_range ∷ []);
      fitting = rounds_fitting limits start (get_range ∷ []) range_served (alone get_range) (holding_is_faithful bucket key etag) (holding_is_faithful bucket key etag, tt) IsNoPlace;
      such = (size_known, (λ k. bytes_within range etag, each_got));
    }

pub get_is_met : GetIsMet
get_is_met limits bucket key etag = get_met limits bucket key etag

pub ranges_are_met : RangesAreMet
ranges_are_met limits bucket key etag some = ranges_met limits bucket key etag some
