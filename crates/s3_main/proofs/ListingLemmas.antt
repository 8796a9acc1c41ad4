-- A run that lists: what it shows of its requests, and how it ends.
use Rattle.std.proofs.Common.{◌≡◌, ◌∙◌, ℕ, Bool, true, List, [], Option, Some, None, Result, Ok, Err, refl, sym, ap, subst, inl, inr, is_some}
use Rattle.std.specs.Prelude.{IfSome}
use Rattle.job_terms.proofs.GainLemmas.{gains_as}
use Rattle.job_terms.specs.Gains.{Gains}
use Rattle.planning_questions.specs.declared.halt.Halt.{Halt}
use Rattle.question_runs.specs.Asked.{log_of}
use Rattle.run_report.specs.declared.printout.Printout.{Printout}
use Rattle.s3_model.specs.declared.list.OutOfMemory.{OutOfMemory}
use Rattle.s3_model.specs.declared.settings.Limits.{Limits}
use Rattle.s3_model.specs.declared.settings.Settings.{Settings}
use Rattle.s3_model.specs.Talks.{Talk, Note, WireLog}
use Rattle.s3_outside.specs.Env.{SeenEnv}
use Rattle.s3_words.specs.declared.commands.Command.{Command}
use Rattle.s3_words.specs.Options.{is_listing}
use Rattle.service_listings.specs.declared.listing.Shown.{Shown}
use Rattle.run_report.specs.declared.run.Fatal.{Fatal}
use Rattle.run_report.specs.declared.run.Fatal.TheVariants as fatal
use Rattle.run_report.specs.declared.run.Run.{Run}
use Rattle.run_report.specs.Taskless.{MayEnd}
use Rattle.run_report.proofs.TextLemmas.{no_memory, silent_text}
use Rattle.run_start.specs.Begun.{IsBegun}
use Rattle.dry_runs.specs.Found.{FilesSeen}
use Rattle.run_show.specs.Listings.{HasNoOutcome, IsListingEnd, IsMade, Lists, ShowsListing}
use Rattle.s3_main.specs.Asked.{lists_in}
use Rattle.s3_main.specs.Executed.{HasStatusOf, HasTextOf}
use Rattle.s3_main.specs.Listings.{EndsListing, IsListing}
use Rattle.s3_main.specs.Own.{IsRows, Own}
use Rattle.s3_main.specs.Runs.{IsUnasked, MakesListing, StopsFor}
use Rattle.s3_main.specs.Wires.{OnFirst}
use Rattle.s3_main.proofs.FirstLemmas.{alone_first}
use Rattle.s3_main.proofs.UrlLemmas.{lists}

-- ---- statuses

pub same_status : (a b : Bool) (why : Option Fatal) → a ≡ b → HasStatusOf a b why
same_status a b None e = tt
same_status a b (Some why) e = subst (λ (c : Bool). HasStatusOf a c (Some why)) e refl

unasked_one : (a b : Bool) (why : Fatal) → IsUnasked (Some why) → HasStatusOf a b (Some why)
unasked_one a b (fatal.Words fault) h = refl
unasked_one a b fatal.NotYet h = refl
unasked_one a b (fatal.Profile fault) h = refl
unasked_one a b fatal.EnvRead h = refl
unasked_one a b fatal.Memory h = refl
unasked_one a b (fatal.Plan fault) h = refl
unasked_one a b (fatal.Walk fault) h = refl
unasked_one a b (fatal.Listing fault) h = absurd h
unasked_one a b (fatal.Answer why) h = absurd h

-- what ended the run is no answer, and has its status whatever the command is
pub unasked_status : (a b : Bool) (why : Option Fatal) → IsUnasked why → HasStatusOf a b why
unasked_status a b None h = tt
unasked_status a b (Some why) h = unasked_one a b why h

-- ---- the run

module _ (words : List (List ℕ)) (run : Run) (line : Result Printout OutOfMemory) (missed : Bool) where
  made_nothing : (result : Result Shown Halt) → IsMade words result run line missed → HasNoOutcome run
  made_nothing (Ok shown) made = made.0.nothing
  made_nothing (Err ends) made = made.0.nothing

  made_may_end : (shown : Shown) → IsMade words (Ok shown) run line missed → MayEnd run.fatal
  made_may_end shown made = subst (λ (f : Option Fatal). MayEnd f) (sym made.0.fatal) tt

  made_ends : (result : Result Shown Halt) → IsMade words result run line missed → EndsListing result run.fatal
  made_ends (Ok shown) made = made_may_end shown made
  made_ends (Err ends) made = inl made.0.fatal

  module _ (env : Option SeenEnv) (command : Command) (settings : Settings) (begun : IsBegun words env command settings) (listing : is_listing command.verb ≡ true) where
    abbrev Shows : Result Shown Halt → Option WireLog → Type 0
    Shows result log = ShowsListing command settings run.journal.items result log

    abbrev GainsSo : Option WireLog → Option WireLog → Result Shown Halt → Type 0
    GainsSo before after result = Gains before after (λ talks notes. Shows result (Some (log_of talks notes)))

    pub lists_true : lists_in words ≡ true
    lists_true = lists words command begun.rest ∙ listing

    unseen : IsBegun words None command settings
    unseen = record { rest = begun.rest; settled = tt; valid = begun.valid }

    is_rows : (seen : Option SeenEnv) → IsBegun words seen command settings → (shown : Shown) → missed ≡ shown.missed → (log : Option WireLog) → Shows (Ok shown) log → IsRows words seen run (record { text = shown.text; missed = missed }) log
    is_rows seen of_begun shown is log shows = record { command = command; settings = settings; begun = of_begun; listing = listing; shown = shown; lists = shows; text = refl; missed = is }

    own_line : (before after : Option WireLog) (result : Result Shown Halt) → GainsSo before after result → Shows result None → IsMade words result run line missed → HasTextOf words env before after run line missed
    own_line before after (Ok shown) gained none (has, texts, is) =
        let own : Own = record { text = shown.text; missed = missed } in (
          own,
          inr (inr (inl (
            lists_true,
            made_may_end shown (has, texts, is),
            gains_as (λ talks notes. Shows (Ok shown) (Some (log_of talks notes))) (λ talks notes. IsRows words env run own (Some (log_of talks notes)))
                (λ talks notes shows. is_rows env begun shown is (Some (log_of talks notes)) shows) before after gained,
            is_rows None unseen shown is None none,
          ))),
          silent_text words shown.text run line has.nothing.no_task None has.nothing.no_skip has.nothing.no_warning has.fatal texts (no_memory None line refl),
          refl,
        )
    own_line before after (Err ends) gained none (has, h) = (record { text = []; missed = missed }, inr (inr (inr (ap is_some has.fatal, refl))), h, refl)

    is_listing_run : (seen : Option SeenEnv) → IsBegun words seen command settings → (result : Result Shown Halt) → IsMade words result run line missed → (log : Option WireLog) → Shows result log → IsListing words seen run log
    is_listing_run seen of_begun result made log shows =
        record { command = command; settings = settings; begun = of_begun; listing = listing; nothing = made_nothing result made; result = result; lists = shows; ends = made_ends result made }

    module _ {W : Type 0} (seen : W → Option WireLog) (before after : List W) (made : Lists seen words command settings before after run line missed) where
      pub listing_goes : (P : List Talk → List Note → Type 0) → ((talks : List Talk) (notes : List Note) → IsListing words env run (Some (log_of talks notes)) → P talks notes)
          → OnFirst before after (λ was now. Gains (seen was) (seen now) P)
      listing_goes P so =
          alone_first before after (λ was now. GainsSo (seen was) (seen now) made.result) (λ was now. Gains (seen was) (seen now) P)
          (λ was now gained. gains_as (λ talks notes. Shows made.result (Some (log_of talks notes))) P
          (λ talks notes shows. so talks notes (is_listing_run env begun made.result made.made (Some (log_of talks notes)) shows)) (seen was) (seen now) gained) made.gained

      pub listing_does : MakesListing words run
      listing_does = is_listing_run None unseen made.result made.made None made.unseen

      pub listing_line_is : OnFirst before after (λ was now. HasTextOf words env (seen was) (seen now) run line missed)
      listing_line_is =
          alone_first before after (λ was now. GainsSo (seen was) (seen now) made.result) (λ was now. HasTextOf words env (seen was) (seen now) run line missed)
          (λ was now gained. own_line (seen was) (seen now) made.result gained made.unseen made.made) made.gained

    pub listing_stops : (env_before env_after : ℕ) (limits : Limits) (files : FilesSeen) (why : Option Fatal) → IfSome why (IsListingEnd command.from) → IfSome why (StopsFor words env env_before env_after limits files)
    listing_stops env_before env_after limits files None h = tt
    listing_stops env_before env_after limits files (Some why) h = inr (inr (inr (inl (command, settings, begun, listing, h))))
