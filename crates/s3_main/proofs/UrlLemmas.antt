-- A run that makes a URL.
use Rattle.std.proofs.Common.{◌≡◌, ◌∙◌, ℕ, true, false, List, [], Option, Some, None, Result, refl, sym, ap, subst, inl, inr, is_some}
use Rattle.std.specs.Prelude.{IfSome}
use Rattle.run_report.specs.declared.printout.Printout.{Printout}
use Rattle.s3_model.specs.declared.list.OutOfMemory.{OutOfMemory}
use Rattle.s3_model.specs.declared.settings.Settings.{Settings}
use Rattle.s3_model.specs.Talks.{WireLog}
use Rattle.s3_outside.specs.Env.{SeenEnv}
use Rattle.s3_words.specs.declared.commands.Command.{Command}
use Rattle.s3_words.specs.declared.commands.Verb.{Verb}
use Rattle.s3_words.specs.Options.{is_listing, is_presign}
use Rattle.job_terms.specs.Gains.{Gains}
use Rattle.job_terms.proofs.GainLemmas.{gains_as}
use Rattle.run_report.specs.declared.run.Fatal.{Fatal}
use Rattle.run_report.specs.declared.run.Fatal.TheVariants as fatal
use Rattle.run_report.specs.declared.run.Run.{Run}
use Rattle.shared_lemmas.proofs.Clashes.{false_true}
use Rattle.s3_words.specs.declared.commands.Verb.TheVariants as verb
use Rattle.run_start.specs.Begun.{IsBegun, IsRestOf}
use Rattle.run_start.proofs.RestLemmas.{verb_is}
use Rattle.s3_main.specs.Asked.{lists_by, lists_in, presigns, shows_url}
use Rattle.s3_main.specs.Own.{IsOwn, Own, nothing_own, only_text}
use Rattle.s3_main.specs.Executed.{HasTextOf}
use Rattle.s3_main.specs.Runs.{MakesUrl}
use Rattle.run_report.specs.Taskless.{HasNoTask, MayEnd}
use Rattle.run_report.specs.Texts.{HasTexts, IsTextOf}
use Rattle.run_report.proofs.TextLemmas.{no_memory, silent_text}
use Rattle.run_show.specs.Urls.{IsMoment, MakesLine, url_line}
use Rattle.s3_main.specs.Urls.{IsPresigned, IsTaskless, IsUrl}

-- ---- the run

pub taskless : (run : Run) → HasNoTask None [] [] run → IsTaskless run
taskless run h = record { ends = subst (λ (f : Option Fatal). MayEnd f) (sym h.fatal) tt; no_task = h.no_task; no_skip = h.skips_are; no_warning = h.warnings_are; no_outcome = h.no_outcome; no_job = h.no_job }

pub stopped_taskless : (run : Run) → HasNoTask (Some fatal.Memory) [] [] run → IsTaskless run
stopped_taskless run h = record { ends = subst (λ (f : Option Fatal). MayEnd f) (sym h.fatal) tt; no_task = h.no_task; no_skip = h.skips_are; no_warning = h.warnings_are; no_outcome = h.no_outcome; no_job = h.no_job }

shows : (words : List (List ℕ)) (command : Command) → IsRestOf words command → shows_url words ≡ is_presign command.verb
shows words command is = ap presigns (verb_is words command is)

pub lists : (words : List (List ℕ)) (command : Command) → IsRestOf words command → lists_in words ≡ is_listing command.verb
lists words command is = ap lists_by (verb_is words command is)

pub presign_is_no_listing : (of_verb : Verb) → is_presign of_verb ≡ true → is_listing of_verb ≡ false
presign_is_no_listing verb.Presign h = refl
presign_is_no_listing of_verb h = absurd (false_true h)

-- a command that makes no URL and lists nothing shows nothing of its own
pub copy_owns : (words : List (List ℕ)) (env : Option SeenEnv) (before after : Option WireLog) (run : Run) (command : Command) → IsRestOf words command → is_presign command.verb ≡ false
    → is_listing command.verb ≡ false → IsOwn words env before after run nothing_own
copy_owns words env before after run command is copies none = inl (shows words command is ∙ copies, lists words command is ∙ none, refl)

pub stopped_owns : (words : List (List ℕ)) (env : Option SeenEnv) (before after : Option WireLog) (run : Run) (own : Own) → is_some run.fatal ≡ true → own.text ≡ [] → IsOwn words env before after run own
stopped_owns words env before after run own stopped none = inr (inr (inr (stopped, none)))

-- a command that is no listing has the line that it has without anything of its own
pub copy_line : (words : List (List ℕ)) (env : Option SeenEnv) (before after : Option WireLog) (run : Run) (line : Result Printout OutOfMemory) (command : Command) → IsRestOf words command
    → is_presign command.verb ≡ false → is_listing command.verb ≡ false → IsTextOf words [] run line → HasTextOf words env before after run line false
copy_line words env before after run line command is copies none h = (nothing_own, copy_owns words env before after run command is copies none, h, refl)

pub stopped_line : (words : List (List ℕ)) (env : Option SeenEnv) (before after : Option WireLog) (run : Run) (line : Result Printout OutOfMemory) → is_some run.fatal ≡ true
    → IsTextOf words [] run line → HasTextOf words env before after run line false
stopped_line words env before after run line stopped h = (nothing_own, stopped_owns words env before after run nothing_own stopped refl, h, refl)

-- ---- the line

url_line_of : (words : List (List ℕ)) (own : List ℕ) (run : Run) (line : Result Printout OutOfMemory) → HasNoTask None [] [] run → HasTexts own [] line → IsTextOf words own run line
url_line_of words own run line h texts = silent_text words own run line h.no_task None h.skips_are h.warnings_are h.fatal texts (no_memory None line refl)

-- ---- all that a run with a URL shows

module _ (words : List (List ℕ)) (env : Option SeenEnv) (command : Command) (settings : Settings) (begun : IsBegun words env command settings) (presign : is_presign command.verb ≡ true)
    (before after : Option WireLog) (run : Run) (line : Result Printout OutOfMemory) (makes : MakesLine words command settings before after run line) where
  of_run : IsTaskless run
  of_run = elim makes.made [ inl h ↦ stopped_taskless run h.0 | inr h ↦ taskless run h.0 ]

  pub url_goes : Gains before after (IsPresigned words env run)
  url_goes = gains_as (IsMoment makes.moment) (IsPresigned words env run)
      (λ talks notes h. record { command = command; settings = settings; begun = begun; presign = presign; taskless = of_run; moment = makes.moment; no_talk = h.0; noted = h.1 }) before after makes.noted

  pub url_does : MakesUrl words run
  url_does = record { command = command; rest = begun.rest; presign = presign; taskless = of_run }

  pub url_line_is : HasTextOf words env before after run line false
  url_line_is = elim makes.made [
    | inl h ↦ (nothing_own, stopped_owns words env before after run nothing_own (ap is_some h.0.fatal) refl, h.1, refl)
    | inr h ↦ (
      only_text (url_line command settings makes.moment),
      inr (inl (
        shows words command begun.rest ∙ presign,
        of_run.ends,
        refl,
        gains_as (IsMoment makes.moment) (IsUrl words env (url_line command settings makes.moment))
            (λ talks notes m. record { command = command; settings = settings; begun = begun; moment = makes.moment; noted = m.1; is = refl }) before after makes.noted,
      )),
      url_line_of words (url_line command settings makes.moment) run line h.0 h.1,
      refl,
    )
  ]

  pub url_stops : (P : Fatal → Type 0) → P fatal.Memory → IfSome run.fatal P
  url_stops P p = elim makes.made [
    | inl h ↦ subst (λ (f : Option Fatal). IfSome f P) (sym h.0.fatal) p
    | inr h ↦ subst (λ (f : Option Fatal). IfSome f P) (sym h.0.fatal) tt
  ]
