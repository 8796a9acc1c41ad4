-- The URL that `presign` prints (AWS CLI Command Reference, `s3 presign`).
use Rattle.std.specs.Prelude.{◌≡◌, ◌⊎◌, ◌++◌, ℕ, List, [], ◌∷◌, Option, Some, None, Result, codes}
use Rattle.presigned_urls.specs.Presigned.{presigned_url}
use Rattle.s3_model.specs.declared.list.OutOfMemory.{OutOfMemory}
use Rattle.s3_model.specs.declared.settings.Settings.{Settings}
use Rattle.s3_model.specs.Talks.{Talk, Note, Moment, WireLog}
use Rattle.s3_words.specs.declared.commands.Command.{Command}
use Rattle.s3_model.specs.Places.{bucket_at, key_at}
use Rattle.job_terms.specs.Gains.{Gains}
use Rattle.run_report.specs.declared.run.Fatal.TheVariants as fatal
use Rattle.run_report.specs.declared.printout.Printout.{Printout}
use Rattle.run_report.specs.declared.run.Run.{Run}
use Rattle.run_report.specs.Taskless.{HasNoTask}
use Rattle.run_report.specs.Texts.{HasTexts, IsTextOf}

-- the line of the URL of the command's object, from a moment on
abbrev pub url_line : Command → Settings → (moment : ℕ) → List ℕ
url_line command settings moment =
    presigned_url (record { bucket = bucket_at command.from; key = key_at command.from }) command.endpoint settings.keys
    moment command.expires ++ codes "\n"

abbrev pub IsMoment : (moment : ℕ) → List Talk → List Note → Type 0
IsMoment moment talks notes = (talks ≡ []) × (notes ≡ Moment moment ∷ [])

-- the wire was asked for its moment, and the text is the line of the URL, unless memory ran out
pub record MakesLine (words : List (List ℕ)) (command : Command) (settings : Settings) (before after : Option WireLog)
    (run : Run) (text : Result Printout OutOfMemory) : Type 0 where
  pub moment : ℕ
  pub noted : Gains before after (IsMoment moment)
  pub made : (HasNoTask (Some fatal.Memory) [] [] run × IsTextOf words [] run text)
      ⊎ (HasNoTask None [] [] run × HasTexts (url_line command settings moment) [] text)
