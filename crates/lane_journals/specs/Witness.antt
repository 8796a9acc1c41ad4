-- A run of one small upload over one lane that meets what the laws take.
use Rattle.std.specs.Prelude.{[], ◌∷◌, ℕ, List, Some, None, codes}
use Rattle.attempts.specs.Attempts.{text_of}
use Rattle.httparse.specs.Grammar.{ResponseHead, crlf, print_response}
use Rattle.jobs.specs.Holders.{Holder}
use Rattle.jobs.specs.declared.ending.Ending.TheVariants as ending
use Rattle.jobs.specs.declared.what.What.{What}
use Rattle.lane_laws.specs.Runs.{Giving}
use Rattle.job_terms.specs.Attempts.{in_first}
use Rattle.run_schedule.specs.Witness.{notes}
use Rattle.s3_model.specs.Talks.{Closed, Talk}
use Rattle.s3_model.specs.declared.answers.Class.TheVariants as class
use Rattle.s3_model.specs.declared.answers.Reply.TheVariants as reply
use Rattle.s3_model.specs.declared.bytes.Part.{Part}
use Rattle.s3_model.specs.declared.places.Endpoint.{Endpoint}
use Rattle.s3_model.specs.declared.settings.Keys.{Keys}
use Rattle.s3_model.specs.declared.tries.Mark.TheVariants as mark
use Rattle.task_schedule.specs.Witness.{put_run, small_put, small_setting}
use Rattle.lane_journals.specs.Journals.{IsOfLanes}

-- HTTP/1.1 200 OK
abbrev pub ok_head : ResponseHead
ok_head = record {
  blank = [];
  minor = 1;
  digits = codes "200";
  reason = Some (codes "OK");
  line_end = crlf;
  fields = [];
  last = crlf;
}

module _ (endpoint : Endpoint) (keys : Keys) where
  -- the request, signed at the beginning of 1970, and the answer, behind which the service closes the connection
  abbrev pub put_talk : Talk
  put_talk = record {
    host = endpoint.host;
    port = endpoint.port;
    sent = text_of endpoint keys small_put.ask small_put.body 0;
    got = print_response ok_head;
    ending = Closed;
  }

  abbrev pub put_giving : Giving
  put_giving = record {
    of = record small_put {
      dispatch = record small_put.dispatch {
        attempts = record { mark = mark.Success; talk = put_talk } ∷ [];
      };
    };
    classes = class.Success reply.Stored ∷ [];
    ended = ending.Gained reply.Stored;
    gave = None;
  }

  abbrev pub put_logs : ℕ → List Talk
  put_logs = in_first (put_talk ∷ [])

-- To every service and with all keys, whatever the job keeps of its task, its cell and its part.
abbrev pub UploadIsOfLanes : Type 0
UploadIsOfLanes = (endpoint : Endpoint) (keys : Keys) (for : What) (cell : Holder) (part : Part)
    → IsOfLanes endpoint keys small_setting [] (put_run for cell part) (put_logs endpoint keys) notes
    (put_giving endpoint keys ∷ []) ((put_giving endpoint keys).of ∷ [])
