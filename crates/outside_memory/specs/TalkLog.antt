-- What is seen of a log in memory.
use Rattle.std.specs.Prelude.{Bool, List, Option, Some, None, map, if◌then◌else◌}
use Rattle.s3_model.specs.Talks as model
use Rattle.outside_memory.specs.declared.talk_log.TalkEnding.{TalkEnding}
use Rattle.outside_memory.specs.declared.talk_log.TalkEnding.TheVariants.{Failed, Closed, Finished}
use Rattle.outside_memory.specs.declared.talk_log.TalkRecord.{TalkRecord}
use Rattle.outside_memory.specs.declared.talk_log.WireNote.{WireNote}
use Rattle.outside_memory.specs.declared.talk_log.WireNote.TheVariants.{Moment, Pause, Began}

abbrev pub ending_of : TalkEnding → model.Ending
ending_of Failed = model.Failed
ending_of Closed = model.Closed
ending_of Finished = model.Finished

abbrev pub talk_of : TalkRecord → model.Talk
talk_of talk = record {
  host = talk.host;
  port = talk.port;
  sent = talk.sent.items;
  got = talk.got.items;
  ending = ending_of talk.ending;
}

abbrev pub note_of : WireNote → model.Note
note_of (Moment seconds) = model.Moment seconds
note_of (Pause seconds) = model.Pause seconds
note_of Began = model.Began

abbrev pub log_of : List TalkRecord → List WireNote → model.WireLog
log_of talks notes = record { talks = map talk_of talks; notes = map note_of notes }

-- the log, as long as there was memory for all of it
abbrev pub seen_log : Bool → List TalkRecord → List WireNote → Option model.WireLog
seen_log is_whole talks notes = if is_whole then Some (log_of talks notes) else None
