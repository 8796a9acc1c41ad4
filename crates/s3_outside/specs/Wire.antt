-- What the calls of a wire add to its log.
use Rattle.std.specs.Prelude.{◌++◌, ◌==◌, ◌&&◌, ◌+◌, ◌-◌, ◌^◌, ℕ, Bool, true, false, List, [], ◌∷◌, Result, Ok, Err}
use Rattle.std.specs.Prelude.{is_ok, length, take, min, not, Option, Some, None, if◌then◌else◌}
use Rattle.std.specs.Str.{bytes_eq}
use Rattle.s3_model.specs.Talks.{Talk, Ending, Failed, Closed, Finished, Note, Began, WireLog}

abbrev pub noted : Note → WireLog → WireLog
noted note log = record log { notes = log.notes ++ note ∷ [] }

-- A talk begins, also where the connection could not be opened.
abbrev pub begun : List ℕ → ℕ → Bool → WireLog → WireLog
begun host port opened log = record {
  talks = log.talks ++ record {
    host = host;
    port = port;
    sent = [];
    got = [];
    ending = if opened then Finished else Failed;
  } ∷ [];
  notes = log.notes ++ Began ∷ [];
}

-- the talks with the last of them changed
abbrev pub change_last : (Talk → Talk) → List Talk → List Talk
change_last change [] = []
change_last change (talk ∷ []) = change talk ∷ []
change_last change (talk ∷ next ∷ talks) = talk ∷ change_last change (next ∷ talks)

abbrev pub last_talk : (Talk → Talk) → WireLog → WireLog
last_talk change log = record log { talks = change_last change log.talks }

-- a talk in which a call failed stays one that failed
abbrev pub after_close : Ending → Ending
after_close Failed = Failed
after_close Closed = Closed
after_close Finished = Closed

abbrev pub fails : Talk → Talk
fails talk = record talk { ending = Failed }

abbrev pub closes : Talk → Talk
closes talk = record talk { ending = after_close talk.ending }

abbrev pub sends : List ℕ → Talk → Talk
sends bytes talk = record talk { sent = talk.sent ++ bytes }

abbrev pub gets : List ℕ → Talk → Talk
gets bytes talk = record talk { got = talk.got ++ bytes }

-- the bytes that were taken are sent
abbrev pub after_send : {E : Type 0} → List ℕ → Result ℕ E → WireLog → WireLog
after_send bytes (Ok count) log = last_talk (sends (take count bytes)) log
after_send bytes (Err fault) log = last_talk fails log

-- the bytes that came are got; none that came into a place with room are the end
abbrev pub after_take : {E : Type 0} → List ℕ → Result ℕ E → WireLog → WireLog
after_take into (Ok count) log =
    if count == 0 && not (length into == 0) then last_talk closes log else last_talk (gets (take count into)) log
after_take into (Err fault) log = last_talk fails log

abbrev pub went_well : Ending → Bool
went_well Failed = false
went_well Closed = true
went_well Finished = true

-- whether there is a talk, and no call failed in the last
abbrev pub last_went_well : List Talk → Bool
last_went_well [] = false
last_went_well (talk ∷ []) = went_well talk.ending
last_went_well (talk ∷ next ∷ talks) = last_went_well (next ∷ talks)

-- a failed call ends the connection
abbrev pub stays_alive : {T E : Type 0} → Result T E → Bool → Bool
stays_alive result alive = is_ok result && alive

-- the connection is kept where that was asked for and no call failed in the talk
abbrev pub is_kept : Bool → WireLog → Bool
is_kept keep log = keep && last_went_well log.talks

abbrev pub leads_to : List ℕ → ℕ → Talk → Bool
leads_to host port talk = bytes_eq talk.host host && talk.port == port

-- whether there is a talk, and the last went to that host and port
abbrev pub is_last_service : List ℕ → ℕ → List Talk → Bool
is_last_service host port [] = false
is_last_service host port (talk ∷ []) = leads_to host port talk
is_last_service host port (talk ∷ next ∷ talks) = is_last_service host port (next ∷ talks)

-- a talk that begins opens a connection, unless the last one is kept and leads to the same host and port
abbrev pub opens : List ℕ → ℕ → (begun alive : Bool) → List Talk → Bool
opens host port begun alive talks = begun && not (alive && is_last_service host port talks)

-- one more, up to the last number
abbrev pub count_opening : Bool → ℕ → ℕ
count_opening true count = min (count + 1) (2 ^ 32 - 1)
count_opening false count = count

abbrev pub opened_after : List ℕ → ℕ → Bool → Option WireLog → Option Bool → Option ℕ → Option ℕ
opened_after host port begun (Some log) (Some alive) (Some count) =
    Some (count_opening (opens host port begun alive log.talks) count)
opened_after host port begun log alive count = None
