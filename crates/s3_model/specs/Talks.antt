-- What is seen of a wire: the talks that were made over it, and its notes.
use Rattle.std.specs.Prelude.{ℕ, List}

-- how a talk ended
pub data Ending : Type 0 where
  -- a call of the wire failed in it
  Failed : Ending
  -- the other side closed the connection
  Closed : Ending
  Finished : Ending

-- one request and what came back: host and port, the bytes sent, the bytes got
pub record Talk : Type 0 where
  pub host : List ℕ
  pub port : ℕ
  pub sent : List ℕ
  pub got : List ℕ
  pub ending : Ending

-- what a wire noted: a moment that it answered, a pause that was asked of it, a talk that began
pub data Note : Type 0 where
  Moment : (seconds : ℕ) → Note
  Pause : (seconds : ℕ) → Note
  Began : Note

-- all that is seen of a wire, in order
pub record WireLog : Type 0 where
  pub talks : List Talk
  pub notes : List Note
