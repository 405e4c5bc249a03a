-- How large the values of the calls of a station and of the centre are: far below 2^32, so that value and kind can be told apart.
-- Assumes nothing.
use Rattle.std.specs.Prelude.{ℕ, ◌≤◌, ◌≡◌, List, length}
use Rattle.mop_reader.specs.Reading.{max_telegram}
use Rattle.mop_station.specs.Station.{sent, handling}
use Rattle.mop_centre.specs.Request.{RequestBound}
use Rattle.mop_centre.specs.Reply.{accepted, reply_receipt, reply_reading}

pub record MopBounds : Type 0 where
  pub station : (own : ℕ) (t telegram out : List ℕ) (n : ℕ) → (handling own t telegram out).handled ≡ sent n → n ≤ max_telegram
  -- a request that is written has at most 555 bytes
  pub request : RequestBound
  pub reply : (telegram : List ℕ) → reply_receipt telegram ≡ accepted → length (reply_reading telegram).values ≤ max_telegram
