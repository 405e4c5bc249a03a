-- A telegram on its way. Only private contracts cite this, of the crates that play a journey hop by hop.
-- Assumes nothing.
use Rattle.std.specs.Prelude.{ℕ, ◌≤◌, ◌≡◌, true, List}
use Rattle.mop_header.specs.Header.{Head, telegram_of}
use Rattle.mop_reader.specs.Reading.{sound, reading}
use Rattle.mop_reader.specs.declared.Reader.TheVariants.{Station}
use Rattle.net_journey.specs.Bounded.{most_transmissions}
use Rattle.net_hop.specs.Tables.{set_up}
use Rattle.net_hop.specs.Hop.{places_of}

-- a telegram without a fault on its way in a net that is set up rightly, whose places are known
pub record OnItsWay (addresses places tables : List ℕ) (gone : ℕ) (h : Head) (body : List ℕ) : Type 0 where
  pub set : set_up addresses tables ≡ true
  pub known : places ≡ places_of addresses
  pub order : reading Station (telegram_of h body) ≡ sound h
  pub most : gone ≤ most_transmissions
