-- A telegram that was read sets out.
-- Assumes nothing.
use mathlib.Core.Path.{◌≡◌, sym, ◌∙◌, ap}
use mathlib.Core.Bool.{true}
use mathlib.Core.List.{List}
use Prim.Native.Nat.{ℕ, ◌-◌}
use native.Mathlib.Omega.{arith}
use lib.ListN.{length, take, drop}
use Rattle.mop_header.specs.Header.{head_of, block_start, header_length}
use Rattle.mop_header.specs.declared.Header.{Header}
use Rattle.mop_reader.specs.Reading.{sound, reading}
use Rattle.mop_reader.specs.declared.Reader.TheVariants.{Station}
use Rattle.net_hop.specs.Tables.{set_up}
use Rattle.net_hop.specs.Hop.{places_of}
use Rattle.net_hop.specs.Private.Ways.{OnItsWay}
use Rattle.net_hop.proofs.Lent.{same_head, whole_telegram}

-- a telegram that was read, and the parts of it that are lent: its block from start on, and its body from n on
module _ (read : Header) (tg addresses tables : List ℕ) (order : reading Station tg ≡ sound (head_of read (drop (block_start read.form) tg)))
    (set : set_up addresses tables ≡ true) {start n : ℕ} (begins : start ≡ block_start read.form) (long : (slice : List ℕ) → n ≡ header_length (head_of read slice)) where
  abbrev slice : List ℕ
  slice = take (length tg - start) (drop start tg)

  abbrev body : List ℕ
  body = take (length tg - n) (drop n tg)

  pub sets_out : {places : List ℕ} → places ≡ places_of addresses → OnItsWay addresses places tables 0 (head_of read slice) body
  sets_out known = record {
    set = set;
    known = known;
    order = ap (reading Station) (whole_telegram read tg order begins long) ∙ order ∙ ap sound (sym (same_head read tg begins));
    most = omega arith;
  }
