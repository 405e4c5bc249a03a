-- A telegram at a station: refused for its own address, its table or its header; or the step, and what is sent.
-- Assumes nothing.
use mathlib.Core.Path.{◌≡◌, ap₂}
use mathlib.Core.Bool.{true, false}
use mathlib.Core.List.{List}
use Prim.Native.Nat.{ℕ}
use lib.ListN.{length}
use Rattle.mop_header.specs.Header.{Head, body_of}
use Rattle.mop_reader.specs.Reading.{Reading, sound, faulty, reading}
use Rattle.mop_reader.specs.declared.Reader.TheVariants.{Station}
use Rattle.mop_step.specs.Step.{is_station, stepping}
use Rattle.std.specs.Prelude.{Ok, Some}
use Rattle.base.specs.Places.{placed}
use Rattle.mop_station.specs.Station.{sent, refuses, leaving, taking, hearing, handling, handling_of, sending}

module _ (own : ℕ) (t telegram out : List ℕ) where
  pub not_set_up : is_station own t ≡ false → handling own t telegram out ≡ leaving (refuses 1) t out
  unfolding handling
  not_set_up e = rw e

  module _ (set : is_station own t ≡ true) where
    pub set_up : {r : Reading} → r ≡ reading Station telegram → handling own t telegram out ≡ hearing r own telegram t out
    unfolding handling
    set_up e = rw (set, e)

    pub heard_faulty : (k : ℕ) → reading Station telegram ≡ faulty k → handling own t telegram out ≡ leaving (refuses k) t out
    unfolding handling hearing
    heard_faulty k e = rw (set, e)

    pub heard : (h : Head) → reading Station telegram ≡ sound h →
        handling own t telegram out ≡ taking (stepping own h (body_of h telegram) t (length out)) (body_of h telegram) out
    unfolding handling hearing
    heard h e = rw (set, e)

-- a telegram that was written is sent, with its length
pub sent_by : {n : ℕ} {after : List ℕ} (bytes out : List ℕ) → n ≡ length bytes → after ≡ placed bytes out → (t : List ℕ) →
    handling_of (Ok (Some n)) t after ≡ sending bytes t out
sent_by bytes out size e t = ap₂ (λ (k : ℕ) (o : List ℕ). leaving (sent k) t o) size e
