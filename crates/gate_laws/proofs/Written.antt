-- What a call that filled its output has written.
-- Assumes nothing.
use mathlib.Core.Path.{◌≡◌, refl, ◌∙◌}
use mathlib.Core.Bool.{Bool, true, false, ◌||◌}
use mathlib.Core.List.{List}
use Prim.Native.Nat.{ℕ, ◌+◌, ◌≤◌}
use native.Mathlib.Omega.{arith}
use borrow.Author.Tests.{eqb-false, ltb-false}
use lib.Dec.{eqb, ltb}
use lib.ListN.{length, take}
use Rattle.base.specs.Choice.{pick}
use Rattle.base.specs.Filling.{filled, refused, Filling, denied, written, fitted}
use Rattle.base.proofs.Places.{take_placed}
use Rattle.base.proofs.Tests.{neither}
use Rattle.gate_telegram.specs.Telegram.{reserved, max_data, slave_token, telegram_of, bad_addresses, telegram_writing}
use Rattle.gate_telegram.proofs.Telegrams.{length_telegram}

-- a call that gives a length was refused by no test
module _ (out : List ℕ) (n : ℕ) where
  refused_filled : (k : ℕ) → refused k ≡ filled n → ⊥
  refused_filled k e = let z : ◌≡◌ {A = ℕ} 0 1 = cc in omega arith

  passed : (t : Bool) (k : ℕ) (f : Filling) → (pick t (denied k out) f).given ≡ filled n → (t ≡ false) × (f.given ≡ filled n)
  passed true k f e = absurd (refused_filled k e)
  passed false k f e = (refl, e)

  pub passed_else : (t : Bool) (k : ℕ) (f : Filling) → (pick t f (denied k out)).given ≡ filled n → (t ≡ true) × (f.given ≡ filled n)
  passed_else true k f e = (refl, e)
  passed_else false k f e = absurd (refused_filled k e)

same_length : (m n : ℕ) → filled m ≡ filled n → n ≡ m
same_length m n e = cc

-- so many bytes, which are the first of an output
pub record Fills (n : ℕ) (bytes out : List ℕ) : Type 0 where
  pub long : n ≡ length bytes
  pub is : take n out ≡ bytes

pub fitted_fills : (n : ℕ) (bytes out : List ℕ) → (fitted bytes out).given ≡ filled n → Fills n bytes (fitted bytes out).output
unfolding fitted
fitted_fills n bytes out e =
    let room = passed out n (ltb (length out) (length bytes)) 11 (written bytes out) e in
    let long : n ≡ length bytes = same_length (length bytes) n room.1 in
    record { long = long; is = rw (room.0, long) (take_placed bytes out) }

-- the addresses and the number of data bytes that a telegram can be written for
pub record Sound (d s n : ℕ) : Type 0 where
  pub destination : d ≡ reserved → ⊥
  pub source : s ≡ reserved → ⊥
  pub token : slave_token d s n ≡ false
  pub fits : n ≤ max_data

sound : (d s n : ℕ) → bad_addresses d s n ≡ false → n ≤ max_data → Sound d s n
unfolding bad_addresses
sound d s n good fits =
    let rest = neither (eqb d reserved || eqb s reserved) (slave_token d s n) good in
    let both = neither (eqb d reserved) (eqb s reserved) rest.0 in
    record {
      destination = eqb-false d reserved both.0;
      source = eqb-false s reserved both.1;
      token = rest.1;
      fits = fits;
    }

-- a telegram that was written
module _ (d s n : ℕ) (bs buf : List ℕ) where
  pub record Wrote : Type 0 where
    pub sound : Sound d s (length bs)
    pub long : n ≡ length bs + 6
    pub is : take n (telegram_writing d s bs buf).output ≡ telegram_of d s bs

  pub wrote : (telegram_writing d s bs buf).given ≡ filled n → Wrote
  unfolding telegram_writing
  wrote e =
      let good = passed buf n (bad_addresses d s (length bs)) 16 _ e in
      let few = passed buf n (ltb max_data (length bs)) 7 _ good.1 in
      let fills = fitted_fills n (telegram_of d s bs) buf few.1 in
      record {
        sound = sound d s (length bs) good.0 (ltb-false max_data (length bs) few.0);
        long = fills.long ∙ length_telegram d s bs;
        is = rw (good.0, few.0) fills.is;
      }
