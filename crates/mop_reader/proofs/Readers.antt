-- What a reader takes: function bytes, and blocks.
-- Assumes nothing.
use mathlib.Core.Path.{◌≡◌, refl, sym, ◌∙◌}
use mathlib.Core.Bool.{Bool, true, false, or-false, and-eq-true_iff, false≢true}
use mathlib.Core.List.{List, ◌∷◌}
use Prim.Native.Nat.{ℕ}
use borrow.Author.Tests.{eqb-true, eqb-false, ne_eqb}
use lib.Dec.{eqb, ltb}
use lib.ListN.{length, get_or}
use Rattle.std.specs.Prelude.{Option, Some, None}
use Rattle.base.specs.Choice.{pick}
use Rattle.mop_block.specs.Block.{stations, good_block}
use Rattle.mop_header.specs.Header.{function_byte}
use Rattle.mop_reader.specs.Reading.{allowed, function_at, good_for}
use Rattle.mop_header.specs.declared.Function.{Function}
use Rattle.mop_header.specs.declared.Function.TheVariants.{Request, Reply}
use Rattle.mop_reader.specs.declared.Reader.{Reader}
use Rattle.mop_reader.specs.declared.Reader.TheVariants.{Station, Centre}

module _ (f : ℕ) (other : f ≡ 0xE0 → ⊥) where
  pub station_allows : allowed Station f ≡ eqb f 0x60
  unfolding allowed
  station_allows = simp (ne_eqb _ _ other, or-false)

  pub centre_allows : allowed Centre f ≡ false
  unfolding allowed
  centre_allows = simp (ne_eqb _ _ other)

-- the functions of the bytes: a reply is taken by everybody, and no byte but these two
pub reply_taken : (who : Reader) → allowed who 0xE0 ≡ true
unfolding allowed
reply_taken Station = refl
reply_taken Centre = refl

pub neither_taken : (who : Reader) (f : ℕ) → (f ≡ 0x60 → ⊥) → (f ≡ 0xE0 → ⊥) → allowed who f ≡ false
neither_taken Station f p q = station_allows f q ∙ ne_eqb f 0x60 p
neither_taken Centre f p q = centre_allows f q

-- the function that a reader takes, or none
module _ (g : Function) where
  pub some_taken : (t : Bool) {r : Option Function} {f : Function} → r ≡ pick t (Some g) None → r ≡ Some f → (t ≡ true) × (f ≡ g)
  some_taken true e s = (refl, (let same : Some g ≡ _ = sym e ∙ s in cc))
  some_taken false e s = (let z : None ≡ _ = sym e ∙ s in cc)

  pub none_taken : (t : Bool) {r : Option Function} → r ≡ pick t (Some g) None → r ≡ None → t ≡ false
  none_taken true e s = (let z : Some g ≡ None = sym e ∙ s in cc)
  none_taken false e s = refl

-- a function and its byte
pub function_at_lem : (f : Function) (l : List ℕ) → function_at (function_byte f ∷ l) ≡ f
unfolding function_at
function_at_lem Request l = refl
function_at_lem Reply l = refl

byte_by : (who : Reader) (f : ℕ) (t : Bool) → eqb f 0xE0 ≡ t → allowed who f ≡ true → function_byte (pick t Reply Request) ≡ f
byte_by who f true e a = sym (eqb-true f 0xE0 e)
byte_by Station f false e a = sym (eqb-true f 0x60 (sym (station_allows f (eqb-false f 0xE0 e)) ∙ a))
byte_by Centre f false e a = absurd (false≢true (sym (centre_allows f (eqb-false f 0xE0 e)) ∙ a))

pub byte_at : (who : Reader) (tg : List ℕ) → allowed who (get_or tg 0 0) ≡ true → function_byte (function_at tg) ≡ get_or tg 0 0
unfolding function_at
byte_at who tg a = byte_by who (get_or tg 0 0) (eqb (get_or tg 0 0) 0xE0) refl a

pub none_takes : (who : Reader) (b : List ℕ) → good_block b ≡ false → good_for who b ≡ false
unfolding good_for
none_takes Station b e = e
none_takes Centre b e = rw e

module _ (b : List ℕ) (good : good_block b ≡ true) where
  pub station_takes : good_for Station b ≡ true
  unfolding good_for
  station_takes = good

  pub centre_takes : good_for Centre b ≡ ltb 0 (length (stations b))
  unfolding good_for
  centre_takes = rw good

pub taken_good : (who : Reader) (b : List ℕ) → good_for who b ≡ true → good_block b ≡ true
unfolding good_for
taken_good Station b e = e
taken_good Centre b e = ((and-eq-true_iff (good_block b) (ltb 0 (length (stations b)))).0 e).0
